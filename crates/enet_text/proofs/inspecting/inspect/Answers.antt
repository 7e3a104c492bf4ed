use Rattle.enet_text.proofs.Inputs.{still_line, still_packet, still_short}
use Rattle.enet_text.proofs.inspecting.inspect.Goals as goal

pub returns-clause-bad_line : goal.returns-clause-bad_line
returns-clause-bad_line g c = still_line c.args.bodies _ _ _ _ _ c.tell_input-outcome.ensures.bad_line c.flush.ensures.bytes

pub returns-clause-cut_short : goal.returns-clause-cut_short
returns-clause-cut_short g c = still_packet c.args.bodies _ _ _ _ _ c.tell_input-outcome.ensures.cut_short c.flush.ensures.bytes

pub returns-clause-short : goal.returns-clause-short
returns-clause-short g c = still_short c.args.bodies _ _ _ _ _ c.tell_input-outcome.ensures.short c.flush.ensures.bytes
