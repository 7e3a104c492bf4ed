use Rattle.std.proofs.Common.{◌∙◌}
use Rattle.enet_slot.specs.Receiving.{is_connection}
use Rattle.enet_slot.proofs.Shown.{position-shown}
use Rattle.enet_slot.proofs.all.position_of_connection.Goals as goal

pub returns : goal.returns
returns c = c.position_in.ensures ∙ position-shown (is_connection c.args.from c.args.connect_id) c.args.slots.now
