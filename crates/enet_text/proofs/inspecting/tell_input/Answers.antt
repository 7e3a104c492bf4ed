use Rattle.enet_text.proofs.Inputs.{read_packet, same_bytes}
use Rattle.enet_text.proofs.inspecting.tell_input.Goals as goal

pub returns-in-Ok-clause-cut_short : goal.returns-in-Ok-clause-cut_short
returns-in-Ok-clause-cut_short g c =
    read_packet c.args.bodies c.tell_all.result _ _ _ c.as_slice.result.now
    (same_bytes _ _ _ _ c.in-Ok.ensures.bytes c.new-input.ensures.items c.as_slice.ensures.value) c.tell_all.ensures.cut_short
