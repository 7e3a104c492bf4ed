use Rattle.std.proofs.Common.{◌+◌, [], Some, None, sym, ◌∙◌, arith, length-drop}
use Rattle.std.proofs.lemmas.List.{take_all}
use Rattle.std.proofs.lemmas.Grind.{common_steps}
use Rattle.enet_text.proofs.WordLemmas.{peer_of-no_point, peer_of-no_slot, peer_of-both}
use Rattle.enet_text.proofs.words.peer_of.Goals as goal

pub returns-in_err-point : goal.returns-in_err-point
returns-in_err-point c = c.from_residual.ensures ∙ sym (peer_of-no_point c.args.word.now (sym c.point_in.ensures ∙ c.in_err-point.was))

pub returns-in_err-slot : goal.returns-in_err-slot
returns-in_err-slot c = c.from_residual-in_err-slot.ensures ∙ sym (peer_of-no_slot c.args.word.now _ [] c.in_ok-point.point (sym c.point_in.ensures ∙ c.in_ok-point.was)
    (grind (arith, common_steps)) c.in_err-slot.ensures)

pub returns-in_err-generation : goal.returns-in_err-generation
returns-in_err-generation c = c.from_residual-in_err-generation.ensures ∙ sym (peer_of-both c.args.word.now _ _ c.in_ok-point.point (sym c.point_in.ensures ∙ c.in_ok-point.was)
    (Some c.in_ok-slot.slot) None (grind (arith, common_steps)) (take_all _ _ (omega (arith, length-drop (c.in_ok-point.point + 1) c.args.word.now))) c.in_ok-slot.ensures c.in_err-generation.ensures)

pub returns : goal.returns
returns c = sym (peer_of-both c.args.word.now _ _ c.in_ok-point.point (sym c.point_in.ensures ∙ c.in_ok-point.was)
    (Some c.in_ok-slot.slot) (Some c.in_ok-generation.generation) (grind (arith, common_steps)) (take_all _ _ (omega (arith, length-drop (c.in_ok-point.point + 1) c.args.word.now))) c.in_ok-slot.ensures c.in_ok-generation.ensures)
