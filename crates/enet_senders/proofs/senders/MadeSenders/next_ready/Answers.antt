use Rattle.std.proofs.Common.{List, ap, ◌∙◌}
use Rattle.std.specs.List.{slice_get}
use Rattle.enet_sender.specs.Due.{SendingEnd}
use Rattle.enet_senders.proofs.senders.MadeSenders.next_ready.Goals as goal

pub returns-clause-still : goal.returns-clause-still
returns-clause-still c = λ i e low less there. c.self.invariant.sets.still i e (c.next.ensures.lacks i low less) (ap (λ (es : List SendingEnd). slice_get es i) c.self.view_is ∙ there)
