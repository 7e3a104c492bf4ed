use Rattle.std.proofs.Common.{inl, inr, length, List, ap, ◌∙◌}
use Rattle.std.specs.List.{slice_get}
use Rattle.std.proofs.lemmas.Bool.{cases_lt}
use Rattle.enet_sender.specs.Due.{SendingEnd}
use Rattle.enet_senders.proofs.Made.{all_still, made_there}
use Rattle.enet_senders.proofs.channels.Senders.next_ready.Goals as goal

pub returns-clause-still : goal.returns-clause-still
returns-clause-still c = λ k e low less there.
    let i = c.self.inside in
    elim (cases_lt k (length i.made)) [
      | inl made ↦ c.next_ready.ensures.still k e low less (made_there i.count k i.made c.args.self.now e c.self.view_is made there)
      | inr past ↦ all_still i.count k i.made e c.self.invariant past (ap (λ (es : List SendingEnd). slice_get es k) c.self.view_is ∙ there)
    ]
