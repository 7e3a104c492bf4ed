use Rattle.std.proofs.Common.{Bool, List, length, refl, sym, ap, subst, ◌∙◌, ◌≤◌}
use Rattle.std.specs.List.{list_any}
use Rattle.enet_sender.specs.Sender.{is_late}
use Rattle.enet_sender.specs.Due.{SendingEnd}
use Rattle.enet_senders.specs.Made.{all_ends}
use Rattle.enet_senders.proofs.Made.{all_any}
use Rattle.enet_senders.proofs.channels.Senders.any_late.Goals as goal

pub invariant_of-self : goal.invariant_of-self
invariant_of-self c = subst (λ (es : List SendingEnd). length es ≤ c.self.inside.count) (sym c.any_late.ensures.same) c.self.invariant

pub returns-clause-found : goal.returns-clause-found
returns-clause-found c =
    let one : SendingEnd → Bool = λ (s : SendingEnd). list_any (is_late c.args.now) s.sender.sent in
    c.any_late.ensures.found ∙ sym (all_any c.self.inside.count c.self.inside.made one (λ n. refl)) ∙ ap (list_any one) c.self.view_is

pub returns-clause-same : goal.returns-clause-same
returns-clause-same c = ap (all_ends c.self.inside.count) c.any_late.ensures.same ∙ c.self.view_is
