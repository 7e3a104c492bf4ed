use Rattle.std.proofs.Common.{◌≡◌, ℕ, None, get_or, subst}
use Rattle.std.specs.Option.{IfSome, IfNone}
use Rattle.enet_sleepers.specs.Unproved.{Waiting}
use Rattle.enet_sleepers.specs.Private.Unproved.{IsFirstNoted}
use Rattle.enet_sleepers.proofs.Firsts.{first-noted, none-first}
use Rattle.enet_sleepers.proofs.unproved.Unproved.first.Goals as goal

pub returns-clause-found : goal.returns-clause-found
returns-clause-found c =
    subst (λ (v : Waiting). IfSome c.next_due.result (λ (i : ℕ). IsFirstNoted v.since i)) c.self.view_is
    (first-noted c.self.inside.since c.in_ok-first.first c.next_due.result c.in_ok-first.ensures c.next_due.ensures)

pub returns-clause-none : goal.returns-clause-none
returns-clause-none c =
    subst (λ (v : Waiting). IfNone c.next_due.result ((i : ℕ) → get_or v.since i None ≡ None)) c.self.view_is
    (none-first c.self.inside.since c.in_ok-first.first c.next_due.result c.in_ok-first.ensures c.next_due.ensures)
