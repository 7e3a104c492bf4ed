use Rattle.std.proofs.Common.{◌≡◌, ◌+◌, ℕ, Option, None, List, length, ap, ◌∙◌, arith}
use Rattle.std.proofs.lemmas.List.{length-replicate}
use Rattle.enet_sleepers.specs.contracts.unproved.Unproved.{the_view}
use Rattle.enet_sleepers.proofs.Anew.{fresh-kept}
use Rattle.enet_sleepers.proofs.unproved.Unproved.new.Goals as goal

pub returns-clause-kept : goal.returns-clause-kept
returns-clause-kept c = λ generations slots count nowhere.
    let size : length c.in-Ok.since ≡ c.args.peers = ap (λ (l : List (Option ℕ)). length l) c.in-Ok.ensures ∙ length-replicate {A = Option ℕ} c.from.result None ∙ c.from.ensures in
    fresh-kept c.args.now generations c.args.peers (the_view (record { since = c.in-Ok.since; clock = 4294967296 + c.from-2.result })) slots size (omega (arith, c.from-2.ensures)) count nowhere

pub invariant_of-result : goal.invariant_of-result
invariant_of-result c =
    let size : length c.in-Ok.since ≡ c.args.peers = ap (λ (l : List (Option ℕ)). length l) c.in-Ok.ensures ∙ length-replicate {A = Option ℕ} c.from.result None ∙ c.from.ensures in
    record { few = omega (arith, size); early = omega (arith, c.from-2.ensures) }
