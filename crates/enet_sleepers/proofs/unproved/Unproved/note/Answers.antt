use Rattle.std.proofs.Common.{◌≡◌, ◌<◌, ◌≤◌, ℕ, Option, Some, List, length, slice_set, sym, ap, subst, ◌∙◌, arith}
use Rattle.std.proofs.lemmas.List.{length-set}
use Rattle.enet_sleepers.specs.Unproved.{Waiting, noted}
use Rattle.enet_sleepers.specs.contracts.unproved.Unproved.{the_view}
use Rattle.enet_sleepers.proofs.unproved.Unproved.note.Goals as goal

pub set-requires-clause-within : goal.set-requires-clause-within
set-requires-clause-within c = subst (λ (v : Waiting). c.args.number < length v.since) (sym c.self.view_is) c.requires

pub returns : goal.returns
returns c =
    let v = the_view c.self.inside in
    subst (λ (w : Waiting). record v { since = c.set.new.self } ≡ noted w c.args.number) c.self.view_is (ap (λ (l : List (Option ℕ)). record v { since = l }) c.set.ensures)

pub invariant_of-self : goal.invariant_of-self
invariant_of-self c =
    let v = the_view c.self.inside in
    let size : length c.set.new.self ≡ length v.since = ap (λ (l : List (Option ℕ)). length l) c.set.ensures ∙ length-set v.since c.args.number (Some v.clock) in
    let few : length v.since ≤ 65535 = c.self.invariant.few in
    record { few = omega (arith, size, few); early = c.self.invariant.early }
