use Rattle.std.proofs.Common.{◌≡◌, ◌*◌, ◌≤◌, ◌<◌, ℕ, length, slice_index, unwrap_or, IsSome}
use Rattle.enet_events.specs.Words.{taken_by, taken_below}
use Rattle.enet_events.proofs.account.account_of.Given as goal

abbrev pub invariant-loop-index : goal.invariant-loop-index
invariant-loop-index l =
    (length l.by_taker ≡ 16) × (l.total ≡ taken_below l.index l.all) × (l.total ≤ 4294967295 * l.index)
    × ((i : ℕ) → i < l.index → IsSome (taken_by i l.all)) × ((i : ℕ) → i < l.index → slice_index l.by_taker i ≡ unwrap_or (taken_by i l.all) 0)
    × ((i : ℕ) → l.index ≤ i → i < 16 → slice_index l.by_taker i ≡ 0)
