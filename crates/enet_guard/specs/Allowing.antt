-- How much a client sends through a guard. Times are in milliseconds.
use Rattle.std.specs.Prelude.{◌≡◌, ℕ, ◌+◌, ◌*◌, ◌^◌, ◌<◌, ◌≤◌, true, List, [], ◌∷◌, ◌++◌, Option, Some, slice_get, sum_by}
use Rattle.std.specs.List.{All}
use Rattle.enet_codec.specs.declared.address.Addr.{Addr}
use Rattle.enet_guard.specs.declared.loads.Load.{Load}
use Rattle.enet_guard.specs.declared.share.Spent.{Spent}
use Rattle.enet_guard.specs.Guarding.{Guarding, payer, can_pay, charged}
use Rattle.enet_guard.specs.Shares.{is_client}

-- a guard that judges others for at most so many milliseconds, and is told of nobody new in this slot: what the client there spent stays
pub record Stays (slot ms : ℕ) (old new : Guarding) : Type 0 where
  pub rules_are : new.rules ≡ old.rules
  pub seat_is : slice_get new.seats slot ≡ slice_get old.seats slot
  pub spent_is : slice_get new.spent slot ≡ slice_get old.spent slot
  pub clock_is : new.clock ≤ old.clock + ms

-- datagrams from there, each with the milliseconds before it and what it brings to a slot, that all pass, one after another
abbrev pub AllPass : Addr → ℕ → Guarding → List (ℕ × Load) → Guarding → Type 0
AllPass from slot old [] new = new ≡ old
AllPass from slot old (d ∷ ds) new =
    (between : Guarding) × Stays slot d.0 old between × (can_pay between (payer between from slot d.1) ≡ true)
    × AllPass from slot (charged between slot d.1 (payer between from slot d.1)) ds new

-- it brings packets, and no more of anything than a datagram may have bytes
abbrev pub IsLoad : (ℕ × Load) → Type 0
IsLoad d = (1 ≤ d.1.packets) × (d.1.packets ≤ 4096) × (d.1.bytes ≤ 4096)

abbrev pub time_of : List (ℕ × Load) → ℕ
time_of ds = sum_by (λ d. d.0) ds

abbrev pub packets_of : List (ℕ × Load) → ℕ
packets_of ds = sum_by (λ d. d.1.packets) ds

abbrev pub bytes_of : List (ℕ × Load) → ℕ
bytes_of ds = sum_by (λ d. d.1.bytes) ds

-- of the client that is connected in a slot these datagrams pass, and then this one
pub record Passed (from : Addr) (slot : ℕ) (ds : List (ℕ × Load)) (last : ℕ × Load) (old new : Guarding) : Type 0 where
  pub spent : Spent
  pub client : is_client (slice_get old.seats slot) from ≡ true
  pub seated : slice_get old.spent slot ≡ Some spent
  pub loads : All IsLoad (ds ++ last ∷ [])
  pub pass : AllPass from slot old (ds ++ last ∷ []) new

-- where a second allows so many packets, fewer pass in T milliseconds than T + 2,000 allow, and those of one datagram
abbrev pub KeepsPackets : Type 0
KeepsPackets =
    (from : Addr) (slot rate : ℕ) (ds : List (ℕ × Load)) (last : ℕ × Load) (old new : Guarding) → old.rules.packets_of_client ≡ Some rate → rate < 2 ^ 32
    → Passed from slot ds last old new → 1000 * packets_of ds < rate * (time_of (ds ++ last ∷ []) + 2000)

-- and bytes
abbrev pub KeepsBytes : Type 0
KeepsBytes =
    (from : Addr) (slot rate : ℕ) (ds : List (ℕ × Load)) (last : ℕ × Load) (old new : Guarding) → old.rules.bytes_of_client ≡ Some rate → rate < 2 ^ 32
    → Passed from slot ds last old new → 1000 * bytes_of ds < rate * (time_of (ds ++ last ∷ []) + 2000)
