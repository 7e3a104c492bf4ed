-- Time goes on at a host.
use Rattle.std.specs.Prelude.{◌≡◌, ℕ, suc, List, [], ◌∷◌, ◌+◌, ◌%◌, ◌^◌, ◌<◌, ◌≤◌, ◌||◌, Bool, true, min, nat_le, if◌then◌else◌, map}
use Rattle.std.specs.List.{count_by, list_any}
use Rattle.enet_rtt.specs.Clock.{elapsed_time}
use Rattle.enet_peer.specs.Calls as peers
use Rattle.enet_slot.specs.Slot as slot
use Rattle.enet_slot.specs.Slot.{SlotState, changed}
use Rattle.enet_slot.specs.Sharing.{is_standing, shared}
use Rattle.enet_host.specs.Crediting.{is_short_at}
use Rattle.enet_host.specs.Host.{Host}

-- the clock goes on by at most a minute
abbrev pub clock_after : ℕ → ℕ → ℕ
clock_after clock ms = (clock + min ms 60000) % 2 ^ 32

-- time has come to now at each slot, where `short` says of which the peer's address sent too little for another answer
abbrev pub all_moved : ℕ → (ℕ → Bool) → List SlotState → List SlotState
all_moved now short [] = []
all_moved now short (s ∷ slots) = changed (λ p. peers.moved (short 0) p now) s ∷ all_moved now (λ i. short (suc i)) slots

abbrev pub with_time : Host → ℕ → Host
with_time h now = record h { clock = now; slots = all_moved now (is_short_at h.credits) h.slots }

-- whether a second or more has passed since the bandwidth was last shared out
abbrev pub is_due : Host → Bool
is_due h = nat_le 1000 (elapsed_time h.clock h.shared_at)

-- then it is shared out anew
abbrev pub with_shares : Host → Host
with_shares h = record h {
  shared_at = if is_due h then h.clock else h.shared_at;
  slots = if is_due h then map (shared h.config.outgoing (count_by is_standing h.slots)) h.slots else h.slots;
}

abbrev pub ticked : Host → ℕ → Host
ticked h ms = with_shares (with_time h (clock_after h.clock ms))

-- whether a moment brings the host anything: to a peer, or that its bandwidth is shared out
abbrev pub brings : Host → ℕ → Bool
brings h now = list_any (slot.is_due now) h.slots || nat_le 1000 (elapsed_time now h.shared_at)

-- A tick of fewer milliseconds changes nothing but the clock, and one of so many, which are at most 1,000, brings something.
pub record IsDueIn (h : Host) (ms : ℕ) : Type 0 where
  pub calm : (fewer : ℕ) → fewer < ms → ticked h fewer ≡ record h { clock = clock_after h.clock fewer }
  pub due : brings h (clock_after h.clock ms) ≡ true
  pub within : ms ≤ 1000
