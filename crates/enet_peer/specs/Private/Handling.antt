-- One command of a datagram: how the handling of all that is left goes on or ends with it.
use Rattle.std.specs.Prelude.{◌≡◌, ℕ, ◌%◌, ◌^◌, ◌≤◌, ◌++◌, Bool, true, false, List, length, drop, take, Option, Some, Result, Ok, Err}
use Rattle.enet_codec.specs.declared.command.Head.{Head}
use Rattle.enet_codec.specs.Message.{Message, Body, acknowledge, verify_connect, Spells}
use Rattle.enet_codec.specs.declared.stop.Stop.{Stop}
use Rattle.enet_codec.specs.declared.event.Received.{Received}
use Rattle.enet_rtt.specs.Clock.{meant_time}
use Rattle.enet_outbox.specs.Outbox.{is_control, matched_by}
use Rattle.enet_peer.specs.Peering.{Peering}
use Rattle.enet_peer.specs.Refusing.{confirms}
use Rattle.enet_peer.specs.Handling.{Arrival, Handles, counted, one_more}

-- a command of so many bytes took effect: what comes of the bytes behind it comes of all
abbrev pub GoesOn : Arrival → List ℕ → (old new : Peering) → ℕ → Type 0
GoesOn a bytes old new len =
    (1 ≤ len) × (len ≤ length bytes) × ((handled : ℕ) (answer : Received) (last : Peering)
    → Handles a (record { handled = one_more handled; peer = new }) (drop len bytes) answer last → Handles a (record { handled = handled; peer = old }) bytes answer last)

-- no more is handled
abbrev pub StopsAt : Arrival → List ℕ → (old new : Peering) → Stop → Type 0
StopsAt a bytes old new why = (handled : ℕ) → Handles a (record { handled = handled; peer = old }) bytes (record { handled = counted handled why; stop = Some why }) new

-- what the command at the front makes of a peer: how many bytes it has, or why it stops the datagram
abbrev pub Advances : Arrival → List ℕ → (old new : Peering) → Result ℕ Stop → Type 0
Advances a bytes old new (Ok len) = GoesOn a bytes old new len
Advances a bytes old new (Err why) = StopsAt a bytes old new why

-- by no command at the front of bytes does the client of a peer confirm its answer
abbrev pub NoneConfirms : List ℕ → Peering → Type 0
NoneConfirms bytes p = (text rest : List ℕ) (m : Message) → bytes ≡ text ++ rest → Spells text m → confirms p m ≡ false

-- the host isn't full, or the client doesn't confirm
abbrev pub IsPlain : Bool → List ℕ → Peering → Type 0
IsPlain full bytes p = full ≡ true → NoneConfirms bytes p

-- then this becomes of the command at the front, whether or not the host is full
abbrev pub GoesOnPlainly : ℕ → Option ℕ → List ℕ → (old new : Peering) → ℕ → Type 0
GoesOnPlainly now sent bytes old new len = (full : Bool) → IsPlain full bytes old → GoesOn (record { now = now; sent = sent; full = full }) bytes old new len

abbrev pub AdvancesPlainly : ℕ → Option ℕ → List ℕ → (old new : Peering) → Result ℕ Stop → Type 0
AdvancesPlainly now sent bytes old new answer = (full : Bool) → IsPlain full bytes old → Advances (record { now = now; sent = sent; full = full }) bytes old new answer

-- the client of a peer confirms its answer by a command of so many bytes at the front
pub record ConfirmsBy (bytes : List ℕ) (p : Peering) (len : ℕ) : Type 0 where
  pub some : 1 ≤ len
  pub within : len ≤ length bytes
  pub message : Message
  pub spelled : Spells (take len bytes) message
  pub confirms : confirms p message ≡ true

-- whether a command is an acknowledgement that matches anything of channel 0xFF
abbrev pub matches_by : Peering → Head → Body → Bool
matches_by p h (acknowledge number told) = is_control (matched_by p.outbox h.channel number (meant_time told (p.offset % 2 ^ 16)))
matches_by p h _ = false

abbrev pub matches_control : Peering → Message → Bool
matches_control p m = matches_by p m.head m.body

-- whether a peer that waits for its client may still wait for it behind a command that matches nothing of channel 0xFF, with no stop
abbrev pub is_passed : Body → Bool
is_passed (acknowledge number told) = true
is_passed (verify_connect verify) = true
is_passed _ = false
