-- What a datagram begins with, and the offer of one who has no peer yet.
use Rattle.std.specs.Prelude.{◌≡◌, ◌<◌, ◌≤◌, ◌==◌, not, ℕ, Bool, true, false, List, ◌++◌, length, slice_index, bit_and, Option, Some, None}
use Rattle.enet_codec.specs.declared.stop.Stop.{Stop}
use Rattle.enet_codec.specs.declared.stop.Stop.TheVariants as stop
use Rattle.enet_codec.specs.declared.command.Head.{Head}
use Rattle.enet_codec.specs.declared.command.Offer.{Offer}
use Rattle.enet_codec.specs.declared.header.Header.{Header}
use Rattle.enet_codec.specs.Header.{SpellsHeader}
use Rattle.enet_codec.specs.Message.{Spells, Body, connect}

-- the bit 0x40 of the first byte
abbrev pub is_compressed : List ℕ → Bool
is_compressed bytes = not (bit_and (slice_index bytes 0) 64 == 0)

-- no header stands at the front of the bytes
abbrev pub SpellsNoHeader : List ℕ → Type 0
SpellsNoHeader bytes = (h : Header) (front rest : List ℕ) → bytes ≡ front ++ rest → SpellsHeader front h → ⊥

-- why a datagram is not read, in the order of tests
pub data IsUnreadable (bytes : List ℕ) : Stop → Type 0 where
  too_short : length bytes < 2 → IsUnreadable bytes stop.Short
  compressed : 2 ≤ length bytes → is_compressed bytes ≡ true → IsUnreadable bytes stop.Compressed
  cut_short : 2 ≤ length bytes → is_compressed bytes ≡ false → SpellsNoHeader bytes → IsUnreadable bytes stop.Short

-- a datagram that is read: its header, and the commands behind it
pub record IsRead (bytes : List ℕ) (h : Header) (commands : List ℕ) : Type 0 where
  pub front : List ℕ
  pub split : bytes ≡ front ++ commands
  pub spelled : SpellsHeader front h
  pub plain : is_compressed bytes ≡ false

-- the bytes are one CONNECT with this offer, and nothing else
abbrev pub IsOffer : List ℕ → Offer → Type 0
IsOffer bytes o = (head : Head) × Spells bytes (record { head = head; body = connect o })

abbrev pub IsNoOffer : List ℕ → Type 0
IsNoOffer bytes = (head : Head) (o : Offer) → Spells bytes (record { head = head; body = connect o }) → ⊥

-- the offer of a CONNECT
abbrev pub offer_in : Body → Option Offer
offer_in (connect o) = Some o
offer_in _ = None
