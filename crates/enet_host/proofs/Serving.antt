-- One slot is asked for a datagram, or gives an event.
use Rattle.std.proofs.Common.{◌≡◌, ℕ, ◌<◌, false, Option, Some, None, IfSome, IfNone, List, length, slice_get, slice_set, get_or, ap, subst, ◌∙◌}
use Rattle.enet_codec.specs.declared.event.Event.{Event}
use Rattle.enet_codec.specs.declared.packet.Packet.{Packet}
use Rattle.enet_slot.specs.declared.slot.Slot.{Slot}
use Rattle.enet_slot.specs.Emitting.{PeerEmits, Passes}
use Rattle.enet_slot.specs.Calls.{tells, peer_packet, GivesEvent}
use Rattle.enet_slot.specs.Slotted.{shown, all_shown}
use Rattle.enet_host.specs.Serving.{Served}
use Rattle.enet_host.specs.Private.Shown.{SlotEmits, SlotPasses, SlotGivesEvent, SlotIsMute, SlotIsNamed, SlotShows}
use Rattle.enet_slot.proofs.Shown.{get-shown, set-shown}

-- slot n of the vector is slot `number`
pub at-number : (xs : List Slot) (n number : ℕ) (x : Slot) → n ≡ number → n < length xs → x ≡ get_or xs n x → slice_get (all_shown xs) number ≡ Some (shown x)
at-number xs n number x e inside read = subst (λ (i : ℕ). slice_get (all_shown xs) i ≡ Some (shown x)) e (get-shown xs n x inside read)

set-number : (xs : List Slot) (n number : ℕ) (y : Slot) → n ≡ number → all_shown (slice_set xs n y) ≡ slice_set (all_shown xs) number (shown y)
set-number xs n number y e = set-shown xs n y ∙ ap (λ (i : ℕ). slice_set (all_shown xs) i (shown y)) e

pub slot-passes : (now : ℕ) (xs : List Slot) (n number : ℕ) (x y : Slot) → n ≡ number → n < length xs → x ≡ get_or xs n x → Passes now (shown x) (shown y)
    → SlotPasses now (all_shown xs) number (all_shown (slice_set xs n y))
slot-passes now xs n number x y e inside read passes = record {
  slot = shown x;
  left = shown y;
  there = at-number xs n number x e inside read;
  passes = passes;
  after = set-number xs n number y e;
}

pub slot-gives : (now g : ℕ) (gave : Served) (xs : List Slot) (n number : ℕ) (x y : Slot) → n ≡ number → n < length xs → x ≡ get_or xs n x
    → gave.name ≡ record { slot = number; generation = g } → g ≡ (shown x).generation → gave.address ≡ (shown x).address → PeerEmits now gave.len gave.buf (shown x) (shown y)
    → SlotEmits now (all_shown xs) number gave (all_shown (slice_set xs n y))
slot-gives now g gave xs n number x y e inside read is named addressed gives = record {
  slot = shown x;
  left = shown y;
  there = at-number xs n number x e inside read;
  named = is ∙ ap (λ (m : ℕ). record { slot = number; generation = m }) named;
  addressed = addressed;
  gives = gives;
  after = set-number xs n number y e;
}

pub slot-gives-event : (xs : List Slot) (n number : ℕ) (x y : Slot) (r : Option Event) → n ≡ number → n < length xs → x ≡ get_or xs n x
    → IfSome r (λ event. GivesEvent number event (shown x) (shown y))
    → IfSome r (λ event. SlotGivesEvent (all_shown xs) number event (all_shown (slice_set xs n y)))
slot-gives-event xs n number x y None e inside read gives = gives
slot-gives-event xs n number x y (Some event) e inside read gives = record {
  slot = shown x;
  left = shown y;
  there = at-number xs n number x e inside read;
  gives = gives;
  after = set-number xs n number y e;
}

pub slot-is-mute : (xs : List Slot) (n number : ℕ) (x y : Slot) (r : Option Event) → n ≡ number → n < length xs → x ≡ get_or xs n x
    → IfNone r ((tells (shown x) ≡ false) × (shown y ≡ shown x)) → IfNone r (SlotIsMute (all_shown xs) number)
slot-is-mute xs n number x y None e inside read mute = record { slot = shown x; there = at-number xs n number x e inside read; mute = mute.0 }
slot-is-mute xs n number x y (Some event) e inside read mute = mute

pub slot-shows : (xs : List Slot) (n number : ℕ) (x : Slot) (packet : Option Packet) → n ≡ number → n < length xs → x ≡ get_or xs n x
    → packet ≡ peer_packet (shown x).peer → SlotShows (all_shown xs) number packet
slot-shows xs n number x packet e inside read shows = record { slot = shown x; there = at-number xs n number x e inside read; shows = shows }

pub slot-is-named : (xs : List Slot) (n number : ℕ) (x : Slot) (g : ℕ) → n ≡ number → n < length xs → x ≡ get_or xs n x → g ≡ (shown x).generation
    → SlotIsNamed (all_shown xs) number (record { slot = number; generation = g })
slot-is-named xs n number x g e inside read is = record {
  slot = shown x;
  there = at-number xs n number x e inside read;
  named = ap (λ (m : ℕ). record { slot = number; generation = m }) is;
}
