-- What a host puts out is read, and goes where its peer stands.
use Rattle.std.proofs.Common.{◌≡◌, ◌<◌, ℕ, ◌+◌, ◌*◌, ◌/◌, ◌%◌, ◌^◌, eqb, Bool, true, false, List, ◌++◌, length, take, refl, sym, ap, subst, ◌∙◌, arith, Some}
use Rattle.std.specs.Prelude.{slice_index, is_some}
use Rattle.std.specs.Int.{bit_at}
use Rattle.std.proofs.lemmas.Option.{slice_get_within}
use Rattle.enet_codec.specs.declared.address.Addr.{Addr}
use Rattle.enet_codec.specs.declared.event.PeerRef.{PeerRef}
use Rattle.enet_codec.specs.declared.header.Header.{Header}
use Rattle.enet_codec.specs.Header.{header_text, header_word}
use Rattle.enet_codec.specs.Message.{Message, bit}
use Rattle.enet_codec.specs.Datagram.{SpellsDatagram}
use Rattle.enet_codec.proofs.Arms.{flag}
use Rattle.enet_peer.specs.Heading.{IsRead, is_compressed}
use Rattle.enet_outbox.specs.Emission.{HasDatagram}
use Rattle.enet_outbox.proofs.Spelled.{datagram-spelled}
use Rattle.enet_peer.specs.Calls.{destination_of}
use Rattle.enet_slot.specs.Slot.{SlotState}
use Rattle.enet_host.specs.Host.{Host}
use Rattle.enet_host.specs.Calls.{address_of, address_in, address_named}
use Rattle.enet_slot.specs.Emitting.{PeerEmits as GivesSlot}
use Rattle.enet_host.specs.Serving.{served_of, EmitsInTurn, Serves}
use Rattle.law_network.proofs.Lists.{get-within}
use Rattle.law_network.proofs.Names.{IsThere, there-slot}

-- bit 14 of the word is bit 6 of the first byte
low-bit : (p s b : ℕ) → p < 4096 → s < 4 → b < 2 → (p + 4096 * s + 2 ^ 14 * 0 + 2 ^ 15 * b) / 256 % 256 / 2 ^ 6 % 2 ≡ 0
low-bit p s b hp hs hb = omega arith

bit-low : (b : Bool) → bit b < 2
bit-low true = omega arith
bit-low false = omega arith

plain-text : (h : Header) (rest : List ℕ) → h.compressed ≡ false → is_compressed (header_text h ++ rest) ≡ false
plain-text h rest open' =
    let word : ℕ = header_word h in
    let clear : bit_at (slice_index (header_text h ++ rest) 0) 6 ≡ 0 =
    ap (λ (c : Bool). (h.peer % 2 ^ 12 + 2 ^ 12 * (h.session % 2 ^ 2) + 2 ^ 14 * bit c + 2 ^ 15 * bit (is_some h.sent)) / 256 % 256 / 2 ^ 6 % 2) open'
    ∙ low-bit (h.peer % 2 ^ 12) (h.session % 2 ^ 2) (bit (is_some h.sent)) (omega arith) (omega arith) (bit-low (is_some h.sent)) in
    flag (slice_index (header_text h ++ rest) 0) 6 (omega arith) ∙ ap (λ (n : ℕ). eqb n 1) clear

pub spelled-read : (text : List ℕ) (h : Header) (ms : List Message) → h.compressed ≡ false → SpellsDatagram text h ms → (header : Header) × (commands : List ℕ) × IsRead text header commands
spelled-read text h ms open' s = (
  h,
  s.commands,
  record {
    front = s.front;
    split = s.split;
    spelled = s.header;
    plain = subst (λ (l : List ℕ). is_compressed l ≡ false) (sym (s.split ∙ ap (λ (l : List ℕ). l ++ s.commands) (let k = s.header in k.spelled))) (plain-text h s.commands open');
  },
)

-- the slot that gave a datagram

gave-slot : (h new : Host) (name : PeerRef) (to : Addr) (len : ℕ) (buf : List ℕ) (g : EmitsInTurn h.clock h.service_from h.slots (served_of (name, to, len) buf) new.slots) → (t : SlotState) × GivesSlot h.clock len buf g.slot t
gave-slot h new name to len buf g =
    let within : name.slot < length new.slots = (let low = slice_get_within h.slots name.slot g.slot g.there in let same = g.count in omega arith) in
    let t = get-within new.slots name.slot within in
    let one = g.slots name.slot g.slot t.0 g.there t.1 in
    (t.0, one.here refl)

pub gave-read : (h new : Host) (name : PeerRef) (to : Addr) (len : ℕ) (buf : List ℕ) → Serves h (Some (name, to, len)) buf new → (header : Header) × (commands : List ℕ) × IsRead (take len buf) header commands
gave-read h new name to len buf s =
    let gives = (gave-slot h new name to len buf s.0).1 in
    let puts = gives.puts in
    let d : HasDatagram h.clock (destination_of gives.peer) _ len buf = puts.emits in
    spelled-read (take len buf) _ _ refl (datagram-spelled h.clock (destination_of gives.peer) _ len buf d)

-- the peer that it is of stands where it goes
pub gave-address : (h new : Host) (name : PeerRef) (to : Addr) (len : ℕ) (buf : List ℕ) → Serves h (Some (name, to, len)) buf new → address_named h.slots name ≡ Some to
gave-address h new name to len buf s =
    let g = s.0 in
    let gives = (gave-slot h new name to len buf g).1 in
    let x : IsThere h.slots name gives.peer = record { slot = g.slot; there = g.there; same = sym (ap (λ (n : PeerRef). n.generation) g.named); peer = gives.held } in
    ap address_in (there-slot h.slots name gives.peer x) ∙ ap (address_of g.slot) gives.held ∙ ap (λ (a : Addr). Some a) (sym g.addressed)
