-- A datagram comes to a host.
use Rattle.std.specs.Prelude.{◌≡◌, ◌≢◌, ◌≤◌, ℕ, ◌+◌, ◌&&◌, not, min, Bool, true, false, nat_le, if◌then◌else◌, Option, Some, None, List, length, slice_get, slice_set}
use Rattle.std.specs.List.{list_any}
use Rattle.enet_codec.specs.declared.address.Addr.{Addr}
use Rattle.enet_codec.specs.declared.event.Received.{Received}
use Rattle.enet_codec.specs.declared.stop.Stop.{Stop}
use Rattle.enet_codec.specs.declared.stop.Stop.TheVariants as stop
use Rattle.enet_codec.specs.declared.command.Offer.{Offer}
use Rattle.enet_codec.specs.declared.header.Header.{Header}
use Rattle.enet_connect.specs.Terms.{is_channel_count}
use Rattle.enet_peer.specs.Heading.{IsUnreadable, IsRead, IsOffer, IsNoOffer}
use Rattle.enet_slot.specs.Slot.{SlotState}
use Rattle.enet_slot.specs.Giving.{Basis, answering}
use Rattle.enet_slot.specs.Yielding.{guests_of, readied}
use Rattle.enet_slot.specs.Receiving.{no_peer, hears, refused_by_slot, is_connection, stopped, PeerReceives}
use Rattle.enet_host.specs.declared.credits.Credit.{Credit}
use Rattle.enet_host.specs.declared.totals.Totals.{Totals}
use Rattle.enet_host.specs.Crediting.{with_came, with_first}
use Rattle.enet_slot.specs.Entering.{awaits, entered}
use Rattle.enet_host.specs.Host.{Host}
use Rattle.enet_host.specs.Opening.{host_basis, is_most, seat}

abbrev pub refused_by : List SlotState → Addr → Header → Option Stop
refused_by slots from header = refused_by_slot from header.session (slice_get slots header.peer)

-- why an offer is not answered, before slots are looked at
abbrev pub offer_refused : Offer → Option Stop
offer_refused o =
    if nat_le no_peer o.outgoing_peer then Some stop.BadCommand
    else (if not (is_channel_count o.channels) then Some stop.BadChannel
    else None)

-- whether a slot holds the connection of an offer already
abbrev pub is_known : List SlotState → Addr → Offer → Bool
is_known slots from o = list_any (is_connection from o.connect_id) slots

abbrev pub handled_one : Received
handled_one = record { handled = 1; stop = None }

-- a host to which a datagram comes: what it goes by, and its slots
pub record Listener : Type 0 where
  pub basis : Basis
  pub slots : List SlotState

-- what comes of an offer from an address: the answer, and the slots after it. A repeated one has no effect; memory may be
-- refused where nothing else is. The peer of a slot that gives way is let go
pub data Offers (h : Listener) (from : Addr) (o : Offer) : Received → List SlotState → Type 0 where
  refused : (why : Stop) → offer_refused o ≡ Some why → Offers h from o (stopped why) h.slots
  repeated : offer_refused o ≡ None → is_known h.slots from o ≡ true → Offers h from o handled_one h.slots
  no_slot : offer_refused o ≡ None → is_known h.slots from o ≡ false → seat h.basis from h.slots ≡ None → Offers h from o (stopped stop.NoSlot) h.slots
  no_memory : (i : ℕ) → offer_refused o ≡ None → is_known h.slots from o ≡ false → seat h.basis from h.slots ≡ Some i → Offers h from o (stopped stop.Memory) h.slots
  answers : (i : ℕ) (s : SlotState) → offer_refused o ≡ None → is_known h.slots from o ≡ false → seat h.basis from h.slots ≡ Some i → slice_get h.slots i ≡ Some s
      → Offers h from o handled_one (slice_set h.slots i (answering h.basis i (readied s) from o))

-- whether as many peers that began by a CONNECT have a client that confirmed as may be there
abbrev pub is_full : Listener → Bool
is_full h = is_most h.basis.config.most (entered h.slots)

-- so that it refuses who confirms at this slot
abbrev pub refuses_at : Listener → SlotState → Bool
refuses_at h s = awaits s && is_full h

-- what comes of a datagram from an address: the answer, and the slots after it
pub data Arrives (h : Listener) (from : Addr) (bytes : List ℕ) : Received → List SlotState → Type 0 where
  unreadable : (why : Stop) → IsUnreadable bytes why → Arrives h from bytes (stopped why) h.slots
  no_offer : (header : Header) (commands : List ℕ) → IsRead bytes header commands → header.peer ≡ no_peer → IsNoOffer commands
      → Arrives h from bytes (stopped stop.UnknownPeer) h.slots
  offered : (header : Header) (commands : List ℕ) (o : Offer) (answer : Received) (after : List SlotState) → IsRead bytes header commands
      → header.peer ≡ no_peer → IsOffer commands o → Offers h from o answer after → Arrives h from bytes answer after
  turned_away : (header : Header) (commands : List ℕ) (why : Stop) → IsRead bytes header commands → header.peer ≢ no_peer
      → refused_by h.slots from header ≡ Some why → Arrives h from bytes (stopped why) h.slots
  heard : (header : Header) (commands : List ℕ) (s t : SlotState) (answer : Received) → IsRead bytes header commands → header.peer ≢ no_peer
      → refused_by h.slots from header ≡ None → slice_get h.slots header.peer ≡ Some s → PeerReceives (record { now = h.basis.clock; sent = header.sent; full = refuses_at h s }) commands s answer t
      → Arrives h from bytes answer (slice_set h.slots header.peer t)

-- the greatest number of 64 bits, where totals stop
abbrev pub greatest_total : ℕ
greatest_total = 18446744073709551615

abbrev pub added : ℕ → ℕ → ℕ
added total n = min (total + n) greatest_total

abbrev pub with_datagram_in : Totals → ℕ → Totals
with_datagram_in t len = record t { datagrams_in = added t.datagrams_in 1; bytes_in = added t.bytes_in len }

-- for which slot's peer a datagram counts, if for any: it may be the one by which that peer begins
pub data Counted : Type 0 where
  Nowhere : Counted
  More : (i : ℕ) → Counted
  First : (i : ℕ) → Counted

abbrev pub is_at : Addr → Option SlotState → Bool
is_at from None = false
is_at from (Some s) = hears from s

-- a datagram counts for the peer that it is for, whatever becomes of it: one to its slot from its address, and an offer of its connection
pub data Counts (h : Listener) (from : Addr) (bytes : List ℕ) : Received → Counted → Type 0 where
  unreadable : (why : Stop) → IsUnreadable bytes why → (answer : Received) → Counts h from bytes answer Nowhere
  no_offer : (header : Header) (commands : List ℕ) → IsRead bytes header commands → header.peer ≡ no_peer → IsNoOffer commands
      → (answer : Received) → Counts h from bytes answer Nowhere
  refused : (header : Header) (commands : List ℕ) (o : Offer) (why : Stop) → IsRead bytes header commands → header.peer ≡ no_peer → IsOffer commands o
      → offer_refused o ≡ Some why → (answer : Received) → Counts h from bytes answer Nowhere
  repeated : (header : Header) (commands : List ℕ) (o : Offer) (i : ℕ) (s : SlotState) → IsRead bytes header commands → header.peer ≡ no_peer
      → IsOffer commands o → offer_refused o ≡ None → slice_get h.slots i ≡ Some s → is_connection from o.connect_id s ≡ true
      → (answer : Received) → Counts h from bytes answer (More i)
  unanswered : (header : Header) (commands : List ℕ) (o : Offer) (why : Stop) → IsRead bytes header commands → header.peer ≡ no_peer
      → IsOffer commands o → is_known h.slots from o ≡ false → Counts h from bytes (stopped why) Nowhere
  answered : (header : Header) (commands : List ℕ) (o : Offer) (i : ℕ) → IsRead bytes header commands → header.peer ≡ no_peer
      → IsOffer commands o → is_known h.slots from o ≡ false → seat h.basis from h.slots ≡ Some i → Counts h from bytes handled_one (First i)
  elsewhere : (header : Header) (commands : List ℕ) → IsRead bytes header commands → header.peer ≢ no_peer
      → is_at from (slice_get h.slots header.peer) ≡ false → (answer : Received) → Counts h from bytes answer Nowhere
  here : (header : Header) (commands : List ℕ) → IsRead bytes header commands → header.peer ≢ no_peer
      → is_at from (slice_get h.slots header.peer) ≡ true → (answer : Received) → Counts h from bytes answer (More header.peer)

abbrev pub with_counted : List Credit → Counted → ℕ → List Credit
with_counted credits Nowhere len = credits
with_counted credits (More i) len = with_came credits i len
with_counted credits (First i) len = with_first credits i len

-- which credits a datagram from an address leaves, that has so many bytes
pub record Credits (h : Listener) (from : Addr) (bytes : List ℕ) (answer : Received) (old new : List Credit) : Type 0 where
  pub counted : Counted
  pub counts : Counts h from bytes answer counted
  pub after : new ≡ with_counted old counted (length bytes)

abbrev pub listener_of : Host → Listener
listener_of h = record { basis = host_basis h; slots = h.slots }

-- a call of receive: each datagram counts in the totals. No more peers of an address are there than may be, if no more were before
pub record Receives (old : Host) (from : Addr) (bytes : List ℕ) (answer : Received) (new : Host) : Type 0 where
  pub arrives : Arrives (listener_of old) from bytes answer new.slots
  pub credits : Credits (listener_of old) from bytes answer old.credits new.credits
  pub rest : new ≡ record old { slots = new.slots; totals = with_datagram_in old.totals (length bytes); credits = new.credits }
  pub few : (ip n : ℕ) → old.config.of_address ≡ Some n → guests_of ip old.slots ≤ n → guests_of ip new.slots ≤ n
