-- Which credits a datagram leaves.
use Rattle.std.specs.Prelude.{◌≡◌, ℕ, ◌<◌, Bool, true, false, Option, Some, None, List, length, slice_get}
use Rattle.std.specs.List.{list_any}
use Rattle.enet_codec.specs.declared.address.Addr.{Addr}
use Rattle.enet_codec.specs.declared.event.Received.{Received}
use Rattle.enet_codec.specs.declared.stop.Stop.{Stop}
use Rattle.enet_codec.specs.declared.stop.Stop.TheVariants as stop
use Rattle.enet_codec.specs.declared.command.Offer.{Offer}
use Rattle.enet_slot.specs.declared.all.Seat.{Seat}
use Rattle.enet_slot.specs.declared.all.Seat.TheVariants.{Known, At, Full}
use Rattle.enet_slot.specs.Giving.{Basis}
use Rattle.enet_slot.specs.Slot.{SlotState}
use Rattle.enet_slot.specs.Receiving.{is_connection, stopped, PeerReceives}
use Rattle.enet_host.specs.declared.credits.Credit.{Credit}
use Rattle.enet_host.specs.Crediting.{with_came, with_first}
use Rattle.enet_host.specs.Opening.{seat}
use Rattle.enet_host.specs.Receiving.{Listener, handled_one, is_known, offer_refused}

-- a slot that refuses a datagram so, or takes it in, holds a peer at the datagram's address that takes datagrams in
abbrev pub is_heard : Option Stop → Bool
is_heard None = true
is_heard (Some stop.WrongSession) = true
is_heard (Some _) = false

-- an offer of so many bytes leaves these credits
pub data OfferCredits (h : Listener) (from : Addr) (o : Offer) (len : ℕ) : Received → List Credit → List Credit → Type 0 where
  refused : (why : Stop) (credits : List Credit) → offer_refused o ≡ Some why → (answer : Received) → OfferCredits h from o len answer credits credits
  repeated : (i : ℕ) (s : SlotState) (credits : List Credit) → offer_refused o ≡ None → slice_get h.slots i ≡ Some s → is_connection from o.connect_id s ≡ true
      → (answer : Received) → OfferCredits h from o len answer credits (with_came credits i len)
  unanswered : (why : Stop) (credits : List Credit) → is_known h.slots from o ≡ false → OfferCredits h from o len (stopped why) credits credits
  answered : (i : ℕ) (credits : List Credit) → is_known h.slots from o ≡ false → seat h.basis from h.slots ≡ Some i
      → OfferCredits h from o len handled_one credits (with_first credits i len)

-- what is found among the slots for an offer from an address with a connect id: the one that holds its connection, else its seat
abbrev pub IsSeatOf : Basis → Addr → ℕ → List SlotState → Seat → Type 0
IsSeatOf basis from word slots (Known i) =
    (list_any (is_connection from word) slots ≡ true) × (i < length slots) × ((s : SlotState) → slice_get slots i ≡ Some s → is_connection from word s ≡ true)
IsSeatOf basis from word slots (At i) = (list_any (is_connection from word) slots ≡ false) × (seat basis from slots ≡ Some i) × (i < length slots)
IsSeatOf basis from word slots Full = (list_any (is_connection from word) slots ≡ false) × (seat basis from slots ≡ None)

-- where an offer of no connection that is there goes, by its seat
abbrev pub placed : Option ℕ → Seat
placed None = Full
placed (Some i) = At i

-- commands that come to a slot whose host is taken to be full or not, as said first, come to it as said last
abbrev pub ComesAsAt : List ℕ → SlotState → Bool → Bool → Type 0
ComesAsAt commands s told full = (now : ℕ) (sent : Option ℕ) (answer : Received) (t : SlotState)
    → PeerReceives (record { now = now; sent = sent; full = told }) commands s answer t → PeerReceives (record { now = now; sent = sent; full = full }) commands s answer t
