-- A datagram comes to a slot.
use Rattle.std.proofs.Common.{◌≡◌, ◌≢◌, ℕ, ◌<◌, ◌&&◌, not, if◌then◌else◌, Bool, true, false, Option, Some, None, List, length, slice_get, slice_set, get_or, refl, sym, ap, ap₂, subst, ◌∙◌}
use Rattle.std.specs.Prelude.{is_some}
use Rattle.enet_codec.specs.declared.header.Header.{Header}
use Rattle.enet_codec.specs.declared.address.Addr.{Addr}
use Rattle.enet_codec.specs.declared.command.Offer.{Offer}
use Rattle.enet_codec.specs.declared.event.Received.{Received}
use Rattle.enet_codec.specs.declared.stop.Stop.{Stop}
use Rattle.enet_codec.specs.declared.stop.Stop.TheVariants as stop
use Rattle.enet_peer.specs.Peering.{Peering}
use Rattle.enet_peer.specs.Heading.{IsRead, IsOffer}
use Rattle.enet_slot.specs.declared.slot.Slot.{Slot}
use Rattle.enet_slot.specs.Slot.{SlotState}
use Rattle.enet_slot.specs.Giving.{Basis, is_vacant}
use Rattle.enet_slot.specs.Entering.{awaits}
use Rattle.enet_slot.specs.Receiving.{IsHeardAlike, PeerReceives, is_deaf, is_same_address, fits_session, hears_in, no_peer, refused_by_slot, refused_by_peer}
use Rattle.enet_host.specs.declared.credits.Credit.{Credit}
use Rattle.enet_host.specs.Crediting.{with_came}
use Rattle.enet_host.specs.Opening.{is_most}
use Rattle.enet_host.specs.Receiving.{Listener, Arrives, Credits, heard, is_at, refused_by, refuses_at}
use Rattle.enet_host.specs.Receiving as receiving
use Rattle.enet_host.specs.Private.Receiving.{is_heard, ComesAsAt, OfferCredits}
use Rattle.enet_host.specs.Private.Receiving as credit
use Rattle.enet_slot.specs.Slotted.{shown, all_shown}
use Rattle.enet_slot.proofs.Shown.{get-shown, set-shown}
use Rattle.enet_sleepers.specs.Sleeping.{Noted, KeepsSleepers, KeepsOthers}
use Rattle.enet_sleepers.proofs.Keeping.{keeps-others}

pub refused-in : (xs ys : List Slot) (from : Addr) (header : Header) (r a : Option Stop) → r ≡ refused_by (all_shown ys) from header → ys ≡ xs → r ≡ a
    → refused_by (all_shown xs) from header ≡ a
refused-in xs ys from header r a e same is = sym (subst (λ (zs : List Slot). r ≡ refused_by (all_shown zs) from header) same e) ∙ is

-- a slot that takes something in holds a peer
not-vacant : (s : SlotState) (from : Addr) (session : ℕ) (o : Option Peering) → refused_by_peer s from session o ≡ None → is_vacant o ≡ false
not-vacant s from session None h = absurd (cc)
not-vacant s from session (Some p) h = refl

-- so the slot that a datagram comes to
pub held-at : (xs : List Slot) (from : Addr) (header : Header) (n : ℕ) (x : Slot) → refused_by (all_shown xs) from header ≡ None → n ≡ header.peer → n < length xs → x ≡ get_or xs n x → is_vacant (shown x).peer ≡ false
held-at xs from header n x fine e inside is =
    let there : slice_get (all_shown xs) header.peer ≡ Some (shown x) =
    subst (λ (i : ℕ). slice_get (all_shown xs) i ≡ Some (shown x)) e (get-shown xs n x inside is) in
    let fine_here : refused_by_slot from header.session (Some (shown x)) ≡ None =
    subst (λ (o : Option SlotState). refused_by_slot from header.session o ≡ None) there fine in
    not-vacant (shown x) from header.session (shown x).peer fine_here

-- whether the host refuses who confirms there
pub refuses-in : (basis : Basis) (xs ys : List Slot) (n : ℕ) (x : Slot) (commands : List ℕ) (told : Bool)
    → ((s : SlotState) → slice_get (all_shown ys) n ≡ Some s → ComesAsAt commands s told (refuses_at (record { basis = basis; slots = all_shown ys }) s)) → ys ≡ xs
    → n < length xs → x ≡ get_or xs n x → ComesAsAt commands (shown x) told (refuses_at (record { basis = basis; slots = all_shown xs }) (shown x))
refuses-in basis xs ys n x commands told each same inside is =
    subst (λ (zs : List Slot). (s : SlotState) → slice_get (all_shown zs) n ≡ Some s → ComesAsAt commands s told (refuses_at (record { basis = basis; slots = all_shown zs }) s)) same each (shown x)
    (get-shown xs n x inside is)

-- where no count is asked for, or no client could confirm
pub as-none : (commands : List ℕ) (s : SlotState) (most : Option ℕ) (count : ℕ) → is_some most ≡ false → ComesAsAt commands s false (awaits s && is_most most count)
as-none commands s None count none = by (awaits s)
  where
    by : (b : Bool) → ComesAsAt commands s false (b && false)
    by true = λ now sent answer t h. h
    by false = λ now sent answer t h. h
as-none commands s (Some most) count none = absurd (let y : true ≡ false = none in cc)

pub as-unconfirmed : (commands : List ℕ) (s : SlotState) (full : Bool) → IsHeardAlike commands s → ComesAsAt commands s false full
as-unconfirmed commands s true alike = alike
as-unconfirmed commands s false alike = λ now sent answer t h. h

pub as-counted : (commands : List ℕ) (s : SlotState) (told full : Bool) → told ≡ full → ComesAsAt commands s told full
as-counted commands s told full e = subst (ComesAsAt commands s told) e (λ now sent answer t h. h)

pub refuses-then : (waits full most : Bool) (x s : SlotState) → waits ≡ awaits x → waits ≡ true → x ≡ s → full ≡ most → full ≡ (awaits s && most)
refuses-then waits full most x s told holds same is = is ∙ ap (λ (b : Bool). b && most) (sym holds ∙ told ∙ ap awaits same)

pub refuses-else : (waits most : Bool) (x s : SlotState) → waits ≡ awaits x → waits ≡ false → x ≡ s → false ≡ (awaits s && most)
refuses-else waits most x s told fails same = ap (λ (b : Bool). b && most) (sym fails ∙ told ∙ ap awaits same)

pub heard-at : (basis : Basis) (xs : List Slot) (from : Addr) (bytes : List ℕ) (header : Header) (commands : List ℕ) (n : ℕ) (x y : Slot) (answer : Received) (full : Bool)
    → IsRead bytes header commands → header.peer ≢ no_peer → refused_by (all_shown xs) from header ≡ None → n ≡ header.peer → n < length xs → x ≡ get_or xs n x
    → ComesAsAt commands (shown x) full (refuses_at (record { basis = basis; slots = all_shown xs }) (shown x))
    → (is_vacant (shown x).peer ≡ false → PeerReceives (record { now = basis.clock; sent = header.sent; full = full }) commands (shown x) answer (shown y))
    → Arrives (record { basis = basis; slots = all_shown xs }) from bytes answer (all_shown (slice_set xs n y))
heard-at basis xs from bytes header commands n x y answer full read known fine e inside is refuses hears =
    let there : slice_get (all_shown xs) header.peer ≡ Some (shown x) =
    subst (λ (i : ℕ). slice_get (all_shown xs) i ≡ Some (shown x)) e (get-shown xs n x inside is) in
    let hears_it = refuses basis.clock header.sent answer (shown y) (hears (held-at xs from header n x fine e inside is)) in
    let after : slice_set (all_shown xs) header.peer (shown y) ≡ all_shown (slice_set xs n y) =
    ap (λ (i : ℕ). slice_set (all_shown xs) i (shown y)) (sym e) ∙ sym (set-shown xs n y) in
    subst (λ (ss : List SlotState). Arrives (record { basis = basis; slots = all_shown xs }) from bytes answer ss) after
    (heard header commands (shown x) (shown y) answer read known fine there hears_it)

-- whatever comes to a slot, what is noted of the others stays true
pub keeps-heard : (now n : ℕ) (v : Noted) (xs : List Slot) (y : Slot) → KeepsSleepers now v (all_shown xs) → KeepsOthers now n v (all_shown (slice_set xs n y))
keeps-heard now n v xs y k = subst (KeepsOthers now n v) (sym (set-shown xs n y)) (keeps-others now n v (all_shown xs) (shown y) k)

-- ---- for which peer a datagram counts

hears-peer : (s : SlotState) (from : Addr) (session : ℕ) (o : Option Peering) → hears_in s from o ≡ is_heard (refused_by_peer s from session o)
hears-peer s from session None = refl
hears-peer s from session (Some p) = by (is_deaf p.state) (is_same_address s.address from) (fits_session p session)
  where
    by : (deaf there fits : Bool)
        → (not deaf && there) ≡ is_heard (if deaf then Some stop.UnknownPeer else (if not there then Some stop.WrongAddress else (if not fits then Some stop.WrongSession else None)))
    by true there fits = refl
    by false false fits = refl
    by false true false = refl
    by false true true = refl

hears-at : (from : Addr) (session : ℕ) (o : Option SlotState) → is_at from o ≡ is_heard (refused_by_slot from session o)
hears-at from session None = refl
hears-at from session (Some s) = hears-peer s from session s.peer

-- one that its slot hears, or doesn't
pub credits-heard : (h : Listener) (from : Addr) (bytes : List ℕ) (header : Header) (commands : List ℕ) (n len : ℕ) (refusal : Option Stop) (answer : Received) (old new : List Credit)
    → IsRead bytes header commands → header.peer ≢ no_peer → refused_by h.slots from header ≡ refusal → n ≡ header.peer → len ≡ length bytes
    → new ≡ (if is_heard refusal then with_came old n len else old) → Credits h from bytes answer old new
credits-heard h from bytes header commands n len refusal answer old new read known refused number size counted = by (is_heard refusal) (is) left
  where
    is : is_at from (slice_get h.slots header.peer) ≡ is_heard refusal
    is = hears-at from header.session (slice_get h.slots header.peer) ∙ ap is_heard refused

    left : new ≡ (if is_heard refusal then with_came old header.peer (length bytes) else old)
    left = counted ∙ ap₂ (λ (i m : ℕ). if is_heard refusal then with_came old i m else old) number size

    by : (b : Bool) → is_at from (slice_get h.slots header.peer) ≡ b → new ≡ (if b then with_came old header.peer (length bytes) else old) → Credits h from bytes answer old new
    by true e f = record { counted = receiving.More header.peer; counts = receiving.here header commands read known e answer; after = f }
    by false e f = record { counted = receiving.Nowhere; counts = receiving.elsewhere header commands read known e answer; after = f }

-- an offer
pub credits-offered : (h : Listener) (from : Addr) (bytes : List ℕ) (header : Header) (commands : List ℕ) (o : Offer) (len : ℕ) (answer : Received) (old new : List Credit)
    → IsRead bytes header commands → header.peer ≡ no_peer → IsOffer commands o → len ≡ length bytes → OfferCredits h from o len answer old new → Credits h from bytes answer old new
credits-offered h from bytes header commands o len answer old new read stranger offer size counted =
    by answer old new (subst (λ (n : ℕ). OfferCredits h from o n answer old new) size counted)
  where
    by : (a : Received) (ks js : List Credit) → OfferCredits h from o (length bytes) a ks js → Credits h from bytes a ks js
    by a ks js (credit.refused why credits is any) =
        record { counted = receiving.Nowhere; counts = receiving.refused header commands o why read stranger offer is any; after = refl }
    by a ks js (credit.repeated i s credits fine there is any) =
        record { counted = receiving.More i; counts = receiving.repeated header commands o i s read stranger offer fine there is any; after = refl }
    by a ks js (credit.unanswered why credits unknown) =
        record { counted = receiving.Nowhere; counts = receiving.unanswered header commands o why read stranger offer unknown; after = refl }
    by a ks js (credit.answered i credits unknown found) =
        record { counted = receiving.First i; counts = receiving.answered header commands o i read stranger offer unknown found; after = refl }
