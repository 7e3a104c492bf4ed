-- A slot is given out.
use Rattle.std.proofs.Common.{◌≡◌, ◌≢◌, ℕ, ◌<◌, Bool, true, false, cond, Option, Some, None, Result, Ok, Err, IfOk, IfErr, IfSome, OnOk, OnErr, List, length, slice_get, slice_set, get_or, sym, ap, subst, ◌∙◌}
use Rattle.enet_codec.specs.declared.command.Offer.{Offer}
use Rattle.std.proofs.lemmas.Option.{slice_get-get_or}
use Rattle.enet_codec.specs.declared.address.Addr.{Addr}
use Rattle.enet_codec.specs.declared.config.Config.{Config}
use Rattle.enet_codec.specs.declared.event.PeerRef.{PeerRef}
use Rattle.enet_codec.specs.declared.event.Received.{Received}
use Rattle.enet_codec.specs.declared.refusal.Refusal.{Refusal}
use Rattle.enet_codec.specs.declared.refusal.Refusal.TheVariants.{Memory}
use Rattle.enet_codec.specs.declared.stop.Stop.TheVariants as stop
use Rattle.enet_slot.specs.declared.giving.Question.{Question}
use Rattle.enet_slot.specs.declared.slot.Slot.{Slot}
use Rattle.enet_slot.specs.declared.all.Seat.{Seat}
use Rattle.enet_slot.specs.declared.all.Seat.TheVariants.{Known, At, Full}
use Rattle.enet_slot.specs.Seating.{IsSeat}
use Rattle.enet_slot.specs.Slot.{SlotState, name_of}
use Rattle.enet_slot.specs.Giving.{Basis, unused_slot, asking, answering}
use Rattle.enet_host.specs.Opening.{available, Connects, no_memory, asks}
use Rattle.std.specs.List.{list_any}
use Rattle.enet_slot.specs.Receiving.{is_connection, stopped}
use Rattle.enet_host.specs.declared.credits.Credit.{Credit}
use Rattle.enet_host.specs.Crediting.{with_came}
use Rattle.enet_host.specs.Receiving.{Listener, Offers, offer_refused, is_known, handled_one}
use Rattle.enet_host.specs.Receiving as receiving
use Rattle.enet_slot.specs.Yielding.{guests_of, oldest_of, readied, yields_to}
use Rattle.enet_host.specs.Opening.{is_most, or_oldest, seat}
use Rattle.enet_host.specs.Private.Receiving.{IsSeatOf, OfferCredits, placed}
use Rattle.enet_host.specs.Private.Receiving as credit
use Rattle.enet_slot.specs.Slotted.{shown, all_shown}
use Rattle.enet_slot.proofs.Shown.{get-shown, length-shown, set-shown, same-shown}

-- what was found among the slots of a vector
pub found-in : (c : Config) (xs ys : List Slot) (r a : Option ℕ) → r ≡ available c (all_shown ys) → ys ≡ xs → r ≡ a → available c (all_shown xs) ≡ a
found-in c xs ys r a e same is = sym (subst (λ (zs : List Slot). r ≡ available c (all_shown zs)) same e) ∙ is

given-at : (xs : List Slot) (i : ℕ) (y : Slot) (t : SlotState) → shown y ≡ t → slice_set (all_shown xs) i t ≡ all_shown (slice_set xs i y)
given-at xs i y t given = ap (λ (s : SlotState). slice_set (all_shown xs) i s) (sym given) ∙ sym (set-shown xs i y)

pub connects-at : (basis : Basis) (xs : List Slot) (question : Question) (i : ℕ) (x y : Slot) (result : Result PeerRef Refusal)
    → question.channels ≢ 0 → available basis.config (all_shown xs) ≡ Some i → i < length xs → x ≡ get_or xs i x
    → OnOk result (shown y ≡ asking basis i (shown x) question) → IfOk result (λ name. name ≡ name_of i (shown x))
    → OnErr result (shown y ≡ shown x) → IfErr result (λ why. why ≡ Memory)
    → Connects basis (all_shown xs) question result (all_shown (slice_set xs i y))
connects-at basis xs question i x y (Ok name) some found inside read asked named same why =
    subst (λ (ss : List SlotState). Connects basis (all_shown xs) question (Ok name) ss)
    (given-at xs i y (asking basis i (shown x) question) asked)
    (subst (λ (n : PeerRef). Connects basis (all_shown xs) question (Ok n) (slice_set (all_shown xs) i (asking basis i (shown x) question)))
    (sym named) (asks i (shown x) some found (get-shown xs i x inside read)))
connects-at basis xs question i x y (Err e) some found inside read asked named same why =
    subst (λ (ss : List SlotState). Connects basis (all_shown xs) question (Err e) ss) (sym (same-shown xs i x y read same))
    (subst (λ (f : Refusal). Connects basis (all_shown xs) question (Err f) (all_shown xs)) (sym why) (no_memory i some found))

pub answers-at : (basis : Basis) (xs : List Slot) (from : Addr) (o : Offer) (i : ℕ) (x y : Slot)
    → offer_refused o ≡ None → is_known (all_shown xs) from o ≡ false → seat basis from (all_shown xs) ≡ Some i → i < length xs → x ≡ get_or xs i x
    → shown y ≡ answering basis i (readied (shown x)) from o → Offers (record { basis = basis; slots = all_shown xs }) from o handled_one (all_shown (slice_set xs i y))
answers-at basis xs from o i x y fine unknown found inside read answered =
    subst (λ (ss : List SlotState). Offers (record { basis = basis; slots = all_shown xs }) from o handled_one ss) (given-at xs i y (answering basis i (readied (shown x)) from o) answered)
    (receiving.answers i (shown x) fine unknown found (get-shown xs i x inside read))

pub no-memory-at : (basis : Basis) (xs : List Slot) (from : Addr) (o : Offer) (i : ℕ) (x y : Slot) (answer : Received)
    → offer_refused o ≡ None → is_known (all_shown xs) from o ≡ false → seat basis from (all_shown xs) ≡ Some i → x ≡ get_or xs i x
    → shown y ≡ shown x → answer ≡ stopped stop.Memory → Offers (record { basis = basis; slots = all_shown xs }) from o answer (all_shown (slice_set xs i y))
no-memory-at basis xs from o i x y answer fine unknown found read same is =
    subst (λ (ss : List SlotState). Offers (record { basis = basis; slots = all_shown xs }) from o answer ss) (sym (same-shown xs i x y read same))
    (subst (λ (a : Received). Offers (record { basis = basis; slots = all_shown xs }) from o a (all_shown xs)) (sym is) (receiving.no_memory i fine unknown found))

-- what was found for an offer among the slots of a vector
pub seat-in : (xs ys : List Slot) (basis : Basis) (from : Addr) (word : ℕ) (r found : Seat) → IsSeatOf basis from word (all_shown ys) r → ys ≡ xs → r ≡ found
    → IsSeatOf basis from word (all_shown xs) found
seat-in xs ys basis from word r found e same is =
    subst (λ (zs : List Slot). IsSeatOf basis from word (all_shown zs) found) same (subst (λ (t : Seat). IsSeatOf basis from word (all_shown ys) t) is e)

-- which slot is free, if an offer is of no connection that is there
pub free-at : (from : Addr) (word : ℕ) (c : Config) (slots : List SlotState) (i : ℕ) → IsSeat from word c.generations slots (At i) → Some i ≡ available c slots
free-at from word c slots i s = sym s.1

pub free-nowhere : (from : Addr) (word : ℕ) (c : Config) (slots : List SlotState) → IsSeat from word c.generations slots Full → None ≡ available c slots
free-nowhere from word c slots s = sym s.1

-- so it goes to its seat
pub seat-placed : (basis : Basis) (from : Addr) (word : ℕ) (xs : List Slot) (r : Option ℕ) → list_any (is_connection from word) (all_shown xs) ≡ false → r ≡ seat basis from (all_shown xs)
    → IfSome r (λ i. i < length xs) → IsSeatOf basis from word (all_shown xs) (placed r)
seat-placed basis from word xs None unknown found within = (unknown, sym found)
seat-placed basis from word xs (Some i) unknown found within = (unknown, sym found, subst (λ (m : ℕ). i < m) (sym (length-shown xs)) within)

-- the seat of an offer where as many peers of its address are there as may be, and where fewer are
seat-if : (basis : Basis) (from : Addr) (slots : List SlotState) (b : Bool) → is_most basis.config.of_address (guests_of from.ip slots) ≡ b
    → seat basis from slots ≡ cond b (oldest_of (yields_to from.ip basis.config.generations) basis.clock slots) (or_oldest basis slots (available basis.config slots))
seat-if basis from slots b is = ap (λ (c : Bool). cond c (oldest_of (yields_to from.ip basis.config.generations) basis.clock slots) (or_oldest basis slots (available basis.config slots))) is

pub seat-own : (basis : Basis) (from : Addr) (slots : List SlotState) (b : Bool) (r : Option ℕ) → b ≡ is_most basis.config.of_address (guests_of from.ip slots) → b ≡ true
    → r ≡ oldest_of (yields_to from.ip basis.config.generations) basis.clock slots → r ≡ seat basis from slots
seat-own basis from slots b r is full own = own ∙ sym (seat-if basis from slots true (sym is ∙ full))

pub seat-any : (basis : Basis) (from : Addr) (slots : List SlotState) (b : Bool) (free r : Option ℕ) → b ≡ is_most basis.config.of_address (guests_of from.ip slots) → b ≡ false
    → free ≡ available basis.config slots → r ≡ or_oldest basis slots free → r ≡ seat basis from slots
seat-any basis from slots b free r is room first found = found ∙ ap (λ (o : Option ℕ). or_oldest basis slots o) first ∙ sym (seat-if basis from slots false (sym is ∙ room))

-- which credits an offer of a connection that is there leaves
pub credits-known : (h : Listener) (from : Addr) (o : Offer) (len i : ℕ) (credits new : List Credit) (answer : Received) → offer_refused o ≡ None
    → IsSeatOf h.basis from o.connect_id h.slots (Known i) → new ≡ with_came credits i len → OfferCredits h from o len answer credits new
credits-known h from o len i credits new answer fine seat counted =
    let s : SlotState = get_or h.slots i unused_slot in
    let there : slice_get h.slots i ≡ Some s = slice_get-get_or h.slots i unused_slot seat.1 in
    subst (λ (ks : List Credit). OfferCredits h from o len answer credits ks) (sym counted) (credit.repeated i s credits fine there (seat.2 s there) answer)
