-- Slots of the code and as they are shown.
use Rattle.std.proofs.Common.{◌≡◌, ℕ, ◌<◌, Bool, true, false, ◌==◌, IsTrue, if◌then◌else◌, Option, Some, None, is_some, is_ok, Result, Ok, Err, IfErr, List, length, slice_get, slice_set, get_or, refl, sym, ap, subst, ◌∙◌, arith}
use Rattle.std.proofs.lemmas.Bool.Decides.{nat_tests}
use Rattle.enet_codec.specs.declared.event.PeerRef.{PeerRef}
use Rattle.enet_codec.specs.declared.refusal.Refusal.{Refusal}
use Rattle.enet_codec.specs.declared.refusal.Refusal.TheVariants.{Memory}
use Rattle.enet_sender.specs.CommandChoice.{Packet}
use Rattle.enet_peer.specs.Peering.{Peering}
use Rattle.enet_slot.specs.declared.slot.Slot.{Slot}
use Rattle.enet_slot.specs.Slot.{SlotState}
use Rattle.enet_slot.specs.Sharing.{wants_room, wants_room_in}
use Rattle.enet_host.specs.Host.{named, peer_in, slot_named, with_generation}
use Rattle.enet_slot.specs.Calls.{on_peer, Does, DoesWithMemory, Submits, IsRefusedBy}
use Rattle.enet_host.specs.Calls.{on_slot, on_named, put_back}
use Rattle.enet_slot.specs.Slotted.{shown, all_shown}
use Rattle.enet_slot.proofs.Shown.{get-shown, set-shown, same-shown}

chosen : (b : Bool) (s : SlotState) → IsTrue (is_some (if b then Some s else None)) → (if b then Some s else None) ≡ Some s
chosen true s some = refl
chosen false s some = absurd (cc)

with-generation : (g : ℕ) (o : Option SlotState) (s : SlotState) → o ≡ Some s → IsTrue (is_some (with_generation g o)) → with_generation g o ≡ Some s
with-generation g None s e some = absurd (cc)
with-generation g (Some t) s e some = chosen (t.generation == g) t some ∙ e

-- a slot of its generation is one that the name means
some-if : (b : Bool) (s : SlotState) → b ≡ true → IsTrue (is_some (if b then Some s else None))
some-if b s e = subst (λ (c : Bool). IsTrue (is_some (if c then Some s else None))) (sym e) refl

same-number : (a b : ℕ) → a ≡ b → (a == b) ≡ true
same-number a b e = grind (arith, nat_tests)

pub found-at : (xs : List Slot) (name : PeerRef) (i : ℕ) (x : Slot) (g : ℕ) → i ≡ name.slot → i < length xs → x ≡ get_or xs i x → g ≡ (shown x).generation
    → g ≡ name.generation → IsTrue (is_some (slot_named (all_shown xs) name))
found-at xs name i x g e inside read is same =
    let there : slice_get (all_shown xs) name.slot ≡ Some (shown x) =
    subst (λ (n : ℕ). slice_get (all_shown xs) n ≡ Some (shown x)) e (get-shown xs i x inside read) in
    subst (λ (o : Option SlotState). IsTrue (is_some (with_generation name.generation o))) (sym there)
    (some-if ((shown x).generation == name.generation) (shown x) (same-number (shown x).generation name.generation (sym is ∙ same)))

-- what a name means is the slot of its number
pub named-is : (xs : List Slot) (name : PeerRef) (i : ℕ) (x : Slot) → i ≡ name.slot → i < length xs → x ≡ get_or xs i x
    → IsTrue (is_some (slot_named (all_shown xs) name)) → slot_named (all_shown xs) name ≡ Some (shown x)
named-is xs name i x e inside read some =
    let there : slice_get (all_shown xs) name.slot ≡ Some (shown x) =
    subst (λ (n : ℕ). slice_get (all_shown xs) n ≡ Some (shown x)) e (get-shown xs i x inside read) in
    with-generation name.generation (slice_get (all_shown xs) name.slot) (shown x) there some

pub peer-named : (xs : List Slot) (name : PeerRef) (i : ℕ) (x : Slot) (p : Option Peering) → i ≡ name.slot → i < length xs → x ≡ get_or xs i x
    → IsTrue (is_some (slot_named (all_shown xs) name)) → p ≡ (shown x).peer → p ≡ named (all_shown xs) name
peer-named xs name i x p e inside read some is = is ∙ ap peer_in (sym (named-is xs name i x e inside read some))

on-named : (xs : List Slot) (name : PeerRef) (call : Peering → Result Peering Refusal) (i : ℕ) (x : Slot) → i ≡ name.slot → i < length xs → x ≡ get_or xs i x
    → IsTrue (is_some (slot_named (all_shown xs) name)) → put_back (all_shown xs) i (on_peer (shown x) call) ≡ on_named (all_shown xs) name call
on-named xs name call i x e inside read some =
    subst (λ (n : ℕ). put_back (all_shown xs) i (on_peer (shown x) call) ≡ put_back (all_shown xs) n (on_peer (shown x) call)) e refl
    ∙ ap (λ (o : Option SlotState). on_slot (all_shown xs) name.slot call o) (sym (named-is xs name i x e inside read some))

put-ok : (xs : List Slot) (i : ℕ) (y : Slot) (outcome : Result SlotState Refusal) → outcome ≡ Ok (shown y)
    → put_back (all_shown xs) i outcome ≡ Ok (all_shown (slice_set xs i y))
put-ok xs i y (Ok s) h = let same : s ≡ shown y = cc in ap (λ (t : SlotState). Ok (slice_set (all_shown xs) i t)) same ∙ ap (λ (ss : List SlotState). Ok ss) (sym (set-shown xs i y))
put-ok xs i y (Err why) h = absurd (cc)

put-err : (slots : List SlotState) (i : ℕ) (why : Refusal) (outcome : Result SlotState Refusal) → outcome ≡ Err why → put_back slots i outcome ≡ Err why
put-err slots i why (Ok s) h = absurd (cc)
put-err slots i why (Err other) h = cc

put-is-ok : (slots : List SlotState) (i : ℕ) (outcome : Result SlotState Refusal) → is_ok outcome ≡ true → is_ok (put_back slots i outcome) ≡ true
put-is-ok slots i (Ok s) h = refl
put-is-ok slots i (Err why) h = absurd (cc)

put-refused : (slots : List SlotState) (i : ℕ) (why : Refusal) (outcome : Result SlotState Refusal) → IsRefusedBy why outcome → IsRefusedBy why (put_back slots i outcome)
put-refused slots i Memory outcome h = put-is-ok slots i outcome h
put-refused slots i why outcome h = put-err slots i why outcome h

-- a call on one slot is that call on the slot that a name means
pub does-named : {T : Type 0} (xs : List Slot) (name : PeerRef) (call : Peering → Result Peering Refusal) (i : ℕ) (x y : Slot) (result : Result T Refusal)
    → i ≡ name.slot → i < length xs → x ≡ get_or xs i x → IsTrue (is_some (slot_named (all_shown xs) name))
    → Does result (on_peer (shown x) call) (shown x) (shown y) → Does result (on_named (all_shown xs) name call) (all_shown xs) (all_shown (slice_set xs i y))
does-named xs name call i x y (Ok done) e inside read some h = sym (on-named xs name call i x e inside read some) ∙ put-ok xs i y (on_peer (shown x) call) h
does-named xs name call i x y (Err why) e inside read some h =
    (sym (on-named xs name call i x e inside read some) ∙ put-err (all_shown xs) i why (on_peer (shown x) call) h.0, same-shown xs i x y read h.1)

refused-named : (xs : List Slot) (name : PeerRef) (call : Peering → Result Peering Refusal) (i : ℕ) (x : Slot) (why : Refusal)
    → i ≡ name.slot → i < length xs → x ≡ get_or xs i x → IsTrue (is_some (slot_named (all_shown xs) name))
    → IsRefusedBy why (on_peer (shown x) call) → IsRefusedBy why (on_named (all_shown xs) name call)
refused-named xs name call i x why e inside read some h =
    subst (λ (o : Result (List SlotState) Refusal). IsRefusedBy why o) (on-named xs name call i x e inside read some)
    (put-refused (all_shown xs) i why (on_peer (shown x) call) h)

pub does-named-with-memory : {T : Type 0} (xs : List Slot) (name : PeerRef) (call : Peering → Result Peering Refusal) (i : ℕ) (x y : Slot) (result : Result T Refusal)
    → i ≡ name.slot → i < length xs → x ≡ get_or xs i x → IsTrue (is_some (slot_named (all_shown xs) name))
    → DoesWithMemory result (on_peer (shown x) call) (shown x) (shown y)
    → DoesWithMemory result (on_named (all_shown xs) name call) (all_shown xs) (all_shown (slice_set xs i y))
does-named-with-memory xs name call i x y (Ok done) e inside read some h =
    sym (on-named xs name call i x e inside read some) ∙ put-ok xs i y (on_peer (shown x) call) h
does-named-with-memory xs name call i x y (Err why) e inside read some h =
    (refused-named xs name call i x why e inside read some h.0, same-shown xs i x y read h.1)

-- where memory may be wanted of a slot it may be of the peer that the name means
pub wanted-named : {T : Type 0} (xs : List Slot) (name : PeerRef) (i : ℕ) (x : Slot) (result : Result T Refusal) → i ≡ name.slot → i < length xs → x ≡ get_or xs i x
    → IsTrue (is_some (slot_named (all_shown xs) name)) → IfErr result (λ why. why ≡ Memory → wants_room (shown x) ≡ true)
    → IfErr result (λ why. why ≡ Memory → wants_room_in (named (all_shown xs) name) ≡ true)
wanted-named xs name i x result e inside read some h =
    subst (λ (p : Option Peering). IfErr result (λ why. why ≡ Memory → wants_room_in p ≡ true)) (peer-named xs name i x (shown x).peer e inside read some refl) h

pub submits-named : {T : Type 0} (xs : List Slot) (name : PeerRef) (q : Packet) (call : Peering → Result Peering Refusal) (i : ℕ) (x y : Slot)
    (result : Result T (Refusal × List ℕ)) → i ≡ name.slot → i < length xs → x ≡ get_or xs i x → IsTrue (is_some (slot_named (all_shown xs) name))
    → Submits result q (on_peer (shown x) call) (shown x) (shown y)
    → Submits result q (on_named (all_shown xs) name call) (all_shown xs) (all_shown (slice_set xs i y))
submits-named xs name q call i x y (Ok done) e inside read some h =
    sym (on-named xs name call i x e inside read some) ∙ put-ok xs i y (on_peer (shown x) call) h
submits-named xs name q call i x y (Err f) e inside read some h =
    (refused-named xs name call i x f.0 e inside read some h.0, h.1, same-shown xs i x y read h.2)
