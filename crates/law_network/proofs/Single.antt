-- Calls on the peer of one name, and the shape of all calls.
use Rattle.std.proofs.Common.{◌≡◌, ◌≢◌, ℕ, ◌⊎◌, inl, inr, Bool, true, false, cond, ◌==◌, List, [], ◌∷◌, refl, sym, ap, subst, ◌∙◌, arith, Option, Some, None, Result, Ok, Err, slice_set}
use Rattle.std.proofs.lemmas.Bool.Decides.{nat_tests}
use Rattle.std.specs.List.{slice_get}
use Rattle.enet_codec.specs.declared.event.PeerRef.{PeerRef}
use Rattle.enet_codec.specs.declared.refusal.Refusal.{Refusal}
use Rattle.enet_codec.specs.declared.refusal.Refusal.TheVariants as refusal
use Rattle.enet_peer.specs.Peering.{Peering}
use Rattle.enet_slot.specs.Slot.{SlotState, with_peer}
use Rattle.enet_host.specs.Host.{Host, with_generation, slot_named}
use Rattle.enet_slot.specs.Calls.{IsRefusedBy, kept, on_peer_in}
use Rattle.enet_host.specs.Calls.{put_back, on_slot, on_named}
use Rattle.enet_host.specs.Opening.{available, host_basis, seat}
use Rattle.law_network.specs.Calls.{Call}
use Rattle.law_network.specs.Calls as call
use Rattle.law_network.specs.Common.{Common, common_of}
use Rattle.law_network.specs.Deeds.{Deed, Alone}
use Rattle.law_network.specs.Falling.{Fell, Begins, asks, answers, counted, deeds_if, is_meant}
use Rattle.law_network.specs.IsolationLaw.{Stays, Fares, untouched, goes_on, having_emitted}
use Rattle.law_network.proofs.Slots.{counted-same}
use Rattle.law_network.proofs.Lists.{get-set, get-set_other, same-or}

-- what a call makes of each slot, where the slots after it are these
abbrev pub Each : Call → Host → List SlotState → Type 0
Each c h after = (i : ℕ) (s : SlotState) → slice_get h.slots i ≡ Some s → (t : SlotState) × (slice_get after i ≡ Some t) × Fares c (common_of h) i s t

-- what falls to the peer of slot i leaves it as it is
abbrev pub StaysAt : Call → Host → ℕ → Type 0
StaysAt c h i = (s : SlotState) (p : Peering) → slice_get h.slots i ≡ Some s → s.peer ≡ Some p → Stays c (common_of h) i s p

-- where nothing falls to it
pub idle : (c : Call) (h : Common) (i : ℕ) (s : SlotState) (p : Peering) → Fell h (record { number = i; slot = s; peer = p }) c [] → Stays c h i s p
idle c h i s p none = record { deeds = []; fell = none; alone = refl }

-- by this call no connection begins in slot i
abbrev pub BeginsNot : Call → Host → ℕ → Type 0
BeginsNot c h i = (s u : SlotState) → Begins c (common_of h) i s u → ⊥

-- how many bytes slot i counts stays
abbrev pub IsQuiet : Call → Host → Type 0
IsQuiet c h = (i : ℕ) (s : SlotState) → counted c (common_of h) i s ≡ s.emitted

-- only these calls begin a connection
abbrev pub may_begin : Call → Bool
may_begin (call.Connect address channels info word answer) = true
may_begin (call.Receive from bytes answer) = true
may_begin c = false

pub begins-not : (c : Call) (h : Host) (i : ℕ) → may_begin c ≡ false → BeginsNot c h i
begins-not c h i e s u (asks address channels info word is some at) = absurd (let x : false ≡ true = sym e ∙ ap may_begin is in cc)
begins-not c h i e s u (answers from bytes commands header o is read stranger offer taken new at) = absurd (let x : false ≡ true = sym e ∙ ap may_begin is in cc)

-- the slot in which a connection begins by a call, if one does: the one that is free where the user asks, and the seat of an offer
abbrev pub begins_in : Call → Host → Option ℕ
begins_in (call.Connect address channels info word answer) h = available h.config h.slots
begins_in (call.Receive from bytes answer) h = seat (host_basis h) from h.slots
begins_in c h = None

pub begins-at : (c : Call) (h : Host) (i : ℕ) (s u : SlotState) → Begins c (common_of h) i s u → begins_in c h ≡ Some i
begins-at c h i s u (asks address channels info word is some at) = ap (λ (d : Call). begins_in d h) is ∙ at
begins-at c h i s u (answers from bytes commands header o is read stranger offer taken new at) = ap (λ (d : Call). begins_in d h) is ∙ at

-- a call that changes no slot
pub each-none : (c : Call) (h : Host) (after : List SlotState) → IsQuiet c h → after ≡ h.slots → ((i : ℕ) → StaysAt c h i) → ((i : ℕ) → BeginsNot c h i) → Each c h after
each-none c h after quiet same stays not' i s e =
    (s, ap (λ (xs : List SlotState). slice_get xs i) same ∙ e, untouched (λ p g. stays i s p e g) (λ none. not' i s) (ap (λ (n : ℕ). having_emitted s n) (sym (quiet i s))))

-- a call that changed the slot j alone
pub each-set : (c : Call) (h : Host) (j : ℕ) (old new : SlotState) → slice_get h.slots j ≡ Some old → Fares c (common_of h) j old new → IsQuiet c h
    → ((i : ℕ) → j ≢ i → StaysAt c h i) → ((i : ℕ) → j ≢ i → BeginsNot c h i) → Each c h (slice_set h.slots j new)
each-set c h j old new there fares quiet stays not' i s e = by (same-or j i)
  where
    by : (j ≡ i) ⊎ (j ≢ i) → (t : SlotState) × (slice_get (slice_set h.slots j new) i ≡ Some t) × Fares c (common_of h) i s t
    by (inl here) =
        let same : old ≡ s = (let x : ◌≡◌ {A = Option SlotState} (Some old) (Some s) = sym there ∙ ap (λ (k : ℕ). slice_get h.slots k) here ∙ e in cc) in (
          new,
          ap (λ (k : ℕ). slice_get (slice_set h.slots j new) k) (sym here) ∙ get-set h.slots j old new there,
          subst (λ (k : ℕ). Fares c (common_of h) k s new) here (subst (λ (x : SlotState). Fares c (common_of h) j x new) same fares),
        )
    by (inr other) =
        (s, get-set_other h.slots j i new other ∙ e, untouched (λ p g. stays i other s p e g) (λ none. not' i other s) (ap (λ (n : ℕ). having_emitted s n) (sym (quiet i s))))

-- what a call on a name that isn't refused did
pub record Does (slots : List SlotState) (name : PeerRef) (call : Peering → Result Peering Refusal) (after : List SlotState) : Type 0 where
  pub slot : SlotState
  pub there : slice_get slots name.slot ≡ Some slot
  pub same : slot.generation ≡ name.generation
  pub peer : Peering
  pub held : slot.peer ≡ Some peer
  pub left : Peering
  pub outcome : call peer ≡ Ok left
  pub set : after ≡ slice_set slots name.slot (with_peer slot left)

ok-same : {A : Type 0} (a b : A) → ◌≡◌ {A = Result A Refusal} (Ok a) (Ok b) → a ≡ b
ok-same a b e = cc

does-call : (slots : List SlotState) (name : PeerRef) (call : Peering → Result Peering Refusal) (after : List SlotState) (s : SlotState) (p : Peering) (r : Result Peering Refusal)
    → slice_get slots name.slot ≡ Some s → s.generation ≡ name.generation → s.peer ≡ Some p → call p ≡ r → put_back slots name.slot (kept s r) ≡ Ok after → Does slots name call after
does-call slots name call after s p (Ok q) there same held e h =
    record { slot = s; there = there; same = same; peer = p; held = held; left = q; outcome = e; set = sym (ok-same (slice_set slots name.slot (with_peer s q)) after h) }
does-call slots name call after s p (Err why) there same held e h = absurd (cc)

does-peer : (slots : List SlotState) (name : PeerRef) (call : Peering → Result Peering Refusal) (after : List SlotState) (s : SlotState) (o : Option Peering)
    → slice_get slots name.slot ≡ Some s → s.generation ≡ name.generation → s.peer ≡ o → put_back slots name.slot (on_peer_in s call o) ≡ Ok after → Does slots name call after
does-peer slots name call after s None there same held h = absurd (cc)
does-peer slots name call after s (Some p) there same held h = does-call slots name call after s p (call p) there same held refl h

does-if : (slots : List SlotState) (name : PeerRef) (call : Peering → Result Peering Refusal) (after : List SlotState) (s : SlotState) (b : Bool) → (s.generation == name.generation) ≡ b
    → slice_get slots name.slot ≡ Some s → on_slot slots name.slot call (cond b (Some s) None) ≡ Ok after → Does slots name call after
does-if slots name call after s true e there h = does-peer slots name call after s s.peer there (grind (arith, nat_tests)) refl h
does-if slots name call after s false e there h = absurd (cc)

does-slot : (slots : List SlotState) (name : PeerRef) (call : Peering → Result Peering Refusal) (after : List SlotState) (o : Option SlotState)
    → slice_get slots name.slot ≡ o → on_slot slots name.slot call (with_generation name.generation o) ≡ Ok after → Does slots name call after
does-slot slots name call after None there h = absurd (cc)
does-slot slots name call after (Some s) there h = does-if slots name call after s (s.generation == name.generation) refl there h

pub does-named : (slots : List SlotState) (name : PeerRef) (call : Peering → Result Peering Refusal) (after : List SlotState) → on_named slots name call ≡ Ok after → Does slots name call after
does-named slots name call after h = does-slot slots name call after (slice_get slots name.slot) refl h

-- who is meant

meant-here : (name : PeerRef) (s : SlotState) → s.generation ≡ name.generation → is_meant name name.slot s ≡ true
meant-here name s same = grind (arith, nat_tests)

pub meant-elsewhere : (name : PeerRef) (i : ℕ) (s : SlotState) → name.slot ≢ i → is_meant name i s ≡ false
meant-elsewhere name i s n = grind (arith, nat_tests)

meant-slot : (slots : List SlotState) (name : PeerRef) (i : ℕ) (s : SlotState) → is_meant name i s ≡ true → slice_get slots i ≡ Some s → slot_named slots name ≡ Some s
meant-slot slots name i s e there =
    ap (λ (o : Option SlotState). with_generation name.generation o) (ap (λ (j : ℕ). slice_get slots j) (let here : name.slot ≡ i = grind (arith, nat_tests) in here) ∙ there)
    ∙ ap (λ (b : Bool). cond b (Some s) None) (let same : (s.generation == name.generation) ≡ true = grind (arith, nat_tests) in same)

-- a call on a name that isn't refused is one deed of its peer
pub each-named : (c : Call) (h : Host) (name : PeerRef) (call : Peering → Result Peering Refusal) (d : Deed) (after : List SlotState) → on_named h.slots name call ≡ Ok after
    → ((p q : Peering) → call p ≡ Ok q → Alone d p q) → ((i : ℕ) (s : SlotState) (p : Peering) (ds : List Deed) → ds ≡ deeds_if (is_meant name i s) d → Fell (common_of h) (record { number = i; slot = s; peer = p }) c ds) → IsQuiet c h → may_begin c ≡ false → Each c h after
each-named c h name call d after e alone fell quiet later =
    subst (λ (xs : List SlotState). Each c h xs) (sym x.set)
    (each-set c h name.slot x.slot (with_peer x.slot x.left) x.there
    (goes_on x.peer x.left (d ∷ []) x.held (fell name.slot x.slot x.peer (d ∷ []) (sym (ap (λ (b : Bool). deeds_if b d) (meant-here name x.slot x.same)))) (x.left, alone x.peer x.left x.outcome, refl)
    (λ gone. begins-not c h name.slot later (with_peer x.slot x.left))
    (counted-same x.slot x.left (counted c (common_of h) name.slot x.slot) (quiet name.slot x.slot)))
    quiet
    (λ i other s p there held. idle c (common_of h) i s p (fell i s p [] (sym (ap (λ (b : Bool). deeds_if b d) (meant-elsewhere name i s other)))))
    (λ i other. begins-not c h i later))
  where
    x : Does h.slots name call after
    x = does-named h.slots name call after e

-- one that is refused is one deed of its peer too, which it leaves as it is
pub each-refused : (c : Call) (h : Host) (name : PeerRef) (d : Deed) (after : List SlotState) → after ≡ h.slots → ((s : SlotState) (p : Peering) → slot_named h.slots name ≡ Some s → s.peer ≡ Some p → Alone d p p)
    → ((i : ℕ) (s : SlotState) (p : Peering) (ds : List Deed) → ds ≡ deeds_if (is_meant name i s) d → Fell (common_of h) (record { number = i; slot = s; peer = p }) c ds) → IsQuiet c h → may_begin c ≡ false → Each c h after
each-refused c h name d after same alone fell quiet later = each-none c h after quiet same (λ i s p there held. by i s p there held (is_meant name i s) refl) (λ i. begins-not c h i later)
  where
    by : (i : ℕ) (s : SlotState) (p : Peering) → slice_get h.slots i ≡ Some s → s.peer ≡ Some p → (b : Bool) → is_meant name i s ≡ b → Stays c (common_of h) i s p
    by i s p there held true e = record {
      deeds = d ∷ [];
      fell = fell i s p (d ∷ []) (sym (ap (λ (b : Bool). deeds_if b d) e));
      alone = (p, alone s p (meant-slot h.slots name i s e there) held, refl);
    }
    by i s p there held false e = idle c (common_of h) i s p (fell i s p [] (sym (ap (λ (b : Bool). deeds_if b d) e)))

-- the refusal of a call on a name is its peer's
named-call : (slots : List SlotState) (name : PeerRef) (call : Peering → Result Peering Refusal) (s : SlotState) (p : Peering) → slot_named slots name ≡ Some s → s.peer ≡ Some p → on_named slots name call ≡ put_back slots name.slot (kept s (call p))
named-call slots name call s p named held =
    ap (λ (o : Option SlotState). on_slot slots name.slot call o) named ∙ ap (λ (o : Option Peering). put_back slots name.slot (on_peer_in s call o)) held

err-same : {A : Type 0} (a b : Refusal) → ◌≡◌ {A = Result A Refusal} (Err a) (Err b) → a ≡ b
err-same a b e = cc

back : (slots : List SlotState) (i : ℕ) (s : SlotState) (r : Result Peering Refusal) (why : Refusal) → put_back slots i (kept s r) ≡ Err why → r ≡ Err why
back slots i s (Ok p) why e = absurd (cc)
back slots i s (Err other) why e = ap (λ (w : Refusal). Err w) (err-same {A = List SlotState} other why e)

pub peer-refused : (slots : List SlotState) (name : PeerRef) (call : Peering → Result Peering Refusal) (s : SlotState) (p : Peering) (why : Refusal) → slot_named slots name ≡ Some s → s.peer ≡ Some p → on_named slots name call ≡ Err why → call p ≡ Err why
peer-refused slots name call s p why named held e = back slots name.slot s (call p) why (sym (named-call slots name call s p named held) ∙ e)

back-memory : (slots : List SlotState) (i : ℕ) (s : SlotState) (r : Result Peering Refusal) (why : Refusal) → IsRefusedBy why (put_back slots i (kept s r)) → IsRefusedBy why r
back-memory slots i s (Ok p) refusal.Memory e = refl
back-memory slots i s (Ok p) why e = absurd (cc)
back-memory slots i s (Err other) refusal.Memory e = absurd (cc)
back-memory slots i s (Err other) why e = back slots i s (Err other) why e

pub peer-refused_memory : (slots : List SlotState) (name : PeerRef) (call : Peering → Result Peering Refusal) (s : SlotState) (p : Peering) (why : Refusal) → slot_named slots name ≡ Some s → s.peer ≡ Some p
    → IsRefusedBy why (on_named slots name call) → IsRefusedBy why (call p)
peer-refused_memory slots name call s p why named held e = back-memory slots name.slot s (call p) why (subst (λ (r : Result (List SlotState) Refusal). IsRefusedBy why r) (named-call slots name call s p named held) e)
