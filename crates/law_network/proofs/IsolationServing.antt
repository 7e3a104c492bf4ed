-- A call of service, and a call of next_event.
use Rattle.std.proofs.Common.{◌≡◌, ◌≢◌, ◌<◌, ℕ, ◌+◌, min, ◌⊎◌, inl, inr, Bool, true, false, cond, ◌==◌, nat_lt, List, [], ◌∷◌, length, refl, sym, ap, ◌∙◌, arith, Option, Some, None, slice_set, take}
use Rattle.std.proofs.lemmas.Bool.Decides.{nat_tests}
use Rattle.std.proofs.lemmas.Option.{slice_get_within}
use Rattle.std.specs.List.{slice_get}
use Rattle.std.specs.Prelude.{is_some}
use Rattle.enet_codec.specs.declared.address.Addr.{Addr}
use Rattle.enet_codec.specs.declared.event.Event.{Event}
use Rattle.enet_codec.specs.declared.event.PeerRef.{PeerRef}
use Rattle.enet_peer.specs.declared.parts.PeerEvent.{PeerEvent}
use Rattle.enet_peer.specs.declared.parts.PeerEvent.TheVariants as told
use Rattle.enet_peer.specs.Peering.{Peering}
use Rattle.enet_codec.specs.Message.{Message}
use Rattle.enet_outbox.specs.Emission.{filled, HasDatagram}
use Rattle.enet_peer.specs.Calls.{PutsOut, Taken, pace_of, destination_of, next_event}
use Rattle.enet_slot.specs.Slot.{SlotState, with_peer, name_of, greatest}
use Rattle.enet_host.specs.Host.{Host}
use Rattle.enet_host.specs.Turns.{turn_of, IsFirst, HoldsNowhere}
use Rattle.enet_slot.specs.Emitting.{PeerEmits, passes_by, Passes}
use Rattle.enet_host.specs.Serving.{served_of, InTurn, EmitsInTurn, AllPass}
use Rattle.enet_slot.specs.Calls.{peer_tells, tells, event_of, GivesEvent}
use Rattle.law_network.specs.Calls.{Call}
use Rattle.law_network.specs.Calls as call
use Rattle.law_network.specs.Common.{Common, common_of}
use Rattle.law_network.specs.Deeds.{Deed, Alone, bytes_of, Emit, Take}
use Rattle.law_network.specs.Falling.{asked_for, counted, deeds_if, up_to, taken_up_to, taken_from}
use Rattle.law_network.specs.IsolationLaw.{Stays, Fares, untouched, goes_on, having_emitted}
use Rattle.law_network.proofs.Lists.{get-within, same-or}
use Rattle.law_network.proofs.Slots.{counted-same, emitted-apart}
use Rattle.law_network.proofs.Single.{Each, idle, begins-not, each-none, each-set}

-- what a peer puts out that was asked for a datagram
bytes-some : (p : Peering) (now : ℕ) (ms : List Message) (len : ℕ) (buf : List ℕ) → HasDatagram now (destination_of p) ms len buf → Some (take len buf) ≡ bytes_of p now ms
bytes-some p now [] len buf x = absurd (let n : 0 < 0 = x.some in omega arith)
bytes-some p now (m ∷ ms) len buf x = ap (λ (b : List ℕ). Some b) x.text

alone-some : (now len : ℕ) (p q : Peering) (buf : List ℕ) → PutsOut now (Some len) p q buf → Alone (Emit now (Some (take len buf))) p q
alone-some now len p q buf x = (bytes-some p now (filled (pace_of p now) p.outbox).messages len buf x.emits, x.after)

alone-none : (now : ℕ) (p q : Peering) (buf : List ℕ) → PutsOut now None p q buf → Alone (Emit now None) p q
alone-none now p q buf x = (sym (ap (λ (ms : List Message). bytes_of p now ms) x.emits), x.after)

-- a slot that was asked in vain
passed : (h : Host) (i : ℕ) (s t : SlotState) (answer : Option (PeerRef × Addr × ℕ)) (buf : List ℕ) → asked_for (common_of h) i answer buf ≡ Emit h.clock None ∷ [] → counted (call.Service answer buf) (common_of h) i s ≡ s.emitted → Passes h.clock s t
    → Fares (call.Service answer buf) (common_of h) i s t
passed h i s t answer buf asked quiet x = by s.peer refl x
  where
    by : (o : Option Peering) → s.peer ≡ o → passes_by h.clock s t o → Fares (call.Service answer buf) (common_of h) i s t
    by None g same =
        untouched (λ p k. absurd (let y : ◌≡◌ {A = Option Peering} None (Some p) = sym g ∙ k in cc)) (λ none. begins-not (call.Service answer buf) h i refl s)
        (same ∙ ap (λ (n : ℕ). having_emitted s n) (sym quiet))
    by (Some p) g nothing =
        goes_on p nothing.after (Emit h.clock None ∷ []) g (sym asked) (nothing.after, alone-none h.clock p nothing.after nothing.buf nothing.puts, refl)
        (λ gone. begins-not (call.Service answer buf) h i refl (with_peer s nothing.after)) (nothing.left ∙ counted-same s nothing.after (counted (call.Service answer buf) (common_of h) i s) quiet)

pub each-passed : (h : Host) (buf : List ℕ) (after : List SlotState) → AllPass h.clock h.slots after → Each (call.Service None buf) h after
each-passed h buf after x i s e =
    let there : (t : SlotState) × (slice_get after i ≡ Some t) = get-within after i (let low : i < length h.slots = slice_get_within h.slots i s e in let same : length after ≡ length h.slots = x.count in omega arith) in
    (there.0, there.1, passed h i s there.0 None buf refl refl (x.slots i s there.0 e there.1))

-- two slots have the same place in turn only if they are the same
turns-apart : (n from i j : ℕ) → i < n → j < n → turn_of n from i ≡ turn_of n from j → i ≡ j
turns-apart n from i j a b e = grind (arith, nat_tests)

pub each-given : (h : Host) (name : PeerRef) (address : Addr) (len : ℕ) (buf : List ℕ) (after : List SlotState) → EmitsInTurn h.clock h.service_from h.slots (served_of (name, address, len) buf) after
    → Each (call.Service (Some (name, address, len)) buf) h after
each-given h name address len buf after x i s e = (there.0, there.1, by (order (turn i) (turn name.slot)))
  where
    c : Call
    c = call.Service (Some (name, address, len)) buf

    turn : ℕ → ℕ
    turn j = turn_of (length h.slots) h.service_from j

    low : i < length h.slots
    low = slice_get_within h.slots i s e

    there : (t : SlotState) × (slice_get after i ≡ Some t)
    there = get-within after i (let small : i < length h.slots = low in let same : length after ≡ length h.slots = x.count in omega arith)

    turned : InTurn (record { now = h.clock; turn = turn_of (length h.slots) h.service_from; gave = served_of (name, address, len) buf }) i s there.0
    turned = x.slots i s there.0 e there.1

    order : (a b : ℕ) → (a < b) ⊎ ((a ≡ b) ⊎ (b < a))
    order a b = ordered (same-or a b) (nat_lt a b) refl
      where
        ordered : (a ≡ b) ⊎ (a ≢ b) → (t : Bool) → nat_lt a b ≡ t → (a < b) ⊎ ((a ≡ b) ⊎ (b < a))
        ordered (inl same) t f = inr (inl same)
        ordered (inr n) true f = inl (grind (arith, nat_tests))
        ordered (inr n) false f = inr (inr (grind (arith, nat_tests)))

    gave : PeerRef × Addr × ℕ
    gave = (name, address, len)

    -- the deeds and the count of a slot that gave nothing
    other : (b : Bool) → (name.slot == i) ≡ false → nat_lt (turn i) (turn name.slot) ≡ b → asked_for (common_of h) i (Some gave) buf ≡ deeds_if b (Emit h.clock None)
    other b n t =
        ap (λ (x : Bool). cond x (Emit h.clock (Some (take len buf)) ∷ []) (deeds_if (nat_lt (turn i) (turn name.slot)) (Emit h.clock None))) n
        ∙ ap (λ (x : Bool). deeds_if x (Emit h.clock None)) t

    quiet : (name.slot == i) ≡ false → counted c (common_of h) i s ≡ s.emitted
    quiet n = ap (λ (x : Bool). cond x (min (s.emitted + len) greatest) s.emitted) n

    apart : (name.slot ≡ i → ⊥) → (name.slot == i) ≡ false
    apart n = grind (arith, nat_tests)

    by : (turn i < turn name.slot) ⊎ ((turn i ≡ turn name.slot) ⊎ (turn name.slot < turn i)) → Fares c (common_of h) i s there.0
    by (inl before) =
        let n : (name.slot == i) ≡ false = apart (λ e. let t : turn name.slot ≡ turn i = ap turn e in omega arith) in
        passed h i s there.0 (Some gave) buf (other true n (grind (arith, nat_tests))) (quiet n) (turned.before before)
    by (inr (inl equal)) =
        let e : i ≡ name.slot = turns-apart (length h.slots) h.service_from i name.slot low (slice_get_within h.slots name.slot x.slot x.there) equal in
        let g : PeerEmits h.clock len buf s there.0 = turned.here e in
        let y : (name.slot == i) ≡ true = grind (arith, nat_tests) in
        goes_on g.peer g.after (Emit h.clock (Some (take len buf)) ∷ []) g.held
        (sym (ap (λ (b : Bool). cond b (Emit h.clock (Some (take len buf)) ∷ []) (deeds_if (nat_lt (turn i) (turn name.slot)) (Emit h.clock None))) y))
        (g.after, alone-some h.clock len g.peer g.after buf g.puts, refl) (λ gone. begins-not c h i refl (with_peer s g.after))
        (g.left ∙ emitted-apart s g.after (min (s.emitted + len) greatest) ∙ ap (λ (b : Bool). having_emitted (with_peer s g.after) (cond b (min (s.emitted + len) greatest) s.emitted)) (sym y))
    by (inr (inr later)) =
        let n : (name.slot == i) ≡ false = apart (λ e. let t : turn name.slot ≡ turn i = ap turn e in omega arith) in
        untouched (λ p k. idle c (common_of h) i s p (sym (other false n (grind (arith, nat_tests))))) (λ none. begins-not c h i refl s) (turned.after later ∙ ap (λ (n : ℕ). having_emitted s n) (sym (quiet n)))

-- the event of a slot as its peer's
pub taken-event : (h : Common) (i : ℕ) (name : PeerRef) (e : PeerEvent) → taken_from h i (Some (event_of name e)) ≡ taken_up_to h i name e
taken-event h i name (told.Connect info) = refl
taken-event h i name (told.Receive packet) = refl
taken-event h i name (told.Disconnect info) = refl

-- a peer that has no event
mute : (o : Option Taken) → is_some o ≡ false → o ≡ None
mute None e = refl
mute (Some x) e = absurd (cc)

untold : (s : SlotState) (p : Peering) → s.peer ≡ Some p → tells s ≡ false → Alone (Take None) p p
untold s p held none = (mute (next_event p) (sym (ap peer_tells held) ∙ none), refl)

pub each-gave : (h : Host) (event : Event) (from : ℕ) (first : IsFirst tells h.slots h.event_from from) (t : SlotState) → GivesEvent from event first.slot t → Each (call.NextEvent (Some event)) h (slice_set h.slots from t)
each-gave h event from first t g =
    each-set c h from first.slot t first.there
    (goes_on g.peer g.taken.after (Take (Some g.taken.event) ∷ []) g.held
    (sym (fell from ∙ ap (λ (b : Bool). cond b (Take (Some g.taken.event) ∷ []) (before from)) (let e : (from == from) ≡ true = grind (arith, nat_tests) in e)))
    (g.taken.after, g.next, refl) (λ gone. begins-not c h from refl (with_peer first.slot g.taken.after)) (g.left ∙ counted-same first.slot g.taken.after first.slot.emitted refl))
    (λ i y. refl)
    (λ i other s p there held. by i s p there held (elsewhere i other) (nat_lt (turn i) (turn from)) refl)
    (λ i other. begins-not c h i refl)
  where
    c : Call
    c = call.NextEvent (Some event)

    turn : ℕ → ℕ
    turn i = turn_of (length h.slots) h.event_from i

    before : ℕ → List Deed
    before i = deeds_if (nat_lt (turn i) (turn from)) (Take None)

    fell : (i : ℕ) → taken_from (common_of h) i (Some event) ≡ up_to turn from i (Take (Some g.taken.event)) (Take None)
    fell i = ap (λ (e : Event). taken_from (common_of h) i (Some e)) g.told ∙ taken-event (common_of h) i (name_of from first.slot) g.taken.event

    elsewhere : (i : ℕ) → from ≢ i → taken_from (common_of h) i (Some event) ≡ before i
    elsewhere i other = fell i ∙ ap (λ (b : Bool). cond b (Take (Some g.taken.event) ∷ []) (before i)) (let e : (from == i) ≡ false = grind (arith, nat_tests) in e)

    by : (i : ℕ) (s : SlotState) (p : Peering) → slice_get h.slots i ≡ Some s → s.peer ≡ Some p → taken_from (common_of h) i (Some event) ≡ before i → (b : Bool) → nat_lt (turn i) (turn from) ≡ b → Stays c (common_of h) i s p
    by i s p there held is true e = record {
      deeds = Take None ∷ [];
      fell = sym (is ∙ ap (λ (b : Bool). deeds_if b (Take None)) e);
      alone = (p, untold s p held (first.before i s there (grind (arith, nat_tests))), refl);
    }
    by i s p there held is false e = idle c (common_of h) i s p (sym (is ∙ ap (λ (b : Bool). deeds_if b (Take None)) e))

pub each-mute : (h : Host) (after : List SlotState) → after ≡ h.slots → HoldsNowhere tells h.slots → Each (call.NextEvent None) h after
each-mute h after same none =
    each-none (call.NextEvent None) h after (λ i s. refl) same
    (λ i s p there held. record { deeds = Take None ∷ []; fell = refl; alone = (p, untold s p held (none i s there), refl) })
    (λ i. begins-not (call.NextEvent None) h i refl)
