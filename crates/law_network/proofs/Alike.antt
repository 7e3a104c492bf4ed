-- A slot fares in one way.
use Rattle.std.specs.Prelude.{is_some}
use Rattle.std.proofs.Common.{◌≡◌, ◌≢◌, ◌<◌, ◌≤◌, ℕ, suc, ◌+◌, ◌⊎◌, inl, inr, Bool, true, false, ◌&&◌, List, [], ◌∷◌, ◌++◌, length, refl, sym, ap, subst, ◌∙◌, arith, length-append, append-nil, Option, Some, None, Result, Ok, Err}
use Rattle.std.proofs.lemmas.List.{append_cancel_left}
use Rattle.std.specs.Int.{w16, to_be_bytes}
use Rattle.std.specs.List.{slice_get}
use Rattle.enet_codec.specs.declared.address.Addr.{Addr}
use Rattle.enet_codec.specs.declared.event.Received.{Received}
use Rattle.enet_codec.specs.declared.packet.Packet as codec
use Rattle.enet_codec.specs.declared.refusal.Refusal.{Refusal}
use Rattle.enet_codec.specs.declared.refusal.Refusal.TheVariants as refusal
use Rattle.enet_codec.specs.declared.stop.Stop.{Stop}
use Rattle.enet_codec.specs.declared.stop.Stop.TheVariants as stop
use Rattle.enet_codec.specs.declared.command.Offer.{Offer}
use Rattle.enet_codec.specs.declared.header.Header.{Header}
use Rattle.enet_codec.specs.Header.{header_word, header_text, sent_text}
use Rattle.enet_codec.specs.Message.{Message, Spells}
use Rattle.enet_codec.proofs.Laws.{one_spelling}
use Rattle.enet_codec.proofs.Datagrams.{some-bytes}
use Rattle.enet_outbox.specs.declared.parts.SendLimit.{SendLimit}
use Rattle.enet_peer.specs.Peering.{Peering}
use Rattle.enet_peer.specs.CommandEffect.{Outcome, Obeys, wants_memory}
use Rattle.enet_peer.specs.Refusing.{heeded}
use Rattle.enet_peer.specs.declared.parts.PeerState.TheVariants as state
use Rattle.enet_peer.specs.declared.parts.PeerEvent.{PeerEvent}
use Rattle.enet_peer.specs.Calls.{Taken, Refuses, is_answering}
use Rattle.enet_peer.specs.Calls as peers
use Rattle.enet_peer.specs.Handling.{Arrival, one_more}
use Rattle.enet_peer.specs.Handling as handling
use Rattle.enet_peer.specs.Heading.{IsRead, IsUnreadable, IsOffer}
use Rattle.enet_peer.specs.Heading as heading
use Rattle.enet_slot.specs.Slot.{SlotState, with_peer, name_of, greatest}
use Rattle.enet_slot.specs.Calls.{Does, DoesWithMemory, IsRefusedBy}
use Rattle.enet_slot.specs.Giving.{asking, answering}
use Rattle.enet_slot.specs.Entering.{awaits}
use Rattle.enet_slot.specs.Receiving.{no_peer, refused_by_slot, was_refused}
use Rattle.enet_host.specs.Receiving.{handled_one}
use Rattle.enet_host.specs.Ticking.{clock_after}
use Rattle.law_connection.specs.Steps as setting
use Rattle.law_connection.specs.Steps.{Way, Setting}
use Rattle.law_network.specs.Calls.{Call, Done}
use Rattle.law_network.specs.Calls as call
use Rattle.law_network.specs.Common.{Common, common_of, common_basis}
use Rattle.law_network.specs.Deeds.{Deed, Sets, Alone, AllAlone, Come, GiveWay, TellAgain, put_out}
use Rattle.law_network.specs.Deeds as deed
use Rattle.law_network.specs.Falling.{Falls, nothing_left, no_command, stops, Receipt, GetsSeat, Reaches, unreadable, elsewhere, turned_away, here, Fell, Begins, asks, answers, counted, deeds_if, is_meant, share_of}
use Rattle.law_network.specs.Falling as falling
use Rattle.law_network.specs.IsolationLaw.{Stays, Fares, untouched, goes_on, takes_over, begins, having_emitted}
use Rattle.law_network.specs.Alike.{asked, is_memory, is_wanting, OneAnswer, IsCounted, IsHeld, AgreeOnPeer, Agree, OneWay, Alike}
use Rattle.law_network.proofs.Agreeing.{asked-same, taken-same, share-same, receipt, full-same, falls-same, reaches-same, counts-same, answers-same, begins-same, free-back, peer-back}
use Rattle.law_network.proofs.OneCall.{one-call}
use Rattle.law_network.proofs.Receiving.{read-once, offer-once}
use Rattle.law_network.proofs.Slots.{held}

same-some : {X : Type 0} (x y : X) → ◌≡◌ {A = Option X} (Some x) (Some y) → x ≡ y
same-some x y e = cc

-- a deed leaves one peer

same-ok : (p q : Peering) (r : Result Peering Refusal) → r ≡ Ok p → r ≡ Ok q → p ≡ q
same-ok p q r e f = let x : ◌≡◌ {A = Result Peering Refusal} (Ok p) (Ok q) = sym e ∙ f in cc

does-once : (answer : Result (Unit {0}) Refusal) (outcome : Result Peering Refusal) (p q r : Peering) → Does answer outcome p q → Does answer outcome p r → q ≡ r
does-once (Ok done) outcome p q r a b = same-ok q r outcome a b
does-once (Err why) outcome p q r a b = a.1 ∙ sym b.1

does-once_memory : (answer : Result (Unit {0}) Refusal) (outcome : Result Peering Refusal) (p q r : Peering) → DoesWithMemory answer outcome p q → DoesWithMemory answer outcome p r → q ≡ r
does-once_memory (Ok done) outcome p q r a b = same-ok q r outcome a b
does-once_memory (Err why) outcome p q r a b = a.1 ∙ sym b.1

sets-once : (s : Setting) (answer : Result (Unit {0}) Refusal) (p q r : Peering) → Sets s answer p q → Sets s answer p r → q ≡ r
sets-once (setting.Bandwidth incoming outgoing) answer p q r a b = does-once_memory answer _ p q r a.0 b.0
sets-once (setting.Throttle interval acceleration deceleration) answer p q r a b = does-once_memory answer _ p q r a.0 b.0
sets-once (setting.ThrottleLimit limit) answer p q r a b = does-once answer _ p q r a b
sets-once (setting.PingInterval ms) answer p q r a b = does-once answer _ p q r a b
sets-once (setting.Timeout limit minimum maximum) answer p q r a b = does-once answer _ p q r a b

obeys-once : (answer : Result (Unit {0}) Stop) (o : Outcome) (p q r : Peering) (wants : _) → Obeys answer wants o p q → Obeys answer wants o p r → q ≡ r
obeys-once (Ok done) o p q r wants a b = a.1 ∙ sym b.1
obeys-once (Err stop.Memory) o p q r wants a b = a.2 ∙ sym b.2
obeys-once (Err why) o p q r wants a b = a.1 ∙ sym b.1

alone-once : (d : Deed) (p q r : Peering) → Alone d p q → Alone d p r → q ≡ r
alone-once (deed.Submit packet limit (Ok done)) p q r a b = a.1 ∙ sym b.1
alone-once (deed.Submit packet limit (Err e)) p q r a b = a.1 ∙ sym b.1
alone-once (deed.Emit now given) p q r a b = a.1 ∙ sym b.1
alone-once (deed.Come at m answer) p q r a b = obeys-once answer (heeded at.full p at.now at.sent m) p q r (wants_memory p at.now at.sent m) a b
alone-once (deed.Tick now short) p q r a b = a ∙ sym b
alone-once (deed.Take None) p q r a b = a.1 ∙ sym b.1
alone-once (deed.Take (Some e)) p q r a b = ap (λ (x : Taken). x.after) (same-some (record { event = e; after = q }) (record { event = e; after = r }) (sym a ∙ b))
alone-once (deed.Disconnect way info (Ok done)) p q r a b = same-some q r (sym a ∙ b)
alone-once (deed.Disconnect way info (Err why)) p q r a b = a.2 ∙ sym b.2
alone-once (deed.Set s answer) p q r a b = sets-once s answer p q r a b
alone-once deed.GiveWay p q r a b = a.1 ∙ sym b.1
alone-once deed.TellAgain p q r a b = a.1 ∙ sym b.1

all-once : (ds : List Deed) (p q r : Peering) → AllAlone ds p q → AllAlone ds p r → q ≡ r
all-once [] p q r a b = sym a ∙ b
all-once (d ∷ ds) p q r a b = all-once ds a.0 q r a.2 (subst (λ (x : Peering). AllAlone ds x r) (alone-once d p b.0 a.0 b.1 a.1) b.2)

-- and answers in one way, want of memory apart

refuses-first : (why : Refusal) (first : Option Refusal) → is_memory why ≡ false → Refuses why first → first ≡ Some why
refuses-first refusal.Memory first n h = absurd (cc)
refuses-first why first n h = h

refused-outcome : (why : Refusal) (outcome : Result Peering Refusal) → is_memory why ≡ false → IsRefusedBy why outcome → outcome ≡ Err why
refused-outcome refusal.Memory outcome n h = absurd (cc)
refused-outcome why outcome n h = h

ok-err : {A : Type 0} (r : Result Peering Refusal) (p : Peering) (why : Refusal) → r ≡ Ok p → r ≡ Err why → A
ok-err r p why e f = absurd (let x : ◌≡◌ {A = Result Peering Refusal} (Ok p) (Err why) = sym e ∙ f in cc)

same-err : (r : Result Peering Refusal) (why other : Refusal) → r ≡ Err why → r ≡ Err other → why ≡ other
same-err r why other e f = let x : ◌≡◌ {A = Result Peering Refusal} (Err why) (Err other) = sym e ∙ f in cc

some-none : {A X : Type 0} (o : Option X) (x : X) → o ≡ Some x → o ≡ None → A
some-none o x e f = absurd (let y : ◌≡◌ {A = Option _} (Some x) None = sym e ∙ f in cc)

same-submits : (q : codec.Packet) (l : Option SendLimit) (a b : Result (Unit {0}) (Refusal × List ℕ)) (p r t : Peering) → is_wanting (deed.Submit q l a) ≡ false → is_wanting (deed.Submit q l b) ≡ false → Alone (deed.Submit q l a) p r → Alone (deed.Submit q l b) p t → a ≡ b
same-submits q l (Ok done) (Ok done') p r t n m x y = refl
same-submits q l (Ok done) (Err e) p r t n m x y = some-none _ e.0 (refuses-first e.0 _ m y.2) x.0
same-submits q l (Err e) (Ok done) p r t n m x y = some-none _ e.0 (refuses-first e.0 _ n x.2) y.0
same-submits q l (Err e) (Err f) p r t n m x y =
    let why : e.0 ≡ f.0 = same-some e.0 f.0 (sym (refuses-first e.0 _ n x.2) ∙ refuses-first f.0 _ m y.2) in let body : e.1 ≡ f.1 = x.0 ∙ sym y.0 in λ i. Err (why i, body i)

stop_in : Result (Unit {0}) Stop → Option Stop
stop_in (Ok done) = None
stop_in (Err why) = Some why

-- the stop that is answered is the outcome's
answered-stop : (a : Result (Unit {0}) Stop) (at : Arrival) (m : Message) (p r : Peering) → is_wanting (deed.Come at m a) ≡ false → Alone (deed.Come at m a) p r → (heeded at.full p at.now at.sent m).stop ≡ stop_in a
unfolding stop_in
answered-stop (Ok done) at m p r n h = h.0
answered-stop (Err stop.Memory) at m p r n h = absurd (cc)
answered-stop (Err why) at m p r n h = h.0

same-stop : (a b : Result (Unit {0}) Stop) → stop_in a ≡ stop_in b → a ≡ b
unfolding stop_in
same-stop (Ok done) (Ok done') e = refl
same-stop (Ok done) (Err why) e = absurd (cc)
same-stop (Err why) (Ok done) e = absurd (cc)
same-stop (Err why) (Err other) e = ap (λ (w : Stop). Err w) (same-some why other e)

same-obeys : (a b : Result (Unit {0}) Stop) (at : Arrival) (m : Message) (p r t : Peering) → is_wanting (deed.Come at m a) ≡ false → is_wanting (deed.Come at m b) ≡ false → Alone (deed.Come at m a) p r → Alone (deed.Come at m b) p t → a ≡ b
same-obeys a b at m p r t n k x y = same-stop a b (sym (answered-stop a at m p r n x) ∙ answered-stop b at m p t k y)

same-takes : (a b : Option PeerEvent) (p r t : Peering) → Alone (deed.Take a) p r → Alone (deed.Take b) p t → a ≡ b
same-takes None None p r t x y = refl
same-takes None (Some e) p r t x y = some-none _ _ y x.0
same-takes (Some e) None p r t x y = some-none _ _ x y.0
same-takes (Some e) (Some f) p r t x y = ap (λ (k : Taken). Some k.event) (same-some (record { event = e; after = r }) (record { event = f; after = t }) (sym x ∙ y))

same-leaves : (a b : Done) (way : Way) (info : ℕ) (p r t : Peering) → Alone (deed.Disconnect way info a) p r → Alone (deed.Disconnect way info b) p t → a ≡ b
same-leaves (Ok done) (Ok done') way info p r t x y = refl
same-leaves (Ok done) (Err why) way info p r t x y = some-none _ r x y.0
same-leaves (Err why) (Ok done) way info p r t x y = some-none _ t y x.0
same-leaves (Err why) (Err other) way info p r t x y = ap (λ (w : Refusal). Err w) (x.1 ∙ sym y.1)

same-does : (outcome : Result Peering Refusal) (a b : Done) (p r t : Peering) → Does a outcome p r → Does b outcome p t → a ≡ b
same-does outcome (Ok done) (Ok done') p r t x y = refl
same-does outcome (Ok done) (Err why) p r t x y = ok-err outcome r why x y.0
same-does outcome (Err why) (Ok done) p r t x y = ok-err outcome t why y x.0
same-does outcome (Err why) (Err other) p r t x y = ap (λ (w : Refusal). Err w) (same-err outcome why other x.0 y.0)

same-does_memory : (s : Setting) (outcome : Result Peering Refusal) (a b : Done) (p r t : Peering) → is_wanting (deed.Set s a) ≡ false → is_wanting (deed.Set s b) ≡ false → DoesWithMemory a outcome p r → DoesWithMemory b outcome p t → a ≡ b
same-does_memory s outcome (Ok done) (Ok done') p r t n m x y = refl
same-does_memory s outcome (Ok done) (Err why) p r t n m x y = ok-err outcome r why x (refused-outcome why outcome m y.0)
same-does_memory s outcome (Err why) (Ok done) p r t n m x y = ok-err outcome t why y (refused-outcome why outcome n x.0)
same-does_memory s outcome (Err why) (Err other) p r t n m x y = ap (λ (w : Refusal). Err w) (same-err outcome why other (refused-outcome why outcome n x.0) (refused-outcome other outcome m y.0))

same-sets : (s : Setting) (a b : Done) (p r t : Peering) → is_wanting (deed.Set s a) ≡ false → is_wanting (deed.Set s b) ≡ false → Sets s a p r → Sets s b p t → a ≡ b
same-sets (setting.Bandwidth incoming outgoing) a b p r t n m x y = same-does_memory (setting.Bandwidth incoming outgoing) _ a b p r t n m x.0 y.0
same-sets (setting.Throttle interval acceleration deceleration) a b p r t n m x y = same-does_memory (setting.Throttle interval acceleration deceleration) _ a b p r t n m x.0 y.0
same-sets (setting.ThrottleLimit limit) a b p r t n m x y = same-does _ a b p r t x y
same-sets (setting.PingInterval ms) a b p r t n m x y = same-does _ a b p r t x y
same-sets (setting.Timeout limit minimum maximum) a b p r t n m x y = same-does _ a b p r t x y

-- the answer to the same question
same-deed : (d e : Deed) (p r t : Peering) → asked d ≡ asked e → is_wanting d ≡ false → is_wanting e ≡ false → Alone d p r → Alone e p t → d ≡ e
same-deed (deed.Submit q l a) (deed.Submit q' l' b) p r t is n m x y =
    let s : q ≡ q' = cc in
    let k : l ≡ l' = cc in
    let whole : ◌≡◌ {A = codec.Packet × Option SendLimit} (q, l) (q', l') = (λ i. (s i, k i)) in
    let same : a ≡ b = same-submits q l a b p r t n m x (subst (λ (z : codec.Packet × Option SendLimit). Alone (deed.Submit z.0 z.1 b) p t) (sym whole) y) in λ i. deed.Submit (s i) (k i) (same i)
same-deed (deed.Emit now a) (deed.Emit now' b) p r t is n m x y = let s : now ≡ now' = cc in let same : a ≡ b = x.0 ∙ ap (λ (z : ℕ). put_out p z) s ∙ sym y.0 in λ i. deed.Emit (s i) (same i)
same-deed (deed.Come at message a) (deed.Come at' message' b) p r t is n m x y =
    let s : at ≡ at' = cc in
    let g : message ≡ message' = cc in
    let whole : ◌≡◌ {A = Arrival × Message} (at, message) (at', message') = (λ i. (s i, g i)) in
    let same : a ≡ b = same-obeys a b at message p r t n m x (subst (λ (z : Arrival × Message). Alone (deed.Come z.0 z.1 b) p t) (sym whole) y) in
    λ i. deed.Come (s i) (g i) (same i)
same-deed (deed.Tick now short) (deed.Tick now' short') p r t is n m x y = is
same-deed (deed.Take a) (deed.Take b) p r t is n m x y = ap (λ (z : Option PeerEvent). deed.Take z) (same-takes a b p r t x y)
same-deed (deed.Disconnect way info a) (deed.Disconnect way' info' b) p r t is n m x y =
    let s : way ≡ way' = cc in
    let k : info ≡ info' = cc in
    let whole : ◌≡◌ {A = Way × ℕ} (way, info) (way', info') = (λ i. (s i, k i)) in
    let same : a ≡ b = same-leaves a b way info p r t x (subst (λ (z : Way × ℕ). Alone (deed.Disconnect z.0 z.1 b) p t) (sym whole) y) in λ i. deed.Disconnect (s i) (k i) (same i)
same-deed (deed.Set set a) (deed.Set set' b) p r t is n m x y =
    let s : set ≡ set' = cc in let same : a ≡ b = same-sets set a b p r t n m x (subst (λ (z : Setting). Alone (deed.Set z b) p t) (sym s) y) in λ i. deed.Set (s i) (same i)
same-deed deed.GiveWay deed.GiveWay p r t is n m x y = refl
same-deed deed.TellAgain deed.TellAgain p r t is n m x y = refl
same-deed d e p r t is n m x y = absurd (cc)

pub one-answer : OneAnswer
one-answer d e p q r is n m x y =
    let same : d ≡ e = same-deed d e p q r is n m x y in (same, alone-once d p q r x (subst (λ (z : Deed). Alone z p r) (sym same) y))

-- the commands of a datagram that is counted fall in one way

some-length : (text rest : List ℕ) (m : Message) → Spells text m → 0 < length (text ++ rest)
some-length text rest m spells = by (text ++ rest) (some-bytes text rest m spells)
  where
    by : (xs : List ℕ) → (xs ≡ [] → ⊥) → 0 < length xs
    by [] n = absurd (n refl)
    by (x ∷ xs) n = let l : length (x ∷ xs) ≡ suc (length xs) = refl in omega arith

some-text : (text : List ℕ) (m : Message) → Spells text m → 0 < length text
some-text text m spells = subst (λ (xs : List ℕ). 0 < length xs) (append-nil text) (some-length text [] m spells)

-- there is room for one more
shorter : (text rest : List ℕ) (m : Message) → Spells text m → (before : ℕ) → before + length (text ++ rest) ≤ greatest → (one_more before ≡ before + 1) × (before + 1 + length rest ≤ greatest)
shorter text rest m spells before low =
    let n : 0 < length text = some-text text m spells in
    let l : length (text ++ rest) ≡ length text + length rest = length-append text rest in
    let h : before + length (text ++ rest) ≤ greatest = low in (omega arith, omega arith)

-- how many were handled
handled-low : (arrival : Arrival) (before : ℕ) (bytes : List ℕ) (answer : Received) (ds : List Deed) → before + length bytes ≤ greatest → Falls arrival before bytes answer ds
    → (before ≤ answer.handled) × (answer.stop ≡ Some stop.NoSentTime → before + 1 ≤ answer.handled)
handled-low arrival before bytes answer ds low (nothing_left handled) = (omega arith, λ e. absurd (cc))
handled-low arrival before bytes answer ds low (no_command handled text some none) = (omega arith, λ e. absurd (cc))
handled-low arrival before bytes answer ds low (stops handled text rest m why spells) = by why
  where
    one : one_more handled ≡ handled + 1
    one = (shorter text rest m spells handled low).0

    by : (w : Stop) → (handled ≤ handling.counted handled w) × (◌≡◌ {A = Option Stop} (Some w) (Some stop.NoSentTime) → handled + 1 ≤ handling.counted handled w)
    by stop.NoSentTime = (let l : one_more handled ≡ handled + 1 = one in omega arith, λ e. let l : one_more handled ≡ handled + 1 = one in omega arith)
    by w = (omega arith, λ e. absurd (cc))
handled-low arrival before bytes answer ds low (falling.goes_on handled text rest m reply es spells more) =
    let room : (one_more handled ≡ handled + 1) × (handled + 1 + length rest ≤ greatest) = shorter text rest m spells handled low in
    let k : (one_more handled ≤ reply.handled) × (reply.stop ≡ Some stop.NoSentTime → one_more handled + 1 ≤ reply.handled) =
    handled-low arrival (one_more handled) rest reply es (let a : one_more handled ≡ handled + 1 = room.0 in let b : handled + 1 + length rest ≤ greatest = room.1 in omega arith) more in
    let a : one_more handled ≡ handled + 1 = room.0 in
    (let b : one_more handled ≤ reply.handled = k.0 in omega arith, λ e. let b : one_more handled + 1 ≤ reply.handled = k.1 e in omega arith)

-- a stop isn't followed by more
stop-last : (arrival : Arrival) (before : ℕ) (rest : List ℕ) (answer : Received) (ds : List Deed) (why : Stop) → before + 1 + length rest ≤ greatest → Falls arrival (before + 1) rest answer ds
    → answer ≡ record { handled = handling.counted before why; stop = Some why } → one_more before ≡ before + 1 → ⊥
stop-last arrival before rest answer ds why low falls is one = by why is
  where
    k : (before + 1 ≤ answer.handled) × (answer.stop ≡ Some stop.NoSentTime → before + 1 + 1 ≤ answer.handled)
    k = handled-low arrival (before + 1) rest answer ds low falls

    by : (w : Stop) → answer ≡ record { handled = handling.counted before w; stop = Some w } → ⊥
    by stop.NoSentTime e =
        let a : before + 1 + 1 ≤ answer.handled = k.1 (ap (λ (r : Received). r.stop) e) in
        let b : answer.handled ≡ one_more before = ap (λ (r : Received). r.handled) e in
        let o : one_more before ≡ before + 1 = one in absurd (omega arith)
    by w e = let a : before + 1 ≤ answer.handled = k.0 in let b : answer.handled ≡ before = ap (λ (r : Received). r.handled) e in absurd (omega arith)

-- one command stands at the front
same-front : (text rest text' rest' : List ℕ) (m n : Message) → Spells text m → Spells text' n → text ++ rest ≡ text' ++ rest' → (m ≡ n) × (rest ≡ rest')
same-front text rest text' rest' m n a b e =
    let one : (text ≡ text') × (m ≡ n) = one_spelling text text' rest rest' m n a b e in
    (one.1, append_cancel_left text' rest rest' (ap (λ (xs : List ℕ). xs ++ rest) (sym one.0) ∙ e))

falls-once : (arrival : Arrival) (n1 n2 : ℕ) (b1 b2 : List ℕ) (r1 r2 : Received) (ds es : List Deed) → n1 + length b1 ≤ greatest → n1 ≡ n2 → b1 ≡ b2 → r1 ≡ r2 → Falls arrival n1 b1 r1 ds → Falls arrival n2 b2 r2 es → ds ≡ es
falls-once arrival n1 n2 b1 b2 r1 r2 ds es low n b r (nothing_left h) (nothing_left k) = refl
falls-once arrival n1 n2 b1 b2 r1 r2 ds es low n b r (nothing_left h) (no_command k text some none) = refl
falls-once arrival n1 n2 b1 b2 r1 r2 ds es low n b r (nothing_left h) (stops k text rest m why spells) = absurd (some-bytes text rest m spells (sym b))
falls-once arrival n1 n2 b1 b2 r1 r2 ds es low n b r (nothing_left h) (falling.goes_on k text rest m reply fs spells more) = absurd (some-bytes text rest m spells (sym b))
falls-once arrival n1 n2 b1 b2 r1 r2 ds es low n b r (no_command h text some none) (nothing_left k) = refl
falls-once arrival n1 n2 b1 b2 r1 r2 ds es low n b r (no_command h text some none) (no_command k text' some' none') = refl
falls-once arrival n1 n2 b1 b2 r1 r2 ds es low n b r (no_command h bytes some none) (stops k text rest m why spells) = absurd (none m text rest b spells)
falls-once arrival n1 n2 b1 b2 r1 r2 ds es low n b r (no_command h bytes some none) (falling.goes_on k text rest m reply fs spells more) = absurd (none m text rest b spells)
falls-once arrival n1 n2 b1 b2 r1 r2 ds es low n b r (stops h text rest m why spells) (nothing_left k) = absurd (some-bytes text rest m spells b)
falls-once arrival n1 n2 b1 b2 r1 r2 ds es low n b r (stops h text rest m why spells) (no_command k bytes some none) = absurd (none m text rest (sym b) spells)
falls-once arrival n1 n2 b1 b2 r1 r2 ds es low n b r (stops h text rest m why spells) (stops k text' rest' m' why' spells') =
    let front : (m ≡ m') × (rest ≡ rest') = same-front text rest text' rest' m m' spells spells' b in
    let same : why ≡ why' = same-some why why' (ap (λ (x : Received). x.stop) r) in
    ap (λ (x : Message). Come arrival x (Err why) ∷ []) front.0 ∙ ap (λ (w : Stop). Come arrival m' (Err w) ∷ []) same
falls-once arrival n1 n2 b1 b2 r1 r2 ds es low n b r (stops h text rest m why spells) (falling.goes_on k text' rest' m' reply fs spells' more) =
    let front : (m ≡ m') × (rest ≡ rest') = same-front text rest text' rest' m m' spells spells' b in
    let room : (one_more h ≡ h + 1) × (h + 1 + length rest ≤ greatest) = shorter text rest m spells h low in
    let one : one_more k ≡ h + 1 = ap one_more (sym n) ∙ room.0 in
    absurd (stop-last arrival h rest' reply fs why (subst (λ (xs : List ℕ). h + 1 + length xs ≤ greatest) front.1 room.1) (subst (λ (x : ℕ). Falls arrival x rest' reply fs) one more) (sym r) room.0)
falls-once arrival n1 n2 b1 b2 r1 r2 ds es low n b r (falling.goes_on h text rest m reply fs spells more) (nothing_left k) = absurd (some-bytes text rest m spells b)
falls-once arrival n1 n2 b1 b2 r1 r2 ds es low n b r (falling.goes_on h text rest m reply fs spells more) (no_command k bytes some none) = absurd (none m text rest (sym b) spells)
falls-once arrival n1 n2 b1 b2 r1 r2 ds es low n b r (falling.goes_on h text rest m reply fs spells more) (stops k text' rest' m' why spells') =
    let room : (one_more h ≡ h + 1) × (h + 1 + length rest ≤ greatest) = shorter text rest m spells h low in
    absurd (stop-last arrival h rest reply fs why room.1 (subst (λ (x : ℕ). Falls arrival x rest reply fs) room.0 more) (r ∙ ap (λ (x : ℕ). record { handled = handling.counted x why; stop = Some why }) (sym n)) room.0)
falls-once arrival n1 n2 b1 b2 r1 r2 ds es low n b r (falling.goes_on h text rest m reply fs spells more) (falling.goes_on k text' rest' m' reply' gs spells' more') =
    let front : (m ≡ m') × (rest ≡ rest') = same-front text rest text' rest' m m' spells spells' b in
    let room : (one_more h ≡ h + 1) × (h + 1 + length rest ≤ greatest) = shorter text rest m spells h low in
    let later : fs ≡ gs =
    falls-once arrival (one_more h) (one_more k) rest rest' reply reply' fs gs (let a : one_more h ≡ h + 1 = room.0 in let l : h + 1 + length rest ≤ greatest = room.1 in omega arith) (ap one_more n) front.1 r more more' in
    ap (λ (x : Message). Come arrival x (Ok tt) ∷ fs) front.0 ∙ ap (λ (xs : List Deed). Come arrival m' (Ok tt) ∷ xs) later

-- what reaches a slot of a datagram

read-length : (bytes commands : List ℕ) (header : Header) → IsRead bytes header commands → (2 ≤ length bytes) × (length commands ≤ length bytes)
read-length bytes commands header read =
    let whole : bytes ≡ header_text header ++ commands = read.split ∙ ap (λ (xs : List ℕ). xs ++ commands) read.spelled.spelled in
    let l : length bytes ≡ length (header_text header ++ commands) = ap length whole in
    let a : length (header_text header ++ commands) ≡ length (header_text header) + length commands = length-append (header_text header) commands in
    let b : length (header_text header) ≡ length (to_be_bytes w16 (header_word header)) + length (sent_text header.sent) = length-append (to_be_bytes w16 (header_word header)) (sent_text header.sent) in
    let c : length (to_be_bytes w16 (header_word header)) ≡ 2 = refl in (omega arith, omega arith)

read-unread : (bytes commands : List ℕ) (header : Header) (why : Stop) → IsRead bytes header commands → IsUnreadable bytes why → ⊥
read-unread bytes commands header why read (heading.too_short few) = let l : 2 ≤ length bytes = (read-length bytes commands header read).0 in absurd (let f : length bytes < 2 = few in omega arith)
read-unread bytes commands header why read (heading.compressed long is) = absurd (let x : true ≡ false = sym is ∙ read.plain in cc)
read-unread bytes commands header why read (heading.cut_short long plain none) = none header read.front commands read.split read.spelled

-- a datagram that the slot takes in
record IsTaken (i : ℕ) (s : SlotState) (r : Receipt) : Type 0 where
  header : Header
  commands : List ℕ
  read : IsRead r.bytes header commands
  known : header.peer ≢ no_peer
  at : header.peer ≡ i
  open' : refused_by_slot r.from header.session (Some s) ≡ None

abbrev arrival_of : SlotState → Receipt → Header → Arrival
arrival_of s r header = record { now = r.host.clock; sent = header.sent; full = awaits s && r.host.full }

-- its commands come to its peer, or this is told again
reached : (M : List Deed → Type 0) (i : ℕ) (s : SlotState) (r : Receipt) (x : IsTaken i s r) → ((es : List Deed) → was_refused s ≡ false → Falls (arrival_of s r x.header) 0 x.commands r.answer es → M es) → (was_refused s ≡ true → M (deeds_if (is_some x.header.sent) TellAgain))
    → (es : List Deed) → Reaches i s r es → M es
reached M i s r x one two es (unreadable why u) = absurd (read-unread r.bytes x.commands x.header why x.read u)
reached M i s r x one two es (elsewhere header commands read away none) = by away
  where
    same : x.header ≡ header
    same = (read-once r.bytes x.commands commands x.header header x.read read).0

    by : (header.peer ≡ no_peer) ⊎ (header.peer ≢ i) → M []
    by (inl e) = absurd (x.known (ap (λ (h : Header). h.peer) same ∙ e))
    by (inr n) = absurd (n (ap (λ (h : Header). h.peer) (sym same) ∙ x.at))
reached M i s r x one two es (falling.gives_way header commands read g) =
    let same : x.header ≡ header = (read-once r.bytes x.commands commands x.header header x.read read).0 in absurd (x.known (ap (λ (h : Header). h.peer) same ∙ g.stranger))
reached M i s r x one two es (turned_away header commands why read known at refused is) =
    let same : x.header ≡ header = (read-once r.bytes x.commands commands x.header header x.read read).0 in
    let both : ◌≡◌ {A = Option Stop} None (Some why) = sym x.open' ∙ ap (λ (h : Header). refused_by_slot r.from h.session (Some s)) same ∙ refused in absurd (cc)
reached M i s r x one two es (here header commands es' read known at open' not' falls) =
    let same : (header ≡ x.header) × (commands ≡ x.commands) = read-once r.bytes commands x.commands header x.header read x.read in
    one es' not' (subst (λ (l : List ℕ). Falls (arrival_of s r x.header) 0 l r.answer es') same.1 (subst (λ (h : Header). Falls (arrival_of s r h) 0 commands r.answer es') same.0 falls))
reached M i s r x one two es (falling.told_again header commands read known at open' was is) =
    let same : x.header ≡ header = (read-once r.bytes x.commands commands x.header header x.read read).0 in
    subst (λ (h : Header). M (deeds_if (is_some h.sent) TellAgain)) same (two was)

not-both : {A : Type 0} (b : Bool) → b ≡ false → b ≡ true → A
not-both b e f = absurd (let x : false ≡ true = sym e ∙ f in cc)

same-peer-id : (bytes commands commands' : List ℕ) (header header' : Header) → IsRead bytes header commands → IsRead bytes header' commands' → header.peer ≡ no_peer → header'.peer ≡ no_peer
same-peer-id bytes commands commands' header header' read read' e = ap (λ (h : Header). h.peer) (sym (read-once bytes commands commands' header header' read read').0) ∙ e

-- a datagram that names another slot, or none, doesn't name this one
is-away : (i : ℕ) (r : Receipt) (header header' : Header) (commands commands' : List ℕ) → IsRead r.bytes header commands → IsRead r.bytes header' commands' → header'.peer ≢ no_peer → header'.peer ≡ i
    → ((header.peer ≡ no_peer) ⊎ (header.peer ≢ i)) → ⊥
is-away i r header header' commands commands' read read' known at (inl e) = known (same-peer-id r.bytes commands commands' header header' read read' e)
is-away i r header header' commands commands' read read' known at (inr n) =
    n (ap (λ (h : Header). h.peer) (read-once r.bytes commands commands' header header' read read').0 ∙ at)

-- an offer that gets the slot makes its peer give way
seated-once : (i : ℕ) (s : SlotState) (r : Receipt) (header : Header) (commands : List ℕ) → IsRead r.bytes header commands → GetsSeat i r header commands → (es : List Deed) → Reaches i s r es → GiveWay ∷ [] ≡ es
seated-once i s r header commands read g es (unreadable why u) = absurd (read-unread r.bytes commands header why read u)
seated-once i s r header commands read g es (elsewhere header' commands' read' away none) =
    let same : (header ≡ header') × (commands ≡ commands') = read-once r.bytes commands commands' header header' read read' in
    absurd (none (subst (λ (l : List ℕ). GetsSeat i r header' l) same.1 (subst (λ (h : Header). GetsSeat i r h commands) same.0 g)))
seated-once i s r header commands read g es (falling.gives_way header' commands' read' g') = refl
seated-once i s r header commands read g es (turned_away header' commands' why read' known at refused is) = absurd (known (same-peer-id r.bytes commands commands' header header' read read' g.stranger))
seated-once i s r header commands read g es (here header' commands' es' read' known at open' not' falls) = absurd (known (same-peer-id r.bytes commands commands' header header' read read' g.stranger))
seated-once i s r header commands read g es (falling.told_again header' commands' read' known at open' was is) = absurd (known (same-peer-id r.bytes commands commands' header header' read read' g.stranger))

heard-once : (i : ℕ) (s : SlotState) (r : Receipt) (x : IsTaken i s r) → length r.bytes ≤ greatest → was_refused s ≡ false → (ds : List Deed) → Falls (arrival_of s r x.header) 0 x.commands r.answer ds → (es : List Deed) → Reaches i s r es → ds ≡ es
heard-once i s r x low not' ds falls es y =
    reached (λ (l : List Deed). ds ≡ l) i s r x
    (λ l n f.
    let fits : length x.commands ≤ length r.bytes = (read-length r.bytes x.commands x.header x.read).1 in
    let most : length r.bytes ≤ greatest = low in falls-once (arrival_of s r x.header) 0 0 x.commands x.commands r.answer r.answer ds l (omega arith) refl refl refl falls f)
    (λ was. not-both (was_refused s) not' was) es y

again-once : (i : ℕ) (s : SlotState) (r : Receipt) (x : IsTaken i s r) → was_refused s ≡ true → (es : List Deed) → Reaches i s r es → deeds_if (is_some x.header.sent) TellAgain ≡ es
again-once i s r x was es y = reached (λ (l : List Deed). deeds_if (is_some x.header.sent) TellAgain ≡ l) i s r x (λ l n f. not-both (was_refused s) n was) (λ w. refl) es y

reaches-once : (i : ℕ) (s : SlotState) (r : Receipt) (ds es : List Deed) → length r.bytes ≤ greatest → Reaches i s r ds → Reaches i s r es → ds ≡ es
reaches-once i s r ds es low (here header commands ds' read known at open' not' falls) b =
    heard-once i s r (record { header = header; commands = commands; read = read; known = known; at = at; open' = open' }) low not' ds' falls es b
reaches-once i s r ds es low a (here header commands es' read known at open' not' falls) =
    sym (heard-once i s r (record { header = header; commands = commands; read = read; known = known; at = at; open' = open' }) low not' es' falls ds a)
reaches-once i s r ds es low (falling.told_again header commands read known at open' was is) b =
    again-once i s r (record { header = header; commands = commands; read = read; known = known; at = at; open' = open' }) was es b
reaches-once i s r ds es low a (falling.told_again header commands read known at open' was is) =
    sym (again-once i s r (record { header = header; commands = commands; read = read; known = known; at = at; open' = open' }) was ds a)
reaches-once i s r ds es low (falling.gives_way header commands read g) b = seated-once i s r header commands read g es b
reaches-once i s r ds es low a (falling.gives_way header commands read g) = sym (seated-once i s r header commands read g ds a)
reaches-once i s r ds es low a b = refl

-- in two hosts that agree on what it looks at a datagram reaches a peer alike

-- only one that waits for its client gives way
not-seated : {A : Type 0} (p q : Peering) → is_answering p.state ≡ false → AllAlone (GiveWay ∷ []) p q → A
not-seated p q idle alone = not-both (is_answering p.state) idle alone.1.0

elsewhere-once : (i : ℕ) (s : SlotState) (r : Receipt) (header : Header) (commands : List ℕ) (p q : Peering) → is_answering p.state ≡ false → IsRead r.bytes header commands → ((header.peer ≡ no_peer) ⊎ (header.peer ≢ i))
    → (es : List Deed) → Reaches i s r es → AllAlone es p q → [] ≡ es
elsewhere-once i s r header commands p q idle read away es (falling.gives_way header' commands' read' g) alone = not-seated p q idle alone
elsewhere-once i s r header commands p q idle read away es (here header' commands' es' read' known at open' not' falls) alone =
    absurd (is-away i r header header' commands commands' read read' known at away)
elsewhere-once i s r header commands p q idle read away es (falling.told_again header' commands' read' known at open' was is) alone =
    absurd (is-away i r header header' commands commands' read read' known at away)
elsewhere-once i s r header commands p q idle read away es y alone = refl

passes-alike : (g h : Common) (i : ℕ) (s : SlotState) (from : Addr) (bytes : List ℕ) (answer : Received) (p q q' : Peering) → length bytes ≤ greatest → g.clock ≡ h.clock → (awaits s && g.full) ≡ (awaits s && h.full)
    → is_answering p.state ≡ false → (ds es : List Deed) → Reaches i s (receipt g from bytes answer) ds → AllAlone ds p q → Reaches i s (receipt h from bytes answer) es → AllAlone es p q' → ds ≡ es
passes-alike g h i s from bytes answer p q q' low now full idle ds es (unreadable why u) alone b alone' = reaches-once i s (receipt h from bytes answer) ds es low (unreadable why u) b
passes-alike g h i s from bytes answer p q q' low now full idle ds es (elsewhere header commands read away none) alone b alone' =
    elsewhere-once i s (receipt h from bytes answer) header commands p q' idle read away es b alone'
passes-alike g h i s from bytes answer p q q' low now full idle ds es (falling.gives_way header commands read x) alone b alone' = not-seated p q idle alone
passes-alike g h i s from bytes answer p q q' low now full idle ds es (turned_away header commands why read some at refused is) alone b alone' =
    reaches-once i s (receipt h from bytes answer) ds es low (turned_away header commands why read some at refused is) b
passes-alike g h i s from bytes answer p q q' low now full idle ds es (here header commands ds' read some at taken not' falls) alone b alone' =
    reaches-once i s (receipt h from bytes answer) ds es low (here header commands ds' read some at taken not' (falls-same g h s header commands answer ds' now full falls)) b
passes-alike g h i s from bytes answer p q q' low now full idle ds es (falling.told_again header commands read some at taken was is) alone b alone' =
    reaches-once i s (receipt h from bytes answer) ds es low (falling.told_again header commands read some at taken was is) b

reaches-alike : (g h : Common) (i : ℕ) (s : SlotState) (from : Addr) (bytes : List ℕ) (answer : Received) (p q q' : Peering) (ds es : List Deed) → length bytes ≤ greatest → s.peer ≡ Some p → AgreeOnPeer (call.Receive from bytes answer) i p g h
    → Reaches i s (receipt g from bytes answer) ds → AllAlone ds p q → Reaches i s (receipt h from bytes answer) es → AllAlone es p q' → ds ≡ es
reaches-alike g h i s from bytes answer p q q' ds es low has e a alone b alone' = by (is_answering p.state) refl
  where
    full : (awaits s && g.full) ≡ (awaits s && h.full)
    full = full-same g h s p has (λ waits. (e.1 waits).0)

    by : (waits : Bool) → is_answering p.state ≡ waits → ds ≡ es
    by true is = reaches-once i s (receipt h from bytes answer) ds es low (reaches-same g h i s from bytes answer ds e.0 full (e.1 is).1 a) b
    by false idle = passes-alike g h i s from bytes answer p q q' low e.0 full idle ds es a alone b alone'

-- what falls to a peer by a call leaves it alike

once : (ds es : List Deed) (p q q' : Peering) → AllAlone ds p q → AllAlone es p q' → ds ≡ es → q ≡ q'
once ds es p q q' alone alone' same = all-once ds p q q' alone (subst (λ (xs : List Deed). AllAlone xs p q') (sym same) alone')

-- a submission with its answer does, whatever the limit was
submitted-once : (packet : codec.Packet) (l l' : Option SendLimit) (answer : Result (Unit {0}) (Refusal × List ℕ)) (p q q' : Peering) → Alone (deed.Submit packet l answer) p q → Alone (deed.Submit packet l' answer) p q' → q ≡ q'
submitted-once packet l l' (Ok done) p q q' a b = a.1 ∙ sym b.1
submitted-once packet l l' (Err e) p q q' a b = a.1 ∙ sym b.1

submitted-all : (does : Bool) (packet : codec.Packet) (l l' : Option SendLimit) (answer : Result (Unit {0}) (Refusal × List ℕ)) (p q q' : Peering) → AllAlone (deeds_if does (deed.Submit packet l answer)) p q
    → AllAlone (deeds_if does (deed.Submit packet l' answer)) p q' → q ≡ q'
submitted-all true packet l l' answer p q q' a b = sym a.2 ∙ submitted-once packet l l' answer p a.0 b.0 a.1 b.1 ∙ b.2
submitted-all false packet l l' answer p q q' a b = sym a ∙ b

fell-alike : (c : Call) (g h : Common) (i : ℕ) (s : SlotState) (p q q' : Peering) (ds es : List Deed) → IsCounted c → s.peer ≡ Some p → AgreeOnPeer c i p g h → Fell g (record { number = i; slot = s; peer = p }) c ds → AllAlone ds p q
    → Fell h (record { number = i; slot = s; peer = p }) c es → AllAlone es p q' → q ≡ q'
fell-alike (call.Receive from bytes answer) g h i s p q q' ds es low has e a alone b alone' = once ds es p q q' alone alone' (reaches-alike g h i s from bytes answer p q q' ds es low has e a alone b alone')
fell-alike (call.Connect address channels info word answer) g h i s p q q' ds es low has e a alone b alone' = once ds es p q q' alone alone' (a ∙ sym b)
fell-alike (call.Submit name channel packet answer) g h i s p q q' ds es low has e a alone b alone' =
    submitted-all (is_meant name i s) (record { channel = channel; flags = packet.flags; body = packet.body }) g.send_limit h.send_limit answer p q q'
    (subst (λ (xs : List Deed). AllAlone xs p q) a alone) (subst (λ (xs : List Deed). AllAlone xs p q') b alone')
fell-alike (call.Service answer buf) g h i s p q q' ds es low has e a alone b alone' = once ds es p q q' alone alone' (a ∙ asked-same g h i p answer buf e ∙ sym b)
fell-alike (call.Tick ms) g h i s p q q' ds es low has e a alone b alone' =
    let now : ℕ = clock_after g.clock ms in
    once ds es p q q' alone alone'
    (a ∙ ap (λ (xs : List Deed). deed.Tick now (g.short i) ∷ xs) (share-same g h now s.emitted (peers.moved (g.short i) p now) e.2)
    ∙ ap (λ (short : Bool). deed.Tick now short ∷ share_of h now s.emitted (peers.moved short p now)) e.1
    ∙ ap (λ (clock : ℕ). deed.Tick (clock_after clock ms) (h.short i) ∷ share_of h (clock_after clock ms) s.emitted (peers.moved (h.short i) p (clock_after clock ms))) e.0
    ∙ sym b)
fell-alike (call.Disconnect mode name info answer) g h i s p q q' ds es low has e a alone b alone' = once ds es p q q' alone alone' (a ∙ sym b)
fell-alike (call.SetBandwidth incoming outgoing (Ok done)) g h i s p q q' ds es low has e a alone b alone' = once ds es p q q' alone alone' (a ∙ sym b)
fell-alike (call.SetBandwidth incoming outgoing (Err why)) g h i s p q q' ds es low has e a alone b alone' = once ds es p q q' alone alone' (a ∙ sym b)
fell-alike (call.ConfigureThrottle name interval acceleration deceleration answer) g h i s p q q' ds es low has e a alone b alone' = once ds es p q q' alone alone' (a ∙ sym b)
fell-alike (call.SetPingInterval name ms answer) g h i s p q q' ds es low has e a alone b alone' = once ds es p q q' alone alone' (a ∙ sym b)
fell-alike (call.SetTimeout name limit minimum maximum answer) g h i s p q q' ds es low has e a alone b alone' = once ds es p q q' alone alone' (a ∙ sym b)
fell-alike (call.NextEvent answer) g h i s p q q' ds es low has e a alone b alone' = once ds es p q q' alone alone' (a ∙ taken-same g h i p answer e ∙ sym b)
fell-alike (call.Admit what answer) g h i s p q q' ds es low has e a alone b alone' = once ds es p q q' alone alone' (a ∙ sym b)
fell-alike (call.SetSendLimit bytes commands) g h i s p q q' ds es low has e a alone b alone' = once ds es p q q' alone alone' (a ∙ sym b)

-- a stranger's datagram does something to a peer only if that gives way
gives-way : (i : ℕ) (s : SlotState) (r : Receipt) (header : Header) (commands : List ℕ) (p q : Peering) → IsRead r.bytes header commands → header.peer ≡ no_peer
    → (ds : List Deed) → Reaches i s r ds → AllAlone ds p q → (ds ≡ [] → ⊥) → is_answering p.state ≡ true
gives-way i s r header commands p q read stranger ds (falling.gives_way header' commands' read' g) alone some = alone.1.0
gives-way i s r header commands p q read stranger ds (here header' commands' es' read' known at open' not' falls) alone some =
    absurd (known (same-peer-id r.bytes commands commands' header header' read read' stranger))
gives-way i s r header commands p q read stranger ds (falling.told_again header' commands' read' known at open' was is) alone some =
    absurd (known (same-peer-id r.bytes commands commands' header header' read read' stranger))
gives-way i s r header commands p q read stranger ds y alone some = absurd (some refl)

-- a connection begins alike where a slot's peer left it first, for which a call that asks doesn't fall to it
begins-over : (c : Call) (g h : Common) (i : ℕ) (r s u : SlotState) (p q : Peering) (ds : List Deed) → AgreeOnPeer c i p g h → Fell g (record { number = i; slot = r; peer = p }) c ds → AllAlone ds p q → (ds ≡ [] → ⊥)
    → Begins c g i s u → Begins c h i s u
begins-over c g h i r s u p q ds e fell alone some (asks address channels info word is none at) = absurd (some (subst (λ (x : Call). Fell g (record { number = i; slot = r; peer = p }) x ds) is fell))
begins-over c g h i r s u p q ds e fell alone some (answers from bytes commands header o is read stranger offer taken new at) =
    let k : AgreeOnPeer (call.Receive from bytes handled_one) i p g h = subst (λ (x : Call). AgreeOnPeer x i p g h) is e in
    let f : Reaches i r (receipt g from bytes handled_one) ds = subst (λ (x : Call). Fell g (record { number = i; slot = r; peer = p }) x ds) is fell in
    let waits : is_answering p.state ≡ true = gives-way i r (receipt g from bytes handled_one) header commands p q read stranger ds f alone some in
    answers-same c g h i s from bytes commands header o is read stranger offer taken new at (k.1 waits).1

-- and a connection begins in one way

begins-once : (c : Call) (h : Common) (i : ℕ) (s t u : SlotState) → Begins c h i s t → Begins c h i s u → t ≡ u
begins-once c h i s t u (asks address channels info word is some at) (asks address' channels' info' word' is' some' at') = same (sym is ∙ is')
  where
    same : call.Connect address channels info word (Ok (name_of i s)) ≡ call.Connect address' channels' info' word' (Ok (name_of i s)) → asking (common_basis h) i s (record { address = address; channels = channels; info = info; word = word }) ≡ asking (common_basis h) i s (record { address = address'; channels = channels'; info = info'; word = word' })
    same e =
        let a : address ≡ address' = cc in
        let n : channels ≡ channels' = cc in
        let f : info ≡ info' = cc in
        let w : word ≡ word' = cc in
        ap (λ (x : Addr). asking (common_basis h) i s (record { address = x; channels = channels; info = info; word = word })) a ∙ ap (λ (x : ℕ). asking (common_basis h) i s (record { address = address'; channels = x; info = info; word = word })) n
        ∙ ap (λ (x : ℕ). asking (common_basis h) i s (record { address = address'; channels = channels'; info = x; word = word })) f
        ∙ ap (λ (x : ℕ). asking (common_basis h) i s (record { address = address'; channels = channels'; info = info'; word = x })) w
begins-once c h i s t u (asks address channels info word is some at) (answers from bytes commands header o is' read stranger offer taken new at') =
    absurd (let e : call.Connect address channels info word (Ok (name_of i s)) ≡ call.Receive from bytes handled_one = sym is ∙ is' in cc)
begins-once c h i s t u (answers from bytes commands header o is read stranger offer taken new at) (asks address channels info word is' some at') =
    absurd (let e : call.Connect address channels info word (Ok (name_of i s)) ≡ call.Receive from bytes handled_one = sym is' ∙ is in cc)
begins-once c h i s t u (answers from bytes commands header o is read stranger offer taken new at) (answers from' bytes' commands' header' o' is' read' stranger' offer' taken' new' at') = same (sym is ∙ is')
  where
    same : call.Receive from bytes handled_one ≡ call.Receive from' bytes' handled_one → answering (common_basis h) i s from o ≡ answering (common_basis h) i s from' o'
    same e =
        let f : from ≡ from' = cc in
        let b : bytes ≡ bytes' = cc in
        let c : commands ≡ commands' = (read-once bytes' commands commands' header header' (subst (λ (x : List ℕ). IsRead x header commands) b read) read').1 in
        let k : o ≡ o' = offer-once commands' o o' (subst (λ (x : List ℕ). IsOffer x o) c offer) offer' in
        ap (λ (x : Addr). answering (common_basis h) i s x o) f ∙ ap (λ (x : Offer). answering (common_basis h) i s from' x) k

-- a slot fares in one way

none-some : {A : Type 0} (o : Option Peering) (p : Peering) → o ≡ None → o ≡ Some p → A
none-some o p e f = absurd (let y : ◌≡◌ {A = Option Peering} None (Some p) = sym e ∙ f in cc)

-- of a slot that holds a peer
peers-agree : (c : Call) (g h : Common) (i : ℕ) (s : SlotState) (p : Peering) → Agree c i s.peer g h → s.peer ≡ Some p → AgreeOnPeer c i p g h
peers-agree c g h i s p agree has = subst (λ (o : Option Peering). Agree c i o g h) has agree

-- a peer that stays in one host leaves its slot as it is in the other
stays-so : (c : Call) (g h : Common) (i : ℕ) (s u : SlotState) (p q : Peering) (ds : List Deed) → IsCounted c → IsHeld s → s.peer ≡ Some p → AgreeOnPeer c i p g h → Stays c g i s p → Fell h (record { number = i; slot = s; peer = p }) c ds
    → AllAlone ds p q → u ≡ having_emitted (with_peer s q) (counted c h i s) → u ≡ having_emitted s (counted c h i s)
stays-so c g h i s u p q ds low live has agree stays fell alone e =
    let same : q ≡ p = sym (fell-alike c g h i s p p q stays.deeds ds low has agree stays.fell stays.alone fell alone) in
    e ∙ ap (λ (x : Peering). having_emitted (with_peer s x) (counted c h i s)) same
    ∙ ap (λ (x : SlotState). having_emitted x (counted c h i s)) (held s p (live p has) ∙ ap (λ (o : Option Peering). record s { peer = o }) (sym has))

-- a slot counts the same bytes
counting : (c : Call) (g h : Common) (i : ℕ) (s t : SlotState) → Agree c i s.peer g h → having_emitted t (counted c g i s) ≡ having_emitted t (counted c h i s)
counting c g h i s t agree = ap (λ (n : ℕ). having_emitted t n) (counts-same c g h i s s.peer agree)

-- what falls to a peer leaves it alike
same-after : (c : Call) (g h : Common) (i : ℕ) (s : SlotState) (p r q q' : Peering) (ds es : List Deed) → IsCounted c → Agree c i s.peer g h → s.peer ≡ Some p → s.peer ≡ Some r → Fell g (record { number = i; slot = s; peer = p }) c ds → AllAlone ds p q
    → Fell h (record { number = i; slot = s; peer = r }) c es → AllAlone es r q' → q ≡ q'
same-after c g h i s p r q q' ds es low agree has has' fell alone fell' alone' =
    let same : r ≡ p = same-some r p (sym has' ∙ has) in
    let its : AllAlone es p q' = subst (λ (x : Peering). AllAlone es x q') same alone' in
    fell-alike c g h i s p q q' ds es low has (peers-agree c g h i s p agree has) fell alone (subst (λ (x : Peering). Fell h (record { number = i; slot = s; peer = x }) c es) same fell') its

-- one that is free then did something
did-some : (s : SlotState) (p q : Peering) (ds : List Deed) → IsHeld s → s.peer ≡ Some p → AllAlone ds p q → q.state ≡ state.Free → ds ≡ [] → ⊥
did-some s p q ds live has alone gone e = live p has (ap (λ (x : Peering). x.state) (let same : p ≡ q = subst (λ (xs : List Deed). AllAlone xs p q) e alone in same) ∙ gone)

-- one that stays in one host isn't left free in the other
not-stays : {A : Type 0} (c : Call) (g h : Common) (i : ℕ) (s : SlotState) (p q : Peering) (ds : List Deed) → IsCounted c → IsHeld s → s.peer ≡ Some p → AgreeOnPeer c i p g h → Stays c g i s p → Fell h (record { number = i; slot = s; peer = p }) c ds
    → AllAlone ds p q → q.state ≡ state.Free → A
not-stays c g h i s p q ds low live has agree stays fell alone gone =
    let same : q ≡ p = sym (fell-alike c g h i s p p q stays.deeds ds low has agree stays.fell stays.alone fell alone) in
    absurd (live p has (ap (λ (x : Peering). x.state) (sym same) ∙ gone))

-- where a connection begins in the slot that a peer left, it does in both hosts
over-same : (c : Call) (g h : Common) (i : ℕ) (s u : SlotState) (p q q' : Peering) (ds : List Deed) → IsHeld s → Agree c i s.peer g h → s.peer ≡ Some p → Fell g (record { number = i; slot = s; peer = p }) c ds → AllAlone ds p q → q.state ≡ state.Free → q ≡ q'
    → Begins c g i (with_peer s q) u → Begins c h i (with_peer s q') u
over-same c g h i s u p q q' ds live agree has fell alone gone same b =
    subst (λ (x : Peering). Begins c h i (with_peer s x) u) same
    (begins-over c g h i s (with_peer s q) u p q ds (peers-agree c g h i s p agree has) fell alone (did-some s p q ds live has alone gone) b)

back : (c : Call) (g h : Common) (i : ℕ) (o : Option Peering) → Agree c i o g h → Agree c i o h g
back c g h i None agree = free-back c g h i agree
back c g h i (Some p) agree = peer-back c g h i p agree

pub one-way : OneWay
one-way c g h i s t u low live agree (untouched stays not' e) (untouched stays' not'' f) = e ∙ counting c g h i s s agree ∙ sym f
one-way c g h i s t u low live agree (untouched stays not' e) (goes_on p q ds has fell alone none f) =
    e ∙ counting c g h i s s agree ∙ sym (stays-so c g h i s u p q ds low live has (peers-agree c g h i s p agree has) (stays p has) fell alone f)
one-way c g h i s t u low live agree (untouched stays not' e) (takes_over p q ds has fell alone gone left b) =
    not-stays c g h i s p q ds low live has (peers-agree c g h i s p agree has) (stays p has) fell alone gone
one-way c g h i s t u low live agree (untouched stays not' e) (begins none left b) =
    absurd (not' none u (begins-same c h g i s u (free-back c g h i (subst (λ (o : Option Peering). Agree c i o g h) none agree)) b))
one-way c g h i s t u low live agree (goes_on p q ds has fell alone none e) (untouched stays not' f) =
    stays-so c h g i s t p q ds low live has (peer-back c g h i p (peers-agree c g h i s p agree has)) (stays p has) fell alone e ∙ counting c g h i s s agree ∙ sym f
one-way c g h i s t u low live agree (goes_on p q ds has fell alone none e) (goes_on p' q' es has' fell' alone' none' f) =
    e ∙ counting c g h i s (with_peer s q) agree ∙ ap (λ (x : Peering). having_emitted (with_peer s x) (counted c h i s)) (same-after c g h i s p p' q q' ds es low agree has has' fell alone fell' alone') ∙ sym f
one-way c g h i s t u low live agree (goes_on p q ds has fell alone none e) (takes_over p' q' es has' fell' alone' gone left b) =
    let same : q ≡ q' = same-after c g h i s p p' q q' ds es low agree has has' fell alone fell' alone' in
    absurd (none (ap (λ (x : Peering). x.state) same ∙ gone) u (over-same c h g i s u p' q' q es live (back c g h i s.peer agree) has' fell' alone' gone (sym same) b))
one-way c g h i s t u low live agree (goes_on p q ds has fell alone none e) (begins none' left b) = none-some s.peer p none' has
one-way c g h i s t u low live agree (takes_over p q ds has fell alone gone left b) (untouched stays not' f) =
    not-stays c h g i s p q ds low live has (peer-back c g h i p (peers-agree c g h i s p agree has)) (stays p has) fell alone gone
one-way c g h i s t u low live agree (takes_over p q ds has fell alone gone left b) (goes_on p' q' es has' fell' alone' none f) =
    let same : q ≡ q' = same-after c g h i s p p' q q' ds es low agree has has' fell alone fell' alone' in
    absurd (none (ap (λ (x : Peering). x.state) (sym same) ∙ gone) t (over-same c g h i s t p q q' ds live agree has fell alone gone same b))
one-way c g h i s t u low live agree (takes_over p q ds has fell alone gone left b) (takes_over p' q' es has' fell' alone' gone' left' b') =
    let same : q ≡ q' = same-after c g h i s p p' q q' ds es low agree has has' fell alone fell' alone' in
    begins-once c h i (with_peer s q') t u (over-same c g h i s t p q q' ds live agree has fell alone gone same b) b'
one-way c g h i s t u low live agree (takes_over p q ds has fell alone gone left b) (begins none left' b') = none-some s.peer p none has
one-way c g h i s t u low live agree (begins none left b) (untouched stays not' f) = absurd (not' none t (begins-same c g h i s t (subst (λ (o : Option Peering). Agree c i o g h) none agree) b))
one-way c g h i s t u low live agree (begins none left b) (goes_on p q ds has fell alone none' f) = none-some s.peer p none has
one-way c g h i s t u low live agree (begins none left b) (takes_over p q ds has fell alone gone left' b') = none-some s.peer p none has
one-way c g h i s t u low live agree (begins none left b) (begins none' left' b') =
    begins-once c h i s t u (begins-same c g h i s t (subst (λ (o : Option Peering). Agree c i o g h) none agree) b) b'

pub alike : Alike
alike c g after h after' i s low keeps agree there there' acts acts' =
    let t : (t : SlotState) × (slice_get after.slots i ≡ Some t) × Fares c (common_of g) i s t = one-call c g after acts i s there in
    let u : (u : SlotState) × (slice_get after'.slots i ≡ Some u) × Fares c (common_of h) i s u = one-call c h after' acts' i s there' in
    t.1 ∙ ap (λ (x : SlotState). Some x) (one-way c (common_of g) (common_of h) i s t.0 u.0 low (λ p has. keeps.held i s p there has) agree t.2 u.2) ∙ sym u.1
