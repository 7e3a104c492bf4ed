-- A call of connect, and a datagram that comes.
use Rattle.std.specs.Prelude.{is_some}
use Rattle.std.proofs.Common.{◌≡◌, ◌≢◌, ℕ, ◌⊎◌, inl, inr, Bool, true, false, ◌&&◌, List, [], ◌∷◌, ◌++◌, refl, sym, ap, subst, ◌∙◌, arith, Option, Some, None, Result, Ok, Err, slice_set, ◌<◌}
use Rattle.std.proofs.lemmas.List.{append_cancel_left}
use Rattle.std.specs.List.{slice_get}
use Rattle.enet_codec.specs.declared.address.Addr.{Addr}
use Rattle.enet_codec.specs.declared.event.PeerRef.{PeerRef}
use Rattle.enet_codec.specs.declared.event.Received.{Received}
use Rattle.enet_codec.specs.declared.refusal.Refusal.{Refusal}
use Rattle.enet_codec.specs.declared.refusal.Refusal.TheVariants as refusal
use Rattle.enet_codec.specs.declared.stop.Stop.{Stop}
use Rattle.enet_codec.specs.declared.stop.Stop.TheVariants as stop
use Rattle.enet_codec.specs.declared.command.Offer.{Offer}
use Rattle.enet_codec.specs.declared.header.Header.{Header}
use Rattle.enet_codec.specs.Message.{Message, connect}
use Rattle.enet_codec.proofs.HeaderLaws.{one_header}
use Rattle.enet_codec.proofs.Laws.{one_spelling}
use Rattle.enet_peer.specs.Peering.{Peering}
use Rattle.enet_peer.specs.Endings.{freed}
use Rattle.enet_peer.specs.Handling.{Arrival, HearsIf}
use Rattle.enet_peer.specs.Heading.{IsUnreadable, IsRead, IsOffer}
use Rattle.enet_peer.specs.Refusing.{is_turned_away, reminded}
use Rattle.enet_slot.specs.Slot.{SlotState, name_of, with_peer}
use Rattle.enet_slot.specs.Entering.{awaits}
use Rattle.enet_slot.specs.Yielding.{readied}
use Rattle.enet_host.specs.Host.{Host}
use Rattle.enet_slot.specs.Giving.{asking, answering}
use Rattle.enet_host.specs.Opening.{host_basis, available, seat, Connects}
use Rattle.enet_host.specs.Opening as opening
use Rattle.enet_slot.specs.Receiving.{no_peer, refused_by_slot, stopped, was_refused, was_refused_in, PeerReceives}
use Rattle.enet_host.specs.Receiving.{refused_by, refuses_at, is_full, is_known, listener_of, offer_refused, Offers, Arrives, handled_one}
use Rattle.enet_host.specs.Receiving as receiving
use Rattle.law_network.specs.Calls.{Call}
use Rattle.law_network.specs.Calls as call
use Rattle.law_network.specs.Common.{common_of}
use Rattle.law_network.specs.Deeds.{AllAlone, GiveWay, TellAgain}
use Rattle.law_network.specs.Falling.{Receipt, GetsSeat, Fell, Begins, unreadable, elsewhere, gives_way, turned_away, here, asks, answers, deeds_if}
use Rattle.law_network.specs.Falling as falling
use Rattle.law_network.specs.IsolationLaw.{Fares, goes_on, takes_over, begins}
use Rattle.law_network.proofs.Lists.{same-or}
use Rattle.law_network.proofs.Coming.{Came, came}
use Rattle.law_network.proofs.Seats.{IsOpen, holds_none, holds_waiting, seat-open, readied-free, readied-waits, freed-low}
use Rattle.law_network.proofs.Slots.{counted-same}
use Rattle.law_network.proofs.Single.{Each, StaysAt, idle, BeginsNot, begins_in, begins-at, each-none, each-set}
pub use Rattle.law_network.proofs.Seats.{is_open}

-- a connection begins in one slot only
apart-begins : (c : Call) (h : Host) (j : ℕ) → begins_in c h ≡ Some j → (i : ℕ) → j ≢ i → BeginsNot c h i
apart-begins c h j at i other s u b = other (let x : ◌≡◌ {A = Option ℕ} (Some j) (Some i) = sym at ∙ begins-at c h i s u b in cc)

-- none begins where a question is refused
refused-begins : (h : Host) (address : Addr) (channels info word : ℕ) (why : Refusal) (i : ℕ) → BeginsNot (call.Connect address channels info word (Err why)) h i
refused-begins h address channels info word why i s u (asks a2 c2 i2 w2 is some at) = absurd (cc)
refused-begins h address channels info word why i s u (answers from bytes commands header o is read stranger offer taken new at) = absurd (cc)

pub each-connects : (h : Host) (address : Addr) (channels info word : ℕ) (answer : Result PeerRef Refusal) (slots after : List SlotState) → slots ≡ h.slots → Connects (host_basis h) slots (record { address = address; channels = channels; info = info; word = word }) answer after
    → Each (call.Connect address channels info word answer) h after
each-connects h address channels info word answer slots after same (opening.no_channel zero-channels) = each-none _ h slots (λ i s. refl) same (λ i s p there held. idle _ (common_of h) i s p refl) (refused-begins h address channels info word refusal.BadConfig)
each-connects h address channels info word answer slots after same (opening.no_slot some free) = each-none _ h slots (λ i s. refl) same (λ i s p there held. idle _ (common_of h) i s p refl) (refused-begins h address channels info word refusal.NoSlot)
each-connects h address channels info word answer slots after same (opening.no_memory j some free) = each-none _ h slots (λ i s. refl) same (λ i s p there held. idle _ (common_of h) i s p refl) (refused-begins h address channels info word refusal.Memory)
each-connects h address channels info word answer slots after same (opening.asks j s some free there) =
    let open' : (s.peer ≡ None) × (s.generation < h.config.generations) = is_open h.config slots j s free there in
    let at : available h.config h.slots ≡ Some j = ap (λ (xs : List SlotState). available h.config xs) (sym same) ∙ free in
    subst (λ (xs : List SlotState). Each (call.Connect address channels info word (Ok (name_of j s))) h (slice_set xs j (asking (host_basis h) j s (record { address = address; channels = channels; info = info; word = word })))) (sym same)
    (each-set (call.Connect address channels info word (Ok (name_of j s))) h j s (asking (host_basis h) j s (record { address = address; channels = channels; info = info; word = word })) (ap (λ (xs : List SlotState). slice_get xs j) (sym same) ∙ there)
    (begins open'.0 open'.1 (asks address channels info word refl some at)) (λ i x. refl) (λ i other x p there held. idle _ (common_of h) i x p refl) (apart-begins (call.Connect address channels info word (Ok (name_of j s))) h j at))

-- a datagram is read in one way
append-same : (a b x y : List ℕ) → a ≡ b → a ++ x ≡ b ++ y → x ≡ y
append-same a b x y e f = append_cancel_left b x y (ap (λ (z : List ℕ). z ++ x) (sym e) ∙ f)

pub read-once : (bytes commands cs : List ℕ) (header g : Header) → IsRead bytes header commands → IsRead bytes g cs → (header ≡ g) × (commands ≡ cs)
read-once bytes commands cs header g a b =
    let both : a.front ++ commands ≡ b.front ++ cs = sym a.split ∙ b.split in
    let one : (a.front ≡ b.front) × (header ≡ g) = one_header a.front b.front commands cs header g a.spelled b.spelled both in
    (one.1, append-same a.front b.front commands cs one.0 both)

pub offer-once : (bytes : List ℕ) (o q : Offer) → IsOffer bytes o → IsOffer bytes q → o ≡ q
offer-once bytes o q a b =
    let one : (bytes ≡ bytes) × (◌≡◌ {A = Message} (record { head = a.0; body = connect o }) (record { head = b.0; body = connect q })) = one_spelling bytes bytes [] [] _ _ a.1 b.1 refl in
    let body : connect o ≡ connect q = ap (λ (m : Message). m.body) one.1 in
    cc

-- how many commands of a datagram were handled
abbrev handled_in : Call → ℕ
handled_in (call.Receive from bytes answer) = answer.handled
handled_in c = 0

-- none begins by a datagram that isn't handled
stopped-begins : (h : Host) (from : Addr) (bytes : List ℕ) (why : Stop) (i : ℕ) → BeginsNot (call.Receive from bytes (stopped why)) h i
stopped-begins h from bytes why i s u (asks a2 c2 i2 w2 is some at) = absurd (cc)
stopped-begins h from bytes why i s u (answers f2 b2 commands header o is read stranger offer taken new at) = absurd (let x : 0 ≡ 1 = ap handled_in is in omega arith)

-- none by an offer of a connection that is there
known-begins : (h : Host) (from : Addr) (bytes commands : List ℕ) (header : Header) (o : Offer) (i : ℕ) → IsRead bytes header commands → IsOffer commands o → is_known h.slots from o ≡ true → BeginsNot (call.Receive from bytes handled_one) h i
known-begins h from bytes commands header o i read offer known s u (asks a2 c2 i2 w2 is some at) = absurd (cc)
known-begins h from bytes commands header o i read offer known s u (answers f2 b2 cs g q is read2 stranger offer2 taken new at) =
    let same-bytes : bytes ≡ b2 = cc in
    let same-from : from ≡ f2 = cc in
    let same : (header ≡ g) × (commands ≡ cs) = read-once b2 commands cs header g (subst (λ (b : List ℕ). IsRead b header commands) same-bytes read) read2 in
    let one : o ≡ q = offer-once cs o q (subst (λ (b : List ℕ). IsOffer b o) same.1 offer) offer2 in
    let is-known : true ≡ is_known h.slots f2 q = sym known ∙ ap (λ (a : Addr). is_known h.slots a o) same-from ∙ ap (λ (x : Offer). is_known h.slots f2 x) one in
    absurd (let x : true ≡ false = is-known ∙ new in cc)

-- none by a datagram for a peer
heard-begins : (h : Host) (from : Addr) (bytes commands : List ℕ) (header : Header) (answer : Received) (i : ℕ) → IsRead bytes header commands → header.peer ≢ no_peer → BeginsNot (call.Receive from bytes answer) h i
heard-begins h from bytes commands header answer i read known s u (asks a2 c2 i2 w2 is some at) = absurd (cc)
heard-begins h from bytes commands header answer i read known s u (answers f2 b2 cs g q is read2 stranger offer2 taken new at) =
    let same-bytes : bytes ≡ b2 = cc in
    let same : (header ≡ g) × (commands ≡ cs) = read-once b2 commands cs header g (subst (λ (b : List ℕ). IsRead b header commands) same-bytes read) read2 in
    absurd (known (ap (λ (x : Header). x.peer) same.0 ∙ stranger))

-- ---- which offers get the seat of slot i
abbrev receipt : Host → Addr → List ℕ → Received → Receipt
receipt h from bytes answer = record { host = common_of h; from = from; bytes = bytes; answer = answer }

abbrev GetsNoSeat : Host → Addr → List ℕ → Received → Header → List ℕ → ℕ → Type 0
GetsNoSeat h from bytes answer header commands i = GetsSeat i (receipt h from bytes answer) header commands → ⊥

-- none that is stopped
stopped-seat : (h : Host) (from : Addr) (bytes : List ℕ) (why : Stop) (header : Header) (commands : List ℕ) (i : ℕ) → GetsNoSeat h from bytes (stopped why) header commands i
stopped-seat h from bytes why header commands i g = absurd (let x : 0 ≡ 1 = ap (λ (r : Received). r.handled) g.answered in omega arith)

-- none of a connection that is there
known-seat : (h : Host) (from : Addr) (bytes commands : List ℕ) (answer : Received) (header : Header) (o : Offer) (i : ℕ) → IsOffer commands o → is_known h.slots from o ≡ true → GetsNoSeat h from bytes answer header commands i
known-seat h from bytes commands answer header o i offer known g =
    let one : o ≡ g.offer = offer-once commands o g.offer offer g.is in
    absurd (let x : true ≡ false = sym known ∙ ap (λ (p : Offer). is_known h.slots from p) one ∙ g.new in cc)

-- none for a peer
heard-seat : (h : Host) (from : Addr) (bytes : List ℕ) (answer : Received) (header : Header) (commands : List ℕ) (i : ℕ) → header.peer ≢ no_peer → GetsNoSeat h from bytes answer header commands i
heard-seat h from bytes answer header commands i known g = known g.stranger

-- and another slot than that of the seat
apart-seat : (h : Host) (from : Addr) (bytes : List ℕ) (answer : Received) (header : Header) (commands : List ℕ) (j i : ℕ) → seat (host_basis h) from h.slots ≡ Some j → j ≢ i → GetsNoSeat h from bytes answer header commands i
apart-seat h from bytes answer header commands j i at other g = other (let x : ◌≡◌ {A = Option ℕ} (Some j) (Some i) = sym at ∙ g.seat in cc)

-- a datagram that reaches no peer
unread : (h : Host) (from : Addr) (bytes : List ℕ) (answer : Received) (why : Stop) → IsUnreadable bytes why → (i : ℕ) → StaysAt (call.Receive from bytes answer) h i
unread h from bytes answer why u i s p there held = idle (call.Receive from bytes answer) (common_of h) i s p (unreadable why u)

away : (h : Host) (from : Addr) (bytes : List ℕ) (answer : Received) (header : Header) (commands : List ℕ) (i : ℕ) → IsRead bytes header commands → ((header.peer ≡ no_peer) ⊎ (header.peer ≢ i)) → GetsNoSeat h from bytes answer header commands i
    → StaysAt (call.Receive from bytes answer) h i
away h from bytes answer header commands i read e none s p there held = idle (call.Receive from bytes answer) (common_of h) i s p (elsewhere header commands read e none)

each-stopped : (h : Host) (from : Addr) (bytes : List ℕ) (why : Stop) (slots : List SlotState) → slots ≡ h.slots → ((i : ℕ) → StaysAt (call.Receive from bytes (stopped why)) h i) → Each (call.Receive from bytes (stopped why)) h slots
each-stopped h from bytes why slots same stays = each-none (call.Receive from bytes (stopped why)) h slots (λ i s. refl) same stays (stopped-begins h from bytes why)

-- an offer that is stopped
away-stopped : (h : Host) (from : Addr) (bytes commands : List ℕ) (header : Header) (why : Stop) → IsRead bytes header commands → header.peer ≡ no_peer → (i : ℕ) → StaysAt (call.Receive from bytes (stopped why)) h i
away-stopped h from bytes commands header why read e i = away h from bytes (stopped why) header commands i read (inl e) (stopped-seat h from bytes why header commands i)

-- the slot of the seat, which is free or whose peer gives way
seated : (h : Host) (from : Addr) (bytes commands : List ℕ) (header : Header) (o : Offer) (j : ℕ) (s : SlotState) → IsRead bytes header commands → header.peer ≡ no_peer → IsOffer commands o → offer_refused o ≡ None → is_known h.slots from o ≡ false
    → seat (host_basis h) from h.slots ≡ Some j → IsOpen h.config.generations s → Fares (call.Receive from bytes handled_one) (common_of h) j s (answering (host_basis h) j (readied s) from o)
seated h from bytes commands header o j s read e offer r new at (holds_none none low) =
    subst (λ (x : SlotState). Fares (call.Receive from bytes handled_one) (common_of h) j s (answering (host_basis h) j x from o)) (sym (readied-free s none))
    (begins none low (answers from bytes commands header o refl read e offer r new at))
seated h from bytes commands header o j s read e offer r new at (holds_waiting p held on low) =
    subst (λ (x : SlotState). Fares (call.Receive from bytes handled_one) (common_of h) j s (answering (host_basis h) j x from o)) (sym (readied-waits s p held))
    (takes_over p (freed p) (GiveWay ∷ []) held (gives_way header commands read (record { offer = o; stranger = e; is = offer; taken = r; new = new; seat = at; answered = refl })) (freed p, (on, refl), refl) refl
    (freed-low h.config.generations s p low) (answers from bytes commands header o refl read e offer r new at))

each-offered : (h : Host) (from : Addr) (bytes commands : List ℕ) (header : Header) (o : Offer) (answer : Received) (slots after : List SlotState) → slots ≡ h.slots → IsRead bytes header commands → header.peer ≡ no_peer → IsOffer commands o
    → Offers (record { basis = host_basis h; slots = slots }) from o answer after → Each (call.Receive from bytes answer) h after
each-offered h from bytes commands header o answer slots after same read e offer (receiving.refused why r) = each-stopped h from bytes why slots same (away-stopped h from bytes commands header why read e)
each-offered h from bytes commands header o answer slots after same read e offer (receiving.repeated r k) =
    let known : is_known h.slots from o ≡ true = ap (λ (xs : List SlotState). is_known xs from o) (sym same) ∙ k in
    each-none (call.Receive from bytes handled_one) h slots (λ i s. refl) same
    (λ i. away h from bytes handled_one header commands i read (inl e) (known-seat h from bytes commands handled_one header o i offer known))
    (λ i. known-begins h from bytes commands header o i read offer known)
each-offered h from bytes commands header o answer slots after same read e offer (receiving.no_slot r k n) = each-stopped h from bytes stop.NoSlot slots same (away-stopped h from bytes commands header stop.NoSlot read e)
each-offered h from bytes commands header o answer slots after same read e offer (receiving.no_memory j r k n) = each-stopped h from bytes stop.Memory slots same (away-stopped h from bytes commands header stop.Memory read e)
each-offered h from bytes commands header o answer slots after same read e offer (receiving.answers j s r k found there) =
    let at : seat (host_basis h) from h.slots ≡ Some j = ap (λ (xs : List SlotState). seat (host_basis h) from xs) (sym same) ∙ found in
    let was : slice_get h.slots j ≡ Some s = ap (λ (xs : List SlotState). slice_get xs j) (sym same) ∙ there in
    let new : is_known h.slots from o ≡ false = ap (λ (xs : List SlotState). is_known xs from o) (sym same) ∙ k in
    subst (λ (xs : List SlotState). Each (call.Receive from bytes handled_one) h (slice_set xs j (answering (host_basis h) j (readied s) from o))) (sym same)
    (each-set (call.Receive from bytes handled_one) h j s (answering (host_basis h) j (readied s) from o) was (seated h from bytes commands header o j s read e offer r new at (seat-open (host_basis h) from h.slots j s at was)) (λ i x. refl)
    (λ i other. away h from bytes handled_one header commands i read (inl e) (apart-seat h from bytes handled_one header commands j i at other)) (apart-begins (call.Receive from bytes handled_one) h j at))

-- a datagram that the slot turns away
turned : (h : Host) (from : Addr) (bytes commands : List ℕ) (header : Header) (why : Stop) → IsRead bytes header commands → header.peer ≢ no_peer → refused_by h.slots from header ≡ Some why → (i : ℕ) → StaysAt (call.Receive from bytes (stopped why)) h i
turned h from bytes commands header why read known refused i s p there held = idle (call.Receive from bytes (stopped why)) (common_of h) i s p (by (same-or header.peer i))
  where
    by : (header.peer ≡ i) ⊎ (header.peer ≢ i) → Fell (common_of h) (record { number = i; slot = s; peer = p }) (call.Receive from bytes (stopped why)) []
    by (inl e) = turned_away header commands why read known e (ap (λ (o : Option SlotState). refused_by_slot from header.session o) (sym (ap (λ (k : ℕ). slice_get h.slots k) e ∙ there)) ∙ refused) refl
    by (inr n) = elsewhere header commands read (inr n) (heard-seat h from bytes (stopped why) header commands i known)

-- a peer that was refused is told again if the datagram tells a sent time
reminded-alone : (sent : Option ℕ) (p q : Peering) → is_turned_away p ≡ true → q ≡ reminded sent p → AllAlone (deeds_if (is_some sent) TellAgain) p q
reminded-alone None p q e is = sym is
reminded-alone (Some time) p q e is = (q, (e, is), refl)

-- the slot whose peer a datagram comes to: its commands are heard, or a refused peer is told again
hears-in : (h : Host) (from : Addr) (bytes commands : List ℕ) (header : Header) (s t : SlotState) (reply : Received) → IsRead bytes header commands → header.peer ≢ no_peer → refused_by_slot from header.session (Some s) ≡ None
    → PeerReceives (record { now = h.clock; sent = header.sent; full = refuses_at (listener_of h) s }) commands s reply t → Fares (call.Receive from bytes reply) (common_of h) header.peer s t
hears-in h from bytes commands header s t reply read n taken hears = by (is_turned_away hears.peer) refl hears.heard
  where
    c : Call
    c = call.Receive from bytes reply

    a : Arrival
    a = record { now = h.clock; sent = header.sent; full = refuses_at (listener_of h) s }

    was : was_refused s ≡ is_turned_away hears.peer
    was = ap was_refused_in hears.held

    none : (u : SlotState) → Begins c (common_of h) header.peer (with_peer s hears.after) u → ⊥
    none = heard-begins h from bytes commands header reply header.peer read n (with_peer s hears.after)

    by : (b : Bool) → is_turned_away hears.peer ≡ b → HearsIf b a commands hears.peer reply hears.after → Fares c (common_of h) header.peer s t
    by true e again =
        goes_on hears.peer hears.after (deeds_if (is_some header.sent) TellAgain) hears.held (falling.told_again header commands read n refl taken (was ∙ e) again.0)
        (reminded-alone header.sent hears.peer hears.after e again.1) (λ gone. none)
        (hears.left ∙ counted-same s hears.after s.emitted refl)
    by false e handles =
        let x : Came a 0 commands hears.peer reply hears.after = came a 0 commands hears.peer reply hears.after handles in
        goes_on hears.peer hears.after x.deeds hears.held (here header commands x.deeds read n refl taken (was ∙ e) x.falls) x.alone (λ gone. none) (hears.left ∙ counted-same s hears.after s.emitted refl)

pub each-arrives : (h : Host) (from : Addr) (bytes : List ℕ) (answer : Received) (slots after : List SlotState) → slots ≡ h.slots → Arrives (record { basis = host_basis h; slots = slots }) from bytes answer after → Each (call.Receive from bytes answer) h after
each-arrives h from bytes answer slots after same (receiving.unreadable why u) = each-stopped h from bytes why slots same (unread h from bytes (stopped why) why u)
each-arrives h from bytes answer slots after same (receiving.no_offer header commands read e none) = each-stopped h from bytes stop.UnknownPeer slots same (away-stopped h from bytes commands header stop.UnknownPeer read e)
each-arrives h from bytes answer slots after same (receiving.offered header commands o reply left read e offer comes) = each-offered h from bytes commands header o reply slots left same read e offer comes
each-arrives h from bytes answer slots after same (receiving.turned_away header commands why read n refused) =
    each-stopped h from bytes why slots same (turned h from bytes commands header why read n (ap (λ (xs : List SlotState). refused_by xs from header) (sym same) ∙ refused))
each-arrives h from bytes answer slots after same (receiving.heard header commands s t reply read n open' there hears) =
    let taken : refused_by_slot from header.session (Some s) ≡ None = ap (λ (o : Option SlotState). refused_by_slot from header.session o) (sym there) ∙ open' in
    subst (λ (xs : List SlotState). Each (call.Receive from bytes reply) h (slice_set xs header.peer t)) (sym same)
    (each-set (call.Receive from bytes reply) h header.peer s t (ap (λ (xs : List SlotState). slice_get xs header.peer) (sym same) ∙ there)
    (hears-in h from bytes commands header s t reply read n taken
    (subst (λ (xs : List SlotState). PeerReceives (record { now = h.clock; sent = header.sent; full = refuses_at (record { basis = host_basis h; slots = xs }) s }) commands s reply t) same hears))
    (λ i y. refl) (λ i other. away h from bytes reply header commands i read (inr other) (heard-seat h from bytes reply header commands i n)) (λ i other. heard-begins h from bytes commands header reply i read n))
