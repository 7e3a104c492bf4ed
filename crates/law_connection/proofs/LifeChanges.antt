-- Each change of a peer keeps one life.
use Rattle.std.proofs.Common.{◌≡◌, ℕ, Bool, true, false, cond, ltb, leb, ◌||◌, List, [], ◌∷◌, ◌++◌, map, refl, sym, ap, subst, ◌∙◌, inl, inr, ◌⊎◌, Option, Some, None, length, slice_set}
use Rattle.std.specs.List.{slice_get, list_any}
use Rattle.enet_codec.specs.declared.packet.Packet.{Packet}
use Rattle.enet_seq.specs.Numbering.{wire}
use Rattle.enet_rtt.specs.declared.expiry.Patience.{Patience}
use Rattle.enet_rtt.specs.declared.transmission.Tick.{Tick as Moment}
use Rattle.enet_senders.specs.declared.control.Control.TheVariants as control
use Rattle.enet_senders.specs.declared.control.Numbered.{Numbered}
use Rattle.enet_senders.specs.declared.control.SentControl.{SentControl}
use Rattle.enet_senders.specs.Controlling.{Commands, is_reliable, begun}
use Rattle.enet_senders.specs.Controlling as controlling
use Rattle.enet_sender.specs.declared.outgoing.Occasion.{Occasion}
use Rattle.enet_sender.specs.Sender.{Next, next}
use Rattle.enet_sender.specs.Sender as sender
use Rattle.enet_sender.specs.Due.{SendingEnd}
use Rattle.enet_outbox.specs.Outbox.{Outbox, cleared_sender, marked_sender, has_ended, with_control}
use Rattle.enet_outbox.specs.Outbox as outbox
use Rattle.enet_fragment.specs.Cutting.{piece_count}
use Rattle.enet_sender.specs.CommandChoice.{fragment_limit}
use Rattle.enet_peer.specs.Peering.{Peering, answering}
use Rattle.enet_peer.specs.Endings.{ended}
use Rattle.enet_peer.specs.declared.parts.Ending.{Ending}
use Rattle.enet_peer.specs.declared.parts.PeerEvent.{PeerEvent}
use Rattle.enet_peer.specs.declared.parts.PeerEvent.TheVariants as told
use Rattle.enet_peer.specs.declared.parts.PeerState.{PeerState}
use Rattle.enet_peer.specs.declared.parts.PeerState.TheVariants as state
use Rattle.enet_peer.specs.Calls.{is_connected, next_event}
use Rattle.enet_inbox.specs.DataEffect.{handed_over, unsequenced_taken}
use Rattle.enet_inbox.specs.Inbox.{is_full_for, given_way}
use Rattle.enet_receiver.specs.Foresight.{after_command}
use Rattle.enet_peer.specs.Refusing.{told_full}
use Rattle.law_connection.specs.LinkSteps.{Has}
use Rattle.law_connection.proofs.Lists.{Has-slice_get}
use Rattle.law_connection.specs.Connection.{End}
use Rattle.law_connection.specs.Steps.{Event, Answer, Submit, Emit, Come, Tick, Take, Disconnect, Set, GiveWay, TellAgain, Happens}
use Rattle.law_connection.specs.Law.{IsOneLife, AreLast}
use Rattle.law_connection.specs.Life.{ArePackets, HasBegun, IsUntold, IsUnderway, IsStill, IsOver, LivesIn, Lives, LivesAt, LivesOn}
use Rattle.law_connection.proofs.Packing.{idle-next}
use Rattle.law_connection.proofs.Emits.{Has-from_map}
use Rattle.law_connection.proofs.PeerChanges.{Core, core, Changes, is_gone, stands, kept-moved, kept-left, kept-set, kept-emitted, kept-given_way, kept-heeded, kept-told_again}
use Rattle.law_connection.proofs.OneLife.{lives-one, none-life}
use Rattle.law_connection.proofs.Events.{accepted, took}

-- states

connected-is : (s : PeerState) → is_connected s ≡ true → s ≡ state.Connected
connected-is state.Connected e = refl
connected-is state.Connecting e = absurd (cc)
connected-is state.Answering e = absurd (cc)
connected-is state.DisconnectLater e = absurd (cc)
connected-is state.Disconnecting e = absurd (cc)
connected-is state.AckDisconnect e = absurd (cc)
connected-is state.Ended e = absurd (cc)
connected-is state.Parting e = absurd (cc)
connected-is state.Free e = absurd (cc)

pub connected-here : (s : PeerState) → is_connected s ≡ true → is_gone s ≡ false
connected-here s e = ap is_gone (connected-is s e)

-- the connection stands, so it is underway
standing : (joined : Bool) (es : List PeerEvent) (p : Peering) (s : PeerState) → stands s ≡ true → LivesIn s joined es p → IsUnderway joined es p
standing joined es p state.Connected e h = h
standing joined es p state.DisconnectLater e h = h
standing joined es p state.Connecting e h = absurd (cc)
standing joined es p state.Answering e h = absurd (cc)
standing joined es p state.Disconnecting e h = absurd (cc)
standing joined es p state.AckDisconnect e h = absurd (cc)
standing joined es p state.Ended e h = absurd (cc)
standing joined es p state.Parting e h = absurd (cc)
standing joined es p state.Free e h = absurd (cc)

-- what a peer has told or is to tell that isn't gone
here : (joined : Bool) (es : List PeerEvent) (p : Peering) (s : PeerState) → is_gone s ≡ false → LivesIn s joined es p → IsUnderway joined es p ⊎ ((joined ≡ false) × IsUntold es p)
here joined es p state.Connected e h = inl h
here joined es p state.DisconnectLater e h = inl h
here joined es p state.Disconnecting e h = inl h
here joined es p state.AckDisconnect e h = inl h
here joined es p state.Connecting e h = inr h
here joined es p state.Answering e h = inr h
here joined es p state.Ended e h = absurd (cc)
here joined es p state.Parting e h = absurd (cc)
here joined es p state.Free e h = absurd (cc)

-- one that is gone is still
gone-still : (joined : Bool) (es : List PeerEvent) (p : Peering) (s : PeerState) → is_gone s ≡ true → LivesIn s joined es p → IsStill p.outbox
gone-still joined es p state.Ended e h = h.1
gone-still joined es p state.Parting e h = h.still
gone-still joined es p state.Free e h = h.still
gone-still joined es p state.Connected e h = absurd (cc)
gone-still joined es p state.DisconnectLater e h = absurd (cc)
gone-still joined es p state.Disconnecting e h = absurd (cc)
gone-still joined es p state.AckDisconnect e h = absurd (cc)
gone-still joined es p state.Connecting e h = absurd (cc)
gone-still joined es p state.Answering e h = absurd (cc)

-- outboxes

cleared-senders : (ss : List SendingEnd) (s : SendingEnd) → Has (map cleared_sender ss) s → (s.sender.queued ≡ []) × (s.sender.sent ≡ [])
cleared-senders ss s there = (let r = Has-from_map cleared_sender ss s there in subst (λ (x : SendingEnd). (x.sender.queued ≡ []) × (x.sender.sent ≡ [])) r.2 (refl, refl))

still-cleared : (o : Outbox) → IsStill (outbox.cleared o)
still-cleared o = record { control = refl; queued = λ n h. absurd h; senders = cleared-senders o.senders }

still-parting : (o : Outbox) (info : ℕ) → IsStill (with_control (outbox.cleared o) (control.DisconnectNow info))
still-parting o info = record {
  control = refl;
  queued = λ n h. elim h [ inl e ↦ ap (λ (x : Numbered). is_reliable x.control) (sym e) | inr f ↦ absurd f ];
  senders = cleared-senders o.senders;
}

still-marked : (o : Outbox) (tick : Moment) → IsStill o → IsStill (outbox.marked o tick)
still-marked o tick h = record {
  control = ap (map (controlling.marked tick)) h.control;
  queued = h.queued;
  senders = λ s there. (let r = Has-from_map (marked_sender tick) o.senders s there in let was = h.senders r.0 r.1 in
      subst (λ (x : SendingEnd). (x.sender.queued ≡ []) × (x.sender.sent ≡ [])) r.2 (was.0, ap (map (sender.marked tick)) was.1));
}

-- a still outbox puts out of channel 0xFF what is unreliable, and stays still
still-next : (now timeout number : ℕ) (queued : List Numbered) (n : controlling.Next) → ((m : Numbered) → Has queued m → is_reliable m.control ≡ false)
    → controlling.next now timeout (record { number = number; queued = queued; sent = [] }) ≡ Some n → (n.commands.sent ≡ []) × ((m : Numbered) → Has n.commands.queued m → is_reliable m.control ≡ false)
still-next now timeout number [] n h e = absurd (let x : None ≡ Some n = e in cc)
still-next now timeout number (m ∷ rest) n h e =
    let c : Commands = record { number = number; queued = m ∷ rest; sent = [] } in
    let made : controlling.Next = record { command = m; commands = record c { queued = rest; sent = cond (is_reliable m.control) (begun now timeout m ∷ []) [] } } in
    let both : Some made ≡ Some n = e in
    let same : made ≡ n = cc in
    let sent : cond (is_reliable m.control) (begun now timeout m ∷ []) [] ≡ [] = ap (λ b. cond b (begun now timeout m ∷ []) []) (h m (inl refl)) in
    (ap (λ (x : controlling.Next). x.commands.sent) (sym same) ∙ sent, subst (λ (x : controlling.Next). (k : Numbered) → Has x.commands.queued k → is_reliable k.control ≡ false) same (λ k there. h k (inr there)))

still-put : (o : Outbox) (now timeout : ℕ) (n : controlling.Next) → controlling.next now timeout o.control ≡ Some n → IsStill o → IsStill (record o { control = n.commands })
still-put o now timeout n due h =
    let due' : controlling.next now timeout (record o.control { sent = [] }) ≡ Some n = ap (λ (l : List SentControl). controlling.next now timeout (record o.control { sent = l })) (sym h.control) ∙ due in
    let r = still-next now timeout o.control.number o.control.queued n h.queued due' in
    record { control = r.0; queued = r.1; senders = h.senders }

still-data : (o : Outbox) (k : ℕ) (occasion : Occasion) (s : SendingEnd) (n : Next) → slice_get o.senders k ≡ Some s → next wire occasion s.sender ≡ Some n → IsStill o → ⊥
still-data o k occasion s n there due h = let none = h.senders s (Has-slice_get o.senders k s there) in idle-next occasion s.sender n none.0 none.1 due

-- a still outbox lets no patience end
none-ends : (now : ℕ) (patience : Patience) (heard : ℕ) (ss : List SendingEnd) → ((s : SendingEnd) → Has ss s → (s.sender.queued ≡ []) × (s.sender.sent ≡ [])) → list_any (λ (s : SendingEnd). list_any (sender.ends now patience heard) s.sender.sent) ss ≡ false
none-ends now patience heard [] h = refl
none-ends now patience heard (s ∷ ss) h =
    let first : list_any (sender.ends now patience heard) s.sender.sent ≡ false = ap (list_any (sender.ends now patience heard)) (h s (inl refl)).1 in
    ap (λ b. b || list_any (λ (s : SendingEnd). list_any (sender.ends now patience heard) s.sender.sent) ss) first ∙ none-ends now patience heard ss (λ x there. h x (inr there))

still-patient : (o : Outbox) (now : ℕ) (patience : Patience) (heard : ℕ) → IsStill o → has_ended o now patience heard ≡ false
still-patient o now patience heard h =
    ap (λ (l : List SentControl). list_any (controlling.ends now patience heard) l || list_any (λ (s : SendingEnd). list_any (sender.ends now patience heard) s.sender.sent) o.senders) h.control
    ∙ none-ends now patience heard o.senders h.senders

-- what a life doesn't speak of

untold-core : (es : List PeerEvent) (p q : Peering) → core q ≡ core p → IsUntold es p → IsUntold es q
untold-core es p q e h = record { none = h.none; greeting = ap (λ (c : Core). c.greeting) e ∙ h.greeting; untaken = ap (λ (c : Core). c.untaken) e ∙ h.untaken }

underway-core : (joined : Bool) (es : List PeerEvent) (p q : Peering) → core q ≡ core p → IsUnderway joined es p → IsUnderway joined es q
underway-core joined es p q e (inl h) = inl (ap (λ (c : Core). c.greeting) e ∙ h.0, h.1)
underway-core joined es p q e (inr h) = inr (h.0, h.1, h.2, ap (λ (c : Core). c.greeting) e ∙ h.3)

still-core : (p q : Peering) → core q ≡ core p → IsStill p.outbox → IsStill q.outbox
still-core p q e h = record {
  control = ap (λ (c : Core). c.control.sent) e ∙ h.control;
  queued = subst (λ (c : Core). (n : Numbered) → Has c.control.queued n → is_reliable n.control ≡ false) (sym e) h.queued;
  senders = subst (λ (c : Core). (s : SendingEnd) → Has c.senders s → (s.sender.queued ≡ []) × (s.sender.sent ≡ [])) (sym e) h.senders;
}

over-core : (joined : Bool) (es : List PeerEvent) (p q : Peering) → core q ≡ core p → IsOver joined es p → IsOver joined es q
over-core joined es p q e h = record { life = h.life; greeting = ap (λ (c : Core). c.greeting) e ∙ h.greeting; untaken = ap (λ (c : Core). c.untaken) e ∙ h.untaken; still = still-core p q e h.still }

lives-core : (joined : Bool) (es : List PeerEvent) (p q : Peering) → core q ≡ core p → Lives joined es p → Lives joined es q
lives-core joined es p q e h = subst (λ (s : PeerState). LivesIn s joined es q) (sym (ap (λ (c : Core). c.state) e)) (by p.state h)
  where
    by : (s : PeerState) → LivesIn s joined es p → LivesIn s joined es q
    by state.Connecting h = (h.0, untold-core es p q e h.1)
    by state.Answering h = (h.0, untold-core es p q e h.1)
    by state.Connected h = underway-core joined es p q e h
    by state.DisconnectLater h = underway-core joined es p q e h
    by state.Disconnecting h = underway-core joined es p q e h
    by state.AckDisconnect h = underway-core joined es p q e h
    by state.Ended h = (elim h.0 [ inl u ↦ inl (underway-core joined es p q e u) | inr n ↦ inr (n.0, untold-core es p q e n.1) ], still-core p q e h.1)
    by state.Parting h = over-core joined es p q e h
    by state.Free h = over-core joined es p q e h

-- another outbox, as still as the old one where that counts
pub lives-outbox : (joined : Bool) (es : List PeerEvent) (p : Peering) (o : Outbox) → (is_gone p.state ≡ true → IsStill p.outbox → IsStill o) → Lives joined es p → Lives joined es (record p { outbox = o })
lives-outbox joined es p o still h = by p.state still h
  where
    q : Peering
    q = record p { outbox = o }

    untold : IsUntold es p → IsUntold es q
    untold n = record { none = n.none; greeting = n.greeting; untaken = n.untaken }

    by : (s : PeerState) → (is_gone s ≡ true → IsStill p.outbox → IsStill o) → LivesIn s joined es p → LivesIn s joined es q
    by state.Connecting f h = (h.0, untold h.1)
    by state.Answering f h = (h.0, untold h.1)
    by state.Connected f h = h
    by state.DisconnectLater f h = h
    by state.Disconnecting f h = h
    by state.AckDisconnect f h = h
    by state.Ended f h = (elim h.0 [ inl u ↦ inl u | inr n ↦ inr (n.0, untold n.1) ], f refl h.1)
    by state.Parting f h = record { life = h.life; greeting = h.greeting; untaken = h.untaken; still = f refl h.still }
    by state.Free f h = record { life = h.life; greeting = h.greeting; untaken = h.untaken; still = f refl h.still }

-- a connected peer that keeps its state and its greeting
lives-connected : (joined : Bool) (es : List PeerEvent) (p q : Peering) → q.state ≡ p.state → q.greeting ≡ p.greeting → is_connected p.state ≡ true → Lives joined es p → Lives joined es q
lives-connected joined es p q same greeting on h =
    subst (λ (s : PeerState). LivesIn s joined es q) (sym (same ∙ connected-is p.state on))
    (subst (λ (g : Option ℕ). ((g ≡ None) × HasBegun joined es) ⊎ ((joined ≡ false) × (es ≡ []) × (info : ℕ) × (g ≡ Some info))) (sym greeting)
    (subst (λ (s : PeerState). LivesIn s joined es p) (connected-is p.state on) h))

-- it ends
lives-ended : (joined : Bool) (es : List PeerEvent) (p : Peering) (why : Ending) (info : ℕ) → is_gone p.state ≡ false → Lives joined es p → Lives joined es (ended p why info)
lives-ended joined es p why info in-time h = (
  elim (here joined es p p.state in-time h) [ inl u ↦ inl u | inr n ↦ (let u = n.1 in inr (n.0, record { none = u.none; greeting = u.greeting; untaken = u.untaken })) ],
  still-cleared p.outbox,
)

pub lives : (joined : Bool) (es : List PeerEvent) → Changes (Lives joined es)
lives joined es = record {
  quiet = λ p q e h. lives-core joined es p q e h;
  controls = λ p what plain on h. lives-connected joined es p (record p { outbox = with_control p.outbox what }) refl refl on h;
  ends = λ p why info in-time h. lives-ended joined es p why info in-time h;
  cuts = λ p why now gone over h. absurd (let none = still-patient p.outbox now p.patience p.heard (gone-still joined es p p.state gone h) in let x : true ≡ false = sym over ∙ none in cc);
  frees = λ p h. record { life = lives-one joined es p h; greeting = refl; untaken = refl; still = still-cleared p.outbox };
  parts = λ p info h. record { life = lives-one joined es p h; greeting = refl; untaken = refl; still = still-parting p.outbox info };
  disconnects = λ p info up h. standing joined es p p.state up h;
  answers = λ p info up h. standing joined es p p.state up h;
  waits = λ p info on h. standing joined es p p.state (ap stands (connected-is p.state on)) h;
  greets = λ p e h. (let a : LivesIn state.Answering joined es p = subst (λ (s : PeerState). LivesIn s joined es p) e h in let u = a.1 in inr (a.0, u.none, p.info, refl));
  welcomes = λ p v terms e big word h. (let a : LivesIn state.Connecting joined es p = subst (λ (s : PeerState). LivesIn s joined es p) e h in let u = a.1 in inr (a.0, u.none, 0, refl));
  acknowledges = λ p j number in-time h. lives-outbox joined es p (outbox.after_acknowledgement p.outbox j number) (λ gone. absurd (let x : true ≡ false = sym gone ∙ in-time in cc)) h;
  marks = λ p tick h. lives-outbox joined es p (outbox.marked p.outbox tick) (λ gone still. still-marked p.outbox tick still) h;
  refuses = λ p at h. lives-outbox joined es p (told_full p).outbox (λ gone. absurd (let x : false ≡ true = sym (ap is_gone at) ∙ gone in cc)) h;
  holds_back = λ p tick at h. lives-outbox joined es p (outbox.held_back p.outbox tick) (λ gone. absurd (let x : false ≡ true = sym (ap is_gone at) ∙ gone in cc)) h;
  gives_way = λ p on h. lives-connected joined es p (record p { inbox = given_way p.inbox }) refl refl on h;
  takes = λ p j r c on there h. lives-connected joined es p (record p { inbox = handed_over p.inbox j (after_command r (Some c) (is_full_for p.inbox r c)) }) refl refl on h;
  takes_unsequenced = λ p j group payload on h. lives-connected joined es p (record p { inbox = unsequenced_taken p.inbox j group payload }) refl refl on h;
  puts_control = λ p now timeout n due h. lives-outbox joined es p (record p.outbox { control = n.commands }) (λ gone still. still-put p.outbox now timeout n due still) h;
  puts_data = λ p k occasion s n there due h. lives-outbox joined es p (record p.outbox { senders = slice_set p.outbox.senders k (record s { sender = n.sender }) })
      (λ gone still. absurd (still-data p.outbox k occasion s n there due still)) h;
  drops_data = λ p k occasion s n there due h. lives-outbox joined es p (record p.outbox { senders = slice_set p.outbox.senders k (record s { sender = sender.with_skipped n.sender }) })
      (λ gone still. absurd (still-data p.outbox k occasion s n there due still)) h;
}

-- the user takes an event

packets-more : (es : List PeerEvent) (q : Packet) → ArePackets es → ArePackets (es ++ told.Receive q ∷ [])
packets-more [] q h = tt
packets-more (told.Receive x ∷ es) q h = packets-more es q h
packets-more (told.Connect info ∷ es) q h = absurd h
packets-more (told.Disconnect info ∷ es) q h = absurd h

packets-last : (es : List PeerEvent) (info : ℕ) → ArePackets es → AreLast (es ++ told.Disconnect info ∷ [])
packets-last [] info h = refl
packets-last (told.Receive x ∷ es) info h = packets-last es info h
packets-last (told.Connect i ∷ es) info h = absurd h
packets-last (told.Disconnect i ∷ es) info h = absurd h

begun-more : (joined : Bool) (es : List PeerEvent) (q : Packet) → HasBegun joined es → HasBegun joined (es ++ told.Receive q ∷ [])
begun-more true es q h = packets-more es q h
begun-more false [] q h = absurd h
begun-more false (told.Connect info ∷ es) q h = packets-more es q h
begun-more false (told.Receive x ∷ es) q h = absurd h
begun-more false (told.Disconnect info ∷ es) q h = absurd h

begun-last : (joined : Bool) (es : List PeerEvent) (info : ℕ) → HasBegun joined es → IsOneLife joined (es ++ told.Disconnect info ∷ [])
begun-last true es info h = packets-last es info h
begun-last false [] info h = absurd h
begun-last false (told.Connect i ∷ es) info h = packets-last es info h
begun-last false (told.Receive x ∷ es) info h = absurd h
begun-last false (told.Disconnect i ∷ es) info h = absurd h

greeted : (joined : Bool) (es : List PeerEvent) (info : ℕ) → joined ≡ false → es ≡ [] → HasBegun joined (es ++ told.Connect info ∷ [])
greeted true es info j none = absurd (cc)
greeted false es info j none = subst (λ (l : List PeerEvent). HasBegun false (l ++ told.Connect info ∷ [])) (sym none) tt

untold-last : (joined : Bool) (es : List PeerEvent) (info : ℕ) → joined ≡ false → es ≡ [] → IsOneLife joined (es ++ told.Disconnect info ∷ [])
untold-last true es info j none = absurd (cc)
untold-last false es info j none = subst (λ (l : List PeerEvent). IsOneLife false (l ++ told.Disconnect info ∷ [])) (sym none) refl

none-some : {A X : Type 0} (o : Option X) (x : X) → o ≡ None → o ≡ Some x → A
none-some o x e f = absurd (let y : None ≡ Some x = sym e ∙ f in cc)

empty-some : {A X : Type 0} (xs : List X) (x : X) (rest : List X) → xs ≡ [] → xs ≡ x ∷ rest → A
empty-some xs x rest e f = absurd (let y : [] ≡ x ∷ rest = sym e ∙ f in cc)

pub lives-took : (joined : Bool) (es : List PeerEvent) (p q : Peering) (e : PeerEvent) → next_event p ≡ Some (record { event = e; after = q }) → Lives joined es p → Lives joined (es ++ e ∷ []) q
lives-took joined es p q e is h =
    took (λ q e. Lives joined (es ++ e ∷ []) q) p q e is
    (λ info g. greets info g p.state h)
    (λ x rest g u. receives x rest g u p.state h)
    (λ g u at. ends g u (subst (λ (s : PeerState). LivesIn s joined es p) at h))
  where
    -- a Connect
    greeting-underway : (info : ℕ) → p.greeting ≡ Some info → IsUnderway joined es p → IsUnderway joined (es ++ told.Connect info ∷ []) (record p { greeting = None })
    greeting-underway info g (inl u) = none-some p.greeting info u.0 g
    greeting-underway info g (inr u) = inl (refl, greeted joined es info u.0 u.1)

    greets : (info : ℕ) → p.greeting ≡ Some info → (s : PeerState) → LivesIn s joined es p → LivesIn s joined (es ++ told.Connect info ∷ []) (record p { greeting = None })
    greets info g state.Connecting h = (let u = h.1 in none-some p.greeting info u.greeting g)
    greets info g state.Answering h = (let u = h.1 in none-some p.greeting info u.greeting g)
    greets info g state.Connected h = greeting-underway info g h
    greets info g state.DisconnectLater h = greeting-underway info g h
    greets info g state.Disconnecting h = greeting-underway info g h
    greets info g state.AckDisconnect h = greeting-underway info g h
    greets info g state.Ended h = (elim h.0 [ inl u ↦ inl (greeting-underway info g u) | inr n ↦ (let u = n.1 in none-some p.greeting info u.greeting g) ], h.1)
    greets info g state.Parting h = none-some p.greeting info h.greeting g
    greets info g state.Free h = none-some p.greeting info h.greeting g

    -- a packet
    receiving-underway : (x : Packet) (rest : List Packet) → p.greeting ≡ None → IsUnderway joined es p → IsUnderway joined (es ++ told.Receive x ∷ []) (record p { inbox = record p.inbox { untaken = rest } })
    receiving-underway x rest g (inl u) = inl (u.0, begun-more joined es x u.1)
    receiving-underway x rest g (inr u) = none-some p.greeting u.2 g u.3

    receives : (x : Packet) (rest : List Packet) → p.greeting ≡ None → p.inbox.untaken ≡ x ∷ rest → (s : PeerState) → LivesIn s joined es p
        → LivesIn s joined (es ++ told.Receive x ∷ []) (record p { inbox = record p.inbox { untaken = rest } })
    receives x rest g u state.Connecting h = (let n = h.1 in empty-some p.inbox.untaken x rest n.untaken u)
    receives x rest g u state.Answering h = (let n = h.1 in empty-some p.inbox.untaken x rest n.untaken u)
    receives x rest g u state.Connected h = receiving-underway x rest g h
    receives x rest g u state.DisconnectLater h = receiving-underway x rest g h
    receives x rest g u state.Disconnecting h = receiving-underway x rest g h
    receives x rest g u state.AckDisconnect h = receiving-underway x rest g h
    receives x rest g u state.Ended h = (elim h.0 [ inl w ↦ inl (receiving-underway x rest g w) | inr n ↦ (let w = n.1 in empty-some p.inbox.untaken x rest w.untaken u) ], h.1)
    receives x rest g u state.Parting h = empty-some p.inbox.untaken x rest h.untaken u
    receives x rest g u state.Free h = empty-some p.inbox.untaken x rest h.untaken u

    -- a Disconnect
    last-underway : p.greeting ≡ None → IsUnderway joined es p → IsOneLife joined (es ++ told.Disconnect p.info ∷ [])
    last-underway g (inl u) = begun-last joined es p.info u.1
    last-underway g (inr u) = none-some p.greeting u.2 g u.3

    ends : p.greeting ≡ None → p.inbox.untaken ≡ [] → LivesIn state.Ended joined es p → Lives joined (es ++ told.Disconnect p.info ∷ []) (record p { state = state.Free })
    ends g u h = record {
      life = elim h.0 [ inl w ↦ last-underway g w | inr n ↦ (let w = n.1 in untold-last joined es p.info n.0 w.none) ];
      greeting = g;
      untaken = u;
      still = h.1;
    }

-- the life of an end, with a peer or without

pub one-life : (joined : Bool) (e : End) → LivesOn joined e → IsOneLife joined e.events
one-life joined e h = by e.peer h
  where
    by : (o : Option Peering) → LivesAt joined e.events o → IsOneLife joined e.events
    by None h = none-life joined e.events h.1
    by (Some p) h = lives-one joined e.events p h

life-peer : (joined : Bool) (e : End) (p : Peering) → e.peer ≡ Some p → LivesOn joined e → Lives joined e.events p
life-peer joined e p is h = subst (λ (o : Option Peering). LivesAt joined e.events o) is h

-- a server that answers has told nothing
life-answered : (joined : Bool) (own : End) (q : Peering) → q.state ≡ state.Answering → q.greeting ≡ None → q.inbox.untaken ≡ [] → own.peer ≡ None → LivesOn joined own → Lives joined own.events q
life-answered joined own q at greeting untaken none h =
    let k : LivesAt joined own.events None = subst (λ (o : Option Peering). LivesAt joined own.events o) none h in
    subst (λ (s : PeerState). LivesIn s joined own.events q) (sym at) (k.0, record { none = k.1; greeting = greeting; untaken = untaken })

pub life-happens : (joined : Bool) (own other new : End) (e : Event) → LivesOn joined own → Happens own other e new → LivesOn joined new
life-happens joined own other new (Answer put offer now offsets server limits) f h = subst (λ (x : End). LivesOn joined x) (sym h.4) (life-answered joined own (answering now offsets offer server limits) refl refl refl h.0 f)
life-happens joined own other new (Submit q) f h =
    let p : Peering = h.0 in
    let a = accepted (is_connected p.state) (leb (length p.outbox.senders) q.channel) (ltb p.limits.max_packet (length q.body) || ltb fragment_limit (piece_count (length q.body) p.terms.mtu)) h.2 in
    subst (λ (x : End). LivesOn joined x) (sym h.3)
    (lives-outbox joined own.events p (outbox.submitted p.outbox p.terms.mtu q.channel (record { flags = q.flags; body = q.body }))
    (λ gone. absurd (let x : true ≡ false = sym gone ∙ connected-here p.state a.0 in cc)) (life-peer joined own p h.1 f))
life-happens joined own other new (Emit now) f h = subst (λ (x : End). LivesOn joined x) (sym h.2) (kept-emitted (Lives joined own.events) (lives joined own.events) h.0 now (life-peer joined own h.0 h.1 f))
life-happens joined own other new (Come put now sent) f h =
    subst (λ (x : End). LivesOn joined x) (sym h.4) (kept-heeded (Lives joined own.events) (lives joined own.events) h.3 h.0 put.message.head now sent put.message.body (life-peer joined own h.0 h.1 f))
life-happens joined own other new (Tick now) f h = subst (λ (x : End). LivesOn joined x) (sym h.3) (kept-moved (Lives joined own.events) (lives joined own.events) h.2 h.0 now (life-peer joined own h.0 h.1 f))
life-happens joined own other new Take f h = subst (λ (x : End). LivesOn joined x) (sym h.5) (lives-took joined own.events h.0 h.1 h.2 h.4 (life-peer joined own h.0 h.3 f))
life-happens joined own other new (Disconnect way info) f h =
    subst (λ (x : End). LivesOn joined x) (sym h.4) (kept-left (Lives joined own.events) (lives joined own.events) h.0 h.1 way info h.3 (life-peer joined own h.0 h.2 f))
life-happens joined own other new (Set setting) f h = subst (λ (x : End). LivesOn joined x) (sym h.3) (kept-set (Lives joined own.events) (lives joined own.events) h.0 setting h.2 (life-peer joined own h.0 h.1 f))
life-happens joined own other new GiveWay f h = subst (λ (x : End). LivesOn joined x) (sym h.3) (kept-given_way (Lives joined own.events) (lives joined own.events) h.0 (life-peer joined own h.0 h.1 f))
life-happens joined own other new TellAgain f h = subst (λ (x : End). LivesOn joined x) (sym h.3) (kept-told_again (Lives joined own.events) (lives joined own.events) h.0 h.2 (life-peer joined own h.0 h.1 f))
