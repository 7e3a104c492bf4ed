-- Each change of a peer keeps it tidy.
use Rattle.std.proofs.Common.{◌≡◌, ℕ, zero, suc, ◌<◌, ◌≤◌, Bool, true, false, cond, ◌==◌, List, [], ◌∷◌, map, refl, sym, ap, subst, ◌∙◌, inl, inr, ◌⊎◌, Option, Some, None, length, slice_set}
use Rattle.std.proofs.lemmas.List.{length-map}
use Rattle.std.specs.List.{slice_get}
use Rattle.enet_codec.specs.declared.packet.Packet.{Packet}
use Rattle.enet_seq.specs.Numbering.{wire}
use Rattle.enet_receiver.specs.DataOutcome.{received}
use Rattle.enet_receiver.specs.Receiver.{Receiver}
use Rattle.enet_receiver.specs.Foresight.{ReceivingEnd, after_command}
use Rattle.enet_inbox.specs.Inbox.{cleared_receiver, is_full_for}
use Rattle.enet_inbox.specs.DataEffect.{emptied}
use Rattle.enet_sender.specs.declared.outgoing.Occasion.{Occasion}
use Rattle.enet_sender.specs.Sender.{Sender, Next, next, with_skipped, with_marked, nothing_sent}
use Rattle.enet_sender.specs.Sender as sender
use Rattle.enet_sender.specs.Due.{SendingEnd}
use Rattle.enet_sender.specs.CommandChoice as command_choice
use Rattle.enet_outbox.specs.Outbox.{Outbox, cleared_sender, marked_sender, acknowledged_on, is_unsequenced, with_unsequenced, with_sequenced}
use Rattle.enet_peer.specs.Peering.{Peering}
use Rattle.enet_peer.specs.declared.parts.PeerState.{PeerState}
use Rattle.enet_peer.specs.declared.parts.PeerState.TheVariants as state
use Rattle.enet_peer.specs.Calls.{is_connected, submitted}
use Rattle.enet_peer.specs.Endings.{disconnecting, dropped, ended, freed, parting}
use Rattle.law_connection.specs.Linked.{sender_in, receiver_in}
use Rattle.law_connection.specs.Invariant.{AreInPlace, IsTidy, is_young, is_agreed}
use Rattle.enet_receiver.proofs.Sequenced.{sequenced-received, sequenced-cleared}
use Rattle.enet_receiver.specs.Sequenced.{HasSequenced}
use Rattle.enet_senders.specs.Controlling.{after_acknowledgement}
use Rattle.law_connection.proofs.Packing.{idle-next, places-set}
use Rattle.law_connection.proofs.Moves.{senders-after, after-places, marked-at, marked-places}
use Rattle.law_connection.proofs.Arrivals.{get-take, narrowed-places}
use Rattle.law_connection.proofs.GivingWay.{AreFlat, given_way-flat}
use Rattle.law_connection.proofs.PeerChanges.{Core, core, Changes}
use Rattle.law_connection.proofs.Runs.{few-set, get-map, take-few}

abbrev AreIdle : List SendingEnd → Type 0
AreIdle ss = (i : ℕ) → sender_in (slice_get ss i) ≡ nothing_sent

-- what stands in a list after a change at one place
pub set-cases : {X : Type 0} (xs : List X) (k : ℕ) (y : X) (i : ℕ) (x : X) → slice_get (slice_set xs k y) i ≡ Some x → (y ≡ x) ⊎ (slice_get xs i ≡ Some x)
set-cases [] k y i x e = inr e
set-cases (z ∷ xs) zero y zero x e = inl (let f : Some y ≡ Some x = e in cc)
set-cases (z ∷ xs) zero y (suc i) x e = inr e
set-cases (z ∷ xs) (suc k) y zero x e = inr e
set-cases (z ∷ xs) (suc k) y (suc i) x e = set-cases xs k y i x e

idle-set : (ss : List SendingEnd) (k : ℕ) (t : SendingEnd) → t.sender ≡ nothing_sent → AreIdle ss → AreIdle (slice_set ss k t)
idle-set [] k t e h i = h i
idle-set (s ∷ ss) zero t e h zero = e
idle-set (s ∷ ss) zero t e h (suc i) = h (suc i)
idle-set (s ∷ ss) (suc k) t e h zero = h zero
idle-set (s ∷ ss) (suc k) t e h (suc i) = idle-set ss k t e (λ j. h (suc j)) i

cleared-places : (ss : List SendingEnd) → AreInPlace ss → AreInPlace (map cleared_sender ss)
cleared-places ss places i s e = (let r = get-map cleared_sender ss i s e in sym (ap (λ (x : SendingEnd). x.channel) r.2) ∙ places i r.0 r.1)

cleared-flat : (rs : List ReceivingEnd) → AreFlat rs → AreFlat (map cleared_receiver rs)
cleared-flat rs flat i r e = (let c = get-map cleared_receiver rs i r e in let was = flat i c.0 c.1 in
    let out = was.1 in
    subst (λ (x : ReceivingEnd). (x.receiver.dispatched ≡ []) × HasSequenced x.receiver) c.2 (was.0, sequenced-cleared c.0.receiver out.dispatched))

-- a peer that stops
tidy-stopped : (qs : List Packet) (p q : Peering) → is_young q.state ≡ false → is_agreed q.state ≡ false → q.outbox.senders ≡ map cleared_sender p.outbox.senders → q.inbox.receivers ≡ map cleared_receiver p.inbox.receivers → IsTidy qs p → IsTidy qs q
tidy-stopped qs p q old shut senders receivers h = record {
  places = subst AreInPlace (sym senders) (cleared-places p.outbox.senders h.places);
  few = subst (λ (ss : List SendingEnd). length ss ≤ 255) (sym senders) (subst (λ n. n ≤ 255) (sym (length-map p.outbox.senders cleared_sender)) h.few);
  receivers = subst AreFlat (sym receivers) (cleared-flat p.inbox.receivers h.receivers);
  young = λ t. absurd (let x : true ≡ false = sym t ∙ old in cc);
  big = λ t. absurd (let x : true ≡ false = sym t ∙ shut in cc);
}

-- other senders
tidy-senders : (qs : List Packet) (p : Peering) (ss : List SendingEnd) → AreInPlace ss → length ss ≤ 255 → (AreIdle p.outbox.senders → AreIdle ss) → IsTidy qs p → IsTidy qs (record p { outbox = record p.outbox { senders = ss } })
tidy-senders qs p ss places few idle h = record {
  places = places;
  few = few;
  receivers = h.receivers;
  young = λ t. (let y = h.young t in (y.0, idle y.1, y.2));
  big = h.big;
}

tidy-core : (qs : List Packet) (p q : Peering) → core q ≡ core p → IsTidy qs p → IsTidy qs q
tidy-core qs p q e h = record {
  places = subst (λ (c : Core). AreInPlace c.senders) (sym e) h.places;
  few = subst (λ (c : Core). length c.senders ≤ 255) (sym e) h.few;
  receivers = subst (λ (c : Core). AreFlat c.receivers) (sym e) h.receivers;
  young = λ t. (let y = h.young (ap (λ (c : Core). is_young c.state) (sym e) ∙ t) in
      (y.0, (λ i. ap (λ (c : Core). sender_in (slice_get c.senders i)) e ∙ y.1 i), (λ i. ap (λ (c : Core). receiver_in (slice_get c.receivers i)) e ∙ y.2 i)));
  big = λ t. subst (λ (c : Core). 28 < c.mtu) (sym e) (h.big (ap (λ (c : Core). is_agreed c.state) (sym e) ∙ t));
}

pub connected-old : (s : PeerState) → is_connected s ≡ true → is_young s ≡ false
connected-old state.Connected e = refl
connected-old state.DisconnectLater e = refl
connected-old state.Connecting e = absurd (cc)
connected-old state.Answering e = absurd (cc)
connected-old state.Disconnecting e = absurd (cc)
connected-old state.AckDisconnect e = absurd (cc)
connected-old state.Ended e = absurd (cc)
connected-old state.Parting e = absurd (cc)
connected-old state.Free e = absurd (cc)

-- an acknowledgement
acknowledged-few : (o : Outbox) (j number : ℕ) → length o.senders ≤ 255 → length (senders-after o j number) ≤ 255
acknowledged-few o j number h = by-control (j == 0xFF)
  where
    by : (x : Option SendingEnd) → length (acknowledged_on o j number x).senders ≤ 255
    by None = h
    by (Some s) = few-set o.senders j (record s { sender = sender.after_acknowledgement s.sender number }) h

    by-control : (b : Bool) → length (cond b (record o { control = after_acknowledgement o.control number }) (acknowledged_on o j number (slice_get o.senders j))).senders ≤ 255
    by-control true = h
    by-control false = by (slice_get o.senders j)

acknowledged-idle : (o : Outbox) (j number : ℕ) → AreIdle o.senders → AreIdle (senders-after o j number)
acknowledged-idle o j number h = by-control (j == 0xFF)
  where
    by : (x : Option SendingEnd) → slice_get o.senders j ≡ x → AreIdle (acknowledged_on o j number x).senders
    by None e = h
    by (Some s) e = idle-set o.senders j (record s { sender = sender.after_acknowledgement s.sender number }) (ap (λ (x : Sender). sender.after_acknowledgement x number) (sym (ap sender_in e) ∙ h j)) h

    by-control : (b : Bool) → AreIdle (cond b (record o { control = after_acknowledgement o.control number }) (acknowledged_on o j number (slice_get o.senders j))).senders
    by-control true = h
    by-control false = by (slice_get o.senders j) refl

-- a sender that has something due isn't idle
due-idle : (ss : List SendingEnd) (k : ℕ) (occasion : Occasion) (s : SendingEnd) (n : Next) → slice_get ss k ≡ Some s → next wire occasion s.sender ≡ Some n → AreIdle ss → ⊥
due-idle ss k occasion s n there due h =
    let none : s.sender ≡ nothing_sent = sym (ap sender_in there) ∙ h k in
    idle-next occasion s.sender n (ap (λ (x : Sender). x.queued) none) (ap (λ (x : Sender). x.sent) none) due

-- what was dispatched may have gone
sequenced-emptied : (r : Receiver) → HasSequenced r → HasSequenced (record r { dispatched = [] })
sequenced-emptied r k = record { held = k.held; waiting = k.waiting; dispatched = tt }

flat-set : (rs : List ReceivingEnd) (k : ℕ) (t : ReceivingEnd) → t.receiver.dispatched ≡ [] → HasSequenced t.receiver → AreFlat rs → AreFlat (slice_set rs k t)
flat-set rs k t none flagged flat i r e = elim (set-cases rs k t i r e) [
  | inl new ↦ subst (λ (x : ReceivingEnd). (x.receiver.dispatched ≡ []) × HasSequenced x.receiver) new (none, flagged)
  | inr old ↦ flat i r old
]

pub tidies : (qs : List Packet) → Changes (IsTidy qs)
tidies qs = record {
  quiet = λ p q e h. tidy-core qs p q e h;
  controls = λ p what plain on h. record { places = h.places; few = h.few; receivers = h.receivers; young = h.young; big = h.big };
  ends = λ p why info here h. tidy-stopped qs p (ended p why info) refl refl refl refl h;
  cuts = λ p why now gone over h. tidy-stopped qs p (ended p why 0) refl refl refl refl h;
  frees = λ p h. tidy-stopped qs p (freed p) refl refl refl refl h;
  parts = λ p info h. tidy-stopped qs p (parting p info) refl refl refl refl h;
  disconnects = λ p info up h. tidy-stopped qs p (disconnecting p info) refl refl refl refl h;
  answers = λ p info up h. tidy-stopped qs p (record (dropped p) { state = state.AckDisconnect; info = info }) refl refl refl refl h;
  waits = λ p info on h. record {
    places = h.places;
    few = h.few;
    receivers = h.receivers;
    young = λ t. absurd (let x : false ≡ true = t in cc);
    big = λ t. absurd (let x : false ≡ true = t in cc);
  };
  greets = λ p e h. record {
    places = h.places;
    few = h.few;
    receivers = h.receivers;
    young = λ t. absurd (let x : false ≡ true = t in cc);
    big = λ t. h.big (ap is_agreed e);
  };
  welcomes = λ p v terms e big word h. record {
    places = narrowed-places terms.channels p.outbox.senders h.places;
    few = take-few terms.channels (map cleared_sender p.outbox.senders) (subst (λ n. n ≤ 255) (sym (length-map p.outbox.senders cleared_sender)) h.few);
    receivers = λ i r there. elim (get-take terms.channels p.inbox.receivers i) [
      | inl same ↦ h.receivers i r (sym same ∙ there)
      | inr none ↦ absurd (let x : None ≡ Some r = sym none ∙ there in cc)
    ];
    young = λ t. absurd (let x : false ≡ true = t in cc);
    big = λ t. big;
  };
  acknowledges = λ p j number here h. record {
    places = λ i s e. after-places p.outbox j number i (λ t there. h.places i t there) s e;
    few = acknowledged-few p.outbox j number h.few;
    receivers = h.receivers;
    young = λ t. (let y = h.young t in (y.0, acknowledged-idle p.outbox j number y.1, y.2));
    big = h.big;
  };
  marks = λ p tick h. record {
    places = λ i s e. marked-places tick p.outbox.senders i i (λ t there. h.places i t there) s e;
    few = subst (λ n. n ≤ 255) (sym (length-map p.outbox.senders (marked_sender tick))) h.few;
    receivers = h.receivers;
    young = λ t. (let y = h.young t in (y.0, (λ i. marked-at tick p.outbox.senders i ∙ ap (with_marked tick) (y.1 i)), y.2));
    big = h.big;
  };
  refuses = λ p at h. record { places = h.places; few = h.few; receivers = h.receivers; young = h.young; big = h.big };
  holds_back = λ p tick at h. record { places = h.places; few = h.few; receivers = h.receivers; young = h.young; big = h.big };
  gives_way = λ p on h. record {
    places = h.places;
    few = h.few;
    receivers = given_way-flat p.inbox.receivers h.receivers;
    young = λ t. absurd (let x : true ≡ false = sym t ∙ connected-old p.state on in cc);
    big = h.big;
  };
  takes = λ p j r c on there h. record {
    places = h.places;
    few = h.few;
    receivers = flat-set p.inbox.receivers j (emptied (after_command r (Some c) (is_full_for p.inbox r c))) refl
        (sequenced-emptied (received wire r.max_packet r.receiver c (is_full_for p.inbox r c)) (sequenced-received wire r.max_packet r.receiver c (is_full_for p.inbox r c) (let f = h.receivers j r there in f.1))) h.receivers;
    young = λ t. absurd (let x : true ≡ false = sym t ∙ connected-old p.state on in cc);
    big = h.big;
  };
  takes_unsequenced = λ p j group payload on h. record { places = h.places; few = h.few; receivers = h.receivers; young = h.young; big = h.big };
  puts_control = λ p now timeout n due h. record { places = h.places; few = h.few; receivers = h.receivers; young = h.young; big = h.big };
  puts_data = λ p k occasion s n there due h.
      let t : SendingEnd = record s { sender = n.sender } in
      tidy-senders qs p (slice_set p.outbox.senders k t) (places-set p.outbox.senders k s t there refl h.places) (few-set p.outbox.senders k t h.few)
      (λ idle. absurd (due-idle p.outbox.senders k occasion s n there due idle)) h;
  drops_data = λ p k occasion s n there due h.
      let t : SendingEnd = record s { sender = with_skipped n.sender } in
      tidy-senders qs p (slice_set p.outbox.senders k t) (places-set p.outbox.senders k s t there refl h.places) (few-set p.outbox.senders k t h.few)
      (λ idle. absurd (due-idle p.outbox.senders k occasion s n there due idle)) h;
}

-- a submission
pub tidy-submitted : (qs rs : List Packet) (p : Peering) (channel : ℕ) (q : command_choice.Packet) → is_connected p.state ≡ true → IsTidy qs p → IsTidy rs (submitted p channel q)
tidy-submitted qs rs p channel q on h = by (is_unsequenced p.terms.mtu q)
  where
    at : (o : Option SendingEnd) → slice_get p.outbox.senders channel ≡ o → IsTidy rs (record p { outbox = with_sequenced p.outbox p.terms.mtu channel q o })
    at None there = record { places = h.places; few = h.few; receivers = h.receivers; young = λ t. absurd (let x : true ≡ false = sym t ∙ connected-old p.state on in cc); big = h.big }
    at (Some s) there =
        let t : SendingEnd = record s { sender = sender.submitted wire p.terms.mtu s.sender q } in
        record {
          places = places-set p.outbox.senders channel s t there refl h.places;
          few = few-set p.outbox.senders channel t h.few;
          receivers = h.receivers;
          young = λ t. absurd (let x : true ≡ false = sym t ∙ connected-old p.state on in cc);
          big = h.big;
        }

    by : (b : Bool) → IsTidy rs (record p { outbox = cond b (with_unsequenced p.outbox channel q) (with_sequenced p.outbox p.terms.mtu channel q (slice_get p.outbox.senders channel)) })
    by true = record { places = h.places; few = h.few; receivers = h.receivers; young = λ t. absurd (let x : true ≡ false = sym t ∙ connected-old p.state on in cc); big = h.big }
    by false = at (slice_get p.outbox.senders channel) refl
