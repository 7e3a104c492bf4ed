-- Only a client that asks has a CONNECT to send; and what each message of a datagram is, by the commands that go.
use Rattle.std.proofs.Common.{◌≡◌, ℕ, ◌==◌, ◌⊎◌, inl, inr, Bool, true, false, cond, List, [], ◌∷◌, ◌++◌, refl, sym, ap, subst, ◌∙◌, Option, Some, None, slice_get, slice_set}
use Rattle.std.specs.List.{position}
use Rattle.enet_codec.specs.declared.command.Fragment.{Fragment}
use Rattle.enet_codec.specs.declared.command.Offer.{Offer}
use Rattle.enet_codec.specs.Message.{Message, connect}
use Rattle.enet_rtt.specs.declared.transmission.Tick.{Tick}
use Rattle.enet_senders.specs.declared.control.Control.{Control}
use Rattle.enet_senders.specs.declared.control.Control.TheVariants as control
use Rattle.enet_senders.specs.declared.control.Numbered.{Numbered}
use Rattle.enet_senders.specs.declared.control.SentControl.{SentControl}
use Rattle.enet_senders.specs.Controlling.{Commands, Next, is_reliable, is_in_span, begun, again, next_queued, next_resent, next_of, next, after_acknowledgement, without_place, position_of, marked, body_of, message_of}
use Rattle.enet_senders.specs.Controlling as controlling
use Rattle.enet_fragment.specs.DataCommand.{wire_body}
use Rattle.enet_fragment.specs.DataCommand as fragment
use Rattle.enet_fragment.specs.declared.data.DataCommand.{DataCommand}
use Rattle.enet_sender.specs.CommandChoice.{Packet}
use Rattle.enet_sender.specs.Due.{SendingEnd}
use Rattle.enet_outbox.specs.declared.parts.Pace.{Pace}
use Rattle.enet_outbox.specs.Outbox.{Outbox}
use Rattle.enet_outbox.specs.Outbox as outbox
use Rattle.enet_outbox.specs.Emission.{Filling, acknowledgement_of, unsequenced_of, filled}
use Rattle.enet_outbox.specs.declared.parts.Acknowledgement.{Acknowledgement}
use Rattle.enet_outbox.specs.declared.parts.Unsequenced.{Unsequenced}
use Rattle.enet_outbox.proofs.Filled.{by-filling}
use Rattle.enet_peer.specs.declared.parts.PeerState.TheVariants as state
use Rattle.enet_peer.specs.Peering.{Peering}
use Rattle.enet_peer.specs.Calls.{is_connected, submitted}
use Rattle.enet_peer.specs.Refusing.{full_word}
use Rattle.law_connection.specs.LinkSteps.{Has}
use Rattle.law_connection.proofs.Lists.{Has-push_cases, Has-slice_get}
use Rattle.law_connection.proofs.Emits.{Has-from_map}
use Rattle.law_connection.proofs.PeerChanges.{Core, Changes, is_offer}
use Rattle.law_progress.proofs.Waiting.{Has-set, Has-removed}
use Rattle.law_network.proofs.Submitting.{same-some}
use Rattle.enet_world.proofs.Lasting.{Lasts, changes-last}
use Rattle.enet_world.proofs.Pings.{held_back-same}

-- no CONNECT is queued or sent of channel 0xFF
pub record NoOffers (c : Commands) : Type 0 where
  pub queued : (n : Numbered) → Has c.queued n → is_offer n.control ≡ false
  pub sent : (s : SentControl) → Has c.sent s → is_offer s.command.control ≡ false

none-offered : (number : ℕ) → NoOffers (record { number = number; queued = []; sent = [] })
none-offered number = record { queued = λ n h. absurd h; sent = λ s h. absurd h }

one-queued : (c : Commands) (what : Control) → is_offer what ≡ false → NoOffers c → NoOffers (controlling.with_queued c what)
one-queued c what plain a = record {
  queued = λ n h. elim (Has-push_cases c.queued (record { number = (controlling.with_queued c what).number; control = what }) n h) [
    | inl old ↦ a.queued n old
    | inr e ↦ subst (λ (x : Numbered). is_offer x.control ≡ false) e plain
  ];
  sent = a.sent;
}

-- ---- what goes next
sent-more : (b : Bool) (sent : List SentControl) (s : SentControl) → is_offer s.command.control ≡ false → ((x : SentControl) → Has sent x → is_offer x.command.control ≡ false) → (x : SentControl) → Has (cond b (sent ++ s ∷ []) sent) x → is_offer x.command.control ≡ false
sent-more true sent s plain old x h = elim (Has-push_cases sent s x h) [ inl k ↦ old x k | inr e ↦ subst (λ (y : SentControl). is_offer y.command.control ≡ false) e plain ]
sent-more false sent s plain old x h = old x h

abbrev GoesPlain : Next → Type 0
GoesPlain n = NoOffers n.commands × (is_offer n.command.control ≡ false)

queue-plain : (now timeout : ℕ) (c : Commands) (queued : List Numbered) (n : Next) → c.queued ≡ queued → next_queued now timeout c queued ≡ Some n → NoOffers c → GoesPlain n
queue-plain now timeout c [] n is e a = absurd (let y : None ≡ Some n = e in cc)
queue-plain now timeout c (m ∷ rest) n is e a = by (is_in_span c.sent m.number) e
  where
    made : Next
    made = record { command = m; commands = record c { queued = rest; sent = cond (is_reliable m.control) (c.sent ++ begun now timeout m ∷ []) c.sent } }

    all : (x : Numbered) → Has (m ∷ rest) x → is_offer x.control ≡ false
    all = subst (λ (l : List Numbered). (x : Numbered) → Has l x → is_offer x.control ≡ false) is a.queued

    by : (b : Bool) → cond b (Some made) None ≡ Some n → GoesPlain n
    by true f = subst (λ (x : Next). NoOffers x.commands × (is_offer x.command.control ≡ false)) (same-some made n f)
        (record { queued = λ x h. all x (inr h); sent = sent-more (is_reliable m.control) c.sent (begun now timeout m) (all m (inl refl)) a.sent }, all m (inl refl))
    by false f = absurd (let y : None ≡ Some n = f in cc)

resent-plain : (now : ℕ) (c : Commands) (i : ℕ) (o : Option SentControl) (n : Next) → slice_get c.sent i ≡ o → next_resent now c i o ≡ Some n → NoOffers c → GoesPlain n
resent-plain now c i None n is e a = absurd (let y : None ≡ Some n = e in cc)
resent-plain now c i (Some p) n is e a =
    let plain : is_offer p.command.control ≡ false = a.sent p (Has-slice_get c.sent i p is) in
    subst (λ (x : Next). NoOffers x.commands × (is_offer x.command.control ≡ false)) (same-some (record { command = p.command; commands = record c { sent = slice_set c.sent i (again now p) } }) n e)
    (record { queued = a.queued; sent = λ x h. elim (Has-set c.sent i (again now p) x h) [ inl f ↦ subst (λ (y : SentControl). is_offer y.command.control ≡ false) f plain | inr k ↦ a.sent x k ] }, plain)

next-plain : (now timeout : ℕ) (c : Commands) (n : Next) → next now timeout c ≡ Some n → NoOffers c → GoesPlain n
next-plain now timeout c n e a = by (position (λ (p : SentControl). p.transmission.due) c.sent) e
  where
    by : (o : Option ℕ) → next_of now timeout c o ≡ Some n → GoesPlain n
    by None f = queue-plain now timeout c c.queued n refl f a
    by (Some i) f = resent-plain now c i (slice_get c.sent i) n refl f a

-- ---- a peer
without-plain : (c : Commands) (o : Option ℕ) → NoOffers c → NoOffers (record c { sent = without_place c.sent o })
without-plain c None a = a
without-plain c (Some i) a = record { queued = a.queued; sent = λ x h. a.sent x (Has-removed c.sent i x h) }

gone-plain : (o : Outbox) (channel number : ℕ) → NoOffers o.control → NoOffers (outbox.after_acknowledgement o channel number).control
gone-plain o channel number a = by (channel == 0xFF)
  where
    at : (s : Option SendingEnd) → NoOffers (outbox.acknowledged_on o channel number s).control
    at None = a
    at (Some s) = a

    by : (b : Bool) → NoOffers (cond b (record o { control = after_acknowledgement o.control number }) (outbox.acknowledged_on o channel number (slice_get o.senders channel))).control
    by true = without-plain o.control (position_of number o.control.sent) a
    by false = at (slice_get o.senders channel)

marked-plain : (tick : Tick) (c : Commands) → NoOffers c → NoOffers (controlling.with_marked tick c)
marked-plain tick c a = record {
  queued = a.queued;
  sent = λ x h. (let r = Has-from_map (marked tick) c.sent x h in subst (λ (y : SentControl). is_offer y.command.control ≡ false) r.2 (a.sent r.0 r.1));
}

held_back-plain : (tick : Tick) (c : Commands) → NoOffers c → NoOffers (controlling.with_held_back tick c)
held_back-plain tick c a = record {
  queued = a.queued;
  sent = λ x h. (let r = Has-from_map (controlling.held_back tick) c.sent x h in subst (λ (y : SentControl). is_offer y.command.control ≡ false) r.2 (stays r.0 (a.sent r.0 r.1)));
}
  where
    stays : (x : SentControl) → is_offer x.command.control ≡ false → is_offer (controlling.held_back tick x).command.control ≡ false
    stays x plain = ap (λ (m : Numbered). is_offer m.control) (held_back-same tick x) ∙ plain

-- only a client that asks has one
unfoldable pub AsksAlone : Peering → Type 0
AsksAlone p = (p.state ≡ state.Connecting) ⊎ NoOffers p.outbox.control

asks-changes : Changes AsksAlone
unfolding AsksAlone
asks-changes = record {
  quiet = λ p q e h. subst (λ (c : Core). (c.state ≡ state.Connecting) ⊎ NoOffers c.control) (sym e) h;
  controls = λ p what plain on h. elim h [ inl e ↦ inl e | inr a ↦ inr (one-queued p.outbox.control what plain a) ];
  ends = λ p why info here h. inr (none-offered p.outbox.control.number);
  cuts = λ p why now gone over h. inr (none-offered p.outbox.control.number);
  frees = λ p h. inr (none-offered p.outbox.control.number);
  parts = λ p info h. inr (one-queued (record { number = p.outbox.control.number; queued = []; sent = [] }) (control.DisconnectNow info) refl (none-offered p.outbox.control.number));
  disconnects = λ p info up h. inr (one-queued (record { number = p.outbox.control.number; queued = []; sent = [] }) (control.Disconnect info) refl (none-offered p.outbox.control.number));
  answers = λ p info up h. inr (none-offered p.outbox.control.number);
  waits = λ p info on h. elim h [ inl e ↦ absurd (let z : false ≡ true = ap is_connected (sym e) ∙ on in cc) | inr a ↦ inr a ];
  greets = λ p e h. elim h [ inl f ↦ absurd (let z : state.Answering ≡ state.Connecting = sym e ∙ f in cc) | inr a ↦ inr a ];
  welcomes = λ p v terms e big word h. inr (none-offered p.outbox.control.number);
  acknowledges = λ p j number here h. elim h [ inl e ↦ inl e | inr a ↦ inr (gone-plain p.outbox j number a) ];
  marks = λ p tick h. elim h [ inl e ↦ inl e | inr a ↦ inr (marked-plain tick p.outbox.control a) ];
  refuses = λ p at h. inr (one-queued (record { number = p.outbox.control.number; queued = []; sent = [] }) (control.DisconnectNow full_word) refl (none-offered p.outbox.control.number));
  holds_back = λ p tick at h. elim h [ inl e ↦ inl e | inr a ↦ inr (held_back-plain tick p.outbox.control a) ];
  gives_way = λ p on h. h;
  takes = λ p j r c on there h. h;
  takes_unsequenced = λ p j group payload on h. h;
  puts_control = λ p now timeout n due h. elim h [ inl e ↦ inl e | inr a ↦ inr (next-plain now timeout p.outbox.control n due a).0 ];
  puts_data = λ p k occasion s n there due h. h;
  drops_data = λ p k occasion s n there due h. h;
}

submitted-plain : (p : Peering) (channel : ℕ) (q : Packet) → AsksAlone p → AsksAlone (submitted p channel q)
unfolding AsksAlone
submitted-plain p channel q h = by (outbox.is_unsequenced p.terms.mtu q)
  where
    on : (s : Option SendingEnd) → (p.state ≡ state.Connecting) ⊎ NoOffers (outbox.with_sequenced p.outbox p.terms.mtu channel q s).control
    on None = h
    on (Some s) = h

    by : (b : Bool) → (p.state ≡ state.Connecting) ⊎ NoOffers (cond b (outbox.with_unsequenced p.outbox channel q) (outbox.with_sequenced p.outbox p.terms.mtu channel q (slice_get p.outbox.senders channel))).control
    by true = h
    by false = on (slice_get p.outbox.senders channel)

pub asks-lasts : Lasts AsksAlone
unfolding AsksAlone
asks-lasts = changes-last AsksAlone asks-changes submitted-plain (λ p q same control h. elim h [ inl e ↦ inl (same ∙ e) | inr a ↦ inr (subst NoOffers (sym control) a) ])
    (λ p at h. elim h [ inl e ↦ absurd (let z : state.Ended ≡ state.Connecting = sym at ∙ e in cc) | inr a ↦ inr a ])

pub connected-plain : (p : Peering) → p.state ≡ state.Connected → AsksAlone p → NoOffers p.outbox.control
unfolding AsksAlone
connected-plain p on h = elim h [ inl e ↦ absurd (let z : state.Connected ≡ state.Connecting = sym on ∙ e in cc) | inr a ↦ a ]

pub none-asks : (p : Peering) → p.outbox.control.queued ≡ [] → p.outbox.control.sent ≡ [] → AsksAlone p
unfolding AsksAlone
none-asks p queued sent = inr (record { queued = λ n h. absurd (subst (λ (l : List Numbered). Has l n) queued h); sent = λ s h. absurd (subst (λ (l : List SentControl). Has l s) sent h) })

pub asking-asks : (p : Peering) → p.state ≡ state.Connecting → AsksAlone p
unfolding AsksAlone
asking-asks p e = inl e

pub answering-asks : (p : Peering) (n : Numbered) → p.outbox.control.queued ≡ n ∷ [] → p.outbox.control.sent ≡ [] → is_offer n.control ≡ false → AsksAlone p
unfolding AsksAlone
answering-asks p n queued sent plain = inr (record {
  queued = λ m h. elim (subst (λ (l : List Numbered). Has l m) queued h) [ inl e ↦ subst (λ (x : Numbered). is_offer x.control ≡ false) e plain | inr k ↦ absurd k ];
  sent = λ s h. absurd (subst (λ (l : List SentControl). Has l s) sent h);
})

-- ---- what is in a datagram
record AllSay (C : Commands → Type 0) (P : Message → Type 0) (f : Filling) : Type 0 where
  control : C f.outbox.control
  messages : (m : Message) → Has f.messages m → P m

one-more : (P : Message → Type 0) (ms : List Message) (m : Message) → ((x : Message) → Has ms x → P x) → P m → (x : Message) → Has (ms ++ m ∷ []) x → P x
one-more P ms m old new x h = elim (Has-push_cases ms m x h) [ inl k ↦ old x k | inr e ↦ subst P e new ]

-- each message has what an acknowledgement and data have, and a command of channel 0xFF that goes next
pub filled-all : (C : Commands → Type 0) (P : Message → Type 0) (pace : Pace) (b : Outbox) → ((c : Commands) (n : Next) → next pace.now pace.timeout c ≡ Some n → C c → C n.commands × P (message_of n.command)) → ((x : Acknowledgement) → P (acknowledgement_of x))
    → ((u : Unsequenced) → P (unsequenced_of u)) → ((channel : ℕ) (d : DataCommand) → P (fragment.message_of channel d)) → C b.control → (m : Message) → Has (filled pace b).messages m → P m
filled-all C P pace b goes acknowledges unsequenced data' begins = let a = all in a.messages
  where
    all : AllSay C P (filled pace b)
    all = by-filling pace b (AllSay C P) (record {
      closes = λ f a. record { control = a.control; messages = a.messages };
      acknowledges = λ f x rest e a. record { control = a.control; messages = one-more P f.messages (acknowledgement_of x) a.messages (acknowledges x) };
      controls = λ f n e a. (let s = goes f.outbox.control n e a.control in record { control = s.0; messages = one-more P f.messages (message_of n.command) a.messages s.1 });
      puts_unsequenced = λ f u rest t e a. record { control = a.control; messages = one-more P f.messages (unsequenced_of u) a.messages (unsequenced u) };
      drops_unsequenced = λ f u rest t e a. record { control = a.control; messages = a.messages };
      puts_data = λ f k s n t there due a. record { control = a.control; messages = one-more P f.messages (fragment.message_of s.channel n.command) a.messages (data' s.channel n.command) };
      drops_data = λ f k s n t there due kind a. record { control = a.control; messages = a.messages };
      keeps_room = λ f i x there wants a. record { control = a.control; messages = a.messages };
      gives_room = λ f i x n there due a. record { control = a.control; messages = a.messages };
    }) (record { control = begins; messages = λ m h. absurd h })

-- so no datagram of it has a CONNECT
control-said : (what : Control) (o : Offer) → is_offer what ≡ false → body_of what ≡ connect o → ⊥
control-said (control.Connect offer) o plain e = cc
control-said what o plain e = cc

data-said : (r : Bool) (f : Option Fragment) (count : ℕ) (body : List ℕ) (o : Offer) → wire_body r f count body ≡ connect o → ⊥
data-said true None count body o e = cc
data-said true (Some f) count body o e = cc
data-said false None count body o e = cc
data-said false (Some f) count body o e = cc

pub filled-plain : (pace : Pace) (b : Outbox) → NoOffers b.control → (m : Message) → Has (filled pace b).messages m → (o : Offer) → m.body ≡ connect o → ⊥
filled-plain pace b = filled-all NoOffers (λ m. (o : Offer) → m.body ≡ connect o → ⊥) pace b
    (λ c n e a. (let s = next-plain pace.now pace.timeout c n e a in (s.0, λ o t. control-said n.command.control o s.1 t)))
    (λ x o t. absurd (cc)) (λ u o t. absurd (cc)) (λ channel d o t. data-said d.reliable d.fragment d.unreliable d.body o t)
