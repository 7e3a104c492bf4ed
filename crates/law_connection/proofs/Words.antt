-- A connection has one connect id: each CONNECT that an end has to send or sent has it, and so have the terms of its peer.
use Rattle.std.proofs.Common.{◌≡◌, ℕ, zero, suc, ◌==◌, ◌⊎◌, Bool, true, false, cond, List, [], ◌∷◌, ◌++◌, map, take, drop, refl, sym, ap, subst, ◌∙◌, inl, inr, Option, Some, None, slice_get, slice_set}
use Rattle.std.specs.List.{position, remove}
use Rattle.enet_codec.specs.declared.command.Fragment.{Fragment}
use Rattle.enet_codec.specs.declared.command.Offer.{Offer}
use Rattle.enet_codec.specs.Message.{Message, connect}
use Rattle.enet_connect.specs.declared.terms.Terms.{Terms}
use Rattle.enet_connect.specs.Verification.{verification_of}
use Rattle.enet_rtt.specs.Transmission as transmission
use Rattle.enet_rtt.specs.declared.transmission.Tick.{Tick as Moment}
use Rattle.enet_senders.specs.declared.control.Control.{Control}
use Rattle.enet_senders.specs.declared.control.Control.TheVariants as control
use Rattle.enet_senders.specs.declared.control.Numbered.{Numbered}
use Rattle.enet_senders.specs.declared.control.SentControl.{SentControl}
use Rattle.enet_senders.specs.Controlling.{Commands, Next, is_reliable, is_in_span, begun, again, next_queued, next_resent, next_of, next, after_acknowledgement, without_place, position_of, marked, body_of, message_of}
use Rattle.enet_senders.specs.Controlling as controlling
use Rattle.enet_fragment.specs.DataCommand.{wire_body}
use Rattle.enet_fragment.specs.DataCommand as fragment
use Rattle.enet_sender.specs.CommandChoice as command_choice
use Rattle.enet_sender.specs.Due.{SendingEnd}
use Rattle.enet_outbox.specs.declared.parts.Pace.{Pace}
use Rattle.enet_outbox.specs.Outbox.{Outbox, is_unsequenced, with_unsequenced, with_sequenced}
use Rattle.enet_outbox.specs.Outbox as outbox
use Rattle.enet_outbox.specs.Emission.{Filling, acknowledgement_of, unsequenced_of, filled}
use Rattle.enet_outbox.proofs.Filled.{by-filling}
use Rattle.enet_peer.specs.declared.parts.Limits.{Limits}
use Rattle.enet_peer.specs.declared.parts.PeerEvent.{PeerEvent}
use Rattle.enet_peer.specs.declared.parts.PeerState.TheVariants as state
use Rattle.enet_peer.specs.Peering.{Peering, joined, connecting, answering}
use Rattle.enet_peer.specs.Endings.{dropped, ended, freed, disconnecting, parting}
use Rattle.enet_peer.specs.CommandEffect.{obeyed}
use Rattle.enet_peer.specs.Calls.{submitted, pace_of, gone_on, moved, next_event}
use Rattle.enet_peer.specs.Refusing.{full_word, heeded, told_again, told_full}
use Rattle.law_connection.specs.LinkSteps.{Has}
use Rattle.law_connection.proofs.Lists.{Has-push_cases, Has-append_cases, Has-slice_get}
use Rattle.law_connection.specs.Connection.{Put, End, put_by}
use Rattle.law_connection.specs.Steps.{Event, Answer, Submit, Emit, Come, Tick, Take, Disconnect, Set, GiveWay, TellAgain, Happens, with_peer, with_setting, with_emission, no_end}
use Rattle.law_connection.proofs.Emits.{Has-from_map}
use Rattle.law_connection.proofs.Events.{took}
use Rattle.law_connection.proofs.PeerChanges.{Core, Changes, is_offer, kept-moved, kept-left, kept-set, kept-emitted, kept-given_way, kept-heeded, kept-told_again}

-- a CONNECT has this connect id
pub Says : ℕ → Control → Type 0
Says w (control.Connect offer) = offer.connect_id ≡ w
Says w _ = Unit {0}

says-other : (w : ℕ) (what : Control) → is_offer what ≡ false → Says w what
unfolding Says
says-other w (control.Connect offer) e = absurd (cc)
says-other w (control.VerifyConnect verify) e = tt
says-other w (control.Disconnect info) e = tt
says-other w (control.DisconnectNow info) e = tt
says-other w control.Ping e = tt
says-other w (control.BandwidthLimit incoming outgoing) e = tt
says-other w (control.ThrottleConfigure interval acceleration deceleration) e = tt

-- all that is queued and sent of channel 0xFF does
pub record AllSay (w : ℕ) (c : Commands) : Type 0 where
  pub queued : (n : Numbered) → Has c.queued n → Says w n.control
  pub sent : (s : SentControl) → Has c.sent s → Says w s.command.control

none-say : (w number : ℕ) → AllSay w (record { number = number; queued = []; sent = [] })
none-say w number = record { queued = λ n h. absurd h; sent = λ s h. absurd h }

queued-say : (w : ℕ) (c : Commands) (what : Control) → Says w what → AllSay w c → AllSay w (controlling.with_queued c what)
queued-say w c what says a = record {
  queued = λ n h. elim (Has-push_cases c.queued (record { number = (controlling.with_queued c what).number; control = what }) n h) [
    | inl old ↦ a.queued n old
    | inr e ↦ subst (λ (x : Numbered). Says w x.control) e says
  ];
  sent = a.sent;
}

-- removing and setting

Has-taken : (i : ℕ) (xs : List SentControl) (x : SentControl) → Has (take i xs) x → Has xs x
Has-taken zero xs x h = absurd h
Has-taken (suc i) [] x h = absurd h
Has-taken (suc i) (y ∷ xs) x (inl e) = inl e
Has-taken (suc i) (y ∷ xs) x (inr h) = inr (Has-taken i xs x h)

Has-dropped : (i : ℕ) (xs : List SentControl) (x : SentControl) → Has (drop i xs) x → Has xs x
Has-dropped zero xs x h = h
Has-dropped (suc i) [] x h = absurd h
Has-dropped (suc i) (y ∷ xs) x h = inr (Has-dropped i xs x h)

Has-removed : (xs : List SentControl) (i : ℕ) (x : SentControl) → Has (remove xs i) x → Has xs x
Has-removed xs i x h = elim (Has-append_cases (take i xs) (drop (suc i) xs) x h) [ inl k ↦ Has-taken i xs x k | inr k ↦ Has-dropped (suc i) xs x k ]

Has-set : (xs : List SentControl) (i : ℕ) (y x : SentControl) → Has (slice_set xs i y) x → Has xs x ⊎ (y ≡ x)
Has-set [] i y x h = inl h
Has-set (z ∷ xs) zero y x (inl e) = inr e
Has-set (z ∷ xs) zero y x (inr h) = inl (inr h)
Has-set (z ∷ xs) (suc i) y x (inl e) = inl (inl e)
Has-set (z ∷ xs) (suc i) y x (inr h) = elim (Has-set xs i y x h) [ inl k ↦ inl (inr k) | inr e ↦ inr e ]

-- what goes next

sent-more : (w : ℕ) (b : Bool) (sent : List SentControl) (s : SentControl) → Says w s.command.control → ((x : SentControl) → Has sent x → Says w x.command.control) → (x : SentControl) → Has (cond b (sent ++ s ∷ []) sent) x → Says w x.command.control
sent-more w true sent s says old x h = elim (Has-push_cases sent s x h) [ inl k ↦ old x k | inr e ↦ subst (λ (y : SentControl). Says w y.command.control) e says ]
sent-more w false sent s says old x h = old x h

some-next : (x n : Next) → Some x ≡ Some n → x ≡ n
some-next x n e = cc

queue-says : (w now timeout : ℕ) (c : Commands) (queued : List Numbered) (n : Next) → c.queued ≡ queued → next_queued now timeout c queued ≡ Some n → AllSay w c → AllSay w n.commands × Says w n.command.control
queue-says w now timeout c [] n is e a = absurd (let y : None ≡ Some n = e in cc)
queue-says w now timeout c (m ∷ rest) n is e a = by (is_in_span c.sent m.number) e
  where
    made : Next
    made = record { command = m; commands = record c { queued = rest; sent = cond (is_reliable m.control) (c.sent ++ begun now timeout m ∷ []) c.sent } }

    all : (x : Numbered) → Has (m ∷ rest) x → Says w x.control
    all = subst (λ (l : List Numbered). (x : Numbered) → Has l x → Says w x.control) is a.queued

    by : (b : Bool) → cond b (Some made) None ≡ Some n → AllSay w n.commands × Says w n.command.control
    by true f = subst (λ (x : Next). AllSay w x.commands × Says w x.command.control) (some-next made n f)
        (record { queued = λ x h. all x (inr h); sent = sent-more w (is_reliable m.control) c.sent (begun now timeout m) (all m (inl refl)) a.sent }, all m (inl refl))
    by false f = absurd (let y : None ≡ Some n = f in cc)

resent-says : (w now : ℕ) (c : Commands) (i : ℕ) (o : Option SentControl) (n : Next) → slice_get c.sent i ≡ o → next_resent now c i o ≡ Some n → AllSay w c → AllSay w n.commands × Says w n.command.control
resent-says w now c i None n is e a = absurd (let y : None ≡ Some n = e in cc)
resent-says w now c i (Some p) n is e a =
    let says : Says w p.command.control = a.sent p (Has-slice_get c.sent i p is) in
    subst (λ (x : Next). AllSay w x.commands × Says w x.command.control) (some-next (record { command = p.command; commands = record c { sent = slice_set c.sent i (again now p) } }) n e)
    (record { queued = a.queued; sent = λ x h. elim (Has-set c.sent i (again now p) x h) [ inl k ↦ a.sent x k | inr f ↦ subst (λ (y : SentControl). Says w y.command.control) f says ] }, says)

next-says : (w now timeout : ℕ) (c : Commands) (n : Next) → next now timeout c ≡ Some n → AllSay w c → AllSay w n.commands × Says w n.command.control
next-says w now timeout c n e a = by (position (λ (p : SentControl). p.transmission.due) c.sent) e
  where
    by : (o : Option ℕ) → next_of now timeout c o ≡ Some n → AllSay w n.commands × Says w n.command.control
    by None f = queue-says w now timeout c c.queued n refl f a
    by (Some i) f = resent-says w now c i (slice_get c.sent i) n refl f a

without-says : (w : ℕ) (c : Commands) (o : Option ℕ) → AllSay w c → AllSay w (record c { sent = without_place c.sent o })
without-says w c None a = a
without-says w c (Some i) a = record { queued = a.queued; sent = λ x h. a.sent x (Has-removed c.sent i x h) }

-- a peer

-- a peer of a connection with this connect id
pub record IsOf (w : ℕ) (p : Peering) : Type 0 where
  pub terms : p.terms.connect_id ≡ w
  pub offer : p.state ≡ state.Connecting → p.offer.connect_id ≡ w
  pub says : AllSay w p.outbox.control

-- the same terms and offer, in a state that isn't the first
moves : (w : ℕ) (p q : Peering) → q.terms.connect_id ≡ p.terms.connect_id → (q.state ≡ state.Connecting → ⊥) → AllSay w q.outbox.control → IsOf w p → IsOf w q
moves w p q same far says a = record { terms = same ∙ a.terms; offer = λ e. absurd (far e); says = says }

stays-of : (w : ℕ) (p q : Peering) → q.terms.connect_id ≡ p.terms.connect_id → q.offer.connect_id ≡ p.offer.connect_id → q.state ≡ p.state → AllSay w q.outbox.control → IsOf w p → IsOf w q
stays-of w p q same offered at says a = record { terms = same ∙ a.terms; offer = λ e. offered ∙ a.offer (sym at ∙ e); says = says }

acknowledged-says : (w : ℕ) (o : Outbox) (channel number : ℕ) → AllSay w o.control → AllSay w (outbox.after_acknowledgement o channel number).control
acknowledged-says w o channel number a = by (channel == 0xFF)
  where
    at : (s : Option SendingEnd) → AllSay w (outbox.acknowledged_on o channel number s).control
    at None = a
    at (Some s) = a

    by : (b : Bool) → AllSay w (cond b (record o { control = after_acknowledgement o.control number }) (outbox.acknowledged_on o channel number (slice_get o.senders channel))).control
    by true = without-says w o.control (position_of number o.control.sent) a
    by false = at (slice_get o.senders channel)

marked-all : (w : ℕ) (tick : Moment) (c : Commands) → AllSay w c → AllSay w (controlling.with_marked tick c)
marked-all w tick c a = record {
  queued = a.queued;
  sent = λ x h. (let r = Has-from_map (marked tick) c.sent x h in subst (λ (y : SentControl). Says w y.command.control) r.2 (a.sent r.0 r.1));
}

held_back-says : (w : ℕ) (tick : Moment) (x : SentControl) → Says w x.command.control → Says w (controlling.held_back tick x).command.control
held_back-says w tick x says = by (controlling.is_late tick.now x)
  where
    by : (b : Bool) → Says w (cond b (record x { transmission = transmission.again tick.now (transmission.marked tick x.transmission) }) x).command.control
    by true = says
    by false = says

held_back-all : (w : ℕ) (tick : Moment) (c : Commands) → AllSay w c → AllSay w (controlling.with_held_back tick c)
held_back-all w tick c a = record {
  queued = a.queued;
  sent = λ x h. (let r = Has-from_map (controlling.held_back tick) c.sent x h in subst (λ (y : SentControl). Says w y.command.control) r.2 (held_back-says w tick r.0 (a.sent r.0 r.1)));
}

cleared-queued : (w number : ℕ) (what : Control) → Says w what → AllSay w (controlling.with_queued (record { number = number; queued = []; sent = [] }) what)
cleared-queued w number what says = queued-say w (record { number = number; queued = []; sent = [] }) what says (none-say w number)

pub words : (w : ℕ) → Changes (IsOf w)
unfolding Says
words w = record {
  quiet = λ p q e h. record {
    terms = ap (λ (c : Core). c.connect_id) e ∙ h.terms;
    offer = λ t. ap (λ (c : Core). c.offered) e ∙ h.offer (sym (ap (λ (c : Core). c.state) e) ∙ t);
    says = subst (λ (c : Core). AllSay w c.control) (sym e) h.says;
  };
  controls = λ p what plain on h. stays-of w p (record p { outbox = outbox.with_control p.outbox what }) refl refl refl (queued-say w p.outbox.control what (says-other w what plain) h.says) h;
  ends = λ p why info here h. moves w p (ended p why info) refl (λ e. absurd (cc)) (none-say w p.outbox.control.number) h;
  cuts = λ p why now gone over h. moves w p (ended p why 0) refl (λ e. absurd (cc)) (none-say w p.outbox.control.number) h;
  frees = λ p h. moves w p (freed p) refl (λ e. absurd (cc)) (none-say w p.outbox.control.number) h;
  parts = λ p info h. moves w p (parting p info) refl (λ e. absurd (cc)) (cleared-queued w p.outbox.control.number (control.DisconnectNow info) tt) h;
  disconnects = λ p info up h. moves w p (disconnecting p info) refl (λ e. absurd (cc)) (cleared-queued w p.outbox.control.number (control.Disconnect info) tt) h;
  answers = λ p info up h. moves w p (record (dropped p) { state = state.AckDisconnect; info = info }) refl (λ e. absurd (cc)) (none-say w p.outbox.control.number) h;
  waits = λ p info on h. moves w p (record p { state = state.DisconnectLater; info = info }) refl (λ e. absurd (cc)) h.says h;
  greets = λ p e h. moves w p (record p { state = state.Connected; greeting = Some p.info }) refl (λ e. absurd (cc)) h.says h;
  welcomes = λ p v terms e big word h. record { terms = word ∙ h.offer e; offer = λ t. absurd (let y : state.Connected ≡ state.Connecting = t in cc); says = none-say w p.outbox.control.number };
  acknowledges = λ p j number here h. stays-of w p (record p { outbox = outbox.after_acknowledgement p.outbox j number }) refl refl refl (acknowledged-says w p.outbox j number h.says) h;
  marks = λ p tick h. stays-of w p (record p { outbox = outbox.marked p.outbox tick }) refl refl refl (marked-all w tick p.outbox.control h.says) h;
  refuses = λ p at h. stays-of w p (told_full p) refl refl refl (queued-say w (controlling.cleared p.outbox.control) (control.DisconnectNow full_word) tt (none-say w p.outbox.control.number)) h;
  holds_back = λ p tick at h. stays-of w p (record p { outbox = outbox.held_back p.outbox tick }) refl refl refl (held_back-all w tick p.outbox.control h.says) h;
  gives_way = λ p on h. record { terms = h.terms; offer = h.offer; says = h.says };
  takes = λ p j r c on there h. record { terms = h.terms; offer = h.offer; says = h.says };
  takes_unsequenced = λ p j group payload on h. record { terms = h.terms; offer = h.offer; says = h.says };
  puts_control = λ p now timeout n due h. stays-of w p (record p { outbox = record p.outbox { control = n.commands } }) refl refl refl (next-says w now timeout p.outbox.control n due h.says).0 h;
  puts_data = λ p k occasion s n there due h. record { terms = h.terms; offer = h.offer; says = h.says };
  drops_data = λ p k occasion s n there due h. record { terms = h.terms; offer = h.offer; says = h.says };
}

-- what a datagram says

record SaysSo (w : ℕ) (f : Filling) : Type 0 where
  control : AllSay w f.outbox.control
  messages : (m : Message) (o : Offer) → Has f.messages m → m.body ≡ connect o → o.connect_id ≡ w

more-said : (w : ℕ) (ms : List Message) (m : Message) → ((x : Message) (o : Offer) → Has ms x → x.body ≡ connect o → o.connect_id ≡ w) → ((o : Offer) → m.body ≡ connect o → o.connect_id ≡ w)
    → (x : Message) (o : Offer) → Has (ms ++ m ∷ []) x → x.body ≡ connect o → o.connect_id ≡ w
more-said w ms m old new x o h = elim (Has-push_cases ms m x h) [ inl k ↦ old x o k | inr e ↦ subst (λ (y : Message). y.body ≡ connect o → o.connect_id ≡ w) e (new o) ]

same-offer : (a b : Offer) → connect a ≡ connect b → a ≡ b
same-offer a b e = cc

control-said : (w : ℕ) (what : Control) (o : Offer) → Says w what → body_of what ≡ connect o → o.connect_id ≡ w
unfolding Says
control-said w (control.Connect offer) o says e = ap (λ (x : Offer). x.connect_id) (sym (same-offer offer o e)) ∙ says
control-said w (control.VerifyConnect verify) o says e = absurd (cc)
control-said w (control.Disconnect info) o says e = absurd (cc)
control-said w (control.DisconnectNow info) o says e = absurd (cc)
control-said w control.Ping o says e = absurd (cc)
control-said w (control.BandwidthLimit incoming outgoing) o says e = absurd (cc)
control-said w (control.ThrottleConfigure interval acceleration deceleration) o says e = absurd (cc)

data-said : (r : Bool) (f : Option Fragment) (count : ℕ) (body : List ℕ) (o : Offer) → wire_body r f count body ≡ connect o → ⊥
data-said true None count body o e = cc
data-said true (Some f) count body o e = cc
data-said false None count body o e = cc
data-said false (Some f) count body o e = cc

pub filled-say : (w : ℕ) (pace : Pace) (b : Outbox) → AllSay w b.control → (m : Message) (o : Offer) → Has (filled pace b).messages m → m.body ≡ connect o → o.connect_id ≡ w
filled-say w pace b says = let a = all in a.messages
  where
    all : SaysSo w (filled pace b)
    all = by-filling pace b (SaysSo w) (record {
      closes = λ f a. record { control = a.control; messages = a.messages };
      acknowledges = λ f x rest e a. record { control = a.control; messages = more-said w f.messages (acknowledgement_of x) a.messages (λ o t. absurd (cc)) };
      controls = λ f n e a. (let s = next-says w pace.now pace.timeout f.outbox.control n e a.control in
          record { control = s.0; messages = more-said w f.messages (message_of n.command) a.messages (λ o t. control-said w n.command.control o s.1 t) });
      puts_unsequenced = λ f u rest t e a. record { control = a.control; messages = more-said w f.messages (unsequenced_of u) a.messages (λ o t. absurd (cc)) };
      drops_unsequenced = λ f u rest t e a. record { control = a.control; messages = a.messages };
      puts_data = λ f k s n t there due a. record {
        control = a.control;
        messages = more-said w f.messages (fragment.message_of s.channel n.command) a.messages (λ o t. absurd (data-said n.command.reliable n.command.fragment n.command.unreliable n.command.body o t));
      };
      drops_data = λ f k s n t there due kind a. record { control = a.control; messages = a.messages };
      keeps_room = λ f i x there wants a. record { control = a.control; messages = a.messages };
      gives_room = λ f i x n there due a. record { control = a.control; messages = a.messages };
    }) (record { control = says; messages = λ m o h. absurd h })

-- an end

-- all CONNECTs that an end put out have this connect id, and so has its peer
pub record IsWord (w : ℕ) (e : End) : Type 0 where
  pub log : (x : Put) (o : Offer) → Has e.log x → x.message.body ≡ connect o → o.connect_id ≡ w
  pub peer : (p : Peering) → e.peer ≡ Some p → IsOf w p

same-some : (p q : Peering) → ◌≡◌ {A = Option Peering} (Some p) (Some q) → p ≡ q
same-some p q e = cc

-- another peer, which is of the connection too
word-with : (w : ℕ) (own : End) (q : Peering) → IsWord w own → IsOf w q → IsWord w (with_peer own q)
word-with w own q h a = record { log = h.log; peer = λ p e. subst (IsOf w) (same-some q p e) a }

word-submitted : (w : ℕ) (p : Peering) (channel : ℕ) (q : command_choice.Packet) → IsOf w p → IsOf w (submitted p channel q)
word-submitted w p channel q h = by (is_unsequenced p.terms.mtu q)
  where
    at : (o : Option SendingEnd) → IsOf w (record p { outbox = with_sequenced p.outbox p.terms.mtu channel q o })
    at None = record { terms = h.terms; offer = h.offer; says = h.says }
    at (Some s) = record { terms = h.terms; offer = h.offer; says = h.says }

    by : (b : Bool) → IsOf w (record p { outbox = cond b (with_unsequenced p.outbox channel q) (with_sequenced p.outbox p.terms.mtu channel q (slice_get p.outbox.senders channel)) })
    by true = record { terms = h.terms; offer = h.offer; says = h.says }
    by false = at (slice_get p.outbox.senders channel)

word-emitted : (w : ℕ) (own far : End) (p : Peering) (now : ℕ) → own.peer ≡ Some p → IsWord w own → IsWord w (with_emission own far p now)
word-emitted w own far p now is h = record {
  log = λ x o there e. elim (Has-append_cases own.log (map put ms) x there) [
    | inl old ↦ h.log x o old e
    | inr new ↦ (let r = Has-from_map put ms x new in filled-say w (pace_of p now) p.outbox (h.peer p is).says r.0 o r.1 (ap (λ (y : Put). y.message.body) r.2 ∙ e))
  ];
  peer = λ q e. subst (IsOf w) (same-some (gone_on (record p { outbox = (filled (pace_of p now) p.outbox).outbox })) q e) (kept-emitted (IsOf w) (words w) p now (h.peer p is));
}
  where
    ms : List Message
    ms = (filled (pace_of p now) p.outbox).messages

    put : Message → Put
    put = put_by (record own { log = own.log ++ map (λ (m : Message). record { message = m; sent_then = 0 }) ms }) far

word-took : (w : ℕ) (own : End) (p q : Peering) (e : PeerEvent) → own.peer ≡ Some p → next_event p ≡ Some (record { event = e; after = q }) → IsWord w own → IsWord w (record own { peer = Some q; events = own.events ++ e ∷ [] })
word-took w own p q e is next h = record {
  log = h.log;
  peer = λ r f. subst (IsOf w) (same-some q r f) (took (λ (q : Peering) (e : PeerEvent). IsOf w q) p q e next
      (λ info g. record { terms = a.terms; offer = a.offer; says = a.says })
      (λ x rest g u. record { terms = a.terms; offer = a.offer; says = a.says })
      (λ g u at. record { terms = a.terms; offer = λ t. absurd (let y : state.Free ≡ state.Connecting = t in cc); says = a.says }));
}
  where
    a : IsOf w p
    a = h.peer p is

-- each event keeps this
pub word-happens : (w : ℕ) (own far new : End) (e : Event) → IsWord w far → IsWord w own → Happens own far e new → IsWord w new
unfolding Says
word-happens w own far new (Answer put offer now offsets server limits) f h x =
    subst (IsWord w) (sym x.4) (word-with w own (answering now offsets offer server limits) h (record {
      terms = f.log put offer x.1 x.2;
      offer = λ t. absurd (let y : state.Answering ≡ state.Connecting = t in cc);
      says = cleared-queued w offsets.number (control.VerifyConnect (verification_of offer server)) tt;
    }))
word-happens w own far new (Submit q) f h x = subst (IsWord w) (sym x.3) (record {
  log = h.log;
  peer = λ p e. subst (IsOf w) (same-some (submitted x.0 q.channel (record { flags = q.flags; body = q.body })) p e) (word-submitted w x.0 q.channel (record { flags = q.flags; body = q.body }) (h.peer x.0 x.1));
})
word-happens w own far new (Emit now) f h x = subst (IsWord w) (sym x.2) (word-emitted w own far x.0 now x.1 h)
word-happens w own far new (Come put now sent) f h x =
    subst (IsWord w) (sym x.4) (word-with w own (heeded x.3 x.0 now sent put.message).after h (kept-heeded (IsOf w) (words w) x.3 x.0 put.message.head now sent put.message.body (h.peer x.0 x.1)))
word-happens w own far new (Tick now) f h x = subst (IsWord w) (sym x.3) (word-with w own (moved x.2 x.0 now) h (kept-moved (IsOf w) (words w) x.2 x.0 now (h.peer x.0 x.1)))
word-happens w own far new Take f h x = subst (IsWord w) (sym x.5) (word-took w own x.0 x.1 x.2 x.3 x.4 h)
word-happens w own far new (Disconnect way info) f h x = subst (IsWord w) (sym x.4) (word-with w own x.1 h (kept-left (IsOf w) (words w) x.0 x.1 way info x.3 (h.peer x.0 x.2)))
word-happens w own far new (Set setting) f h x = subst (IsWord w) (sym x.3) (word-with w own (with_setting setting x.0) h (kept-set (IsOf w) (words w) x.0 setting x.2 (h.peer x.0 x.1)))
word-happens w own far new GiveWay f h x = subst (IsWord w) (sym x.3) (word-with w own (freed x.0) h (kept-given_way (IsOf w) (words w) x.0 (h.peer x.0 x.1)))
word-happens w own far new TellAgain f h x = subst (IsWord w) (sym x.3) (word-with w own (told_again x.0) h (kept-told_again (IsOf w) (words w) x.0 x.2 (h.peer x.0 x.1)))

-- at first

pub word-none : (w : ℕ) → IsWord w no_end
word-none w = record { log = λ x o h. absurd h; peer = λ p e. absurd (let y : ◌≡◌ {A = Option Peering} None (Some p) = e in cc) }

pub word-asking : (now offset : ℕ) (offer : Offer) (limits : Limits) → IsWord offer.connect_id (with_peer no_end (connecting now offset offer limits))
unfolding Says
word-asking now offset offer limits = word-with offer.connect_id no_end (connecting now offset offer limits) (word-none offer.connect_id) (record {
  terms = refl;
  offer = λ t. refl;
  says = cleared-queued offer.connect_id 0 (control.Connect offer) refl;
})

pub word-joined : (now : ℕ) (terms : Terms) (limits : Limits) → IsWord terms.connect_id (with_peer no_end (joined now terms limits))
word-joined now terms limits = word-with terms.connect_id no_end (joined now terms limits) (word-none terms.connect_id) (record {
  terms = refl;
  offer = λ t. absurd (let y : state.Connected ≡ state.Connecting = t in cc);
  says = none-say terms.connect_id 1;
})
