-- An emission is a list of moves of the links on each channel: of the one that goes out, and of the one that comes in.
use Rattle.std.proofs.Common.{◌≡◌, ◌≢◌, ℕ, Bool, true, false, cond, ◌==◌, ◌&&◌, List, [], ◌∷◌, ◌++◌, length, ◌≤◌, ◌+◌, refl, sym, ap, subst, ◌∙◌, inl, inr, ◌⊎◌, arith, Option, Some, None, slice_set}
use Rattle.std.proofs.lemmas.Bool.Decides.{nat_tests}
use Rattle.std.proofs.lemmas.List.{length-append}
use Rattle.std.specs.Option.{is_some}
use Rattle.std.specs.List.{slice_get}
use Rattle.enet_codec.specs.Message.{Message, Body, acknowledge}
use Rattle.enet_codec.specs.declared.command.Head.{Head}
use Rattle.enet_codec.specs.declared.command.Fragment.{Fragment}
use Rattle.enet_seq.specs.Numbering.{wire}
use Rattle.enet_throttle.specs.Throttle.{Throttling}
use Rattle.enet_senders.specs.declared.control.Control.{Control}
use Rattle.enet_senders.specs.declared.control.Control.TheVariants as control
use Rattle.enet_senders.specs.Controlling as controlling
use Rattle.enet_fragment.specs.declared.data.DataCommand.{DataCommand}
use Rattle.enet_fragment.specs.DataCommand.{message_of, data_of, read_of, wire_body}
use Rattle.enet_sender.specs.declared.sent.Sent.{Sent}
use Rattle.enet_sender.specs.declared.outgoing.Occasion.{Occasion}
use Rattle.enet_sender.specs.Sender.{Sender, Next, next, with_skipped}
use Rattle.enet_sender.specs.Due.{SendingEnd}
use Rattle.enet_outbox.specs.declared.parts.Acknowledgement.{Acknowledgement}
use Rattle.enet_outbox.specs.declared.parts.Pace.{Pace}
use Rattle.enet_outbox.specs.Outbox.{Outbox}
use Rattle.enet_outbox.specs.Emission.{Filling, with_command, acknowledgement_of, unsequenced_of, with_sender, data_put, occasion, filled}
use Rattle.law_connection.specs.Link.{Answer}
use Rattle.law_connection.specs.Greatest.{greatest_after}
use Rattle.law_connection.specs.WireLink.{WireLink, sends, drops, logs_answer}
use Rattle.law_connection.specs.LinkSteps.{Has, Event, Send, Drop, PutsAnswer, Runs}
use Rattle.law_connection.proofs.Lists.{Has-push_cases, Has-push_left, Has-push}
use Rattle.law_connection.specs.Connection.{is_data_on, reached}
use Rattle.law_connection.specs.Linked.{sender_in, numbers_on}
use Rattle.law_connection.specs.Invariant.{AreInPlace}
use Rattle.law_connection.proofs.Runs.{Runs-push, reached-push, reached-none, get-set-other, get-set, either}
use Rattle.enet_outbox.proofs.Filled.{by-filling}

-- whether a message is data of a channel

same-number : (n : ℕ) → (n == n) ≡ true
same-number n = grind (arith, nat_tests)

reads-some : (h : Head) (r : Bool) (f : Option Fragment) (count : ℕ) (body : List ℕ) → is_some (read_of h (wire_body r f count body)) ≡ true
reads-some h true None count body = refl
reads-some h true (Some f) count body = refl
reads-some h false None count body = refl
reads-some h false (Some f) count body = refl

is-data : (channel : ℕ) (c : DataCommand) → is_data_on channel (message_of channel c) ≡ true
is-data channel c =
    let h : Head = record { acknowledge = c.reliable; unsequenced = false; channel = channel; number = c.number } in
    ap (λ b. b && channel == channel) (reads-some h c.reliable c.fragment c.unreliable c.body) ∙ same-number channel

no-data : (b : Bool) (k channel : ℕ) → k ≢ channel → (b && k == channel) ≡ false
no-data false k channel n = refl
no-data true k channel n = grind (arith, nat_tests)

pub control-none : (what : Control) (h : Head) → is_some (read_of h (controlling.body_of what)) ≡ false
control-none (control.Connect offer) h = refl
control-none (control.VerifyConnect verify) h = refl
control-none (control.Disconnect info) h = refl
control-none (control.DisconnectNow info) h = refl
control-none control.Ping h = refl
control-none (control.BandwidthLimit incoming outgoing) h = refl
control-none (control.ThrottleConfigure interval acceleration deceleration) h = refl

-- a message of a datagram is data that goes into the link's datagram, or none of the channel's
abbrev pub Goes : ℕ → List DataCommand → Message → Type 0
Goes channel cs m = (is_data_on channel m ≡ false) ⊎ ((c : DataCommand) × (m ≡ message_of channel c) × Has cs c)

goes-more : (channel : ℕ) (cs : List DataCommand) (d : DataCommand) (m : Message) → Goes channel cs m → Goes channel (cs ++ d ∷ []) m
goes-more channel cs d m (inl e) = inl e
goes-more channel cs d m (inr g) = inr (g.0, g.1, Has-push_left cs d g.0 g.2)

-- the link has the sender, or the sender has nothing to send
abbrev pub Ready : Bool → WireLink → Sender → Type 0
Ready true v s = (v.is_sending ≡ true) × (v.outgoing ≡ s)
Ready false v s = (s.queued ≡ []) × (s.sent ≡ [])

-- so far the filling of a datagram is a run of the link that goes out on a channel
pub record Packs (mtu channel : ℕ) (z : Bool) (v : WireLink) (f : Filling) : Type 0 where
  pub link : WireLink
  pub events : List Event
  pub runs : Runs mtu events v link
  pub same : link ≡ record v { outgoing = link.outgoing; greatest = link.greatest; making = link.making }
  pub ready : Ready z link (sender_in (slice_get f.outbox.senders channel))
  pub places : AreInPlace f.outbox.senders
  pub making : (m : Message) → Has f.messages m → Goes channel link.making m
  pub greatest : link.greatest ≡ reached channel v.greatest f.messages
  pub few : length link.making ≤ length v.making + length f.messages

one-more : {X : Type 0} (xs : List X) (x : X) → length (xs ++ x ∷ []) ≡ length xs + 1
one-more xs x = length-append xs (x ∷ [])

packs-other : (mtu channel : ℕ) (z : Bool) (v : WireLink) (f : Filling) (m : Message) (o : Outbox) → is_data_on channel m ≡ false → slice_get o.senders channel ≡ slice_get f.outbox.senders channel → AreInPlace o.senders
    → Packs mtu channel z v f → Packs mtu channel z v (with_command f m o)
packs-other mtu channel z v f m o none stays places a = record {
  link = a.link;
  events = a.events;
  runs = a.runs;
  same = a.same;
  ready = subst (λ (x : Option SendingEnd). Ready z a.link (sender_in x)) (sym stays) a.ready;
  places = places;
  making = λ x h. elim (Has-push_cases f.messages m x h) [ inl old ↦ a.making x old | inr is ↦ inl (ap (is_data_on channel) (sym is) ∙ none) ];
  greatest = a.greatest ∙ ap (λ b. cond b (greatest_after (reached channel v.greatest f.messages) m.head.number) (reached channel v.greatest f.messages)) (sym none) ∙ sym (reached-push channel v.greatest f.messages m);
  few = (let few = a.few in let more = one-more f.messages m in omega arith);
}

-- nothing is due where nothing is left
pub idle-next : (occasion : Occasion) (s : Sender) (n : Next) → s.queued ≡ [] → s.sent ≡ [] → next wire occasion s ≡ Some n → ⊥
idle-next occasion s n q t e =
    let is : next wire occasion (record s { queued = []; sent = [] }) ≡ Some n =
    ap (λ (x : List DataCommand). next wire occasion (record s { queued = x; sent = [] })) (sym q)
    ∙ ap (λ (x : List Sent). next wire occasion (record s { sent = x })) (sym t) ∙ e in
    let both : None ≡ Some n = is in
    cc

-- the command that is due on the channel goes
packs-sent : (mtu channel : ℕ) (z : Bool) (v : WireLink) (f : Filling) (occasion : Occasion) (s : SendingEnd) (n : Next) (o : Outbox) → slice_get f.outbox.senders channel ≡ Some s → next wire occasion s.sender ≡ Some n
    → slice_get o.senders channel ≡ Some (record s { sender = n.sender }) → AreInPlace o.senders → Packs mtu channel z v f → Packs mtu channel z v (with_command f (message_of s.channel n.command) o)
packs-sent mtu channel z v f occasion s n o there due set places a = go z refl (subst (λ (x : Option SendingEnd). Ready z a.link (sender_in x)) there a.ready)
  where
    m : Message
    m = message_of s.channel n.command

    is : m ≡ message_of channel n.command
    is = ap (λ k. message_of k n.command) (a.places channel s there)

    data' : is_data_on channel m ≡ true
    data' = ap (is_data_on channel) is ∙ is-data channel n.command

    go : (y : Bool) → z ≡ y → Ready y a.link s.sender → Packs mtu channel z v (with_command f m o)
    go false e none = absurd (idle-next occasion s.sender n none.0 none.1 due)
    go true e r =
        let l : WireLink = a.link in
        let w : WireLink = sends l n in
        record {
          link = w;
          events = a.events ++ Send occasion ∷ [];
          runs = Runs-push mtu a.events (Send occasion) v l w a.runs (record {
            due = n;
            sending = r.0;
            is_due = ap (λ (x : Sender). next wire occasion x) r.1 ∙ due;
            after = refl;
          });
          same = ap (λ (x : WireLink). record x { outgoing = w.outgoing; greatest = w.greatest; making = w.making }) a.same;
          ready = subst (λ (x : Option SendingEnd). Ready z w (sender_in x)) (sym set) (subst (λ y. Ready y w w.outgoing) (sym e) (r.0, refl));
          places = places;
          making = λ x h. elim (Has-push_cases f.messages m x h) [
            | inl old ↦ goes-more channel l.making n.command x (a.making x old)
            | inr at ↦ inr (n.command, sym at ∙ is, Has-push l.making n.command)
          ];
          greatest = ap (λ g. greatest_after g n.command.number) a.greatest
              ∙ ap (λ b. cond b (greatest_after (reached channel v.greatest f.messages) n.command.number) (reached channel v.greatest f.messages)) (sym data')
              ∙ sym (reached-push channel v.greatest f.messages m);
          few = (let few = a.few in let more = one-more f.messages m in let made = one-more l.making n.command in omega arith);
        }

-- the throttle drops the packet that it begins
packs-dropped : (mtu channel : ℕ) (z : Bool) (v : WireLink) (f : Filling) (occasion : Occasion) (s : SendingEnd) (n : Next) (o : Outbox) → slice_get f.outbox.senders channel ≡ Some s → next wire occasion s.sender ≡ Some n
    → n.command.reliable ≡ false → slice_get o.senders channel ≡ Some (record s { sender = with_skipped n.sender }) → AreInPlace o.senders → Packs mtu channel z v f → Packs mtu channel z v (record f { outbox = o })
packs-dropped mtu channel z v f occasion s n o there due kind set places a = go z refl (subst (λ (x : Option SendingEnd). Ready z a.link (sender_in x)) there a.ready)
  where
    go : (y : Bool) → z ≡ y → Ready y a.link s.sender → Packs mtu channel z v (record f { outbox = o })
    go false e none = absurd (idle-next occasion s.sender n none.0 none.1 due)
    go true e r =
        let l : WireLink = a.link in
        let w : WireLink = drops l n in
        record {
          link = w;
          events = a.events ++ Drop occasion ∷ [];
          runs = Runs-push mtu a.events (Drop occasion) v l w a.runs (record {
            due = n;
            sending = r.0;
            is_due = ap (λ (x : Sender). next wire occasion x) r.1 ∙ due;
            unreliable = kind;
            after = refl;
          });
          same = ap (λ (x : WireLink). record x { outgoing = w.outgoing; greatest = w.greatest; making = w.making }) a.same;
          ready = subst (λ (x : Option SendingEnd). Ready z w (sender_in x)) (sym set) (subst (λ y. Ready y w w.outgoing) (sym e) (r.0, refl));
          places = places;
          making = a.making;
          greatest = a.greatest;
          few = a.few;
        }

-- the same sender, changed
pub places-set : (senders : List SendingEnd) (k : ℕ) (s t : SendingEnd) → slice_get senders k ≡ Some s → t.channel ≡ s.channel → AreInPlace senders → AreInPlace (slice_set senders k t)
places-set senders k s t there same places i x e =
    elim (either (k == i)) [
      | inl on ↦ (let ki : k ≡ i = grind (arith, nat_tests) in
          let is : Some t ≡ Some x = sym (get-set senders k s t there) ∙ ap (slice_get (slice_set senders k t)) ki ∙ e in
          let tx : t ≡ x = cc in
          ap (λ (y : SendingEnd). y.channel) (sym tx) ∙ same ∙ places k s there ∙ ki)
      | inr off ↦ (let n : k ≢ i = (λ ki. grind (arith, nat_tests)) in
          places i x (sym (get-set-other senders k i t n) ∙ e))
    ]

packs-put : (mtu channel : ℕ) (z : Bool) (v : WireLink) (f : Filling) (k : ℕ) (s : SendingEnd) (n : Next) (h : Throttling) (occasion : Occasion) → slice_get f.outbox.senders k ≡ Some s
    → next wire occasion s.sender ≡ Some n → Packs mtu channel z v f → Packs mtu channel z v (data_put f k s n (record f.outbox { throttle = h }))
packs-put mtu channel z v f k s n h occasion there due a = by (k == channel) refl
  where
    t : SendingEnd
    t = record s { sender = n.sender }

    new : Outbox
    new = record (with_sender (record f.outbox { throttle = h }) k t) { last = Some k }

    places : AreInPlace new.senders
    places = places-set f.outbox.senders k s t there refl a.places

    by : (b : Bool) → (k == channel) ≡ b → Packs mtu channel z v (data_put f k s n (record f.outbox { throttle = h }))
    by true e =
        let is : k ≡ channel = grind (arith, nat_tests) in
        packs-sent mtu channel z v f occasion s n new (ap (slice_get f.outbox.senders) (sym is) ∙ there) due
        (ap (slice_get (slice_set f.outbox.senders k t)) (sym is) ∙ get-set f.outbox.senders k s t there) places a
    by false e =
        let apart : k ≢ channel = (λ is. grind (arith, nat_tests)) in
        let m : Message = message_of s.channel n.command in
        packs-other mtu channel z v f m new (ap (λ j. is_some (data_of m) && j == channel) (a.places k s there) ∙ no-data (is_some (data_of m)) k channel apart)
        (get-set-other f.outbox.senders k channel t apart) places a

packs-drop : (mtu channel : ℕ) (z : Bool) (v : WireLink) (f : Filling) (k : ℕ) (s : SendingEnd) (n : Next) (h : Throttling) (occasion : Occasion) → slice_get f.outbox.senders k ≡ Some s
    → next wire occasion s.sender ≡ Some n → n.command.reliable ≡ false → Packs mtu channel z v f
    → Packs mtu channel z v (record f { outbox = with_sender (record f.outbox { throttle = h }) k (record s { sender = with_skipped n.sender }) })
packs-drop mtu channel z v f k s n h occasion there due kind a = by (k == channel) refl
  where
    t : SendingEnd
    t = record s { sender = with_skipped n.sender }

    new : Outbox
    new = with_sender (record f.outbox { throttle = h }) k t

    places : AreInPlace new.senders
    places = places-set f.outbox.senders k s t there refl a.places

    by : (b : Bool) → (k == channel) ≡ b → Packs mtu channel z v (record f { outbox = new })
    by true e =
        let is : k ≡ channel = grind (arith, nat_tests) in
        packs-dropped mtu channel z v f occasion s n new (ap (slice_get f.outbox.senders) (sym is) ∙ there) due kind
        (ap (slice_get (slice_set f.outbox.senders k t)) (sym is) ∙ get-set f.outbox.senders k s t there) places a
    by false e =
        let apart : k ≢ channel = (λ is. grind (arith, nat_tests)) in
        record {
          link = a.link;
          events = a.events;
          runs = a.runs;
          same = a.same;
          ready = subst (λ (x : Option SendingEnd). Ready z a.link (sender_in x)) (sym (get-set-other f.outbox.senders k channel t apart)) a.ready;
          places = places;
          making = a.making;
          greatest = a.greatest;
          few = a.few;
        }

-- the outgoing link, whatever the outbox
pub packs-filled : (mtu channel : ℕ) (z : Bool) (v : WireLink) (pace : Pace) (o : Outbox) → Ready z v (sender_in (slice_get o.senders channel)) → AreInPlace o.senders → Packs mtu channel z v (filled pace o)
packs-filled mtu channel z v pace o ready places =
    by-filling pace o (Packs mtu channel z v) (record {
      closes = λ f a. record { link = a.link; events = a.events; runs = a.runs; same = a.same; ready = a.ready; places = a.places; making = a.making; greatest = a.greatest; few = a.few };
      acknowledges = λ f x rest e a. packs-other mtu channel z v f (acknowledgement_of x) (record f.outbox { acknowledgements = rest }) refl refl a.places a;
      controls = λ f n e a. (let m : Message = controlling.message_of n.command in
          packs-other mtu channel z v f m (record f.outbox { control = n.commands }) (ap (λ b. b && m.head.channel == channel) (control-none n.command.control m.head)) refl a.places a);
      puts_unsequenced = λ f u rest t e a. packs-other mtu channel z v f (unsequenced_of u) (record f.outbox { throttle = t; unsequenced = rest; last = Some u.channel }) refl refl a.places a;
      drops_unsequenced = λ f u rest t e a. record { link = a.link; events = a.events; runs = a.runs; same = a.same; ready = a.ready; places = a.places; making = a.making; greatest = a.greatest; few = a.few };
      puts_data = λ f k s n t there due a. packs-put mtu channel z v f k s n t (occasion pace k f.outbox) there due a;
      drops_data = λ f k s n t there due kind a. packs-drop mtu channel z v f k s n t (occasion pace k f.outbox) there due kind a;
      keeps_room = λ f i x there wants a. record { link = a.link; events = a.events; runs = a.runs; same = a.same; ready = a.ready; places = a.places; making = a.making; greatest = a.greatest; few = a.few };
      gives_room = λ f i x n there due a. record { link = a.link; events = a.events; runs = a.runs; same = a.same; ready = a.ready; places = a.places; making = a.making; greatest = a.greatest; few = a.few };
    }) (record {
      link = v;
      events = [];
      runs = refl;
      same = refl;
      ready = ready;
      places = places;
      making = λ m h. absurd h;
      greatest = sym (reached-none channel v.greatest);
      few = (omega arith);
    })

-- so far it is a run of the link that comes in on a channel: acknowledgements are put out, the oldest first
pub record Answers (mtu channel : ℕ) (v : WireLink) (f : Filling) : Type 0 where
  pub link : WireLink
  pub events : List Event
  pub runs : Runs mtu events v link
  pub same : link ≡ record v { answers = link.answers; acks = link.acks }
  pub waiting : link.answers ≡ numbers_on channel f.outbox.acknowledgements
  pub old : (a : Answer) → Has v.acks a → Has link.acks a
  pub acks : (m : Message) (number time : ℕ) → Has f.messages m → m.head.channel ≡ channel → m.body ≡ acknowledge number time → Has link.acks (record { number = number; sent_then = v.greatest })

-- a message that is no acknowledgement
abbrev IsNoAnswer : Message → Type 0
IsNoAnswer m = (number time : ℕ) → m.body ≡ acknowledge number time → ⊥

answers-other : (mtu channel : ℕ) (v : WireLink) (f : Filling) (m : Message) (o : Outbox) → IsNoAnswer m → o.acknowledgements ≡ f.outbox.acknowledgements → Answers mtu channel v f → Answers mtu channel v (with_command f m o)
answers-other mtu channel v f m o none stays a = record {
  link = a.link;
  events = a.events;
  runs = a.runs;
  same = a.same;
  waiting = a.waiting ∙ ap (numbers_on channel) (sym stays);
  old = a.old;
  acks = λ x number time h on e. elim (Has-push_cases f.messages m x h) [ inl before ↦ a.acks x number time before on e | inr is ↦ absurd (none number time (ap (λ (y : Message). y.body) is ∙ e)) ];
}

abbrev number-in : Body → ℕ
number-in (acknowledge number time) = number
number-in _ = 0

answers-put : (mtu channel : ℕ) (v : WireLink) (f : Filling) (x : Acknowledgement) (rest : List Acknowledgement) → f.outbox.acknowledgements ≡ x ∷ rest → Answers mtu channel v f
    → Answers mtu channel v (with_command f (acknowledgement_of x) (record f.outbox { acknowledgements = rest }))
answers-put mtu channel v f x rest e a = by (x.channel == channel) refl
  where
    m : Message
    m = acknowledgement_of x

    by : (b : Bool) → (x.channel == channel) ≡ b → Answers mtu channel v (with_command f m (record f.outbox { acknowledgements = rest }))
    by true on =
        let l : WireLink = a.link in
        let w : WireLink = logs_answer l x.number (numbers_on channel rest) in
        let g : l.greatest ≡ v.greatest = ap (λ (y : WireLink). y.greatest) a.same in
        let first : l.answers ≡ x.number ∷ numbers_on channel rest =
        a.waiting ∙ ap (numbers_on channel) e ∙ ap (λ b. cond b (x.number ∷ numbers_on channel rest) (numbers_on channel rest)) on in
        let new : Answer = record { number = x.number; sent_then = l.greatest } in
        record {
          link = w;
          events = a.events ++ PutsAnswer x.number (numbers_on channel rest) ∷ [];
          runs = Runs-push mtu a.events (PutsAnswer x.number (numbers_on channel rest)) v l w a.runs (record { oldest = first; after = refl });
          same = ap (λ (y : WireLink). record y { answers = w.answers; acks = w.acks }) a.same;
          waiting = refl;
          old = λ y h. Has-push_left l.acks new y (a.old y h);
          acks = λ y number time h there is. elim (Has-push_cases f.messages m y h) [
            | inl before ↦ Has-push_left l.acks new (record { number = number; sent_then = v.greatest }) (a.acks y number time before there is)
            | inr same ↦ (let n : x.number ≡ number = ap (λ (z : Message). number-in z.body) same ∙ ap number-in is in
                subst (λ k. Has (l.acks ++ new ∷ []) (record { number = k; sent_then = v.greatest })) n
                (subst (λ k. Has (l.acks ++ new ∷ []) (record { number = x.number; sent_then = k })) g (Has-push l.acks new)))
          ];
        }
    by false off =
        let apart : x.channel ≢ channel = (λ is. grind (arith, nat_tests)) in
        record {
          link = a.link;
          events = a.events;
          runs = a.runs;
          same = a.same;
          waiting = a.waiting ∙ ap (numbers_on channel) e ∙ ap (λ b. cond b (x.number ∷ numbers_on channel rest) (numbers_on channel rest)) off;
          old = a.old;
          acks = λ y number time h there is. elim (Has-push_cases f.messages m y h) [
            | inl before ↦ a.acks y number time before there is
            | inr same ↦ absurd (apart (ap (λ (z : Message). z.head.channel) same ∙ there))
          ];
        }

-- no message but an acknowledgement is one
abbrev is_answer : Body → Bool
is_answer (acknowledge number time) = true
is_answer _ = false

not-answer : (m : Message) → is_answer m.body ≡ false → IsNoAnswer m
not-answer m none number time e = let h : true ≡ false = sym (ap is_answer e) ∙ none in cc

control-no_answer : (what : Control) → is_answer (controlling.body_of what) ≡ false
control-no_answer (control.Connect offer) = refl
control-no_answer (control.VerifyConnect verify) = refl
control-no_answer (control.Disconnect info) = refl
control-no_answer (control.DisconnectNow info) = refl
control-no_answer control.Ping = refl
control-no_answer (control.BandwidthLimit incoming outgoing) = refl
control-no_answer (control.ThrottleConfigure interval acceleration deceleration) = refl

data-no_answer : (r : Bool) (f : Option Fragment) (count : ℕ) (body : List ℕ) → is_answer (wire_body r f count body) ≡ false
data-no_answer true None count body = refl
data-no_answer true (Some f) count body = refl
data-no_answer false None count body = refl
data-no_answer false (Some f) count body = refl

-- the incoming link, whatever the outbox
pub answers-filled : (mtu channel : ℕ) (v : WireLink) (pace : Pace) (o : Outbox) → v.answers ≡ numbers_on channel o.acknowledgements → Answers mtu channel v (filled pace o)
answers-filled mtu channel v pace o waiting =
    by-filling pace o (Answers mtu channel v) (record {
      closes = λ f a. record { link = a.link; events = a.events; runs = a.runs; same = a.same; waiting = a.waiting; old = a.old; acks = a.acks };
      acknowledges = λ f x rest e a. answers-put mtu channel v f x rest e a;
      controls = λ f n e a. (let m : Message = controlling.message_of n.command in
          answers-other mtu channel v f m (record f.outbox { control = n.commands }) (not-answer m (control-no_answer n.command.control)) refl a);
      puts_unsequenced = λ f u rest t e a. answers-other mtu channel v f (unsequenced_of u) (record f.outbox { throttle = t; unsequenced = rest; last = Some u.channel }) (not-answer (unsequenced_of u) refl) refl a;
      drops_unsequenced = λ f u rest t e a. record { link = a.link; events = a.events; runs = a.runs; same = a.same; waiting = a.waiting; old = a.old; acks = a.acks };
      puts_data = λ f k s n t there due a. (let m : Message = message_of s.channel n.command in
          answers-other mtu channel v f m (record (with_sender (record f.outbox { throttle = t }) k (record s { sender = n.sender })) { last = Some k })
          (not-answer m (data-no_answer n.command.reliable n.command.fragment n.command.unreliable n.command.body)) refl a);
      drops_data = λ f k s n t there due kind a. record { link = a.link; events = a.events; runs = a.runs; same = a.same; waiting = a.waiting; old = a.old; acks = a.acks };
      keeps_room = λ f i x there wants a. record { link = a.link; events = a.events; runs = a.runs; same = a.same; waiting = a.waiting; old = a.old; acks = a.acks };
      gives_room = λ f i x n there due a. record { link = a.link; events = a.events; runs = a.runs; same = a.same; waiting = a.waiting; old = a.old; acks = a.acks };
    }) (record {
      link = v;
      events = [];
      runs = refl;
      same = refl;
      waiting = waiting;
      old = λ a h. h;
      acks = λ m number time h. absurd h;
    })
