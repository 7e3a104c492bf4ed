-- A datagram that an end puts out keeps the links, in the one direction and in the other.
use Rattle.std.proofs.Common.{◌≡◌, ℕ, Bool, true, false, cond, ◌==◌, ◌&&◌, List, [], ◌∷◌, ◌++◌, map, length, ◌≤◌, refl, sym, ap, subst, ◌∙◌, inl, inr, arith, Option, Some}
use Rattle.std.proofs.lemmas.Bool.Decides.{nat_tests}
use Rattle.std.proofs.lemmas.List.{map-append, length-append, length-map}
use Rattle.std.specs.Option.{is_some}
use Rattle.std.specs.List.{slice_get}
use Rattle.enet_codec.specs.Message.{Message, acknowledge, Body, bandwidth_limit, connect, disconnect, ping, send_fragment, send_reliable, send_unreliable, send_unreliable_fragment, send_unsequenced, throttle_configure, verify_connect}
use Rattle.enet_codec.specs.declared.command.Head.{Head}
use Rattle.enet_fragment.specs.declared.data.DataCommand.{DataCommand}
use Rattle.enet_fragment.specs.DataCommand.{data_of, read_of}
use Rattle.enet_outbox.specs.declared.parts.Pace.{Pace}
use Rattle.enet_outbox.specs.Emission.{filled}
use Rattle.enet_peer.specs.Peering.{Peering}
use Rattle.law_connection.specs.Link.{PutOut}
use Rattle.law_connection.specs.WireLink.{WireLink, with_reach, puts_out}
use Rattle.law_connection.specs.LinkSteps.{Has, Event, PutsOut, Runs, fresh_link}
use Rattle.law_connection.specs.Meant.{IsReadAsItself}
use Rattle.law_connection.proofs.Lists.{Has-append_cases}
use Rattle.law_connection.proofs.LinkRuns.{reads}
use Rattle.enet_sender.specs.Sender.{Sender}
use Rattle.law_connection.specs.Connection.{Put, End, is_data_on, reached, messages_of, sent_on, put_by, is_acknowledgement}
use Rattle.law_connection.specs.Steps.{with_messages}
use Rattle.law_connection.specs.Linked.{IsLinked, sends_in, sender_in, numbers_on, ShowsSending}
use Rattle.law_connection.specs.Invariant.{AreInPlace}
use Rattle.law_connection.proofs.Runs.{either, Runs-push, Runs-append, reached-append}
use Rattle.law_connection.proofs.Packing.{Packs, packs-filled, Answers, answers-filled, Ready}

-- membership

Has-left : {X : Type 0} (a b : List X) (x : X) → Has a x → Has (a ++ b) x
Has-left [] b x h = absurd h
Has-left (y ∷ a) b x (inl e) = inl e
Has-left (y ∷ a) b x (inr h) = inr (Has-left a b x h)

Has-right : {X : Type 0} (a b : List X) (x : X) → Has b x → Has (a ++ b) x
Has-right [] b x h = h
Has-right (y ∷ a) b x h = inr (Has-right a b x h)

Has-map : {X Y : Type 0} (f : X → Y) (xs : List X) (x : X) → Has xs x → Has (map f xs) (f x)
Has-map f [] x h = absurd h
Has-map f (y ∷ xs) x (inl e) = inl (ap f e)
Has-map f (y ∷ xs) x (inr h) = inr (Has-map f xs x h)

-- what stands in the image of a list comes from it
pub Has-from_map : {X Y : Type 0} (f : X → Y) (xs : List X) (y : Y) → Has (map f xs) y → (x : X) × Has xs x × (f x ≡ y)
Has-from_map f [] y h = absurd h
Has-from_map f (x ∷ xs) y (inl e) = (x, inl refl, e)
Has-from_map f (x ∷ xs) y (inr h) = let r = Has-from_map f xs y h in (r.0, inr r.1, r.2)

-- what goes into a log

messages-put : (f : Message → Put) (ms : List Message) → ((m : Message) → (f m).message ≡ m) → messages_of (map f ms) ≡ ms
messages-put f [] h = refl
messages-put f (m ∷ ms) h = (λ i. h m i ∷ messages-put f ms h i)

messages-logged : (log : List Put) (f : Message → Put) (ms : List Message) → ((m : Message) → (f m).message ≡ m) → messages_of (log ++ map f ms) ≡ messages_of log ++ ms
messages-logged log f ms h = map-append (λ (p : Put). p.message) log (map f ms) ∙ ap (λ l. messages_of log ++ l) (messages-put f ms h)

-- how far the numbers of an end have come once it put messages out
sent-after : (channel : ℕ) (own other : End) (ms : List Message) → sent_on channel (with_messages own other ms) ≡ reached channel (sent_on channel own) ms
sent-after channel own other ms =
    ap (reached channel 0) (messages-logged own.log (put_by (record own { log = own.log ++ map (λ (m : Message). record { message = m; sent_then = 0 }) ms }) other) ms (λ m. refl))
    ∙ reached-append channel 0 (messages_of own.log) ms

sent-marked : (channel : ℕ) (own : End) (ms : List Message) → sent_on channel (record own { log = own.log ++ map (λ (m : Message). record { message = m; sent_then = 0 }) ms }) ≡ reached channel (sent_on channel own) ms
sent-marked channel own ms = ap (reached channel 0) (messages-logged own.log (λ (m : Message). record { message = m; sent_then = 0 }) ms (λ m. refl)) ∙ reached-append channel 0 (messages_of own.log) ms

-- a sequenced data command is no acknowledgement
no-answer : (m : Message) (c : DataCommand) → data_of m ≡ Some c → is_acknowledgement m.body ≡ false
no-answer m c e = elim (either (is_acknowledgement m.body)) [ inl t ↦ absurd (none m t c e) | inr f ↦ f ]
  where
    none-of : (h : Head) (b : Body) → is_acknowledgement b ≡ true → (c : DataCommand) → read_of h b ≡ Some c → ⊥
    none-of h (acknowledge number time) t c e = cc
    none-of h (connect o) t c e = cc
    none-of h (verify_connect v) t c e = cc
    none-of h (disconnect i) t c e = cc
    none-of h ping t c e = cc
    none-of h (send_reliable p) t c e = cc
    none-of h (send_unreliable n p) t c e = cc
    none-of h (send_fragment f p) t c e = cc
    none-of h (send_unsequenced g p) t c e = cc
    none-of h (bandwidth_limit i o) t c e = cc
    none-of h (throttle_configure i a d) t c e = cc
    none-of h (send_unreliable_fragment f p) t c e = cc

    none : (m : Message) → is_acknowledgement m.body ≡ true → (c : DataCommand) → data_of m ≡ Some c → ⊥
    none m t c e = none-of m.head m.body t c e

data-on : (channel : ℕ) (m : Message) (c : DataCommand) → m.head.channel ≡ channel → data_of m ≡ Some c → is_data_on channel m ≡ true
data-on channel m c on e =
    let t : (m.head.channel == channel) ≡ true = grind (arith, nat_tests) in
    (λ i. is_some (e i) && t i)

-- the sender of an end that puts a datagram out
sending-ready : (p : Peering) (channel : ℕ) (v : WireLink) → ShowsSending (Some p) channel v → Ready (sends_in p.state) v (sender_in (slice_get p.outbox.senders channel))
sending-ready p channel v h = by (sends_in p.state) refl
  where
    by : (y : Bool) → sends_in p.state ≡ y → Ready y v (sender_in (slice_get p.outbox.senders channel))
    by true e = h.0 e
    by false e = (h.1 e, h.2 e)

ready-by : (y : Bool) (v w : WireLink) (s : Sender) → w.is_sending ≡ v.is_sending → w.outgoing ≡ v.outgoing → Ready y v s → Ready y w s
ready-by true v w s a b r = (a ∙ r.0, b ∙ r.1)
ready-by false v w s a b r = r

-- the end that sends the channel's data puts a datagram out
pub emits-out : (from to : End) (channel : ℕ) (p : Peering) (pace : Pace) (k : IsLinked from to channel) → from.peer ≡ Some p → AreInPlace p.outbox.senders
    → (w : WireLink) × (es : List Event) × Runs k.mtu es fresh_link w × (w.making ≡ []) × (w.submitted ≡ k.link.submitted)
    × (w ≡ record k.link { outgoing = w.outgoing; greatest = w.greatest; making = []; commands = w.commands })
    × (w.greatest ≡ sent_on channel (with_messages from to (filled pace p.outbox).messages))
    × (length w.commands ≤ length (with_messages from to (filled pace p.outbox).messages).log)
    × Ready (sends_in p.state) w (sender_in (slice_get (filled pace p.outbox).outbox.senders channel)) × AreInPlace (filled pace p.outbox).outbox.senders
    × ((q : Put) (c : DataCommand) → Has (with_messages from to (filled pace p.outbox).messages).log q → q.message.head.channel ≡ channel → data_of q.message ≡ Some c → Has w.commands (record { command = c; sent_then = q.sent_then }))
emits-out from to channel p pace k is places =
    (w, es, runs, refl, ap (λ (x : WireLink). x.submitted) a.same, ap (λ (x : WireLink). record x { outgoing = w.outgoing; greatest = w.greatest; making = []; commands = w.commands }) a.same, greatest, few, ready-by (sends_in p.state) a.link w (sender_in (slice_get (filled pace p.outbox).outbox.senders channel)) refl refl a.ready, a.places, commands)
  where
    ms : List Message
    ms = (filled pace p.outbox).messages

    shows : ShowsSending (Some p) channel k.link
    shows = subst (λ (o : Option Peering). ShowsSending o channel k.link) is k.sending

    a : Packs k.mtu channel (sends_in p.state) k.link (filled pace p.outbox)
    a = packs-filled k.mtu channel (sends_in p.state) k.link pace p.outbox (sending-ready p channel k.link shows) places

    w : WireLink
    w = puts_out a.link

    es : List Event
    es = (k.events ++ a.events) ++ PutsOut ∷ []

    runs : Runs k.mtu es fresh_link w
    runs = Runs-push k.mtu (k.events ++ a.events) PutsOut fresh_link a.link w (Runs-append k.mtu k.events a.events fresh_link k.link a.link k.runs a.runs) refl

    far : w.greatest ≡ reached channel (sent_on channel from) ms
    far = a.greatest ∙ ap (λ g. reached channel g ms) k.greatest

    greatest : w.greatest ≡ sent_on channel (with_messages from to ms)
    greatest = far ∙ sym (sent-after channel from to ms)

    put : Message → Put
    put = put_by (record from { log = from.log ++ map (λ (m : Message). record { message = m; sent_then = 0 }) ms }) to

    commands-same : a.link.commands ≡ k.link.commands
    commands-same = ap (λ (x : WireLink). x.commands) a.same

    few : length w.commands ≤ length (from.log ++ map put ms)
    few =
        let old = k.few in
        let made = a.few in
        let none : length k.link.making ≡ 0 = ap length k.between in
        let same : length a.link.commands ≡ length k.link.commands = ap length commands-same in
        let size = length-append a.link.commands (map (with_reach a.link.greatest) a.link.making) in
        let new = length-map a.link.making (with_reach a.link.greatest) in
        let size' = length-append from.log (map put ms) in
        let new' = length-map ms put in
        omega arith

    fresh : (m : Message) (c : DataCommand) → Has ms m → m.head.channel ≡ channel → data_of m ≡ Some c → Has w.commands (record { command = c; sent_then = (put m).sent_then })
    fresh m c h on e = elim (a.making m h) [
      | inl none ↦ absurd (let t : true ≡ false = sym (data-on channel m c on e) ∙ none in cc)
      | inr g ↦ (let d : DataCommand = g.0 in
          let there : Has w.commands (with_reach a.link.greatest d) = Has-right a.link.commands (map (with_reach a.link.greatest) a.link.making) (with_reach a.link.greatest d) (Has-map (with_reach a.link.greatest) a.link.making d g.2) in
          let self : IsReadAsItself d = reads k.mtu es w k.big runs (with_reach a.link.greatest d) there in
          let both : Some d ≡ Some c = sym (self channel) ∙ ap data_of (sym g.1) ∙ e in
          let same : d ≡ c = cc in
          let sent_then : a.link.greatest ≡ (put m).sent_then = far ∙ sym (sent-marked channel from ms) ∙ ap (λ j. sent_on j (record from { log = from.log ++ map (λ (m : Message). record { message = m; sent_then = 0 }) ms })) (sym on)
          ∙ ap (λ b. cond b (sent_on m.head.channel to) (sent_on m.head.channel (record from { log = from.log ++ map (λ (m : Message). record { message = m; sent_then = 0 }) ms }))) (sym (no-answer m c e)) in
          subst (λ (x : PutOut). Has w.commands x) (λ i. record { command = same i; sent_then = sent_then i }) there)
    ]

    commands : (q : Put) (c : DataCommand) → Has (with_messages from to ms).log q → q.message.head.channel ≡ channel → data_of q.message ≡ Some c → Has w.commands (record { command = c; sent_then = q.sent_then })
    commands q c h on e = elim (Has-append_cases from.log (map put ms) q h) [
      | inl old ↦ (let there : Has a.link.commands (record { command = c; sent_then = q.sent_then }) = subst (λ (x : List PutOut). Has x (record { command = c; sent_then = q.sent_then })) (sym commands-same) (k.commands q c old on e) in
          Has-left a.link.commands (map (with_reach a.link.greatest) a.link.making) (record { command = c; sent_then = q.sent_then }) there)
      | inr new ↦ (let r = Has-from_map put ms q new in
          let m : Message = r.0 in
          let same : put m ≡ q = r.2 in
          let on' : m.head.channel ≡ channel = ap (λ (x : Put). x.message.head.channel) same ∙ on in
          let e' : data_of m ≡ Some c = ap (λ (x : Put). data_of x.message) same ∙ e in
          subst (λ (x : Put). Has w.commands (record { command = c; sent_then = x.sent_then })) same (fresh m c r.1 on' e'))
    ]

-- the end that receives the channel's data puts a datagram out
pub emits-in : (from to : End) (channel : ℕ) (p : Peering) (pace : Pace) (k : IsLinked from to channel) → k.link.answers ≡ numbers_on channel p.outbox.acknowledgements
    → (w : WireLink) × (es : List Event) × Runs k.mtu es fresh_link w
    × (w ≡ record k.link { answers = numbers_on channel (filled pace p.outbox).outbox.acknowledgements; acks = w.acks })
    × ((q : Put) (number time : ℕ) → Has (with_messages to from (filled pace p.outbox).messages).log q → q.message.head.channel ≡ channel → q.message.body ≡ acknowledge number time → Has w.acks (record { number = number; sent_then = q.sent_then }))
emits-in from to channel p pace k waiting = (
  a.link,
  k.events ++ a.events,
  Runs-append k.mtu k.events a.events fresh_link k.link a.link k.runs a.runs,
  a.same ∙ ap (λ (x : List ℕ). record k.link { answers = x; acks = a.link.acks }) a.waiting,
  acks,
)
  where
    ms : List Message
    ms = (filled pace p.outbox).messages

    a : Answers k.mtu channel k.link (filled pace p.outbox)
    a = answers-filled k.mtu channel k.link pace p.outbox waiting

    put : Message → Put
    put = put_by (record to { log = to.log ++ map (λ (m : Message). record { message = m; sent_then = 0 }) ms }) from

    acks : (q : Put) (number time : ℕ) → Has (with_messages to from ms).log q → q.message.head.channel ≡ channel → q.message.body ≡ acknowledge number time → Has a.link.acks (record { number = number; sent_then = q.sent_then })
    acks q number time h on e = elim (Has-append_cases to.log (map put ms) q h) [
      | inl old ↦ a.old (record { number = number; sent_then = q.sent_then }) (k.acks q number time old on e)
      | inr new ↦ (let r = Has-from_map put ms q new in
          let m : Message = r.0 in
          let same : put m ≡ q = r.2 in
          let on' : m.head.channel ≡ channel = ap (λ (x : Put). x.message.head.channel) same ∙ on in
          let e' : m.body ≡ acknowledge number time = ap (λ (x : Put). x.message.body) same ∙ e in
          let sent_then : k.link.greatest ≡ (put m).sent_then = k.greatest ∙ ap (λ j. sent_on j from) (sym on')
          ∙ ap (λ b. cond (is_acknowledgement b) (sent_on m.head.channel from) (sent_on m.head.channel (record to { log = to.log ++ map (λ (m : Message). record { message = m; sent_then = 0 }) ms }))) (sym e') in
          subst (λ n. Has a.link.acks (record { number = number; sent_then = n })) (sent_then ∙ ap (λ (x : Put). x.sent_then) same) (a.acks m number time r.1 on' e'))
    ]
