-- Each channel of a peer is a receiver that hears what came, whatever happens at the end.
use Rattle.std.proofs.Common.{◌≡◌, ◌≢◌, ℕ, ◌+◌, ◌-◌, ◌%◌, ◌<◌, ◌≤◌, Bool, true, false, cond, not, List, [], ◌∷◌, ◌++◌, length, refl, sym, ap, subst, ◌∙◌, inl, inr, arith, Option, Some, None, ltb, leb}
use Rattle.std.proofs.lemmas.List.{append-nil, map-append}
use Rattle.std.specs.List.{slice_get}
use Rattle.enet_codec.specs.declared.command.Head.{Head}
use Rattle.enet_codec.specs.declared.stop.Stop.TheVariants as stop
use Rattle.enet_codec.specs.Message.{Message, Body, IsMessage, send_unsequenced, send_reliable, send_unreliable, send_fragment, send_unreliable_fragment, acknowledge, connect, verify_connect, disconnect, ping, bandwidth_limit, throttle_configure}
use Rattle.enet_seq.specs.Windows.{ahead}
use Rattle.enet_seq.specs.Numbering.{wire, unbounded}
use Rattle.enet_seq.proofs.WindowsLemmas.{ahead_true}
use Rattle.enet_unsequenced.specs.Groups.{dispatches}
use Rattle.enet_fragment.specs.declared.data.DataCommand.{DataCommand}
use Rattle.enet_fragment.specs.DataCommand.{data_of, piece_of}
use Rattle.enet_packets.specs.declared.incoming_packet.Dispatched.{Dispatched}
use Rattle.enet_receiver.specs.Members.{Has}
use Rattle.enet_receiver.specs.declared.took.Took.{Took}
use Rattle.enet_receiver.specs.declared.took.Took.TheVariants.{Held, Again, Outside, Bad, Waiting, Memory}
use Rattle.enet_receiver.specs.Receiver.{Receiver, without_waiting}
use Rattle.enet_receiver.specs.DataOutcome.{received}
use Rattle.enet_receiver.specs.Foresight.{ReceivingEnd, outcome_for, after_command}
use Rattle.enet_receiver.specs.Sequenced.{HasSequenced}
use Rattle.enet_receiver.proofs.Maps.{two_numbers}
use Rattle.enet_receiver.proofs.Released.{does_the_same}
use Rattle.enet_receiver.proofs.Sequenced.{sequenced-received}
use Rattle.enet_inbox.specs.Inbox.{Inbox, is_full, is_full_for, given_way, given_way_receiver}
use Rattle.enet_inbox.specs.DataEffect.{DataEffect, handled, stopped as refused, emptied, by_took, sequenced_on, unsequenced, unsequenced_taken, plain_arrival, makes_room, met, arrival}
use Rattle.enet_sender.specs.CommandChoice.{ChosenPacket}
use Rattle.enet_peer.specs.declared.parts.PeerEvent.{PeerEvent}
use Rattle.law_connection.specs.Connection.{packets_of, in_sequence}
use Rattle.law_connection.specs.Follows.{FollowsCarried}
use Rattle.law_connection.specs.Image.{ShowsReceiver}
use Rattle.law_connection.specs.Linked.{receiver_in}
use Rattle.law_connection.specs.LinkSteps.{bodies_of}
use Rattle.law_connection.proofs.CarriageLemmas.{Follows-front}
use Rattle.law_connection.proofs.Commands.{unsequenced-end}
use Rattle.law_connection.proofs.ContentLemmas.{Ready, Ready-given_up}
use Rattle.law_connection.proofs.GivingWay.{AreFlat, met-flat}
use Rattle.law_connection.proofs.InboxMoves.{grown, shown_in, arrival-own, arrival-other}
use Rattle.law_connection.proofs.Lists.{Has-push}
use Rattle.law_connection.proofs.Runs.{get-map, get-set, get-set-other}
use Rattle.law_connection.proofs.TidyPeers.{set-cases}
use Rattle.law_connection.proofs.WireReceiver.{Shows-received, Shows-given_up}
use Rattle.law_one_end.specs.OneEnd.{Heard, heard_as, reliable_taken, gone_to}
use Rattle.law_one_end.specs.Carried.{AreCarried}
use Rattle.law_one_end.specs.Law.{HasNumber}
use Rattle.law_one_end.specs.Rules.{KeepsRules}
use Rattle.law_one_end.proofs.Rows.{Covers, row-carried, carried-front, are-carried-more, reliable_in, reliable-front, row-reliable, row-numbers, number-more}
use Rattle.law_one_end.proofs.Gathering.{Hears, heard_at, hears-more, hears-given_up, hears-received}
use Rattle.law_one_end.proofs.Fronts.{front-goes}
use Rattle.law_one_end.proofs.Following.{fewer-keep, ready-received, ready-follows}
use Rattle.law_one_end.proofs.Turns.{Stays}

-- what was dispatched of a channel, taken or not
abbrev pub dispatched : ℕ → List PeerEvent → Inbox → List Dispatched
dispatched channel taken b = in_sequence channel (packets_of taken) ++ in_sequence channel b.untaken

-- an inbox and what is told of it
pub record Told : Type 0 where
  pub came : List Heard
  pub fronts : ℕ → ℕ
  pub taken : List PeerEvent
  pub opens : Bool
  pub inbox : Inbox

-- the receiver of a channel hears what came
pub record IsEar (t : Told) (channel : ℕ) (r : ReceivingEnd) : Type 0 where
  pub whole : Receiver
  pub shows : ShowsReceiver (grown (dispatched channel t.taken t.inbox) r.receiver) whole
  pub hears : Hears t.came channel whole
  pub ready : (mtu : ℕ) (cs : List ChosenPacket) → KeepsRules mtu cs channel t.came → Ready mtu cs whole
  pub front : whole.front ≡ t.fronts channel

-- the front of a channel is what its receiver has, on the wire
abbrev pub IsWired : Told → ℕ → Type 0
IsWired t channel = (r : ReceivingEnd) → slice_get t.inbox.receivers channel ≡ Some r → t.fronts channel % 65536 ≡ r.receiver.front

pub record HasEar (t : Told) (channel : ℕ) : Type 0 where
  pub carried : AreCarried t.came channel 0 1 (dispatched channel t.taken t.inbox)
  pub follows : (mtu : ℕ) (cs : List ChosenPacket) → KeepsRules mtu cs channel t.came → FollowsCarried cs (bodies_of (dispatched channel t.taken t.inbox))
  pub ear : t.opens ≡ true → (r : ReceivingEnd) → slice_get t.inbox.receivers channel ≡ Some r → IsEar t channel r
  -- the front is between what was dispatched and what came
  pub least : reliable_in (dispatched channel t.taken t.inbox) ≤ t.fronts channel
  pub most : (n : ℕ) → n < t.fronts channel → HasNumber t.came channel (n + 1)
  pub wired : IsWired t channel

pub record AllHear (t : Told) : Type 0 where
  pub flat : t.opens ≡ true → AreFlat t.inbox.receivers
  pub each : (channel : ℕ) → HasEar t channel

-- the front stays, since the receiver of the channel does
record StaysThere (t u : Told) (channel : ℕ) : Type 0 where
  stood : (r : ReceivingEnd) → slice_get u.inbox.receivers channel ≡ Some r → (q : ReceivingEnd) × (slice_get t.inbox.receivers channel ≡ Some q) × (q.receiver.front ≡ r.receiver.front)
  front : ((r : ReceivingEnd) → slice_get u.inbox.receivers channel ≡ Some r → t.fronts channel % 65536 ≡ r.receiver.front) → u.fronts channel ≡ t.fronts channel

record Remains (t u : Told) (channel : ℕ) : Type 0 where
  front : u.fronts channel ≡ t.fronts channel
  most : (n : ℕ) → n < u.fronts channel → HasNumber u.came channel (n + 1)
  wired : IsWired u channel

remains : (t u : Told) (channel : ℕ) → Covers t.came u.came → StaysThere t u channel → HasEar t channel → Remains t u channel
remains t u channel sub k h = record {
  front = front;
  most = λ n low. number-more t.came u.came channel (n + 1) sub (h.most n (subst (λ m. n < m) front low));
  wired = λ r there. ap (λ n. n % 65536) front ∙ wires r there;
}
  where
    wires : (r : ReceivingEnd) → slice_get u.inbox.receivers channel ≡ Some r → t.fronts channel % 65536 ≡ r.receiver.front
    wires r there = (let q = k.stood r there in h.wired q.0 q.1 ∙ q.2)

    front : u.fronts channel ≡ t.fronts channel
    front = k.front wires

-- what was dispatched is the same, and the receiver of the channel is
ear-on : (t u : Told) (channel : ℕ) → Covers t.came u.came → dispatched channel u.taken u.inbox ≡ dispatched channel t.taken t.inbox → (u.opens ≡ true → t.opens ≡ true)
    → ((r : ReceivingEnd) → u.opens ≡ true → slice_get u.inbox.receivers channel ≡ Some r → slice_get t.inbox.receivers channel ≡ Some r)
    → StaysThere t u channel → HasEar t channel → HasEar u channel
ear-on t u channel sub same opens receivers there' h = record {
  carried = subst (AreCarried u.came channel 0 1) (sym same) (are-carried-more t.came u.came channel 0 1 (dispatched channel t.taken t.inbox) sub h.carried);
  follows = λ mtu cs k. subst (λ ds. FollowsCarried cs (bodies_of ds)) (sym same) (h.follows mtu cs (fewer-keep mtu cs channel t.came u.came sub k));
  ear = λ o r there.
      let e = h.ear (opens o) r (receivers r o there) in
      record {
        whole = e.whole;
        shows = subst (λ ds. ShowsReceiver (grown ds r.receiver) e.whole) (sym same) e.shows;
        hears = hears-more t.came u.came channel e.whole sub e.hears;
        ready = λ mtu cs k. e.ready mtu cs (fewer-keep mtu cs channel t.came u.came sub k);
        front = e.front ∙ sym front;
      };
  least = subst (λ ds. reliable_in ds ≤ u.fronts channel) (sym same) (subst (λ n. reliable_in (dispatched channel t.taken t.inbox) ≤ n) (sym front) h.least);
  most = on.most;
  wired = on.wired;
}
  where
    on : Remains t u channel
    on = remains t u channel sub there' h

    front : u.fronts channel ≡ t.fronts channel
    front = on.front

-- it ends, and what wasn't taken may be dropped
ear-shut : (t u : Told) (channel : ℕ) (rest : List Dispatched) → Covers t.came u.came → dispatched channel t.taken t.inbox ≡ dispatched channel u.taken u.inbox ++ rest → u.opens ≡ false → StaysThere t u channel → HasEar t channel → HasEar u channel
ear-shut t u channel rest sub same shut there' h = record {
  carried = carried-front u.came channel 0 1 (dispatched channel u.taken u.inbox) rest (subst (AreCarried u.came channel 0 1) same (are-carried-more t.came u.came channel 0 1 (dispatched channel t.taken t.inbox) sub h.carried));
  follows = λ mtu cs k. Follows-front cs (bodies_of (dispatched channel u.taken u.inbox)) (bodies_of rest)
      (subst (FollowsCarried cs) (map-append (λ (d : Dispatched). d.body) (dispatched channel u.taken u.inbox) rest)
      (subst (λ ds. FollowsCarried cs (bodies_of ds)) same (h.follows mtu cs (fewer-keep mtu cs channel t.came u.came sub k))));
  ear = λ o. absurd (let x : true ≡ false = sym o ∙ shut in cc);
  least =
      let was = h.least in
      let all : reliable_in (dispatched channel t.taken t.inbox) ≡ reliable_in (dispatched channel u.taken u.inbox ++ rest) = ap reliable_in same in
      let some' : reliable_in (dispatched channel u.taken u.inbox) ≤ reliable_in (dispatched channel u.taken u.inbox ++ rest) = reliable-front (dispatched channel u.taken u.inbox) rest in
      let front : u.fronts channel ≡ t.fronts channel = on.front in
      omega arith;
  most = on.most;
  wired = on.wired;
}
  where
    on : Remains t u channel
    on = remains t u channel sub there' h

-- what stays, and more came of which nothing was taken in
pub told-stays : (t u : Told) → Covers t.came u.came → u.taken ≡ t.taken → Stays (record { opens = t.opens; receivers = t.inbox.receivers; untaken = t.inbox.untaken }) (record { opens = u.opens; receivers = u.inbox.receivers; untaken = u.inbox.untaken })
    → ((channel : ℕ) → ((r : ReceivingEnd) → slice_get u.inbox.receivers channel ≡ Some r → t.fronts channel % 65536 ≡ r.receiver.front) → u.fronts channel ≡ t.fronts channel)
    → AllHear t → AllHear u
told-stays t u sub taken k fronts h = record {
  flat = λ o i r there. h.flat (k.opens o) i r (was o i r there);
  each = λ channel. (elim k.untaken [
    | inl same ↦ ear-on t u channel sub ((λ i. in_sequence channel (packets_of (taken i)) ++ in_sequence channel (same i))) k.opens (λ r o there. was o channel r there) (there' channel) (h.each channel)
    | inr none ↦ ear-shut t u channel (in_sequence channel t.inbox.untaken) sub
        (ap (λ l. in_sequence channel (packets_of l) ++ in_sequence channel t.inbox.untaken) (sym taken)
        ∙ ap (λ l. l ++ in_sequence channel t.inbox.untaken) (sym (ap (λ l. in_sequence channel (packets_of u.taken) ++ in_sequence channel l) none.0 ∙ append-nil (in_sequence channel (packets_of u.taken)))))
        none.1 (there' channel) (h.each channel)
  ]);
}
  where
    there' : (channel : ℕ) → StaysThere t u channel
    there' channel = record { stood = k.stood channel; front = fronts channel }

    was : u.opens ≡ true → (i : ℕ) (r : ReceivingEnd) → slice_get u.inbox.receivers i ≡ Some r → slice_get t.inbox.receivers i ≡ Some r
    was o i r there = elim (k.receivers o i) [
      | inl same ↦ sym same ∙ there
      | inr none ↦ absurd (let x : None ≡ Some r = sym none ∙ there in cc)
    ]

-- the user took an event
pub told-taken : (t u : Told) → u.came ≡ t.came → u.fronts ≡ t.fronts → u.opens ≡ t.opens → u.inbox.receivers ≡ t.inbox.receivers
    → ((channel : ℕ) → dispatched channel u.taken u.inbox ≡ dispatched channel t.taken t.inbox) → AllHear t → AllHear u
told-taken t u came fronts opens receivers same h = record {
  flat = λ o. subst AreFlat (sym receivers) (h.flat (sym opens ∙ o));
  each = λ channel. ear-on t u channel (λ x there. subst (λ l. Has l x) (sym came) there) (same channel) (λ o. sym opens ∙ o)
      (λ r o there. ap (λ l. slice_get l channel) (sym receivers) ∙ there)
      (record { stood = λ r there. (r, ap (λ l. slice_get l channel) (sym receivers) ∙ there, refl); front = λ wires. ap (λ f. f channel) fronts }) (h.each channel);
}

-- an inbox gives way before a command

abbrev with_inbox : Told → Inbox → Told
with_inbox t b = record t { inbox = b }

told-given_way : (t : Told) → AllHear t → (flat : t.opens ≡ true → AreFlat (given_way t.inbox).receivers) → AllHear (with_inbox t (given_way t.inbox))
told-given_way t h flat = record {
  flat = flat;
  each = λ channel. (let was = h.each channel in record {
    carried = was.carried;
    follows = was.follows;
    ear = λ o r there.
        let c = get-map given_way_receiver t.inbox.receivers channel r there in
        let e = was.ear o c.0 c.1 in
        subst (IsEar (with_inbox t (given_way t.inbox)) channel) c.2 (record {
          whole = without_waiting e.whole;
          shows = Shows-given_up (grown (dispatched channel t.taken t.inbox) c.0.receiver) e.whole e.shows;
          hears = hears-given_up t.came channel e.whole e.hears;
          ready = λ mtu cs k. Ready-given_up mtu cs e.whole (e.ready mtu cs k);
          front = e.front;
        });
    least = was.least;
    most = was.most;
    wired = λ r there. (let c = get-map given_way_receiver t.inbox.receivers channel r there in was.wired c.0 c.1 ∙ ap (λ (x : ReceivingEnd). x.receiver.front) c.2);
  });
}

told-met : (t : Told) (m : Message) → AllHear t → AllHear (with_inbox t (met t.inbox m))
told-met t m h = by (makes_room t.inbox m) (λ o. met-flat t.inbox m (h.flat o))
  where
    by : (way : Bool) → (t.opens ≡ true → AreFlat (cond way (given_way t.inbox) t.inbox).receivers) → AllHear (with_inbox t (cond way (given_way t.inbox) t.inbox))
    by true flat = told-given_way t h flat
    by false flat = h

-- a command is heard

pub covers-push : (came more : List Heard) → Covers came (came ++ more)
covers-push [] more h there = absurd there
covers-push (x ∷ came) more h (inl e) = inl e
covers-push (x ∷ came) more h (inr k) = inr (covers-push came more h k)

-- a channel that has a receiver keeps one
stays-there : (b : Inbox) (k : ℕ) (r : ReceivingEnd) (c : DataCommand) (t : Took) → slice_get b.receivers k ≡ Some r → (q : ReceivingEnd) × (slice_get (by_took t b k r c).after.receivers k ≡ Some q)
stays-there b k r c Bad there = (r, there)
stays-there b k r c Waiting there = (r, there)
stays-there b k r c Memory there = (r, there)
stays-there b k r c Outside there = (r, there)
stays-there b k r c Again there = (r, there)
stays-there b k r c Held there = (let new : ReceivingEnd = emptied (after_command r (Some c) (is_full_for b r c)) in (new, get-set b.receivers k r new there))

-- the receiver of the channel on which a command comes, and what becomes of it
heard-here : (t : Told) (k : ℕ) (c : DataCommand) (r : ReceivingEnd) → c.number < 65536 → (c.reliable ≡ true → (piece_of c).start < 65536) → t.opens ≡ true → slice_get t.inbox.receivers k ≡ Some r → AreFlat t.inbox.receivers
    → let b : Inbox = (sequenced_on t.inbox k c (slice_get t.inbox.receivers k)).after in
    let u : Told = record { came = t.came ++ heard_at k c (t.fronts k) (reliable_taken k t.taken) ∷ []; fronts = λ channel. gone_to (t.fronts channel) (slice_get b.receivers channel); taken = t.taken; opens = t.opens; inbox = b } in
    HasEar t k → HasEar u k
heard-here t k c r small small_start open' there flat h =
    record {
      carried = subst (AreCarried came k 0 1) (sym out) (row-carried came k 0 1 x.dispatched x.front heard.next heard.row);
      follows = λ mtu cs rules. subst (λ ds. FollowsCarried cs (bodies_of ds)) (sym out) (ready-follows mtu cs x (ready mtu cs rules));
      ear = λ o q at. record {
        whole = x;
        shows = subst (λ v. ShowsReceiver v x) (sym (shown-at q at)) shows;
        hears = heard;
        ready = ready;
        front = sym gone;
      };
      least =
          let row : 0 + reliable_in x.dispatched ≤ x.front = row-reliable came k 0 1 x.dispatched x.front heard.next heard.row in
          let same : reliable_in (dispatched k t.taken b) ≡ reliable_in x.dispatched = ap reliable_in out in
          let at : gone_to (t.fronts k) (slice_get b.receivers k) ≡ x.front = gone in
          omega arith;
      most = λ n low. row-numbers came k 0 1 x.dispatched x.front heard.next heard.row n (omega arith) (subst (λ m. n < m) gone low);
      wired = λ q at. ap (λ n. n % 65536) gone ∙ sym s.front ∙ ap (λ (v : Receiver). v.front) (sym moved) ∙ ap (λ (o : Option ReceivingEnd). (receiver_in o).front) at;
    }
  where
    b : Inbox
    b = (sequenced_on t.inbox k c (slice_get t.inbox.receivers k)).after

    full : Bool
    full = is_full_for t.inbox r c

    e : IsEar t k r
    e = h.ear open' r there

    h' : Heard
    h' = heard_at k c (t.fronts k) (reliable_taken k t.taken)

    came : List Heard
    came = t.came ++ h' ∷ []

    v : Receiver
    v = grown (dispatched k t.taken t.inbox) r.receiver

    x : Receiver
    x = received unbounded r.max_packet e.whole c full

    taken : List Dispatched
    taken = in_sequence k (packets_of t.taken)

    moved : shown_in k taken b ≡ received wire r.max_packet v c full
    moved = arrival-own k taken t.inbox r c there (flat k r there).0
        (does_the_same wire r.max_packet r.receiver c full (taken ++ in_sequence k t.inbox.untaken))
        (let q = sequenced-received wire r.max_packet r.receiver c full (flat k r there).1 in q.dispatched)
        ∙ ap (λ (o : Option ReceivingEnd). received wire r.max_packet (grown (dispatched k t.taken t.inbox) (receiver_in o)) c full) there

    s : ShowsReceiver (received wire r.max_packet v c full) x
    s = (Shows-received r.max_packet v e.whole c full small small_start e.shows).1

    shows : ShowsReceiver (shown_in k taken b) x
    shows = subst (λ z. ShowsReceiver z x) (sym moved) s

    -- where it went
    gone : gone_to (t.fronts k) (slice_get b.receivers k) ≡ x.front
    gone =
        let there' : (q : ReceivingEnd) × (slice_get b.receivers k ≡ Some q) =
        subst (λ (o : Option ReceivingEnd). (q : ReceivingEnd) × (slice_get (sequenced_on t.inbox k c o).after.receivers k ≡ Some q)) (sym there) (stays-there t.inbox k r c (outcome_for r (Some c) full) there) in
        let q = there'.0 in
        let wire-is : q.receiver.front ≡ x.front % 65536 = ap (λ (o : Option ReceivingEnd). (receiver_in o).front) (sym there'.1) ∙ ap (λ (v : Receiver). v.front) moved ∙ s.front in
        let far = front-goes r.max_packet v e.whole c full small_start e.shows in
        let low = far.low in
        let high = far.high in
        let on : ahead (e.whole.front % 65536) (x.front % 65536) ≡ x.front - e.whole.front = ahead_true e.whole.front x.front low (omega arith) in
        let sum : e.whole.front + ahead (e.whole.front % 65536) (x.front % 65536) ≡ x.front = omega arith in
        ap (gone_to (t.fronts k)) there'.1 ∙ ap (λ n. n + ahead (n % 65536) q.receiver.front) (sym e.front) ∙ ap (λ n. e.whole.front + ahead (e.whole.front % 65536) n) wire-is ∙ sum

    -- what it dispatched
    out : dispatched k t.taken b ≡ x.dispatched
    out = ap (λ (z : Receiver). z.dispatched) moved ∙ s.dispatched

    shown-at : (q : ReceivingEnd) → slice_get b.receivers k ≡ Some q → grown (dispatched k t.taken b) q.receiver ≡ shown_in k taken b
    shown-at q at = ap (λ (o : Option ReceivingEnd). grown (dispatched k t.taken b) (receiver_in o)) (sym at)

    heard : Hears came k x
    heard = hears-received came k r.max_packet (t.fronts k) (reliable_taken k t.taken) e.whole c full small small_start (Has-push t.came h') (hears-more t.came came k e.whole (covers-push t.came (h' ∷ [])) e.hears)

    ready : (mtu : ℕ) (cs : List ChosenPacket) → KeepsRules mtu cs k came → Ready mtu cs x
    ready mtu cs rules =
        let in_reach = rules.sent h' (Has-push t.came h') refl in
        ready-received mtu cs r.max_packet e.whole h' full in_reach (sym e.front)
        (e.ready mtu cs (fewer-keep mtu cs k t.came came (covers-push t.came (h' ∷ [])) rules))

-- another channel's receiver
other-by : (b : Inbox) (k channel : ℕ) (r : ReceivingEnd) (c : DataCommand) (t : Took) → k ≢ channel → slice_get (by_took t b k r c).after.receivers channel ≡ slice_get b.receivers channel
other-by b k channel r c Bad n = refl
other-by b k channel r c Waiting n = refl
other-by b k channel r c Memory n = refl
other-by b k channel r c Outside n = refl
other-by b k channel r c Again n = refl
other-by b k channel r c Held n = get-set-other b.receivers k channel (emptied (after_command r (Some c) (is_full_for b r c))) n

other-receiver : (b : Inbox) (k channel : ℕ) (c : DataCommand) (o : Option ReceivingEnd) → k ≢ channel → slice_get (sequenced_on b k c o).after.receivers channel ≡ slice_get b.receivers channel
other-receiver b k channel c None n = refl
other-receiver b k channel c (Some r) n = other-by b k channel r c (outcome_for r (Some c) (is_full_for b r c)) n

-- what a receiver dispatched is handed over
flat-by : (b : Inbox) (k : ℕ) (r : ReceivingEnd) (c : DataCommand) (t : Took) → slice_get b.receivers k ≡ Some r → AreFlat b.receivers → AreFlat (by_took t b k r c).after.receivers
flat-by b k r c Bad there flat = flat
flat-by b k r c Waiting there flat = flat
flat-by b k r c Memory there flat = flat
flat-by b k r c Outside there flat = flat
flat-by b k r c Again there flat = flat
flat-by b k r c Held there flat =
    let new : ReceivingEnd = emptied (after_command r (Some c) (is_full_for b r c)) in
    let out = sequenced-received wire r.max_packet r.receiver c (is_full_for b r c) (flat k r there).1 in
    λ i x e. elim (set-cases b.receivers k new i x e) [
      | inl is ↦ subst (λ (y : ReceivingEnd). (y.receiver.dispatched ≡ []) × HasSequenced y.receiver) is (refl, record { held = out.held; waiting = out.waiting; dispatched = tt })
      | inr was ↦ flat i x was
    ]

-- what is told once a message has come that leaves an inbox so
abbrev pub after : Told → ℕ → Option DataCommand → Inbox → Told
after t k o b = record {
  came = t.came ++ heard_as k (t.fronts k) (reliable_taken k t.taken) o;
  fronts = λ channel. gone_to (t.fronts channel) (slice_get b.receivers channel);
  taken = t.taken;
  opens = t.opens;
  inbox = b;
}

-- the fronts of receivers that stay
fronts-stay : (front : ℕ) (o : Option ReceivingEnd) → ((r : ReceivingEnd) → o ≡ Some r → front % 65536 ≡ r.receiver.front) → gone_to front o ≡ front
fronts-stay front None wires = refl
fronts-stay front (Some r) wires = (let at : front % 65536 ≡ r.receiver.front = wires r refl in omega arith)

-- it has come, and nothing of a channel in sequence has changed
told-nothing : (t : Told) (k : ℕ) (o : Option DataCommand) (b : Inbox) → b.receivers ≡ t.inbox.receivers → ((channel : ℕ) → in_sequence channel b.untaken ≡ in_sequence channel t.inbox.untaken) → AllHear t → AllHear (after t k o b)
told-nothing t k o b receivers untaken h = record {
  flat = λ open'. subst AreFlat (sym receivers) (h.flat open');
  each = λ channel. ear-on t (after t k o b) channel (covers-push t.came (heard_as k (t.fronts k) (reliable_taken k t.taken) o)) (ap (λ l. in_sequence channel (packets_of t.taken) ++ l) (untaken channel)) (λ x. x)
      (λ r open' there. ap (λ l. slice_get l channel) (sym receivers) ∙ there)
      (record { stood = λ r there. (r, ap (λ l. slice_get l channel) (sym receivers) ∙ there, refl); front = fronts-stay (t.fronts channel) (slice_get b.receivers channel) }) (h.each channel);
}

told-sequenced : (t : Told) (k : ℕ) (c : DataCommand) → c.number < 65536 → (c.reliable ≡ true → (piece_of c).start < 65536) → t.opens ≡ true → AllHear t
    → AllHear (after t k (Some c) (sequenced_on t.inbox k c (slice_get t.inbox.receivers k)).after)
told-sequenced t k c small small_start open' h = by (slice_get t.inbox.receivers k) refl
  where
    flat : AreFlat t.inbox.receivers
    flat = h.flat open'

    b : Inbox
    b = (sequenced_on t.inbox k c (slice_get t.inbox.receivers k)).after

    by : (o : Option ReceivingEnd) → slice_get t.inbox.receivers k ≡ o → AllHear (after t k (Some c) b)
    by None there = subst (λ (x : Inbox). AllHear (after t k (Some c) x)) (sym (ap (λ (o : Option ReceivingEnd). (sequenced_on t.inbox k c o).after) there)) (told-nothing t k (Some c) t.inbox refl (λ channel. refl) h)
    by (Some r) there = record {
      flat = λ o. subst (λ (x : Option ReceivingEnd). AreFlat (sequenced_on t.inbox k c x).after.receivers) (sym there) (flat-by t.inbox k r c (outcome_for r (Some c) (is_full_for t.inbox r c)) there flat);
      each = λ channel. elim (two_numbers k channel) [
        | inl same ↦ subst (HasEar (after t k (Some c) b)) same (heard-here t k c r small small_start open' there flat (h.each k))
        | inr apart ↦ ear-on t (after t k (Some c) b) channel (covers-push t.came (heard_at k c (t.fronts k) (reliable_taken k t.taken) ∷ []))
            (ap (λ (x : Receiver). x.dispatched) (arrival-other k channel (in_sequence channel (packets_of t.taken)) t.inbox c (slice_get t.inbox.receivers k) apart)) (λ o. o)
            (λ q o at. sym (other-receiver t.inbox k channel c (slice_get t.inbox.receivers k) apart) ∙ at)
            (record { stood = λ q at. (q, sym (other-receiver t.inbox k channel c (slice_get t.inbox.receivers k) apart) ∙ at, refl); front = fronts-stay (t.fronts channel) (slice_get b.receivers channel) }) (h.each channel)
      ];
    }

-- an unsequenced packet
if-effect : (P : Inbox → Type 0) (b : Bool) (x y : DataEffect) → P x.after → P y.after → P (cond b x y).after
if-effect P true x y f g = f
if-effect P false x y f g = g

told-unsequenced : (t : Told) (k group : ℕ) (payload : List ℕ) → AllHear t → AllHear (after t k None (unsequenced t.inbox k group payload).after)
told-unsequenced t k group payload h =
    let b : Inbox = t.inbox in
    let took : DataEffect = handled (unsequenced_taken b k group payload) true in
    let a3 : DataEffect = cond (is_full b) (refused b stop.Waiting) took in
    let a2 : DataEffect = cond (not (dispatches b.seen group)) (handled b true) a3 in
    let a1 : DataEffect = cond (ltb b.max_packet (length payload)) (refused b stop.BadFragment) a2 in
    let same : P b = told-nothing t k None b refl (λ channel. refl) h in
    if-effect P (leb (length b.receivers) k) (refused b stop.BadChannel) a1 same
    (if-effect P (ltb b.max_packet (length payload)) (refused b stop.BadFragment) a2 same
    (if-effect P (not (dispatches b.seen group)) (handled b true) a3 same
    (if-effect P (is_full b) (refused b stop.Waiting) took same
    (told-nothing t k None (unsequenced_taken b k group payload) refl (λ channel. unsequenced-end channel b.untaken (record { channel = k; flags = 2; body = payload }) refl) h))))
  where
    P : Inbox → Type 0
    P b = AllHear (after t k None b)

-- any message that comes to an inbox
told-plain : (t : Told) (h : Head) (body : Body) → IsMessage (record { head = h; body = body }) → t.opens ≡ true → AllHear t
    → AllHear (after t h.channel (data_of (record { head = h; body = body })) (plain_arrival t.inbox (record { head = h; body = body })).after)
told-plain t h body is open' k = by body is
  where
    m : Body → Message
    m body = record { head = h; body = body }

    nothing : (body : Body) → AllHear (after t h.channel (data_of (m body)) t.inbox)
    nothing body = told-nothing t h.channel (data_of (m body)) t.inbox refl (λ channel. refl) k

    by : (body : Body) → IsMessage (m body) → AllHear (after t h.channel (data_of (m body)) (plain_arrival t.inbox (m body)).after)
    by (send_unsequenced group payload) is = told-unsequenced t h.channel group payload k
    by (send_reliable payload) is = told-sequenced t h.channel (record { reliable = true; number = h.number; unreliable = 0; fragment = None; body = payload }) is.number (λ e. is.number) open' k
    by (send_unreliable n payload) is = told-sequenced t h.channel (record { reliable = false; number = h.number; unreliable = n; fragment = None; body = payload }) is.number (λ e. is.number) open' k
    by (send_fragment f payload) is = told-sequenced t h.channel (record { reliable = true; number = h.number; unreliable = 0; fragment = Some f; body = payload }) is.number (λ e. is.fields.0) open' k
    by (send_unreliable_fragment f payload) is = told-sequenced t h.channel (record { reliable = false; number = h.number; unreliable = f.start; fragment = Some f; body = payload }) is.number (λ e. is.fields.0) open' k
    by (acknowledge number time) is = nothing (acknowledge number time)
    by (connect offer) is = nothing (connect offer)
    by (verify_connect v) is = nothing (verify_connect v)
    by (disconnect info) is = nothing (disconnect info)
    by ping is = nothing ping
    by (bandwidth_limit incoming outgoing) is = nothing (bandwidth_limit incoming outgoing)
    by (throttle_configure interval acceleration deceleration) is = nothing (throttle_configure interval acceleration deceleration)

pub told-arrival : (t : Told) (h : Head) (body : Body) → IsMessage (record { head = h; body = body }) → t.opens ≡ true → AllHear t
    → AllHear (after t h.channel (data_of (record { head = h; body = body })) (arrival t.inbox (record { head = h; body = body })).after)
told-arrival t h body is open' k =
    let m : Message = record { head = h; body = body } in
    told-plain (with_inbox t (met t.inbox m)) h body is open' (told-met t m k)

-- any message that a peer passes over or is stopped by, or that is no data
pub told-passed : (t u : Told) (k : ℕ) (o : Option DataCommand) → Stays (record { opens = t.opens; receivers = t.inbox.receivers; untaken = t.inbox.untaken }) (record { opens = u.opens; receivers = u.inbox.receivers; untaken = u.inbox.untaken })
    → u ≡ record (after t k o u.inbox) { opens = u.opens } → AllHear t → AllHear u
told-passed t u k o s is h = told-stays t u (λ x there. subst (λ (y : Told). Has y.came x) (sym is) (covers-push t.came (heard_as k (t.fronts k) (reliable_taken k t.taken) o) x there)) (ap (λ (y : Told). y.taken) is) s
    (λ channel wires. ap (λ (y : Told). y.fronts channel) is ∙ fronts-stay (t.fronts channel) (slice_get u.inbox.receivers channel) wires) h
