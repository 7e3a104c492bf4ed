-- Each unsequenced packet that is taken, or is to be, is one that came so.
use Rattle.std.proofs.Common.{◌≡◌, ℕ, Bool, true, false, cond, ltb, leb, ◌==◌, not, List, [], ◌∷◌, map, length, refl, sym, ap, subst, ◌∙◌, inl, inr, ◌⊎◌, Option, Some, None}
use Rattle.std.specs.List.{slice_get}
use Rattle.enet_codec.specs.declared.command.Head.{Head}
use Rattle.enet_codec.specs.declared.packet.Packet.{Packet}
use Rattle.enet_codec.specs.declared.stop.Stop.TheVariants as stop
use Rattle.enet_codec.specs.Message.{Message, Body, send_unsequenced, send_reliable, send_unreliable, send_fragment, send_unreliable_fragment, acknowledge, connect, verify_connect, disconnect, ping, bandwidth_limit, throttle_configure}
use Rattle.enet_seq.specs.Numbering.{wire}
use Rattle.enet_unsequenced.specs.Groups.{dispatches}
use Rattle.enet_fragment.specs.declared.data.DataCommand.{DataCommand}
use Rattle.enet_fragment.specs.DataCommand.{data_of}
use Rattle.enet_packets.specs.declared.incoming_packet.Dispatched.{Dispatched}
use Rattle.enet_receiver.specs.Members.{Has}
use Rattle.enet_receiver.specs.declared.took.Took.{Took}
use Rattle.enet_receiver.specs.declared.took.Took.TheVariants.{Held, Again, Outside, Bad, Waiting, Memory}
use Rattle.enet_receiver.specs.DataOutcome.{received}
use Rattle.enet_receiver.specs.Foresight.{ReceivingEnd, outcome_for}
use Rattle.enet_receiver.specs.Sequenced.{AreSequenced}
use Rattle.enet_receiver.proofs.Sequenced.{sequenced-received}
use Rattle.enet_inbox.specs.Inbox.{Inbox, is_full, is_full_for, given_way}
use Rattle.enet_inbox.specs.DataEffect.{DataEffect, handled, stopped as refused, packet_of, by_took, sequenced_on, sequenced, unsequenced, unsequenced_taken, plain_arrival, makes_room, met, arrival}
use Rattle.law_connection.proofs.GivingWay.{AreFlat, met-flat}
use Rattle.law_connection.proofs.Lists.{Has-append_cases}
use Rattle.law_one_end.specs.OneEnd.{loose_of}

-- an unsequenced packet of a list is in another, or came now
abbrev pub AreLoose : List Packet → List Packet → List Packet → Type 0
AreLoose qs old came = (q : Packet) → Has qs q → q.flags ≡ 2 → Has old q ⊎ Has came q

-- what came in sequence isn't unsequenced
none-loose : {A : Type 0} (channel : ℕ) (ds : List Dispatched) (q : Packet) → AreSequenced ds → Has (map (packet_of channel) ds) q → q.flags ≡ 2 → A
none-loose channel [] q h there two = absurd there
none-loose channel (d ∷ ds) q h (inl e) two =
    let is : (d.flags == 2) ≡ true = ap (λ (x : Packet). x.flags == 2) e ∙ ap (λ n. n == 2) two in
    absurd (let x : true ≡ false = sym is ∙ h.0 in cc)
none-loose channel (d ∷ ds) q h (inr there) two = none-loose channel ds q h.1 there two

took-loose : (b : Inbox) (k : ℕ) (r : ReceivingEnd) (c : DataCommand) (came : List Packet) (t : Took) → slice_get b.receivers k ≡ Some r → AreFlat b.receivers → AreLoose (by_took t b k r c).after.untaken b.untaken came
took-loose b k r c came Bad there flat q h two = inl h
took-loose b k r c came Waiting there flat q h two = inl h
took-loose b k r c came Memory there flat q h two = inl h
took-loose b k r c came Outside there flat q h two = inl h
took-loose b k r c came Again there flat q h two = inl h
took-loose b k r c came Held there flat q h two =
    let new = received wire r.max_packet r.receiver c (is_full_for b r c) in
    let out = sequenced-received wire r.max_packet r.receiver c (is_full_for b r c) (flat k r there).1 in
    elim (Has-append_cases b.untaken (map (packet_of k) new.dispatched) q h) [
      | inl old ↦ inl old
      | inr more ↦ none-loose k new.dispatched q out.dispatched more two
    ]

on-loose : (b : Inbox) (k : ℕ) (c : DataCommand) (came : List Packet) → AreFlat b.receivers → AreLoose (sequenced_on b k c (slice_get b.receivers k)).after.untaken b.untaken came
on-loose b k c came flat = by (slice_get b.receivers k) refl
  where
    by : (o : Option ReceivingEnd) → slice_get b.receivers k ≡ o → AreLoose (sequenced_on b k c o).after.untaken b.untaken came
    by None there q h two = inl h
    by (Some r) there q h two = took-loose b k r c came (outcome_for r (Some c) (is_full_for b r c)) there flat q h two

sequenced-loose : (b : Inbox) (k : ℕ) (o : Option DataCommand) (came : List Packet) → AreFlat b.receivers → AreLoose (sequenced b k o).after.untaken b.untaken came
sequenced-loose b k None came flat q h two = inl h
sequenced-loose b k (Some c) came flat q h two = on-loose b k c came flat q h two

if-effect : (P : Inbox → Type 0) (b : Bool) (x y : DataEffect) → P x.after → P y.after → P (cond b x y).after
if-effect P true x y f g = f
if-effect P false x y f g = g

unsequenced-loose : (b : Inbox) (k group : ℕ) (payload : List ℕ) → AreLoose (unsequenced b k group payload).after.untaken b.untaken (loose_of k (send_unsequenced group payload))
unsequenced-loose b k group payload =
    let took : DataEffect = handled (unsequenced_taken b k group payload) true in
    let a3 : DataEffect = cond (is_full b) (refused b stop.Waiting) took in
    let a2 : DataEffect = cond (not (dispatches b.seen group)) (handled b true) a3 in
    let a1 : DataEffect = cond (ltb b.max_packet (length payload)) (refused b stop.BadFragment) a2 in
    if-effect P (leb (length b.receivers) k) (refused b stop.BadChannel) a1 same
    (if-effect P (ltb b.max_packet (length payload)) (refused b stop.BadFragment) a2 same
    (if-effect P (not (dispatches b.seen group)) (handled b true) a3 same
    (if-effect P (is_full b) (refused b stop.Waiting) took same
    (λ q h two. Has-append_cases b.untaken ((record { channel = k; flags = 2; body = payload }) ∷ []) q h))))
  where
    P : Inbox → Type 0
    P c = AreLoose c.untaken b.untaken (loose_of k (send_unsequenced group payload))

    same : P b
    same = λ q h two. inl h

plain-loose : (b : Inbox) (h : Head) (body : Body) → AreFlat b.receivers → AreLoose (plain_arrival b (record { head = h; body = body })).after.untaken b.untaken (loose_of h.channel body)
plain-loose b h body flat = by body
  where
    m : Body → Message
    m body = record { head = h; body = body }

    by : (body : Body) → AreLoose (plain_arrival b (m body)).after.untaken b.untaken (loose_of h.channel body)
    by (send_unsequenced group payload) = unsequenced-loose b h.channel group payload
    by (send_reliable payload) = sequenced-loose b h.channel (data_of (m (send_reliable payload))) [] flat
    by (send_unreliable n payload) = sequenced-loose b h.channel (data_of (m (send_unreliable n payload))) [] flat
    by (send_fragment f payload) = sequenced-loose b h.channel (data_of (m (send_fragment f payload))) [] flat
    by (send_unreliable_fragment f payload) = sequenced-loose b h.channel (data_of (m (send_unreliable_fragment f payload))) [] flat
    by (acknowledge number time) = sequenced-loose b h.channel None [] flat
    by (connect offer) = sequenced-loose b h.channel None [] flat
    by (verify_connect v) = sequenced-loose b h.channel None [] flat
    by (disconnect info) = sequenced-loose b h.channel None [] flat
    by ping = sequenced-loose b h.channel None [] flat
    by (bandwidth_limit incoming outgoing) = sequenced-loose b h.channel None [] flat
    by (throttle_configure interval acceleration deceleration) = sequenced-loose b h.channel None [] flat

met-untaken : (b : Inbox) (m : Message) → (met b m).untaken ≡ b.untaken
met-untaken b m = by (makes_room b m)
  where
    by : (way : Bool) → (cond way (given_way b) b).untaken ≡ b.untaken
    by true = refl
    by false = refl

pub arrival-loose : (b : Inbox) (h : Head) (body : Body) → AreFlat b.receivers → AreLoose (arrival b (record { head = h; body = body })).after.untaken b.untaken (loose_of h.channel body)
arrival-loose b h body flat =
    let m : Message = record { head = h; body = body } in
    subst (λ old. AreLoose (arrival b m).after.untaken old (loose_of h.channel body)) (met-untaken b m) (plain-loose (met b m) h body (met-flat b m flat))
