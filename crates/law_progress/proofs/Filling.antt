-- A datagram that has a command keeps it while it is filled.
use Rattle.std.proofs.Common.{◌≡◌, ℕ, ◌+◌, ◌≤◌, leb, Bool, true, false, cond, List, [], ◌∷◌, ◌++◌, length, refl, inl, inr, arith, Option, Some, None}
use Rattle.std.proofs.lemmas.Bool.Decides.{nat_tests}
use Rattle.std.specs.List.{slice_get}
use Rattle.enet_codec.specs.declared.command.Fragment.{Fragment}
use Rattle.enet_codec.specs.Message.{Message, canonical}
use Rattle.enet_seq.specs.Numbering.{wire}
use Rattle.enet_throttle.specs.Throttle.{is_admitted}
use Rattle.enet_senders.specs.Controlling as controlling
use Rattle.enet_senders.specs.declared.control.Control.{Control}
use Rattle.enet_senders.specs.declared.control.Control.TheVariants as control
use Rattle.enet_senders.specs.declared.control.Numbered.{Numbered}
use Rattle.enet_fragment.specs.declared.data.DataCommand.{DataCommand}
use Rattle.enet_fragment.specs.DataCommand.{message_of, wire_body}
use Rattle.enet_sender.specs.declared.outgoing.Kind.{Kind}
use Rattle.enet_sender.specs.declared.outgoing.Kind.TheVariants.{Reliable, Begins, More}
use Rattle.enet_sender.specs.Sender.{Next, next, with_skipped}
use Rattle.enet_sender.specs.Due.{SendingEnd, due_kind}
use Rattle.enet_outbox.specs.declared.parts.Unsequenced.{Unsequenced}
use Rattle.enet_outbox.specs.declared.parts.Pace.{Pace}
use Rattle.enet_outbox.specs.Outbox.{Outbox, released}
use Rattle.enet_outbox.specs.Traffic.{with_one_sent}
use Rattle.enet_outbox.specs.Emission.{Filling, size_of, fits, with_command, shut, asked, repeated, unsequenced_of, unsequenced_asked, unsequenced_step, with_one_unsequenced, with_sender, data_put, data_step, due_step, channel_step, with_one_data, with_channel, channel_turns, with_channels, occasion}
use Rattle.enet_outbox.proofs.Filled.{by-turn_end}
use Rattle.enet_outbox.proofs.Repeats.{by-repeated}
use Rattle.enet_receiver.specs.Members.{Has}
use Rattle.law_progress.specs.Outboxes.{AreSome}

-- what is pushed is a member
pub Has-push : {X : Type 0} (xs : List X) (x : X) → Has (xs ++ x ∷ []) x
Has-push [] x = inl refl
Has-push (y ∷ ys) x = inr (Has-push ys x)

pub le-leb : (m n : ℕ) → m ≤ n → leb m n ≡ true
le-leb m n h = grind (arith, nat_tests)

-- how long messages are
pub data-size : (channel : ℕ) (c : DataCommand) → size_of (message_of channel c) ≤ 24 + length c.body
data-size channel c = by c.reliable c.fragment
  where
    by : (r : Bool) (f : Option Fragment) → length (canonical (record { head = record { acknowledge = r; unsequenced = false; channel = channel; number = c.number }; body = wire_body r f c.unreliable c.body })) ≤ 24 + length c.body
    by true None = omega arith
    by true (Some f) = omega arith
    by false None = omega arith
    by false (Some f) = omega arith

pub unsequenced-size : (u : Unsequenced) → size_of (unsequenced_of u) ≤ 24 + length u.body
unsequenced-size u = omega arith

pub control-size : (n : Numbered) → size_of (controlling.message_of n) ≤ 48
control-size n = by n.control
  where
    by : (c : Control) → size_of (controlling.message_of (record { number = n.number; control = c })) ≤ 48
    by (control.Connect offer) = omega arith
    by (control.VerifyConnect verify) = omega arith
    by (control.Disconnect info) = omega arith
    by (control.DisconnectNow info) = omega arith
    by control.Ping = omega arith
    by (control.BandwidthLimit incoming outgoing) = omega arith
    by (control.ThrottleConfigure interval acceleration deceleration) = omega arith

-- a datagram with a command
abbrev pub Filled : Filling → Type 0
Filled f = AreSome f.messages

-- a command is put in
pub filled-with : (f : Filling) (m : Message) (o : Outbox) → Filled (with_command f m o)
filled-with f m o = (m, Has-push f.messages m)

-- what has a command keeps it
pub stays-filled : (f : Filling) (m n : Message) (o : Outbox) → Has f.messages n → Has (with_command f m o).messages n
stays-filled f m n o h = left f.messages h
  where
    left : (xs : List Message) → Has xs n → Has (xs ++ m ∷ []) n
    left [] h = absurd h
    left (x ∷ xs) (inl e) = inl e
    left (x ∷ xs) (inr h) = inr (left xs h)

pub if-filled : (b : Bool) (f g : Filling) → Filled f → Filled g → Filled (cond b f g)
if-filled true f g a b = a
if-filled false f g a b = b

-- nor does an unsequenced packet take it away
pub unsequenced-filled : (f : Filling) → Filled f → Filled (with_one_unsequenced f)
unsequenced-filled f h = by f.outbox.unsequenced
  where
    by : (us : List Unsequenced) → Filled (unsequenced_step f us)
    by [] = h
    by (u ∷ rest) =
        let m = unsequenced_of u in
        let put : Filling = with_command f m (record (asked f.outbox) { unsequenced = rest; last = Some u.channel }) in
        if-filled (fits f m) (unsequenced_asked f u rest) (shut f)
        (if-filled (is_admitted f.outbox.throttle) put (record f { outbox = record (asked f.outbox) { unsequenced = rest } }) (h.0, stays-filled f m h.0 (record (asked f.outbox) { unsequenced = rest; last = Some u.channel }) h.1) h) h

-- what has a command keeps it, on whatever channel one more is asked for
pub data-filled : (pace : Pace) (i : ℕ) (f : Filling) → Filled f → Filled (with_one_data pace i f)
data-filled pace i f h = at (slice_get f.outbox.senders i)
  where
    put : (s : SendingEnd) (n : Next) (o : Outbox) → Filled (data_put f i s n o)
    put s n o = (h.0, stays-filled f (message_of s.channel n.command) h.0 (record (with_sender o i (record s { sender = n.sender })) { last = Some i }) h.1)

    kind : (s : SendingEnd) (n : Next) (d : Kind) → Filled (data_step f i s n d)
    kind s n Reliable = put s n (record f.outbox { kept = released f.outbox.kept i; traffic = with_one_sent f.outbox.traffic n.is_resend })
    kind s n More = put s n f.outbox
    kind s n Begins = if-filled (is_admitted f.outbox.throttle) (data_put f i s n (asked f.outbox)) (record f { outbox = with_sender (asked f.outbox) i (record s { sender = with_skipped n.sender }) }) (put s n (asked f.outbox)) h

    due : (s : SendingEnd) (n : Option Next) → Filled (due_step f i s n)
    due s None = h
    due s (Some n) = if-filled (fits f (message_of s.channel n.command)) (data_step f i s n (due_kind n.command)) (shut f) (kind s n (due_kind n.command)) h

    at : (o : Option SendingEnd) → Filled (channel_step pace i f o)
    at None = h
    at (Some s) = due s (next wire (occasion pace i f.outbox) s.sender)

pub channel-filled : (pace : Pace) (i times : ℕ) (f : Filling) → Filled f → Filled (repeated times (with_one_data pace i) f)
channel-filled pace i times f h = by-repeated Filled times (with_one_data pace i) (λ g k. data-filled pace i g k) f h

-- nor does the end of its turn
pub turn-filled : (pace : Pace) (i : ℕ) (f : Filling) → Filled f → Filled (with_channel pace f i)
turn-filled pace i f h =
    let all : Filled (repeated (channel_turns f.outbox i) (with_one_data pace i) f) = channel-filled pace i (channel_turns f.outbox i) f h in
    by-turn_end pace i Filled f (repeated (channel_turns f.outbox i) (with_one_data pace i) f) (λ s there wants. all) all

pub order-filled : (pace : Pace) (order : List ℕ) (f : Filling) → Filled f → Filled (with_channels pace order f)
order-filled pace [] f h = h
order-filled pace (i ∷ rest) f h = order-filled pace rest (with_channel pace f i) (turn-filled pace i f h)
