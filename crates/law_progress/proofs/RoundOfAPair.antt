-- A round of a pair, computed: a reliable packet goes, comes, and is acknowledged.
use Rattle.std.proofs.Common.{◌≡◌, ℕ, zero, suc, ◌+◌, ◌≤◌, true, false, List, [], ◌∷◌, length, refl, sym, ap, subst, ◌∙◌, Option, Some, None, inl, inr, arith}
use Rattle.std.specs.List.{slice_get}
use Rattle.enet_codec.specs.declared.packet.Packet.{Packet}
use Rattle.enet_fragment.specs.Cutting as cutting
use Rattle.enet_fragment.specs.declared.data.DataCommand.{DataCommand}
use Rattle.enet_receiver.specs.Foresight.{new_end}
use Rattle.enet_receiver.specs.Members.{Has}
use Rattle.enet_sender.specs.declared.sent.Sent.{Sent}
use Rattle.enet_sender.specs.Due.{SendingEnd}
use Rattle.enet_inbox.specs.Inbox.{is_full_for, given_way_receiver, given_way}
use Rattle.enet_outbox.specs.Emission.{acknowledgement_of, occasion}
use Rattle.enet_outbox.specs.Room.{IsSentReliable}
use Rattle.std.proofs.lemmas.List.Elements.{All-nil}
use Rattle.enet_peer.specs.declared.parts.PeerState.{PeerState}
use Rattle.enet_peer.specs.declared.parts.PeerState.TheVariants as state
use Rattle.enet_peer.specs.Peering.{Peering, joined}
use Rattle.enet_peer.specs.CommandEffect.{obeyed}
use Rattle.enet_peer.specs.Calls.{pace_of}
use Rattle.law_connection.specs.Link.{is_late}
use Rattle.law_connection.specs.Connection as connection
use Rattle.law_connection.specs.Connection.{Put, End, Connection, sent_on}
use Rattle.law_connection.specs.Examples.{example_terms, example_limits, example_end, example_packet}
use Rattle.law_connection.specs.Invariant.{Invariant}
use Rattle.law_connection.specs.Steps.{One, Submit, InTime, joined_pair, with_submission, with_emission, with_peer}
use Rattle.law_connection.proofs.FirstPacket.{first_command, first_message, with_untaken, rest, first-comes}
use Rattle.law_connection.proofs.Laws.{joined-kept, kept-at}
use Rattle.law_progress.specs.Exchanges.{Comes, PutsAll, RoundOfBoth, SomeRound}
use Rattle.law_progress.specs.Outboxes.{AllFit, NothingMayGo}

abbrev here : Peering
here = joined 0 example_terms example_limits

abbrev peer_of : Option Peering → Peering
peer_of None = here
peer_of (Some p) = p

abbrev state_of : Option Peering → PeerState
state_of None = state.Free
state_of (Some p) = p.state

some-is : {X : Type 0} {x y : X} → Some x ≡ Some y → x ≡ y
some-is {X} {x} {y} e = cc

abbrev pair : Connection
pair = joined_pair example_end example_end

abbrev submitted : End
submitted = with_submission pair.one here example_packet

abbrev sender : Peering
sender = peer_of submitted.peer

abbrev emitted : End
emitted = with_emission submitted pair.two sender 0

abbrev put : Put
put = record { message = first_message; sent_then = 1 }

emitted-log : emitted.log ≡ put ∷ []
unfolding cutting.piece_count connection.reached
emitted-log = refl

emitted-greatest : sent_on 0 emitted ≡ 1
unfolding cutting.piece_count connection.reached
emitted-greatest = refl

abbrev arrived : End
arrived = with_peer pair.two (with_untaken here (example_packet ∷ rest))

comes : arrived ≡ with_peer pair.two (obeyed here 0 (Some 0) put.message).after
comes = ap (with_peer pair.two) (sym (first-comes here refl).1)

in-time : InTime pair.two emitted put
in-time = record {
  logged = subst (λ (l : List Put). Has l put) (sym emitted-log) (inl refl);
  of_data = λ few c e. (let n : 1 ≡ c.number = cc in ap (λ g. is_late g 1 c.number) emitted-greatest ∙ subst (λ (x : ℕ). is_late 1 1 x ≡ false) n refl);
  of_acknowledgement = λ few number time e. absurd (cc);
}

room : (c : DataCommand) → Some first_command ≡ Some c → is_full_for (given_way here.inbox) (given_way_receiver (new_end 0 1000)) c ≡ false
room c e = subst (λ (x : DataCommand). is_full_for (given_way here.inbox) (given_way_receiver (new_end 0 1000)) x ≡ false) (some-is e) refl

short : (x : Packet) → Has emitted.submitted x → length x.body ≤ 1000
short x (inl e) = subst (λ (y : Packet). length y.body ≤ 1000) e (omega arith)
short x (inr h) = absurd h

forth-comes : Comes 0 0 emitted put pair.two arrived
forth-comes = record {
  peer = here;
  is = refl;
  connected = refl;
  room = inl (record { there = λ c e. (new_end 0 1000, refl, room c e, short); free = refl });
  after = inl (here, refl, in-time, false, comes);
  stays = λ q e. (let s : state.Connected ≡ q.state = ap state_of e in sym s);
}

-- of the one channel nothing more may go
one-channel : (s : SendingEnd) (P : SendingEnd → Type 0) → P s → (i : ℕ) (t : SendingEnd) → slice_get (s ∷ []) i ≡ Some t → P t
one-channel s P h zero t e = subst P (some-is e) h
one-channel s P h (suc i) t e = absurd (cc)

emitted-rests : NothingMayGo (pace_of (peer_of emitted.peer) 0) (peer_of emitted.peer).outbox
unfolding cutting.piece_count
emitted-rests = record {
  acknowledgements = refl;
  controls = refl;
  unsequenced = refl;
  channels = λ i s e. one-channel _ (λ (t : SendingEnd). Rattle.enet_sender.specs.Sender.next Rattle.enet_seq.specs.Numbering.wire (occasion (pace_of (peer_of emitted.peer) 0) i (peer_of emitted.peer).outbox) t.sender ≡ None) refl i s e;
}

forth : PutsAll 0 0 submitted pair.two emitted arrived
forth = record {
  datagrams = 1;
  puts = (emitted, arrived, record { goes = (sender, refl, refl); new = put ∷ []; logged = emitted-log; arrived = arrived; come = (arrived, forth-comes, refl); events = 0; takes = refl }, (refl, refl));
  spent = λ p e. subst (λ (x : Peering). NothingMayGo (pace_of x 0) x.outbox) (some-is e) emitted-rests;
}

-- the acknowledgement
abbrev taker : Peering
taker = peer_of arrived.peer

abbrev answered : End
answered = with_emission arrived emitted taker 0

abbrev answer : Put
answer = record { message = acknowledgement_of (record { channel = 0; number = 1; time = 0 }); sent_then = 1 }

answered-log : answered.log ≡ answer ∷ []
unfolding cutting.piece_count connection.reached
answered-log = refl

abbrev waiter : Peering
waiter = peer_of emitted.peer

abbrev heard : End
heard = with_peer emitted (obeyed waiter 0 (Some 0) answer.message).after

answer-in-time : InTime emitted answered answer
answer-in-time = record {
  logged = subst (λ (l : List Put). Has l answer) (sym answered-log) (inl refl);
  of_data = λ few c e. absurd (cc);
  of_acknowledgement = λ few number time e. (let n : 1 ≡ number = cc in ap (λ g. is_late g 1 number) emitted-greatest ∙ subst (λ (x : ℕ). is_late 1 1 x ≡ false) n refl);
}

back-comes : Comes 0 0 answered answer emitted heard
unfolding cutting.piece_count
back-comes = record {
  peer = waiter;
  is = refl;
  connected = refl;
  room = inl (record { there = λ c e. absurd (cc); free = refl });
  after = inl (waiter, refl, answer-in-time, false, refl);
  stays = λ q e. (let s : state.Connected ≡ q.state = ap state_of e in sym s);
}

answered-rests : NothingMayGo (pace_of (peer_of answered.peer) 0) (peer_of answered.peer).outbox
unfolding cutting.piece_count
answered-rests = record {
  acknowledgements = refl;
  controls = refl;
  unsequenced = refl;
  channels = λ i s e. one-channel _ (λ (t : SendingEnd). Rattle.enet_sender.specs.Sender.next Rattle.enet_seq.specs.Numbering.wire (occasion (pace_of (peer_of answered.peer) 0) i (peer_of answered.peer).outbox) t.sender ≡ None) refl i s e;
}

back : PutsAll 0 0 arrived emitted answered heard
back = record {
  datagrams = 1;
  puts = (answered, heard, record { goes = (taker, refl, refl); new = answer ∷ []; logged = answered-log; arrived = heard; come = (heard, back-comes, refl); events = 0; takes = refl }, (refl, refl));
  spent = λ p e. subst (λ (x : Peering). NothingMayGo (pace_of x 0) x.outbox) (some-is e) answered-rests;
}

heard-rests : NothingMayGo (pace_of (peer_of heard.peer) 0) (peer_of heard.peer).outbox
unfolding cutting.piece_count
heard-rests = record {
  acknowledgements = refl;
  controls = refl;
  unsequenced = refl;
  channels = λ i s e. one-channel _ (λ (t : SendingEnd). Rattle.enet_sender.specs.Sender.next Rattle.enet_seq.specs.Numbering.wire (occasion (pace_of (peer_of heard.peer) 0) i (peer_of heard.peer).outbox) t.sender ≡ None) refl i s e;
}

answers : PutsAll 0 0 heard answered heard answered
answers = record {
  datagrams = 0;
  puts = (refl, refl);
  spent = λ p e. subst (λ (x : Peering). NothingMayGo (pace_of x 0) x.outbox) (some-is e) heard-rests;
}

-- the pair, one end of which has the packet to send
abbrev start : Connection
start = record { one = submitted; two = pair.two }

start-kept : Invariant true start
unfolding cutting.piece_count
start-kept = kept-at true One (Submit example_packet) pair start ((here, refl, refl, refl), refl)
    (joined-kept 0 0 example_terms example_terms example_limits example_limits (omega arith) (omega arith) (omega arith) (omega arith))

fits : (when : ℕ) → AllFit (pace_of sender when) sender.outbox
unfolding cutting.piece_count
fits when = record {
  fit = record {
    mtu = omega arith;
    unsequenced = λ u h. absurd h;
    queued = λ i s e. one-channel _ (λ (t : SendingEnd). (c : DataCommand) → Has t.sender.queued c → length c.body + 28 ≤ (pace_of sender when).mtu) each i s e;
  };
  awaited = record { reliable = λ i s e. one-channel _ (λ (t : SendingEnd). IsSentReliable t.sender.sent) (All-nil (λ (p : Sent). p.command.reliable ≡ true)) i s e; awaits = tt };
  sent = λ i s e. one-channel _ (λ (t : SendingEnd). (x : Sent) → Has t.sender.sent x → length x.command.body + 28 ≤ (pace_of sender when).mtu) (λ x h. absurd h) i s e;
}
  where
    each : (c : DataCommand) → Has (first_command ∷ []) c → length c.body + 28 ≤ 576
    each c (inl e) = subst (λ (y : DataCommand). length y.body + 28 ≤ 576) e (omega arith)
    each c (inr h) = absurd h

fits-here : (when : ℕ) → AllFit (pace_of here when) here.outbox
fits-here when = record {
  fit = record {
    mtu = omega arith;
    unsequenced = λ u h. absurd h;
    queued = λ i s e. one-channel _ (λ (t : SendingEnd). (c : DataCommand) → Has t.sender.queued c → length c.body + 28 ≤ (pace_of here when).mtu) (λ c h. absurd h) i s e;
  };
  awaited = record { reliable = λ i s e. one-channel _ (λ (t : SendingEnd). IsSentReliable t.sender.sent) (All-nil (λ (p : Sent). p.command.reliable ≡ true)) i s e; awaits = tt };
  sent = λ i s e. one-channel _ (λ (t : SendingEnd). (x : Sent) → Has t.sender.sent x → length x.command.body + 28 ≤ (pace_of here when).mtu) (λ x h. absurd h) i s e;
}

round : RoundOfBoth 0 0 start (record { one = heard; two = answered })
unfolding cutting.piece_count
round = record {
  one = submitted;
  ticks_one = (sender, refl, false, refl);
  patient_one = λ p e. (let s : state.Connected ≡ p.state = ap state_of e in sym s);
  two = pair.two;
  ticks_two = (here, refl, false, refl);
  patient_two = λ p e. (let s : state.Connected ≡ p.state = ap state_of e in sym s);
  one_out = emitted;
  two_in = arrived;
  forth = forth;
  two_out = answered;
  one_in = heard;
  back = back;
  answers = answers;
}

pub some-round : SomeRound
unfolding cutting.piece_count
some-round = (
  start,
  record { one = heard; two = answered },
  sender,
  here,
  start-kept,
  record { is = refl; connected = refl; fit = fits },
  record { is = refl; connected = refl; fit = fits-here },
  round,
  refl,
  refl,
  peer_of heard.peer,
  refl,
  refl,
)
