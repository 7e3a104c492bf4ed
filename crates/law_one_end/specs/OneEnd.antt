-- One end of a connection, ours, whatever stands at the other: what came to it and what its user took, what its user submitted and what it
-- put out.
use Rattle.std.specs.Prelude.{◌≡◌, Bool, true, ℕ, ◌+◌, ◌%◌, ◌==◌, List, [], ◌∷◌, ◌++◌, length, filter, Option, Some, None, slice_get}
use Rattle.enet_codec.specs.declared.packet.Packet.{Packet}
use Rattle.enet_codec.specs.Message.{Message, Body, IsMessage, send_unsequenced}
use Rattle.enet_seq.specs.Windows.{ahead}
use Rattle.enet_fragment.specs.declared.data.DataCommand.{DataCommand}
use Rattle.enet_fragment.specs.DataCommand.{data_of}
use Rattle.enet_outbox.specs.Emission.{filled}
use Rattle.enet_packets.specs.declared.incoming_packet.Dispatched.{Dispatched}
use Rattle.enet_receiver.specs.Foresight.{ReceivingEnd}
use Rattle.enet_peer.specs.declared.parts.PeerEvent.{PeerEvent}
use Rattle.enet_peer.specs.Peering.{Peering}
use Rattle.enet_peer.specs.Endings.{freed}
use Rattle.enet_peer.specs.Refusing.{heeded, is_turned_away, told_again}
use Rattle.enet_peer.specs.Calls.{submission_refusal, submitted, pace_of, gone_on, is_answering, left, moved, next_event}
use Rattle.law_connection.specs.Connection.{packets_of, in_sequence}
use Rattle.law_connection.specs.Steps.{Way, leave_by, Setting, MaySet, with_setting}

-- a sequenced data command that came on a channel; how many reliable commands of the channel had been dispatched by then, which is where the
-- receiver stood, counted without wrapping; and how many reliable packets of it the user had taken by then
pub record Heard : Type 0 where
  pub channel : ℕ
  pub command : DataCommand
  pub front : ℕ
  pub taken : ℕ

pub record OneEnd : Type 0 where
  pub peer : Peering
  pub came : List Heard  -- each sequenced data command that came, in order
  pub loose : List Packet  -- the packets of the unsequenced commands that came
  pub fronts : ℕ → ℕ  -- how many reliable commands were dispatched, by channel
  pub taken : List PeerEvent  -- what its user took
  pub submitted : List Packet  -- what its user submitted
  pub put : List Message  -- the commands of the datagrams that it put out

-- what can happen at an end. What comes is any command of any datagram: nothing is assumed of who sent it
pub data Event : Type 0 where
  Submit : (packet : Packet) → Event
  Emit : (now : ℕ) → Event  -- a datagram is put out, if there is anything to send
  Come : (message : Message) (now : ℕ) (sent : Option ℕ) → Event  -- a command comes, in a datagram that tells this sent time or none
  Tick : (now : ℕ) → Event
  Take : Event  -- the user takes the next event
  Disconnect : (way : Way) (info : ℕ) → Event
  Set : (setting : Setting) → Event
  GiveWay : Event  -- the peer waits for its client, and is let go, since its host gives its slot to another
  TellAgain : Event  -- it was refused, and is told so again, since a datagram came

abbrev pub heard_as : ℕ → ℕ → ℕ → Option DataCommand → List Heard
heard_as channel front taken None = []
heard_as channel front taken (Some c) = (record { channel = channel; command = c; front = front; taken = taken }) ∷ []

-- how many reliable packets of a channel were taken
abbrev pub reliable_taken : ℕ → List PeerEvent → ℕ
reliable_taken channel events = length (filter (λ (d : Dispatched). d.flags == 1) (in_sequence channel (packets_of events)))

-- the packet of an unsequenced command
abbrev pub loose_of : ℕ → Body → List Packet
loose_of channel (send_unsequenced group payload) = (record { channel = channel; flags = 2; body = payload }) ∷ []
loose_of channel _ = []

-- a channel's receiver has gone on from `before` to the number that it has on the wire of the last reliable command that it dispatched. Where
-- the channel has no receiver none was dispatched
abbrev pub gone_to : ℕ → Option ReceivingEnd → ℕ
gone_to before None = before
gone_to before (Some r) = before + ahead (before % 65536) r.receiver.front

abbrev pub with_peer : OneEnd → Peering → OneEnd
with_peer e p = record e { peer = p }

abbrev pub with_come : OneEnd → Message → Peering → OneEnd
with_come e m p = record e {
  peer = p;
  came = e.came ++ heard_as m.head.channel (e.fronts m.head.channel) (reliable_taken m.head.channel e.taken) (data_of m);
  loose = e.loose ++ loose_of m.head.channel m.body;
  fronts = λ channel. gone_to (e.fronts channel) (slice_get p.inbox.receivers channel);
}

abbrev pub with_submission : OneEnd → Packet → OneEnd
with_submission e q = record e { peer = submitted e.peer q.channel (record { flags = q.flags; body = q.body }); submitted = e.submitted ++ q ∷ [] }

abbrev pub with_emission : OneEnd → ℕ → OneEnd
with_emission e now = record e {
  peer = gone_on (record e.peer { outbox = (filled (pace_of e.peer now) e.peer.outbox).outbox });
  put = e.put ++ (filled (pace_of e.peer now) e.peer.outbox).messages;
}

-- one event. Where memory is wanting nothing happens
abbrev pub Happens : OneEnd → Event → OneEnd → Type 0
Happens e (Submit q) new = (submission_refusal e.peer q.channel (length q.body) ≡ None) × (new ≡ with_submission e q)
Happens e (Emit now) new = new ≡ with_emission e now
Happens e (Come m now sent) new = IsMessage m × (full : Bool) × (new ≡ with_come e m (heeded full e.peer now sent m).after)
Happens e (Tick now) new = (short : Bool) × (new ≡ with_peer e (moved short e.peer now))
Happens e Take new = (told : PeerEvent) × (q : Peering) × (next_event e.peer ≡ Some (record { event = told; after = q })) × (new ≡ record e { peer = q; taken = e.taken ++ told ∷ [] })
Happens e (Disconnect way info) new = (q : Peering) × (left (leave_by way e.peer.state) e.peer info ≡ Some q) × (new ≡ with_peer e q)
Happens e (Set setting) new = MaySet setting e.peer × (new ≡ with_peer e (with_setting setting e.peer))
Happens e GiveWay new = (is_answering e.peer.state ≡ true) × (new ≡ with_peer e (freed e.peer))
Happens e TellAgain new = (is_turned_away e.peer ≡ true) × (new ≡ with_peer e (told_again e.peer))

-- events, one after another
abbrev pub Runs : List Event → OneEnd → OneEnd → Type 0
Runs [] e new = e ≡ new
Runs (event ∷ events) e new = (between : OneEnd) × Happens e event between × Runs events between new

-- to which nothing came
abbrev pub beginning : Peering → OneEnd
beginning p = record { peer = p; came = []; loose = []; fronts = λ channel. 0; taken = []; submitted = []; put = [] }
