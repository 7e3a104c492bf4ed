-- What can happen to a link, one thing after another.
use Rattle.std.specs.Prelude.{◌≡◌, ℕ, Bool, true, false, ◌≤◌, List, [], ◌∷◌, ◌++◌, Some, map}
use Rattle.enet_seq.specs.Numbering.{wire}
use Rattle.enet_rtt.specs.declared.transmission.Tick.{Tick}
use Rattle.enet_sender.specs.CommandChoice.{Packet, carried_as, fragment_limit}
use Rattle.enet_sender.specs.declared.outgoing.Occasion.{Occasion}
use Rattle.enet_sender.specs.Sender.{Sender, Next, next, nothing_sent}
use Rattle.enet_packets.specs.declared.incoming_packet.Dispatched.{Dispatched}
use Rattle.enet_receiver.specs.Receiver.{Receiver, nothing_received}
use Rattle.enet_receiver.specs.DataOutcome.{acknowledged}
pub use Rattle.enet_receiver.specs.Members.{Has}
use Rattle.law_connection.specs.Link.{PutOut, Answer, is_late}
use Rattle.law_connection.specs.WireLink.{WireLink, submits, sends, drops, marks, puts_out, arrives, logs_answer, answered, gives_up, stops_sending, stops_receiving, drops_answers}

-- `now` is a moment, in milliseconds. Of what comes, `max_packet` is the greatest packet that is taken in, in bytes, and `full`
-- says that too many wait
pub data Event : Type 0 where
  Submit : (packet : Packet) → Event
  Send : (occasion : Occasion) → Event  -- the command that is due next goes into the datagram
  Drop : (occasion : Occasion) → Event  -- the throttle drops the unreliable packet that it begins
  Mark : (tick : Tick) → Event  -- what waited too long is due to go again
  PutsOut : Event  -- the datagram is put out
  Arrive : (command : PutOut) (max_packet : ℕ) (full : Bool) → Event  -- a command of the log comes
  ArriveAnswered : (command : PutOut) (max_packet : ℕ) (full : Bool) → Event  -- and is acknowledged
  PutsAnswer : (number : ℕ) (rest : List ℕ) → Event  -- the oldest waiting acknowledgement is put out
  Acknowledge : (answer : Answer) → Event  -- an acknowledgement of the log comes
  GivesUp : Event  -- the receiving end gives up the unreliable packets that wait or are in the making
  StopSending : (left : Sender) → Event  -- the sending end stops, whatever it keeps
  StopReceiving : (left : Receiver) (kept gone : List Dispatched) → Event  -- the receiving end stops, and may drop what wasn't taken
  DropAnswers : Event  -- its waiting acknowledgements are dropped

-- a submission that is accepted: by an end that sends, of a packet that isn't cut into too many pieces
pub record Submits (mtu : ℕ) (packet : Packet) (v w : WireLink) : Type 0 where
  pub sending : v.is_sending ≡ true
  pub few : (carried_as mtu v.outgoing.unreliable packet).pieces ≤ fragment_limit
  pub after : w ≡ submits mtu v packet

pub record Sends (occasion : Occasion) (v w : WireLink) : Type 0 where
  pub due : Next
  pub sending : v.is_sending ≡ true
  pub is_due : next wire occasion v.outgoing ≡ Some due
  pub after : w ≡ sends v due

pub record Drops (occasion : Occasion) (v w : WireLink) : Type 0 where
  pub due : Next
  pub sending : v.is_sending ≡ true
  pub is_due : next wire occasion v.outgoing ≡ Some due
  pub unreliable : due.command.reliable ≡ false
  pub after : w ≡ drops v due

pub record Marks (tick : Tick) (v w : WireLink) : Type 0 where
  pub sending : v.is_sending ≡ true
  pub after : w ≡ marks v tick

-- the sending end stops between two datagrams
pub record StopsSending (left : Sender) (v w : WireLink) : Type 0 where
  pub between : v.making ≡ []
  pub after : w ≡ stops_sending v left

-- a command of the log comes, not more than 32,768 late
pub record Comes (command : PutOut) (v : WireLink) : Type 0 where
  pub logged : Has v.commands command
  pub in_time : is_late v.greatest command.sent_then command.command.number ≡ false

-- such a command comes, and is not acknowledged
pub record ArrivesUnanswered (command : PutOut) (max_packet : ℕ) (full : Bool) (v w : WireLink) : Type 0 where
  pub comes : Comes command v
  pub after : w ≡ arrives v max_packet command.command full false

-- a reliable one is acknowledged: where the receiver dispatches, by its rule
pub record ArrivesAnswered (command : PutOut) (max_packet : ℕ) (full : Bool) (v w : WireLink) : Type 0 where
  pub comes : Comes command v
  pub reliable : command.command.reliable ≡ true
  pub rule : v.is_open ≡ true → acknowledged wire max_packet v.incoming command.command full ≡ true
  pub after : w ≡ arrives v max_packet command.command full true

pub record PutsAnswers (number : ℕ) (rest : List ℕ) (v w : WireLink) : Type 0 where
  pub oldest : v.answers ≡ number ∷ rest
  pub after : w ≡ logs_answer v number rest

-- an acknowledgement of the log comes, not more than 32,768 late, between two datagrams
pub record Acknowledges (answer : Answer) (v w : WireLink) : Type 0 where
  pub between : v.making ≡ []
  pub logged : Has v.acks answer
  pub in_time : is_late v.greatest answer.sent_then answer.number ≡ false
  pub after : w ≡ answered v answer

pub record StopsReceiving (left : Receiver) (kept gone : List Dispatched) (v w : WireLink) : Type 0 where
  pub dispatched : v.incoming.dispatched ≡ kept ++ gone
  pub after : w ≡ stops_receiving v left kept

-- one event takes a link from v to w
abbrev pub Happens : ℕ → Event → WireLink → WireLink → Type 0
Happens mtu (Submit packet) v w = Submits mtu packet v w
Happens mtu (Send occasion) v w = Sends occasion v w
Happens mtu (Drop occasion) v w = Drops occasion v w
Happens mtu (Mark tick) v w = Marks tick v w
Happens mtu PutsOut v w = w ≡ puts_out v
Happens mtu (Arrive command max_packet full) v w = ArrivesUnanswered command max_packet full v w
Happens mtu (ArriveAnswered command max_packet full) v w = ArrivesAnswered command max_packet full v w
Happens mtu (PutsAnswer number rest) v w = PutsAnswers number rest v w
Happens mtu (Acknowledge answer) v w = Acknowledges answer v w
Happens mtu GivesUp v w = w ≡ gives_up v
Happens mtu (StopSending left) v w = StopsSending left v w
Happens mtu (StopReceiving left kept gone) v w = StopsReceiving left kept gone v w
Happens mtu DropAnswers v w = w ≡ drops_answers v

-- events, one after another, with datagrams of at most `mtu` bytes
abbrev pub Runs : ℕ → List Event → WireLink → WireLink → Type 0
Runs mtu [] v w = v ≡ w
Runs mtu (e ∷ es) v w = (u : WireLink) × Happens mtu e v u × Runs mtu es u w

-- a channel on which nothing happened yet
abbrev pub fresh_link : WireLink
fresh_link = record {
  submitted = [];
  greatest = 0;
  is_sending = true;
  outgoing = nothing_sent;
  making = [];
  commands = [];
  incoming = nothing_received;
  is_open = true;
  answers = [];
  acks = [];
}

-- the bodies of the packets that were dispatched
abbrev pub bodies_of : List Dispatched → List (List ℕ)
bodies_of ds = map (λ (d : Dispatched). d.body) ds
