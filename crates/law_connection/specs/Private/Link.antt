-- One channel from a sender to a receiver and the acknowledgements back, with unbounded numbers.
use Rattle.std.specs.Prelude.{ℕ, Bool, false, ◌+◌, ◌%◌, not, ◌==◌, if◌then◌else◌, List, [], ◌∷◌, ◌++◌, filter}
use Rattle.enet_seq.specs.Numbering.{unbounded}
use Rattle.enet_sender.specs.CommandChoice.{ChosenPacket}
use Rattle.enet_fragment.specs.declared.data.DataCommand.{DataCommand}
use Rattle.enet_receiver.specs.Receiver.{Receiver, without_waiting}
use Rattle.enet_receiver.specs.DataOutcome.{received}
use Rattle.law_connection.specs.Link.{PutOut, Answer, wired}

pub record Link : Type 0 where
  pub carried : List ChosenPacket  -- what was submitted
  pub sent : ℕ  -- the greatest number sent
  pub unacked : List ℕ  -- the numbers sent that no acknowledgement removed
  pub commands : List PutOut  -- every command ever put out
  pub receiver : Receiver
  pub is_open : Bool  -- whether the receiver still dispatches
  pub answers : List Answer  -- acknowledgements that wait to be put out, the oldest first
  pub acks : List Answer  -- every acknowledgement ever put out

-- a packet is submitted
abbrev pub accept : Link → ChosenPacket → Link
accept l c = record l { carried = l.carried ++ c ∷ [] }

-- the next command is sent for the first time
abbrev pub send : Link → Link
send l = record l { sent = l.sent + 1; unacked = l.unacked ++ (l.sent + 1) ∷ [] }

-- a command goes into the log
abbrev pub put_out : Link → DataCommand → Link
put_out l c = record l { commands = l.commands ++ (record { command = c; sent_then = l.sent }) ∷ [] }

-- a command of the log comes; `max_packet` is the greatest packet that is taken in, in bytes
abbrev pub takes_in : Link → ℕ → DataCommand → Bool → Link
takes_in l max_packet c full = record l { receiver = if l.is_open then received unbounded max_packet l.receiver (wired c) full else l.receiver }

-- the command of this number came, and is to be acknowledged
abbrev pub queue_answer : Link → ℕ → Link
queue_answer l number = record l { answers = l.answers ++ (record { number = number; sent_then = l.sent }) ∷ [] }

-- a waiting acknowledgement goes into the log
abbrev pub put_answer : Link → Answer → List Answer → Link
put_answer l a rest = record l { answers = rest; acks = l.acks ++ (record { number = a.number; sent_then = l.sent }) ∷ [] }

-- an acknowledgement of the log comes: the sent command with its wire number is removed
abbrev pub after_acknowledgement : Link → Answer → Link
after_acknowledgement l a = record l { unacked = filter (λ m. not (m % 65536 == a.number % 65536)) l.unacked }

-- the receiver gives up the unreliable packets that wait or are in the making
abbrev pub gives_up : Link → Link
gives_up l = record l { receiver = without_waiting l.receiver }

-- the receiver no longer dispatches
abbrev pub closed : Link → Link
closed l = record l { is_open = false }
