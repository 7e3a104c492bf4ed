-- One channel from a sender to a receiver and the acknowledgements back, as the two ends and the log show it: with wire numbers.
use Rattle.std.specs.Prelude.{ℕ, Bool, false, if◌then◌else◌, List, [], ◌∷◌, ◌++◌, map}
use Rattle.enet_seq.specs.Numbering.{wire}
use Rattle.enet_rtt.specs.declared.transmission.Tick.{Tick}
use Rattle.enet_sender.specs.CommandChoice.{Packet}
use Rattle.enet_fragment.specs.declared.data.DataCommand.{DataCommand}
use Rattle.enet_sender.specs.Sender.{Sender, Next, submitted, with_skipped, with_marked, after_acknowledgement}
use Rattle.enet_packets.specs.declared.incoming_packet.Dispatched.{Dispatched}
use Rattle.enet_receiver.specs.Receiver.{Receiver, without_waiting}
use Rattle.enet_receiver.specs.DataOutcome.{received}
use Rattle.law_connection.specs.Link.{PutOut, Answer}
use Rattle.law_connection.specs.Greatest.{greatest_after}

pub record WireLink : Type 0 where
  pub submitted : List Packet
  pub greatest : ℕ  -- the greatest number sent
  pub is_sending : Bool
  pub outgoing : Sender
  pub making : List DataCommand  -- those of the datagram in the making
  pub commands : List PutOut  -- every command ever put out
  pub incoming : Receiver  -- what it dispatched is all that it ever did, taken or not
  pub is_open : Bool  -- whether it still dispatches
  pub answers : List ℕ  -- acknowledgements that wait, the oldest first
  pub acks : List Answer  -- every acknowledgement ever put out

-- a packet is submitted
abbrev pub submits : ℕ → WireLink → Packet → WireLink
submits mtu v p = record v { submitted = v.submitted ++ p ∷ []; outgoing = submitted wire mtu v.outgoing p }

-- the command that is due next goes into the datagram
abbrev pub sends : WireLink → Next → WireLink
sends v n = record v { greatest = greatest_after v.greatest n.command.number; outgoing = n.sender; making = v.making ++ n.command ∷ [] }

-- the throttle drops the unreliable packet that it begins
abbrev pub drops : WireLink → Next → WireLink
drops v n = record v { outgoing = with_skipped n.sender }

-- a moment later, what waited too long is due to go again
abbrev pub marks : WireLink → Tick → WireLink
marks v tick = record v { outgoing = with_marked tick v.outgoing }

abbrev pub with_reach : ℕ → DataCommand → PutOut
with_reach sent_then c = record { command = c; sent_then = sent_then }

-- the datagram is put out
abbrev pub puts_out : WireLink → WireLink
puts_out v = record v { commands = v.commands ++ map (with_reach v.greatest) v.making; making = [] }

-- a command of the log comes, and is acknowledged or not; `max_packet` is the greatest packet that is taken in, in bytes, and
-- `full` says that too many bytes wait
abbrev pub arrives : WireLink → ℕ → DataCommand → Bool → Bool → WireLink
arrives v max_packet c full answered = record v {
  incoming = if v.is_open then received wire max_packet v.incoming c full else v.incoming;
  answers = if answered then v.answers ++ c.number ∷ [] else v.answers;
}

-- the oldest waiting acknowledgement is put out
abbrev pub logs_answer : WireLink → ℕ → List ℕ → WireLink
logs_answer v a rest = record v { answers = rest; acks = v.acks ++ (record { number = a; sent_then = v.greatest }) ∷ [] }

-- an acknowledgement of the log comes
abbrev pub answered : WireLink → Answer → WireLink
answered v a = record v { outgoing = after_acknowledgement v.outgoing a.number }

-- the sending end stops, whatever it then keeps
abbrev pub stops_sending : WireLink → Sender → WireLink
stops_sending v o = record v { is_sending = false; outgoing = o }

-- the receiving end gives up the unreliable packets that wait or are in the making
abbrev pub gives_up : WireLink → WireLink
gives_up v = record v { incoming = without_waiting v.incoming }

-- the receiving end no longer dispatches, and may forget what it holds and what wasn't taken
abbrev pub stops_receiving : WireLink → Receiver → List Dispatched → WireLink
stops_receiving v r kept = record v { is_open = false; incoming = record r { dispatched = kept } }

-- its acknowledgements that wait are dropped
abbrev pub drops_answers : WireLink → WireLink
drops_answers v = record v { answers = [] }
