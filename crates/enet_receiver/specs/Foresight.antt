-- What a receiver does with a command of a datagram.
use Rattle.std.specs.Prelude.{◌≡◌, ◌≢◌, ℕ, Bool, true, false, if◌then◌else◌, Option, Some, None}
use Rattle.enet_codec.specs.Message.{Message, Body, send_reliable, send_unreliable, send_fragment, send_unreliable_fragment}
use Rattle.enet_seq.specs.Numbering.{wire}
use Rattle.enet_fragment.specs.declared.data.DataCommand.{DataCommand}
use Rattle.enet_fragment.specs.DataCommand.{data_of}
use Rattle.enet_receiver.specs.declared.took.Took.{Took}
use Rattle.enet_receiver.specs.declared.took.Took.TheVariants.{Held, Bad, Memory}
use Rattle.enet_receiver.specs.declared.took.Foresight.{Foresight}
use Rattle.enet_receiver.specs.Receiver.{Receiver, nothing_received, without_waiting}
use Rattle.enet_receiver.specs.DataOutcome.{outcome, received, acknowledged, dispatch_count}

-- a receiver of a channel, for packets of at most so many bytes
pub record ReceivingEnd : Type 0 where
  pub channel : ℕ
  pub max_packet : ℕ
  pub receiver : Receiver

-- to which nothing came
abbrev pub new_end : ℕ → ℕ → ReceivingEnd
new_end channel max_packet = record { channel = channel; max_packet = max_packet; receiver = nothing_received }

-- once the unreliable packets that wait or are in the making are given up
abbrev pub alone : ReceivingEnd → ReceivingEnd
alone e = record e { receiver = without_waiting e.receiver }

-- which of the four commands a message is
abbrev pub is_reliable : Body → Bool
is_reliable (send_reliable p) = true
is_reliable _ = false

abbrev pub is_unreliable : Body → Bool
is_unreliable (send_unreliable n p) = true
is_unreliable _ = false

abbrev pub is_fragment : Body → Bool
is_fragment (send_fragment f p) = true
is_fragment _ = false

abbrev pub is_unreliable_fragment : Body → Bool
is_unreliable_fragment (send_unreliable_fragment f p) = true
is_unreliable_fragment _ = false

-- the data command that a message is, if it is of the kind that is asked for
abbrev pub data_if : Bool → Message → Option DataCommand
data_if kind m = if kind then data_of m else None

-- the outcome with ample memory; what isn't a command of the kind is Bad
abbrev pub outcome_for : ReceivingEnd → Option DataCommand → Bool → Took
outcome_for e None full = Bad
outcome_for e (Some c) full = outcome wire e.max_packet e.receiver c full

abbrev pub after_command : ReceivingEnd → Option DataCommand → Bool → ReceivingEnd
after_command e None full = e
after_command e (Some c) full = record e { receiver = received wire e.max_packet e.receiver c full }

-- a command that would be held with ample memory, where so much waits
abbrev pub WouldBeHeld : ReceivingEnd → Option DataCommand → Type 0
WouldBeHeld e o = (full : Bool) × (outcome_for e o full ≡ Held)

-- what a call did that takes a command in: it answers the outcome, and only what is held changes the receiver. Memory may be
-- wanted only where the command would be held
pub record Receives (o : Option DataCommand) (full : Bool) (result : Took) (old new : ReceivingEnd) : Type 0 where
  pub took : result ≢ Memory → result ≡ outcome_for old o full
  pub memory : result ≡ Memory → outcome_for old o full ≡ Held
  pub held : result ≡ Held → new ≡ after_command old o full
  pub unchanged : result ≢ Held → new ≡ old

-- what a command would do with ample memory
abbrev pub foreseen : ReceivingEnd → Option DataCommand → Bool → Foresight
foreseen e None full = record { took = Bad; acknowledged = false; dispatches = 0 }
foreseen e (Some c) full = record {
  took = outcome wire e.max_packet e.receiver c full;
  acknowledged = acknowledged wire e.max_packet e.receiver c full;
  dispatches = dispatch_count wire e.max_packet e.receiver c full;
}
