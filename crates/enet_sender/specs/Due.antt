-- What a call of `next_due` does: it writes what is due where that fits, and else changes nothing.
use Rattle.std.specs.Prelude.{◌≡◌, ℕ, ◌+◌, ◌<◌, Bool, true, false, if◌then◌else◌, Option, Some, None, List, length}
use Rattle.enet_codec.specs.Message.{IsMessage, canonical}
use Rattle.enet_codec.specs.Writing.{Puts}
use Rattle.enet_fragment.specs.DataCommand.{message_of}
use Rattle.enet_fragment.specs.declared.data.DataCommand.{DataCommand}
use Rattle.enet_sender.specs.declared.outgoing.Kind.{Kind}
use Rattle.enet_sender.specs.declared.outgoing.Kind.TheVariants as kind
use Rattle.enet_sender.specs.declared.outgoing.Due.{Due}
use Rattle.enet_sender.specs.declared.outgoing.Due.TheVariants as due
use Rattle.enet_seq.specs.Numbering.{wire}
use Rattle.enet_sender.specs.Sender.{Sender, Next, nothing_sent, submitted, is_more}

-- a sender of a channel
pub record SendingEnd : Type 0 where
  pub channel : ℕ
  pub sender : Sender

-- to which nothing was submitted
abbrev pub new_end : ℕ → SendingEnd
new_end channel = record { channel = channel; sender = nothing_sent }

-- after a packet was submitted
abbrev pub with_submitted : ℕ → SendingEnd → ℕ → List ℕ → SendingEnd
with_submitted mtu e flags body = record e { sender = submitted wire mtu e.sender (record { flags = flags; body = body }) }

-- how a command is carried
abbrev pub due_kind : DataCommand → Kind
due_kind c = if c.reliable then kind.Reliable else (if is_more c then kind.More else kind.Begins)

-- a buffer before a call and after it, with the place at which the call may write
pub record Buffer : Type 0 where
  pub old : List ℕ
  pub at : ℕ
  pub new : List ℕ

-- what a call did, by what was due, whether the room is to be kept for the channel, and what it answers: what is written has its numbers in
-- their ranges, so its bytes spell it
abbrev pub Did : Option Next → Bool → Due → SendingEnd → SendingEnd → Buffer → Type 0
Did (Some n) wants (due.Sent past added price kind again) old new buf =
    Puts buf.old buf.at (canonical (message_of old.channel n.command)) buf.new past
    × (added ≡ n.added) × (price ≡ n.price) × (kind ≡ due_kind n.command) × (new ≡ record old { sender = n.sender })
    × IsMessage (message_of old.channel n.command) × (again ≡ n.is_resend)
Did (Some n) wants due.NoRoom old new buf =
    (length buf.old < buf.at + length (canonical (message_of old.channel n.command))) × (new ≡ old) × (buf.new ≡ buf.old)
Did None wants due.Full old new buf = (wants ≡ true) × (new ≡ old) × (buf.new ≡ buf.old)
Did None wants due.Nothing old new buf = (wants ≡ false) × (new ≡ old) × (buf.new ≡ buf.old)
Did _ _ _ old new buf = ⊥
