-- Which acknowledgements count for a command of channel 0xFF that was just sent.
use Rattle.std.specs.Prelude.{◌≡◌, ℕ, ◌%◌, ◌^◌, true, length}
use Rattle.enet_rtt.specs.Clock.{told_time, meant_time}
use Rattle.enet_codec.specs.declared.command.Verify.{Verify}
use Rattle.enet_senders.specs.Controlling as controlling
use Rattle.enet_senders.specs.declared.control.Control.TheVariants as control
use Rattle.enet_senders.specs.declared.control.SentControl.{SentControl}

-- it has places for the times of eight sends; and an acknowledgement counts that repeats the time which a datagram told at this moment, of
-- a peer that adds so much to its sent times
pub record LastCounts (now offset : ℕ) (t : SentControl) : Type 0 where
  pub places : length t.times.times ≡ 8
  pub counts : controlling.went_at (meant_time (told_time now offset) (offset % 2 ^ 16)) t ≡ true

-- it stays the command that it was, with the places that it had; and of VERIFY_CONNECT an acknowledgement counts if it did before
pub record CountsAsBefore (t u : SentControl) : Type 0 where
  pub command : u.command ≡ t.command
  pub places : length u.times.times ≡ length t.times.times
  pub counts : (verify : Verify) (time : ℕ) → t.command.control ≡ control.VerifyConnect verify → controlling.went_at time u ≡ controlling.went_at time t
