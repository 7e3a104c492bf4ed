-- By how many numbers a command is late.
use Rattle.std.specs.Prelude.{ℕ, Bool, false, List}
use Rattle.std.specs.List.{list_any}
use Rattle.law_connection.specs.Link as link
use Rattle.law_network.specs.declared.mark.Mark.{Mark}
use Rattle.law_network.specs.declared.mark.MarkKind.{MarkKind}
use Rattle.law_network.specs.declared.mark.MarkKind.TheVariants.{Data, Acknowledgement, Control}

-- whether a command is more than 32,768 late; one of channel 0xFF never is, but an acknowledgement of one may be.
-- `sender channel` and `taker channel` are the greatest numbers sent on a channel by the end that put the datagram out and by
-- the end that takes it in: the former numbers its commands, the latter what it acknowledges.
abbrev pub is_late_by : MarkKind → (ℕ → ℕ) → (ℕ → ℕ) → Mark → Bool
is_late_by Data sender taker m = link.is_late (sender m.channel) m.sent_then m.number
is_late_by Acknowledgement sender taker m = link.is_late (taker m.channel) m.sent_then m.number
is_late_by Control sender taker m = false

abbrev pub is_late_command : (ℕ → ℕ) → (ℕ → ℕ) → Mark → Bool
is_late_command sender taker m = is_late_by m.kind sender taker m

-- whether a datagram has such a command
abbrev pub has_late : (ℕ → ℕ) → (ℕ → ℕ) → List Mark → Bool
has_late sender taker marks = list_any (is_late_command sender taker) marks
