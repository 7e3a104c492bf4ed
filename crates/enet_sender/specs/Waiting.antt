-- A sender that has to wait.
use Rattle.std.specs.Prelude.{◌≡◌, false, None}
use Rattle.enet_seq.specs.Numbering.{wire}
use Rattle.enet_sender.specs.Sender.{Sender, next, wants_room}
use Rattle.enet_sender.specs.declared.outgoing.Occasion.{Occasion}

-- nothing of it goes, and no room is to be kept for it
abbrev pub Waits : Occasion → Sender → Type 0
Waits o s = (next wire o s ≡ None) × (wants_room o s ≡ false)
