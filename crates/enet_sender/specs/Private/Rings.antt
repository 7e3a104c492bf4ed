-- One channel's rings of keys, and the sender that they name.
use Rattle.std.specs.Prelude.{◌≡◌, ℕ, ◌<◌, true, List, length, Option}
use Rattle.enet_sender.specs.declared.sent.Sent.{Sent}
use Rattle.enet_sender.specs.Rings.{Rings, at_place, is_due, NoneDue}

-- the command of this place is the first that is due to go again
pub record IsFirstDue (at : ℕ → Option Sent) (sent : List ℕ) (place : ℕ) : Type 0 where
  pub inside : place < length sent
  pub due : is_due (at_place at sent place) ≡ true
  pub before : NoneDue at sent 0 place

-- once no command is due before this place
abbrev pub with_due : Rings → ℕ → Rings
with_due r due = record { number = r.number; unreliable = r.unreliable; passed = r.passed; reliable = r.reliable; due_from = due; queued = r.queued; sent = r.sent }
