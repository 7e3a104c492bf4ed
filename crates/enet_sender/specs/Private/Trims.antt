-- A ring without the vacant places before its first command.
use Rattle.std.specs.Prelude.{◌≡◌, ℕ, ◌<◌, List, Option, None}
use Rattle.enet_sender.specs.declared.sent.Sent.{Sent}
use Rattle.enet_sender.specs.Pending.{vacant, named, times}
use Rattle.enet_sender.specs.Rings.{KeepsSent}

-- what a ring names and keeps stays
pub record Trims (at : ℕ → Option Sent) (old : List ℕ) (old_due : ℕ) (new : List ℕ) (new_due : ℕ) : Type 0 where
  pub kept : (passed : ℕ) → at vacant ≡ None → KeepsSent at passed old_due old → KeepsSent at passed new_due new
  pub same : at vacant ≡ None → named at new ≡ named at old
  pub times : (key : ℕ) → key < vacant → times key new ≡ times key old
