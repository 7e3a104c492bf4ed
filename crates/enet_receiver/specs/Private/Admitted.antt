-- What is known of a command that is taken in.
use Rattle.std.specs.Prelude.{◌≡◌, ℕ, ◌<◌, ◌≤◌, true, false, Some}
use Rattle.enet_seq.specs.Numbering.{wire}
use Rattle.enet_seq.specs.Windows.{ahead}
use Rattle.enet_fragment.specs.declared.data.DataCommand.{DataCommand}
use Rattle.enet_receiver.specs.Receiver.{Receiver}
use Rattle.enet_receiver.specs.DataOutcome.{place_read, came_at, is_piece, agrees_with, came, is_behind}

-- a place inside the window
pub record IsInside (front place : ℕ) : Type 0 where
  pub wire : place < 65536
  pub far : ahead front place ≤ 28671

-- what is known where the outcome is Held
pub record Admitted (most : ℕ) (r : Receiver) (c : DataCommand) (place : ℕ) : Type 0 where
  pub piece : is_piece most c ≡ true
  pub read : place_read wire r c ≡ Some place
  pub agrees : agrees_with (came_at r c place) c ≡ true
  pub not_behind : is_behind r c place ≡ false
  pub missing : came (came_at r c place) c ≡ false
