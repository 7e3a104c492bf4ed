-- The bytes of a peer's commands are counted.
use Rattle.std.specs.Prelude.{◌≡◌, ℕ, Some}
use Rattle.slab.specs.Slab.{Slab, get}
use Rattle.enet_sender.specs.declared.sent.Sent.{Sent}
use Rattle.enet_sender.specs.Late.{sum_at}
use Rattle.enet_sender.specs.Outstanding.{payload}
use Rattle.enet_sender.specs.Private.Invariant.{IsShort}

-- Bodies are short, so that their sum fits.
pub record KeepsBytes (s : Slab Sent) (bytes : ℕ) : Type 0 where
  pub counted : bytes ≡ sum_at payload s.slots
  pub short : (key : ℕ) (p : Sent) → get s key ≡ Some p → IsShort p.command
