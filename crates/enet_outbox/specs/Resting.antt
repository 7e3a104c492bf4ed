-- An outbox of which nothing goes, until a call or a moment brings it something.
use Rattle.std.specs.Prelude.{◌≡◌, ℕ, true, length, Some, slice_get}
use Rattle.enet_senders.specs.Controlling.{is_at_rest}
use Rattle.enet_senders.specs.Senders.{IsStill}
use Rattle.enet_sender.specs.Due.{SendingEnd}
use Rattle.enet_outbox.specs.Outbox.{Outbox}

-- there is nothing but commands that wait for their acknowledgement
pub record IsAtRest (o : Outbox) : Type 0 where
  pub acknowledgements : length o.acknowledgements ≡ 0
  pub control : is_at_rest o.control ≡ true
  pub unsequenced : length o.unsequenced ≡ 0
  pub still : (i : ℕ) (e : SendingEnd) → slice_get o.senders i ≡ Some e → IsStill e.sender
