-- What a host's calls do, for any host.
use Rattle.std.specs.Prelude.{ℕ, List, Option, Some, None, Result, Ok, Err}
use Rattle.enet_codec.specs.declared.address.Addr.{Addr}
use Rattle.enet_codec.specs.declared.event.Event.{Event}
use Rattle.enet_codec.specs.declared.refusal.Refusal.{Refusal}
use Rattle.enet_submit.specs.declared.order.Order.{Order}

-- the calls that a turn makes, each a relation from the host before it to the host after it: the clock goes on by so many
-- milliseconds; an order is carried out, or refused; a datagram comes, from whom and with which bytes; the next datagram is given,
-- where it goes and its bytes; the next event is told
pub record Calls (H : Type 0) : Type 1 where
  pub ticks : H → ℕ → H → Type 0
  pub applies : H → Order → Option Refusal → H → Type 0
  pub receives : H → Addr × List ℕ → H → Type 0
  pub emits : H → Option (Addr × List ℕ) → H → Type 0
  pub gives_event : H → Option Event → H → Type 0

-- why a call was refused, if it was
abbrev pub why_of : {A : Type 0} → Result A Refusal → Option Refusal
why_of (Ok done) = None
why_of (Err why) = Some why
