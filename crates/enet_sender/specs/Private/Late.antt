-- What is late, one command after another.
use Rattle.std.specs.Prelude.{◌≡◌, ◌+◌, Option}
use Rattle.enet_rtt.specs.declared.transmission.Tick.{Tick}
use Rattle.enet_sender.specs.declared.sent.Sent.{Sent}
use Rattle.enet_sender.specs.declared.lateness.Late.{Late}
use Rattle.enet_sender.specs.Late.{capped, weight_at}
use Rattle.enet_sender.specs.Sender.{late_bytes, late_price, lost_price}

-- of one command, if there is one
pub record IsLateOne (tick : Tick) (o : Option Sent) (late : Late) : Type 0 where
  pub bytes : late.bytes ≡ capped (weight_at (late_bytes tick) o)
  pub prices : late.prices ≡ capped (weight_at (late_price tick) o)
  pub lost : late.lost ≡ capped (weight_at (lost_price tick) o)

-- with one more
abbrev pub late_with : Late → Late → Late
late_with a b = record { bytes = capped (a.bytes + b.bytes); prices = capped (a.prices + b.prices); lost = capped (a.lost + b.lost) }
