-- What a host has of its own, which no connection changes.
use Rattle.std.specs.Prelude.{◌≡◌, ℕ, if◌then◌else◌, Option, Some, Ok, []}
use Rattle.enet_codec.specs.declared.config.Config.{Config}
use Rattle.enet_outbox.specs.declared.parts.SendLimit.{SendLimit}
use Rattle.enet_host.specs.Host.{Host}
use Rattle.enet_host.specs.Ticking.{clock_after, is_due}
use Rattle.enet_codec.specs.Config.{admitting}
use Rattle.law_network.specs.Calls.{Call, SetBandwidth, Tick, Admit, SetSendLimit, Acts}

-- its settings, its clock, when its bandwidth was last shared out, and its send limit, after a call: of the slots these see nothing
abbrev pub config_by : Call → Config → Config
config_by (SetBandwidth incoming outgoing (Ok done)) config = record config { incoming = incoming; outgoing = outgoing }
config_by (Admit what (Ok done)) config = admitting config what
config_by c config = config

abbrev pub clock_by : Call → ℕ → ℕ
clock_by (Tick ms) clock = clock_after clock ms
clock_by c clock = clock

abbrev pub shared_by : Call → Host → ℕ
shared_by (Tick ms) h = if is_due (record h { clock = clock_after h.clock ms }) then clock_after h.clock ms else h.shared_at
shared_by c h = h.shared_at

abbrev pub limit_by : Call → Option SendLimit → Option SendLimit
limit_by (SetSendLimit bytes commands) limit = Some (record { bytes = bytes; commands = commands })
limit_by c limit = limit

abbrev pub IsOwn : Call → Host → Host → Type 0
IsOwn c old new =
    (new.config ≡ config_by c old.config) × (new.clock ≡ clock_by c old.clock) × (new.shared_at ≡ shared_by c (record old { slots = [] }))
    × (new.send_limit ≡ limit_by c old.send_limit)

abbrev pub OfTheHost : Type 0
OfTheHost = (c : Call) (old new : Host) → Acts c old new → IsOwn c old new
