-- A host at its address, with what is kept of it.
use Rattle.std.specs.Prelude.{ℕ}
use Rattle.enet_codec.specs.declared.address.Addr.{Addr}
use Rattle.enet_host.specs.Host.{Host}
use Rattle.law_network.specs.Calls.{Call}
use Rattle.law_network.specs.Network.{Site}
use Rattle.law_network.specs.Steps.{Calls, Happens}
use Rattle.enet_site.specs.Records.{Records}

abbrev pub site : Addr → Host → Records → Site
site address host r = record { address = address; host = host; log = r.log; ends = r.ends }

-- one call of a host that looks at no other, however many connections there are
abbrev pub CallsAt : Call → Site → Site → Type 0
CallsAt c old new = (next : ℕ) (far : Site) → Happens next far (Calls c) old new
