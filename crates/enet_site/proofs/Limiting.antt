-- A call that sets the send limit, at its site.
use Rattle.std.proofs.Common.{◌≡◌, ℕ, refl, subst}
use Rattle.enet_codec.specs.declared.address.Addr.{Addr}
use Rattle.enet_host.specs.Host.{Host}
use Rattle.law_network.specs.Calls.{Acts}
use Rattle.law_network.specs.Calls as call
use Rattle.law_network.specs.Network.{Site}
use Rattle.law_network.specs.Steps.{Calls, beside}
use Rattle.enet_site.specs.Records.{Records}
use Rattle.enet_site.specs.Sites.{site, CallsAt}
use Rattle.enet_site.specs.Private.Sites.{IsWhole}
use Rattle.enet_site.proofs.Going.{whole-goes}

pub limited-whole : (bytes commands : ℕ) (a : Addr) (old new : Host) (was : Records) → Acts (call.SetSendLimit bytes commands) old new → IsWhole old was.ends → IsWhole new was.ends
limited-whole bytes commands a old new was acts k = whole-goes (beside 0 (site a old was)) (site a old was) (site a old was) (site a new was) (Calls (call.SetSendLimit bytes commands)) (acts, refl) k

pub limited-at : (bytes commands : ℕ) (a : Addr) (old new : Host) (was : Records) (s : Site) → site a old was ≡ s → Acts (call.SetSendLimit bytes commands) old new → CallsAt (call.SetSendLimit bytes commands) s (site a new was)
limited-at bytes commands a old new was s same acts = subst (λ (z : Site). CallsAt (call.SetSendLimit bytes commands) z (site a new was)) same (λ next far. (acts, refl))
