-- A call that sets whom a host lets in, at its site.
use Rattle.std.proofs.Common.{◌≡◌, refl, ap, subst, ◌∙◌, Ok, Err, IfOk, IfErr, OnErr}
use Rattle.enet_codec.specs.declared.address.Addr.{Addr}
use Rattle.enet_codec.specs.declared.config.Admission.{Admission}
use Rattle.enet_host.specs.Host.{Host}
use Rattle.law_network.specs.Calls.{Done, Acts}
use Rattle.law_network.specs.Calls as call
use Rattle.law_network.specs.Network.{Site}
use Rattle.law_network.specs.Steps.{Calls, beside}
use Rattle.law_network.specs.World.{RefusesCall}
use Rattle.enet_site.specs.Records.{Records}
use Rattle.enet_site.specs.Sites.{site, CallsAt}
use Rattle.enet_site.specs.Private.Sites.{IsWhole}
use Rattle.enet_site.proofs.Going.{whole-goes}

pub admit-refused : (what : Admission) (r : Done) (a : Addr) (old new : Host) (was : Records) (s : Site) → site a old was ≡ s → Acts (call.Admit what r) old new → IfErr r (λ why. RefusesCall (call.Admit what (Err why)) s)
admit-refused what (Ok done) a old new was s same acts = tt
admit-refused what (Err why) a old new was s same acts = subst (RefusesCall (call.Admit what (Err why))) same (acts.0, acts.1, refl)

pub admit-unchanged : (what : Admission) (r : Done) (a : Addr) (old new : Host) (was : Records) (s : Site) → site a old was ≡ s → Acts (call.Admit what r) old new → OnErr r (site a new was ≡ s)
admit-unchanged what (Ok done) a old new was s same acts = tt
admit-unchanged what (Err why) a old new was s same acts = ap (λ (h : Host). site a h was) acts.2 ∙ same

pub admit-sets : (what : Admission) (r : Done) (a : Addr) (old new : Host) (was : Records) (s : Site) → site a old was ≡ s → Acts (call.Admit what r) old new → IfOk r (λ done. CallsAt (call.Admit what (Ok tt)) s (site a new was))
admit-sets what (Ok done) a old new was s same acts = subst (λ (z : Site). CallsAt (call.Admit what (Ok tt)) z (site a new was)) same (λ next far. (acts, refl))
admit-sets what (Err why) a old new was s same acts = tt

pub admit-whole : (what : Admission) (r : Done) (a : Addr) (old new : Host) (was : Records) → Acts (call.Admit what r) old new → IsWhole old was.ends → IsWhole new was.ends
admit-whole what r a old new was acts k = whole-goes (beside 0 (site a old was)) (site a old was) (site a old was) (site a new was) (Calls (call.Admit what r)) (acts, refl) k
