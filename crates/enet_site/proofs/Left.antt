-- A call that ends a connection, at its site.
use Rattle.std.proofs.Common.{◌≡◌, ℕ, refl, ap, subst, ◌∙◌, List, Ok, Err, IfOk, IfErr, OnErr}
use Rattle.enet_codec.specs.declared.address.Addr.{Addr}
use Rattle.enet_codec.specs.declared.event.DisconnectMode.{DisconnectMode}
use Rattle.enet_codec.specs.declared.event.PeerRef.{PeerRef}
use Rattle.enet_codec.specs.declared.refusal.Refusal.{Refusal}
use Rattle.enet_slot.specs.Slot.{SlotState}
use Rattle.enet_host.specs.Host.{Host}
use Rattle.law_network.specs.Calls.{Done, Acts}
use Rattle.law_network.specs.Calls as call
use Rattle.law_network.specs.Network.{Site}
use Rattle.law_network.specs.Steps.{Calls, beside}
use Rattle.law_network.specs.World.{RefusesCall}
use Rattle.enet_site.specs.Records.{Records}
use Rattle.enet_site.specs.Sites.{site, CallsAt}
use Rattle.enet_site.specs.Private.Sites.{IsWhole}
use Rattle.enet_site.proofs.Going.{whole-goes}

same-host : (how : DisconnectMode) (name : PeerRef) (info : ℕ) (why : Refusal) (old new : Host) → Acts (call.Disconnect how name info (Err why)) old new → new ≡ old
same-host how name info why old new acts = acts.1 ∙ ap (λ (slots : List SlotState). record old { slots = slots }) acts.0.1

pub left-refused : (how : DisconnectMode) (name : PeerRef) (info : ℕ) (r : Done) (a : Addr) (old new : Host) (was : Records) (s : Site) → site a old was ≡ s → Acts (call.Disconnect how name info r) old new → IfErr r (λ why. RefusesCall (call.Disconnect how name info (Err why)) s)
left-refused how name info (Ok done) a old new was s same acts = tt
left-refused how name info (Err why) a old new was s same acts = subst (RefusesCall (call.Disconnect how name info (Err why))) same ((acts.0.0, refl), refl)

pub left-unchanged : (how : DisconnectMode) (name : PeerRef) (info : ℕ) (r : Done) (a : Addr) (old new : Host) (was : Records) (s : Site) → site a old was ≡ s → Acts (call.Disconnect how name info r) old new → OnErr r (site a new was ≡ s)
left-unchanged how name info (Ok done) a old new was s same acts = tt
left-unchanged how name info (Err why) a old new was s same acts = ap (λ (h : Host). site a h was) (same-host how name info why old new acts) ∙ same

pub left-ends : (how : DisconnectMode) (name : PeerRef) (info : ℕ) (r : Done) (a : Addr) (old new : Host) (was : Records) (s : Site) → site a old was ≡ s → Acts (call.Disconnect how name info r) old new → IfOk r (λ done. CallsAt (call.Disconnect how name info (Ok tt)) s (site a new was))
left-ends how name info (Ok done) a old new was s same acts = subst (λ (z : Site). CallsAt (call.Disconnect how name info (Ok tt)) z (site a new was)) same (λ next far. (acts, refl))
left-ends how name info (Err why) a old new was s same acts = tt

pub left-whole : (how : DisconnectMode) (name : PeerRef) (info : ℕ) (r : Done) (a : Addr) (old new : Host) (was : Records) → Acts (call.Disconnect how name info r) old new → IsWhole old was.ends → IsWhole new was.ends
left-whole how name info r a old new was acts k = whole-goes (beside 0 (site a old was)) (site a old was) (site a old was) (site a new was) (Calls (call.Disconnect how name info r)) (acts, refl) k

pub ticked-whole : (ms : ℕ) (a : Addr) (old new : Host) (was : Records) → Acts (call.Tick ms) old new → IsWhole old was.ends → IsWhole new was.ends
ticked-whole ms a old new was acts k = whole-goes (beside 0 (site a old was)) (site a old was) (site a old was) (site a new was) (Calls (call.Tick ms)) (acts, refl) k

pub ticked-at : (ms : ℕ) (a : Addr) (old new : Host) (was : Records) (s : Site) → site a old was ≡ s → Acts (call.Tick ms) old new → CallsAt (call.Tick ms) s (site a new was)
ticked-at ms a old new was s same acts = subst (λ (z : Site). CallsAt (call.Tick ms) z (site a new was)) same (λ next far. (acts, refl))
