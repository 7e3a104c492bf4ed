-- What holds of each site stays, whatever happens at it.
use Rattle.std.proofs.Common.{◌≡◌, ℕ, refl, sym, ap, subst, ◌∙◌, inl, inr, Option, Some, None, Result, Ok, Err, IfOk, OnErr, slice_get}
use Rattle.enet_codec.specs.declared.address.Addr.{Addr}
use Rattle.enet_codec.specs.declared.event.PeerRef.{PeerRef}
use Rattle.enet_codec.specs.declared.refusal.Refusal.{Refusal}
use Rattle.enet_peer.specs.Peering.{Peering}
use Rattle.law_connection.specs.LinkSteps.{Has}
use Rattle.enet_host.specs.Host.{Host, Keeps}
use Rattle.enet_slot.specs.Giving.{no_address}
use Rattle.law_network.specs.Calls.{Call, Acts}
use Rattle.law_network.specs.Calls as call
use Rattle.law_network.proofs.IsolationKeeping.{each-keeps}
use Rattle.law_network.proofs.Names.{IsThere}
use Rattle.law_network.specs.Log.{Logged}
use Rattle.law_network.specs.Network.{HostEnd, Site}
use Rattle.law_network.specs.Shown.{ShowsPeer}
use Rattle.law_network.specs.Steps.{Around, Happening, Calls, Delivers, HappensAmong, begun}
use Rattle.law_network.proofs.Beginnings.{asked-in}
use Rattle.law_network.proofs.Growing.{more_of, more_in, Grows, grows, from-before}
use Rattle.law_network.proofs.Guests.{guest}
use Rattle.law_network.proofs.Peers.{shows-held, is_gone, goes, Moved, moved}
use Rattle.law_network.proofs.Worlds.{some-acts}
use Rattle.enet_site.specs.Records.{Records}
use Rattle.enet_site.specs.Sites.{site}
use Rattle.enet_site.specs.Private.Sites.{AreShown, IsWhole}

-- an end that begins has a peer

Held : Host → PeerRef → Type 0
Held h name = (p : Peering) × IsThere h.slots name p

held-begun : (x : ℕ) (from : Addr) (old new : Host) (f : HostEnd) → Has (begun x from old new) f → Held new f.name
unfolding Held
held-begun x from old new f m = (let g = guest x from old new f m in subst (λ (z : HostEnd). (q : Peering) × IsThere new.slots z.name q) (sym g.is) (g.peer, g.held))

held-more : (w : Around) (from old new : Site) (what : Happening) → HappensAmong w from what old new → (f : HostEnd) → Has (more_of w.count from old new what) f → Held new.host f.name
unfolding Held
held-more w from old new (Calls (call.Connect address channels info word (Ok name))) x f (inl e) =
    let a = asked-in old.host address channels info word name (Ok name) old.host.slots new.host.slots x.1.0.0 refl in
    subst (λ (z : HostEnd). (q : Peering) × IsThere new.host.slots z.name q) e (_, a.there)
held-more w from old new (Calls (call.Connect address channels info word (Ok name))) x f (inr m) = absurd m
held-more w from old new (Calls c) x f m = absurd m
held-more w from old new (Delivers k answer) x f m = by (slice_get from.log k) m
  where
    by : (found : Option Logged) → Has (more_in from.address old new found) f → Held new.host f.name
    by None y = absurd y
    by (Some d) y = held-begun d.connection from.address old.host new.host f y

-- each end is shown

shown-moved : (c : Call) (old new : Host) (name : PeerRef) (p : Peering) → Moved c old new name p → (q : Peering) × ShowsPeer new name q
shown-moved c old new name p (is_gone shows none) = (p, shows)
shown-moved c old new name p (goes x ds q fell alone shows) = (q, shows)

shown-goes : (w : Around) (from old new : Site) (what : Happening) → HappensAmong w from what old new → Keeps old.host → Keeps new.host → AreShown old.host old.ends → AreShown new.host new.ends
unfolding Held
shown-goes w from old new what x low keeps k f there = elim (from-before old new (more_of w.count from old new what) g f there) [
  | inl b ↦ (let own = k b.0 b.1 in subst (λ (n : PeerRef). (q : Peering) × ShowsPeer new.host n q) (sym (g.name b.0) ∙ ap (λ (z : HostEnd). z.name) b.2)
      (shown-moved a.0 old.host new.host (b.0).name own.0 (moved a.0 old.host new.host (b.0).name own.0 low.generations a.1 own.1)))
  | inr m ↦ (let h = held-more w from old new what x f m in (h.0, shows-held new.host f.name h.0 (let t = h.1 in keeps.held (f.name).slot t.slot h.0 t.there t.peer) h.1))
]
  where
    g : Grows old new (more_of w.count from old new what)
    g = grows w from old new what x

    a : (c : Call) × Acts c old.host new.host
    a = some-acts w from old new what x

pub whole-goes : (w : Around) (from old new : Site) (what : Happening) → HappensAmong w from what old new → IsWhole old.host old.ends → IsWhole new.host new.ends
whole-goes w from old new what x k = record { keeps = keeps; shown = shown-goes w from old new what x k.keeps keeps k.shown }
  where
    keeps : Keeps new.host
    keeps = (let a = some-acts w from old new what x in each-keeps.call a.0 old.host new.host a.1 k.keeps)

-- some thing happened at a host of which this is kept
abbrev pub Goes : Host → Records → Host → Records → Type 0
Goes old was new is = (w : Around) × (from : Site) × (what : Happening) × HappensAmong w from what (site no_address old was) (site no_address new is)

pub whole-after : {T : Type 0} (r : Result T Refusal) (P : T → Type 0) (old new : Host) (was is : Records) → OnErr r (new ≡ old) → OnErr r (is ≡ was) → IfOk r P → ((x : T) → P x → Goes old was new is) → IsWhole old was.ends → IsWhole new is.ends
whole-after (Ok x) P old new was is host same done by k = (let g = by x done in whole-goes g.0 g.1 (site no_address old was) (site no_address new is) g.2 g.3 k)
whole-after (Err why) P old new was is host same done by k = subst (λ (h : Host). IsWhole h is.ends) (sym host) (subst (λ (q : Records). IsWhole old q.ends) (sym same) k)
