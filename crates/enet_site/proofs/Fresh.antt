-- What holds of a site at first.
use Rattle.std.proofs.Common.{◌≡◌, ◌<◌, ℕ, zero, suc, true, [], ◌∷◌, replicate, Some, refl, sym, subst, inl, inr, arith, slice_get, slice_set}
use Rattle.std.proofs.lemmas.Bool.Decides.{nat_tests}
use Rattle.enet_codec.specs.declared.address.Addr.{Addr}
use Rattle.enet_codec.specs.declared.config.Config.{Config}
use Rattle.enet_codec.specs.Config.{is_in_range}
use Rattle.enet_peer.specs.declared.parts.PeerState.TheVariants as state
use Rattle.enet_peer.specs.Peering.{Peering, joined as joined_peer}
use Rattle.enet_slot.specs.Giving.{limits_of, unused_slot, joined_terms, given}
use Rattle.enet_slot.specs.Slot.{SlotState}
use Rattle.enet_host.specs.Host.{Host}
use Rattle.enet_host.specs.Opening.{opened, joined}
use Rattle.law_network.proofs.IsolationKeeping.{each-keeps}
use Rattle.law_network.specs.Network.{HostEnd}
use Rattle.law_network.specs.Shown.{ShowsPeer}
use Rattle.law_network.specs.World.{joined_end}
use Rattle.law_network.proofs.Peers.{shows-held}
use Rattle.enet_site.specs.Records.{Records}
use Rattle.enet_site.specs.Private.Sites.{AreShown, IsWhole}

first : (c : Config) (far : Addr) → SlotState
first c far = given unused_slot far (joined_peer c.clock (joined_terms c) (limits_of c))

first-there : (n : ℕ) (s : SlotState) → 0 < n → slice_get (slice_set (replicate n unused_slot) 0 s) 0 ≡ Some s
first-there zero s h = absurd (omega arith)
first-there (suc n) s h = refl

some-peers : (c : Config) → is_in_range c ≡ true → 0 < c.peers
some-peers c h = grind (arith, nat_tests)

one-shown : (c : Config) (far : Addr) → is_in_range c ≡ true → AreShown (joined c far) (joined_end ∷ [])
unfolding first
one-shown c far h e (inl is) =
    let p : Peering = joined_peer c.clock (joined_terms c) (limits_of c) in
    subst (λ (z : HostEnd). (q : Peering) × ShowsPeer (joined c far) z.name q) is
    (p, shows-held (joined c far) joined_end.name p (λ e. absurd (let y : state.Connected ≡ state.Free = e in cc)) (record { slot = first c far; there = first-there c.peers (first c far) (some-peers c h); same = refl; peer = refl }))
one-shown c far h e (inr other) = absurd other

-- by the equations of a call

pub whole-open : (c : Config) (h : Host) (r : Records) → is_in_range c ≡ true → h ≡ opened c → r ≡ record { log = []; ends = [] } → IsWhole h r.ends
whole-open c h r fits host is =
    subst (λ (q : Records). IsWhole h q.ends) (sym is)
    (subst (λ (g : Host). IsWhole g []) (sym host) (record { keeps = each-keeps.opened c fits; shown = λ e there. absurd there }))

pub whole-joined : (c : Config) (far : Addr) (h : Host) (r : Records) → is_in_range c ≡ true → h ≡ joined c far → r ≡ record { log = []; ends = joined_end ∷ [] } → IsWhole h r.ends
whole-joined c far h r fits host is =
    subst (λ (q : Records). IsWhole h q.ends) (sym is)
    (subst (λ (g : Host). IsWhole g (joined_end ∷ [])) (sym host) (record { keeps = each-keeps.joined c far fits; shown = one-shown c far fits }))
