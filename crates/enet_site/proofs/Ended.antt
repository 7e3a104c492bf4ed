-- The peer of an end, by its name.
use Rattle.std.proofs.Common.{◌≡◌, ℕ, List, refl, ap, Option, Some, None}
use Rattle.std.specs.Option.{option_and_then, option_map}
use Rattle.enet_codec.specs.declared.event.PeerRef.{PeerRef}
use Rattle.enet_peer.specs.declared.parts.PeerState.{PeerState}
use Rattle.enet_peer.specs.Peering.{Peering}
use Rattle.enet_slot.specs.Slot.{SlotState}
use Rattle.enet_host.specs.Host.{named}
use Rattle.law_network.specs.Network.{HostEnd, end_of}
use Rattle.enet_site.specs.Standing.{state_in}

pub none-ended : (slots : List SlotState) (ends : List HostEnd) (x : ℕ) → option_map (λ (e : HostEnd). e.name) (end_of x ends) ≡ None → state_in slots ends x ≡ None
none-ended slots ends x h = by (end_of x ends) h
  where
    by : (o : Option HostEnd) → option_map (λ (e : HostEnd). e.name) o ≡ None → option_map (λ (p : Peering). p.state) (option_and_then (λ (e : HostEnd). named slots e.name) o) ≡ None
    by None e = refl
    by (Some end) e = absurd (cc)

pub one-ended : (slots : List SlotState) (ends : List HostEnd) (x : ℕ) (name : PeerRef) → option_map (λ (e : HostEnd). e.name) (end_of x ends) ≡ Some name → state_in slots ends x ≡ option_map (λ (p : Peering). p.state) (named slots name)
one-ended slots ends x name h = by (end_of x ends) h
  where
    by : (o : Option HostEnd) → option_map (λ (e : HostEnd). e.name) o ≡ Some name → option_map (λ (p : Peering). p.state) (option_and_then (λ (e : HostEnd). named slots e.name) o) ≡ option_map (λ (p : Peering). p.state) (named slots name)
    by None e = absurd (cc)
    by (Some end) e = (let same : end.name ≡ name = cc in ap (λ (n : PeerRef). option_map (λ (p : Peering). p.state) (named slots n)) same)
