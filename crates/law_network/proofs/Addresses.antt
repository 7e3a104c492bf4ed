-- At which address an end's peer stands.
use Rattle.std.proofs.Common.{◌≡◌, ◌≢◌, ◌==◌, ◌&&◌, Bool, true, false, List, refl, sym, ap, subst, ◌∙◌, arith, Option, Some, None}
use Rattle.std.proofs.lemmas.Bool.Decides.{nat_tests}
use Rattle.enet_codec.specs.declared.address.Addr.{Addr}
use Rattle.enet_codec.specs.declared.event.PeerRef.{PeerRef}
use Rattle.enet_peer.specs.Peering.{Peering}
use Rattle.enet_slot.specs.Receiving.{is_same_address}
use Rattle.enet_slot.specs.Slot.{SlotState}
use Rattle.enet_host.specs.Host.{slot_named, peer_in}
use Rattle.enet_host.specs.Calls.{address_in, address_of, address_named}
use Rattle.law_network.proofs.Names.{IsThere, named-there, there-slot}
use Rattle.law_network.specs.Network.{is_at}

pub same-address : (a b : Addr) → a ≡ b → is_same_address a b ≡ true
same-address a b e = subst (λ (z : Addr). is_same_address a z ≡ true) e (let ip : (a.ip == a.ip) ≡ true = grind (arith, nat_tests) in let port : (a.port == a.port) ≡ true = grind (arith, nat_tests) in ap (λ (t : Bool). t && (a.port == a.port)) ip ∙ port)

pub equal-address : (a b : Addr) → is_same_address a b ≡ true → a ≡ b
equal-address a b h =
    let ip : a.ip ≡ b.ip = grind (arith, nat_tests) in
    let port : a.port ≡ b.port = grind (arith, nat_tests) in
    (λ i. record { ip = ip i; port = port i })

pub other-address : (a b : Addr) → a ≢ b → is_same_address a b ≡ false
other-address a b n = by (is_same_address a b) refl
  where
    by : (t : Bool) → is_same_address a b ≡ t → is_same_address a b ≡ false
    by false e = e
    by true e = absurd (n (equal-address a b e))

pub there-at : (from : Addr) (slots : List SlotState) (name : PeerRef) (p : Peering) (x : IsThere slots name p) → is_same_address x.slot.address from ≡ true → is_at from (address_named slots name) ≡ true
there-at from slots name p x at = ap (λ (o : Option SlotState). is_at from (address_in o)) (there-slot slots name p x) ∙ ap (λ (o : Option Peering). is_at from (address_of x.slot o)) x.peer ∙ at

-- a peer that is at one address is at no other
pub is-elsewhere : (at from : Addr) (slots : List SlotState) (name : PeerRef) → ((p : Peering) (x : IsThere slots name p) → x.slot.address ≡ at) → at ≢ from → is_at from (address_named slots name) ≡ false
is-elsewhere at from slots name there n = by (slot_named slots name) refl
  where
    by-peer : (s : SlotState) (o : Option Peering) → slot_named slots name ≡ Some s → s.peer ≡ o → is_at from (address_of s o) ≡ false
    by-peer s None is has = refl
    by-peer s (Some p) is has =
        let x : IsThere slots name p = named-there slots name p (ap peer_in is ∙ has) in
        let slot : x.slot ≡ s = (let y : ◌≡◌ {A = Option SlotState} (Some x.slot) (Some s) = sym (there-slot slots name p x) ∙ is in cc) in
        other-address s.address from (λ e. n (sym (there p x) ∙ ap (λ (y : SlotState). y.address) slot ∙ e))

    by : (o : Option SlotState) → slot_named slots name ≡ o → is_at from (address_in (slot_named slots name)) ≡ false
    by None is = ap (λ (z : Option SlotState). is_at from (address_in z)) is
    by (Some s) is = ap (λ (z : Option SlotState). is_at from (address_in z)) is ∙ by-peer s s.peer is refl
