-- What the next event comes to.
use Rattle.std.proofs.Common.{◌≡◌, ℕ, List, [], ◌∷◌, Option, Some, None, refl, sym, ap, drop, ◌∙◌}
use Rattle.std.specs.List.{slice_get}
use Rattle.enet_codec.specs.declared.packet.Packet.{Packet}
use Rattle.enet_inbox.specs.Inbox.{Inbox}
use Rattle.enet_peer.specs.declared.parts.PeerEvent.TheVariants as event
use Rattle.enet_peer.specs.declared.parts.PeerState.{PeerState}
use Rattle.enet_peer.specs.declared.parts.PeerState.TheVariants as state
use Rattle.enet_peer.specs.Peering.{Peering}
use Rattle.enet_peer.specs.Calls.{Taken, Takes, event_after, last_event, next_event, packet_event}

abbrev pub with_packet : Peering → List Packet → Packet → Taken
with_packet p rest q = record { event = event.Receive q; after = record p { inbox = record p.inbox { untaken = rest } } }

some_is : {A : Type 0} (x y : A) → Some x ≡ Some y → x ≡ y
some_is x y e = cc

pub taken_packet : (p : Peering) (xs : List Packet) (q : Packet) → Some q ≡ slice_get xs 0 → packet_event p xs ≡ Some (with_packet p (drop 1 xs) q)
taken_packet p [] q e = absurd cc
taken_packet p (x ∷ xs) q e = ap (λ (y : Packet). Some (with_packet p xs y)) (sym (some_is q x e))

pub no_packet : (xs : List Packet) → None ≡ slice_get xs 0 → xs ≡ []
no_packet [] e = refl
no_packet (x ∷ xs) e = absurd cc

not-last : (s : PeerState) (p : Peering) → (s ≡ state.Ended → ⊥) → last_event s p ≡ None
not-last state.Ended p lasts = absurd (lasts refl)
not-last s p lasts = refl

-- where there is no event
pub nothing-taken : (p : Peering) (i : Inbox) → p.greeting ≡ None → None ≡ slice_get p.inbox.untaken 0 → (p.state ≡ state.Ended → ⊥)
    → i ≡ record p.inbox { untaken = drop 1 p.inbox.untaken } → Takes None (next_event p) p (record p { inbox = i })
nothing-taken p i greeted first lasts rest =
    let none : p.inbox.untaken ≡ [] = no_packet p.inbox.untaken first in
    let left : i ≡ p.inbox =
    rest ∙ ap (λ (xs : List Packet). record p.inbox { untaken = drop 1 xs }) none ∙ sym (ap (λ (xs : List Packet). record p.inbox { untaken = xs }) none) in
    let next : next_event p ≡ None =
    ap (λ (o : Option ℕ). event_after p o) greeted ∙ ap (λ (xs : List Packet). packet_event p xs) none ∙ not-last p.state p lasts in
    (next, ap (λ (j : Inbox). record p { inbox = j }) left)
