-- The calls that take an event keep one life; and it is one.
use Rattle.std.proofs.Common.{◌≡◌, Bool, true, false, List, [], ◌∷◌, sym, subst, inl, inr}
use Rattle.enet_peer.specs.declared.parts.PeerEvent.{PeerEvent}
use Rattle.enet_peer.specs.declared.parts.PeerEvent.TheVariants as told
use Rattle.enet_peer.specs.declared.parts.PeerState.{PeerState}
use Rattle.enet_peer.specs.declared.parts.PeerState.TheVariants as state
use Rattle.enet_peer.specs.Peering.{Peering}
use Rattle.law_connection.specs.Law.{IsOneLife, AreLast}
use Rattle.law_connection.specs.Life.{ArePackets, HasBegun, IsUnderway, LivesIn, Lives}

packets-last : (es : List PeerEvent) → ArePackets es → AreLast es
packets-last [] h = tt
packets-last (told.Receive q ∷ es) h = packets-last es h
packets-last (told.Connect info ∷ es) h = absurd h
packets-last (told.Disconnect info ∷ es) h = absurd h

begun-life : (joined : Bool) (es : List PeerEvent) → HasBegun joined es → IsOneLife joined es
begun-life true es h = packets-last es h
begun-life false [] h = absurd h
begun-life false (told.Connect info ∷ es) h = packets-last es h
begun-life false (told.Receive q ∷ es) h = absurd h
begun-life false (told.Disconnect info ∷ es) h = absurd h

pub none-life : (joined : Bool) (es : List PeerEvent) → es ≡ [] → IsOneLife joined es
none-life true es e = subst (λ l. IsOneLife true l) (sym e) tt
none-life false es e = subst (λ l. IsOneLife false l) (sym e) tt

underway-life : (joined : Bool) (es : List PeerEvent) (p : Peering) → IsUnderway joined es p → IsOneLife joined es
underway-life joined es p (inl h) = begun-life joined es h.1
underway-life joined es p (inr h) = none-life joined es h.1

-- whatever the state, the events are of one life
pub lives-one : (joined : Bool) (es : List PeerEvent) (p : Peering) → Lives joined es p → IsOneLife joined es
lives-one joined es p h = by p.state h
  where
    by : (s : PeerState) → LivesIn s joined es p → IsOneLife joined es
    by state.Connecting h = none-life joined es h.1.none
    by state.Answering h = none-life joined es h.1.none
    by state.Connected h = underway-life joined es p h
    by state.DisconnectLater h = underway-life joined es p h
    by state.Disconnecting h = underway-life joined es p h
    by state.AckDisconnect h = underway-life joined es p h
    by state.Ended h = elim h.0 [ inl u ↦ underway-life joined es p u | inr n ↦ none-life joined es n.1.none ]
    by state.Parting h = h.life
    by state.Free h = h.life
