-- What a user is told of a connection.
use Rattle.std.specs.Prelude.{◌≡◌, List, [], ◌∷◌}
use Rattle.enet_codec.specs.declared.event.Event.{Event}
use Rattle.enet_codec.specs.declared.event.Event.TheVariants as events
use Rattle.enet_codec.specs.declared.event.PeerRef.{PeerRef}

-- packets of a peer, then at most one Disconnect of it
abbrev pub AreLastOf : PeerRef → List Event → Type 0
AreLastOf name [] = Unit {0}
AreLastOf name (events.Connect peer info ∷ es) = ⊥
AreLastOf name (events.Receive peer q ∷ es) = (peer ≡ name) × AreLastOf name es
AreLastOf name (events.Disconnect peer info ∷ es) = (peer ≡ name) × (es ≡ [])
AreLastOf name (events.Refused seat number why ∷ es) = ⊥
