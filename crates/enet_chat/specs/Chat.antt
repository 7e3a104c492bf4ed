-- What an event does to the table, and the orders that it gives.
use Rattle.std.specs.Prelude.{◌≡◌, ℕ, zero, suc, false, if◌then◌else◌, List, [], ◌∷◌, ◌++◌, map}
use Rattle.enet_codec.specs.declared.event.PeerRef.{PeerRef}
use Rattle.enet_codec.specs.declared.event.Event.{Event}
use Rattle.enet_codec.specs.declared.event.Event.TheVariants.{Connect, Receive, Disconnect, Refused}
use Rattle.enet_submit.specs.declared.order.Order.{Order}
use Rattle.enet_submit.specs.declared.order.Order.TheVariants.{Submit}
use Rattle.enet_chat.specs.Peers.{has, others}

-- the peers after an event: who connects comes last, unless it is there already, and whose connection ended goes
abbrev pub noted : List PeerRef → Event → List PeerRef
noted peers (Connect peer info) = if has peers peer then peers else peers ++ peer ∷ []
noted peers (Receive peer packet) = peers
noted peers (Disconnect peer info) = others peers peer
noted peers (Refused seat number why) = peers

-- a peer connects that isn't there
abbrev pub IsNewcomer : List PeerRef → Event → Type 0
IsNewcomer peers (Connect peer info) = has peers peer ≡ false
IsNewcomer peers (Receive peer packet) = ⊥
IsNewcomer peers (Disconnect peer info) = ⊥
IsNewcomer peers (Refused seat number why) = ⊥

-- one packet to each of the peers, in their order
abbrev pub to_each : List PeerRef → ℕ → ℕ → List ℕ → List Order
to_each peers channel flags body = map (λ peer. Submit peer channel flags body) peers

-- what came from a peer on channel 0 goes to the others reliably, on channel 1 unreliably, and on another channel to none
abbrev pub chat : List PeerRef → ℕ → List ℕ → List Order
chat peers zero body = to_each peers 0 1 body
chat peers (suc zero) body = to_each peers 1 0 body
chat peers (suc (suc n)) body = []

-- the orders that an event gives
abbrev pub relayed : List PeerRef → Event → List Order
relayed peers (Connect peer info) = []
relayed peers (Receive peer packet) = chat (others peers peer) packet.channel packet.body
relayed peers (Disconnect peer info) = []
relayed peers (Refused seat number why) = []
