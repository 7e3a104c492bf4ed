-- The orders of events, receiver by receiver.
use Rattle.std.specs.Prelude.{ℕ, zero, suc, List, [], ◌∷◌, flat_map, Some}
use Rattle.enet_codec.specs.declared.event.PeerRef.{PeerRef}
use Rattle.enet_codec.specs.declared.event.Event.{Event}
use Rattle.enet_codec.specs.declared.event.Event.TheVariants.{Connect, Receive, Disconnect, Refused}
use Rattle.enet_codec.specs.declared.event.Outward.{Outward}
use Rattle.enet_submit.specs.declared.order.Order.{Order}
use Rattle.enet_chat.specs.Chat.{relayed}

-- what events give for one peer, in their order
abbrev pub relayed_to : PeerRef → List Event → List Order
relayed_to peer es = flat_map (λ e. relayed (peer ∷ []) e) es

-- all that they give for the first peer, then all for the second, and so on
abbrev pub grouped : List PeerRef → List Event → List Order
grouped peers es = flat_map (λ p. relayed_to p es) peers

-- what came from a peer on channel 0 or 1, for all others
abbrev pub chat_outward : PeerRef → ℕ → List ℕ → List Outward
chat_outward from zero body = (record { except = Some from; channel = 0; flags = 1; body = body }) ∷ []
chat_outward from (suc zero) body = (record { except = Some from; channel = 1; flags = 0; body = body }) ∷ []
chat_outward from (suc (suc n)) body = []

abbrev pub outward : Event → List Outward
outward (Connect peer info) = []
outward (Receive peer packet) = chat_outward peer packet.channel packet.body
outward (Disconnect peer info) = []
outward (Refused seat number why) = []

abbrev pub outwards : List Event → List Outward
outwards es = flat_map outward es
