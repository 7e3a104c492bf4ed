-- What the relay's thread makes of the events that it takes.
use Rattle.std.specs.Prelude.{List, [], ◌∷◌, ⊤, ◌≡◌, ◌⊎◌, ◌++◌}
use Rattle.enet_codec.specs.declared.event.Event.{Event}
use Rattle.enet_codec.specs.declared.event.Event.TheVariants.{Connect, Receive, Disconnect, Refused}
use Rattle.enet_submit.specs.declared.order.Order.{Order}
use Rattle.enet_bridge.specs.Ends.{orders}
use Rattle.enet_bridge.specs.Holding.{submitted_at, asked}
use Rattle.enet_chat.specs.declared.relaying.Relay.{Relay}
use Rattle.enet_chat.specs.Relaying.{sender_of, IsHeldUp}

-- a packet came, which leaves the peers as they are
abbrev pub IsPacket : Event → Type 0
IsPacket (Connect peer info) = ⊥
IsPacket (Receive peer packet) = ⊤
IsPacket (Disconnect peer info) = ⊥
IsPacket (Refused seat number why) = ⊥

abbrev pub ArePackets : List Event → Type 0
ArePackets [] = ⊤
ArePackets (e ∷ es) = IsPacket e × ArePackets es

-- it submitted some orders, or none
abbrev pub SubmitsOn : Relay → Relay → Type 0
SubmitsOn old new = (more : List Order) × (orders (submitted_at (sender_of new)) ≡ orders (submitted_at (sender_of old)) ++ more)

-- all that had been asked for was submitted before anything else was, but for that
abbrev pub SubmitsFirst : Relay → Relay → Type 0
SubmitsFirst old new = ((more : List Order) × (orders (submitted_at (sender_of new)) ≡ asked (sender_of old) ++ more)) ⊎ IsHeldUp new
