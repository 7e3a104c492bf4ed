-- A peer as the contracts of its calls see it.
use Rattle.std.specs.Prelude.{ℕ, ◌+◌, length}
use Rattle.enet_peer.specs.Peered.{Peered}

-- for how many acknowledgements there is a place, those that wait among them
abbrev pub places_of : Peered → ℕ
places_of v = length v.peer.outbox.acknowledgements + v.acknowledgement_room
