-- A socket that keeps a journal.
use Rattle.std.specs.Prelude.{ℕ, List, [], Option, Some, None, Ok}
use Rattle.enet_codec.specs.declared.address.Addr.{Addr}
use Rattle.enet_wire.specs.Wires.{came}
use Rattle.enet_wire.specs.declared.told.Told.{Told}
use Rattle.enet_wire.specs.declared.journaled.JournaledSocket.{JournaledSocket}

-- what is told of a datagram that the system gave: nothing, where it is passed over
abbrev pub gave : Option (Addr × ℕ) → List ℕ → List Told
gave None buf = []
gave (Some given) buf = came (Ok (Some given)) buf

-- what is noted of its calls
abbrev pub noted_at : JournaledSocket → List Told
noted_at socket = socket.journal.told
