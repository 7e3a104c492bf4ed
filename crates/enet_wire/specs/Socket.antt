-- A socket.
use Rattle.std.specs.Prelude.{ℕ, List, Option}
use Rattle.std.specs.Arc.{arc_value}
use Rattle.std.specs.declared.io.Error.{Error}
use Rattle.enet_codec.specs.declared.address.Addr.{Addr}
use Rattle.enet_wire.specs.declared.bell.Bell.{Bell}
use Rattle.enet_wire.specs.declared.socket.MioWire.{MioWire}
use Rattle.enet_wire.specs.declared.told.Told.{Told}

-- how often a call of it failed
abbrev pub failures_of : MioWire → ℕ
failures_of wire = wire.failures

-- what the system said of the last call of it that failed, if one did
abbrev pub reason_of : MioWire → Option Error
reason_of wire = wire.reason

-- its bell
abbrev pub bell_of : MioWire → Bell
bell_of wire = arc_value wire.bell

-- at which address the system was asked to put it
abbrev pub address_of : MioWire → Addr
address_of wire = wire.socket.address

-- what its calls did, in order
abbrev pub told_of : MioWire → List Told
told_of wire = wire.socket.journal.told
