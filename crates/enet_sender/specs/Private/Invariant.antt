-- Which commands a datagram has room for.
use Rattle.std.specs.Prelude.{◌≤◌, length}
use Rattle.enet_fragment.specs.declared.data.DataCommand.{DataCommand}

-- the body is one that a datagram has room for
abbrev pub IsShort : DataCommand → Type 0
IsShort c = length c.body ≤ 4068
