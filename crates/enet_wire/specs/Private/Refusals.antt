-- What comes of an error of the system, by its kind.
use Rattle.std.specs.Prelude.{Bool, true, false}
use Rattle.std.specs.declared.io.ErrorKind.{ErrorKind}
use Rattle.std.specs.declared.io.ErrorKind.TheVariants.{PermissionDenied, ConnectionRefused, ConnectionReset, ConnectionAborted, HostUnreachable, NetworkUnreachable, NetworkDown, AddrNotAvailable, InvalidInput, WouldBlock, Interrupted, OutOfMemory, TimedOut}
use Rattle.enet_wire.specs.declared.socket.Unsent.{Unsent}
use Rattle.enet_wire.specs.declared.socket.Unsent.TheVariants.{Lost, Blocked, Failed}

-- A datagram doesn't leave: there is no room at the moment; its destination can't be had, as port 0 can't; or the socket is of no use
abbrev pub unsent_by : ErrorKind → Unsent
unsent_by WouldBlock = Blocked
unsent_by Interrupted = Blocked
unsent_by OutOfMemory = Blocked
unsent_by InvalidInput = Lost
unsent_by PermissionDenied = Lost
unsent_by AddrNotAvailable = Lost
unsent_by ConnectionRefused = Lost
unsent_by HostUnreachable = Lost
unsent_by NetworkUnreachable = Lost
unsent_by NetworkDown = Lost
unsent_by _ = Failed

-- A reception that failed so need not fail again: it was interrupted, memory was wanting, or a datagram that was sent before didn't arrive
abbrev pub is_repeatable : ErrorKind → Bool
is_repeatable WouldBlock = true
is_repeatable Interrupted = true
is_repeatable OutOfMemory = true
is_repeatable TimedOut = true
is_repeatable ConnectionRefused = true
is_repeatable ConnectionReset = true
is_repeatable ConnectionAborted = true
is_repeatable HostUnreachable = true
is_repeatable NetworkUnreachable = true
is_repeatable NetworkDown = true
is_repeatable _ = false
