-- What a capture holds.
use Rattle.std.specs.Prelude.{◌+◌, ◌*◌, ◌/◌, ℕ, Bool, if◌then◌else◌, Option}
use Rattle.enet_text.specs.declared.pcap.Captured.{Captured}
use Rattle.enet_captured.specs.declared.told.Told.{Told}
use Rattle.enet_captured.specs.declared.timeline.Way.{Way}
use Rattle.enet_captured.specs.declared.timeline.Mark.{Mark}

-- When a packet was captured, in microseconds.
abbrev pub moment_of : Captured → Bool → ℕ
moment_of captured nanoseconds = captured.seconds * 1000000 + (if nanoseconds then captured.parts / 1000 else captured.parts)

-- A command of a datagram.
abbrev pub mark_of : ℕ → ℕ → Way → ℕ → Option ℕ → Told → Mark
mark_of datagram connection way at sent told =
    record { datagram = datagram; connection = connection; way = way; at = at; sent = sent; told = told }
