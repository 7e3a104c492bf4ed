-- Which faults say that what was given can't be read.
use Rattle.std.specs.Prelude.{Bool, true, false}
use Rattle.enet_text.specs.declared.fault.InspectFault.{InspectFault}
use Rattle.enet_text.specs.declared.fault.InspectFault.TheVariants.{BadLine, LinkType, CutShort, Memory, Io}

abbrev pub is_unreadable : InspectFault → Bool
is_unreadable (BadLine line) = true
is_unreadable (LinkType number) = true
is_unreadable (CutShort packets) = true
is_unreadable Memory = false
is_unreadable Io = false
