-- Which faults say that what was given can't be read.
use Rattle.std.specs.Prelude.{Bool, true, false}
use Rattle.enet_text.specs.Faults.{is_unreadable}
use Rattle.enet_captured.specs.declared.fault.TimelineFault.{TimelineFault}
use Rattle.enet_captured.specs.declared.fault.TimelineFault.TheVariants.{NoCapture, Unread, Memory}

abbrev pub is_unread : TimelineFault → Bool
is_unread NoCapture = true
is_unread (Unread fault) = is_unreadable fault
is_unread Memory = false
