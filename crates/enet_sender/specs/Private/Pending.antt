-- The commands of a peer, each under a key, and what a ring of keys names.
use Rattle.std.specs.Prelude.{true}
use Rattle.enet_rtt.specs.Transmission as transmission
use Rattle.enet_fragment.specs.declared.data.DataCommand.{DataCommand}
use Rattle.enet_sender.specs.declared.sent.Sent.{Sent}

-- a command that is not sent yet stands as if it had been, at the time 0, and were due to go again
abbrev pub queued : DataCommand → Sent
queued c = record { command = c; transmission = record (transmission.begun 0 0) { due = true } }
