-- A command goes, comes and is acknowledged.
use Rattle.std.specs.Prelude.{◌≡◌, ℕ, ◌+◌, ◌%◌, ◌^◌, ◌≤◌, Option, Some, slice_get}
use Rattle.enet_rtt.specs.Clock.{meant_time}
use Rattle.enet_fragment.specs.declared.data.DataCommand.{DataCommand}
use Rattle.enet_receiver.specs.Members.{Has}
use Rattle.enet_sender.specs.Due.{SendingEnd}
use Rattle.enet_outbox.specs.declared.parts.Pace.{Pace}
use Rattle.enet_outbox.specs.Emission.{acknowledgement_of}
use Rattle.enet_peer.specs.Peering.{Peering}
use Rattle.enet_peer.specs.CommandEffect.{Outcome, obeyed}
use Rattle.law_progress.specs.Outboxes.{put_out, ready}
use Rattle.law_progress.specs.Peers.{IsRemoved, WentThen}

-- a data command of the peer p came to the other end, with this outcome: its acknowledgement is in one of the datagrams that this end puts
-- out next, of which there are at most one more than it has ready to go; and where that acknowledgement comes to p, and the command went at
-- the time that the repeated one stands for, it takes the command away
pub record IsSettled (pace : Pace) (p : Peering) (channel time : ℕ) (c : DataCommand) (o : Outcome) : Type 0 where
  pub datagrams : ℕ
  pub few : datagrams ≤ ready o.after.outbox + 1
  pub goes : Has (put_out pace datagrams o.after.outbox) (acknowledgement_of (record { channel = channel; number = c.number; time = time }))
  pub end : SendingEnd
  pub there : slice_get p.outbox.senders channel ≡ Some end
  pub removed : (now : ℕ) (sent : Option ℕ) → WentThen end.sender.sent c.number (meant_time time (p.offset % 2 ^ 16)) → IsRemoved p channel c.number end (obeyed p now sent (acknowledgement_of (record { channel = channel; number = c.number; time = time })))
