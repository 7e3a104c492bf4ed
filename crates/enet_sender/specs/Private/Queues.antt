-- The first pieces of a long packet are queued.
use Rattle.std.specs.Prelude.{◌≡◌, ℕ, ◌+◌, ◌≤◌, true, false, if◌then◌else◌, List, ◌++◌, map, Option}
use Rattle.std.specs.List.{range_with_len}
use Rattle.enet_seq.specs.Windows.{after}
use Rattle.enet_sender.specs.declared.course.Course.{Course}
use Rattle.enet_sender.specs.declared.sent.Sent.{Sent}
use Rattle.enet_sender.specs.Private.Course.{piece_command}
use Rattle.enet_sender.specs.declared.outgoing.Outgoing.{Outgoing}
use Rattle.enet_sender.specs.Pending.{named, Passes}
use Rattle.enet_sender.specs.Rings.{Keeps, rings_of, keys_of, commands_at}

-- a channel's sender, and what stands under the keys of its peer
pub record Channel : Type 0 where
  pub outgoing : Outgoing
  pub at : ℕ → Option Sent

pub record Queues (course : Course) (body : List ℕ) (count : ℕ) (old new : Channel) : Type 0 where
  pub kept : Keeps new.at (rings_of new.outgoing)
  pub passes : Passes old.at new.at (keys_of (rings_of old.outgoing)) (keys_of (rings_of new.outgoing))
  pub channel : new.outgoing.channel ≡ old.outgoing.channel
  pub queued : commands_at new.at new.outgoing.queued.items
      ≡ commands_at old.at old.outgoing.queued.items ++ map (piece_command course body) (range_with_len 0 count)
  pub sent : named new.at new.outgoing.sent.items ≡ named old.at old.outgoing.sent.items
  pub next : course.reliable ≡ true → after new.outgoing.number 1 ≡ after old.outgoing.number (count + 1)
  pub last : 1 ≤ count → new.outgoing.number ≡ (if course.reliable then after old.outgoing.number count else old.outgoing.number)
  pub plain : course.reliable ≡ false → new.outgoing.number ≡ old.outgoing.number
