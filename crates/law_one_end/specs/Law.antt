-- What holds of one end of ours, whatever stands at the other.
use Rattle.std.specs.Prelude.{◌≡◌, ℕ, ◌+◌, ◌%◌, ◌<◌, ◌≤◌, Bool, true, List, take, Some, slice_get}
use Rattle.enet_codec.specs.declared.command.Offer.{Offer}
use Rattle.enet_connect.specs.declared.server.Server.{Server}
use Rattle.enet_connect.specs.declared.terms.Terms.{Terms}
use Rattle.enet_codec.specs.declared.packet.Packet.{Packet}
use Rattle.enet_packets.specs.declared.incoming_packet.Dispatched.{Dispatched}
use Rattle.enet_receiver.specs.Members.{Has}
use Rattle.enet_peer.specs.declared.parts.Limits.{Limits}
use Rattle.enet_peer.specs.declared.parts.Offsets.{Offsets}
use Rattle.enet_peer.specs.Peering.{Peering, joined, connecting, answering}
use Rattle.enet_sender.specs.CommandChoice.{ChosenPacket}
use Rattle.law_connection.specs.Connection.{packets_of, in_sequence}
use Rattle.law_connection.specs.Follows.{FollowsCarried}
use Rattle.law_connection.specs.Law.{IsOneLife}
use Rattle.law_connection.specs.LinkSteps.{bodies_of}
use Rattle.law_one_end.specs.OneEnd.{Heard, OneEnd, Event, Runs, beginning}
use Rattle.law_one_end.specs.Carried.{AreCarried}
use Rattle.law_one_end.specs.Rules.{KeepsRules}

-- what the user took of a channel, packets apart that came unsequenced
abbrev pub taken_on : ℕ → OneEnd → List Dispatched
taken_on channel e = in_sequence channel (packets_of e.taken)

-- a reliable command under this number came on a channel
abbrev pub HasNumber : List Heard → ℕ → ℕ → Type 0
HasNumber came channel number = (h : Heard) × Has came h × (h.channel ≡ channel) × (h.command.reliable ≡ true) × (h.command.number ≡ number % 65536)

-- where the receiver stood when a command came, by those that came before: at or past as many reliable commands as the user had taken reliable
-- packets, and no further than the numbers that had come without a gap
pub record StoodBetween (before : List Heard) (h : Heard) : Type 0 where
  pub least : h.taken ≤ h.front
  pub most : (n : ℕ) → n < h.front → HasNumber before h.channel (n + 1)

pub record IsHeard (e : OneEnd) : Type 0 where
  -- whatever came: it was carried by that, in order, each packet whole, and the reliable ones have all numbers from 1 on
  pub carried : (channel : ℕ) → AreCarried e.came channel 0 1 (taken_on channel e)
  -- and where a client keeps the rules, it follows what that client sent
  pub follows : (channel mtu : ℕ) (cs : List ChosenPacket) → KeepsRules mtu cs channel e.came → FollowsCarried cs (bodies_of (taken_on channel e))
  -- whenever a command came, the receiver stood between what had been taken and what had come
  pub stood : (k : ℕ) (h : Heard) → slice_get e.came k ≡ Some h → StoodBetween (take k e.came) h
  -- an unsequenced packet is one that came so
  pub loose : (q : Packet) → Has (packets_of e.taken) q → q.flags ≡ 2 → Has e.loose q

-- what its user took is one life; one that is connected from the start has no Connect event
abbrev pub HasOneLife : Bool → OneEnd → Type 0
HasOneLife joined e = IsOneLife joined e.taken

-- this holds after every run of an end that begins so
abbrev pub OfEachRun : Peering → (OneEnd → Type 0) → Type 0
OfEachRun p P = (events : List Event) (e : OneEnd) → Runs events (beginning p) e → P e

-- of a server's peer that answers, of a client's that asks, and of one that is connected from the start
abbrev pub OfEachAnswering : (OneEnd → Type 0) → Type 0
OfEachAnswering P = (now : ℕ) (offsets : Offsets) (offer : Offer) (server : Server) (limits : Limits) → OfEachRun (answering now offsets offer server limits) P

abbrev pub OfEachAsking : (OneEnd → Type 0) → Type 0
OfEachAsking P = (now offset : ℕ) (offer : Offer) (limits : Limits) → OfEachRun (connecting now offset offer limits) P

abbrev pub OfEachJoined : (OneEnd → Type 0) → Type 0
OfEachJoined P = (now : ℕ) (terms : Terms) (limits : Limits) → OfEachRun (joined now terms limits) P
