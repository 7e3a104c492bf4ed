-- Of a server's peer the user is told only once its client confirmed the server's answer, by what stood in a datagram that went to it.
use Rattle.std.specs.Prelude.{◌≡◌, ℕ, List, ◌∷◌, ◌++◌, Option}
use Rattle.enet_codec.specs.declared.command.Offer.{Offer}
use Rattle.enet_codec.specs.Message.{Message, acknowledge}
use Rattle.enet_rtt.specs.Clock.{told_time}
use Rattle.enet_connect.specs.declared.server.Server.{Server}
use Rattle.enet_senders.specs.declared.control.Numbered.{Numbered}
use Rattle.enet_senders.specs.Controlling.{message_of}
use Rattle.enet_receiver.specs.Members.{Has}
use Rattle.enet_outbox.specs.Emission.{filled}
use Rattle.enet_peer.specs.declared.parts.Limits.{Limits}
use Rattle.enet_peer.specs.declared.parts.Offsets.{Offsets}
use Rattle.enet_peer.specs.declared.parts.PeerEvent.TheVariants as told
use Rattle.enet_peer.specs.Peering.{Peering, answering}
use Rattle.enet_peer.specs.Calls.{pace_of}
use Rattle.law_one_end.specs.OneEnd.{OneEnd, Event, Emit, Come, Runs, beginning}

-- by these events, from this end on, a datagram with the answer went, and later an acknowledgement came that repeats the answer's number and
-- the time that this datagram told
pub record IsConfirmed (first : OneEnd) (events : List Event) (answer : Numbered) : Type 0 where
  pub before : List Event
  pub between : List Event
  pub behind : List Event
  pub went : ℕ  -- when the datagram went, in milliseconds
  pub end : OneEnd  -- the end, just before
  pub runs : Runs before first end
  pub goes : Has (filled (pace_of end.peer went) end.peer.outbox).messages (message_of answer)
  pub message : Message
  pub channel : message.head.channel ≡ 0xFF
  pub repeats : message.body ≡ acknowledge answer.number (told_time went first.peer.offset)
  pub now : ℕ
  pub sent : Option ℕ
  pub whole : events ≡ before ++ Emit went ∷ (between ++ Come message now sent ∷ behind)

-- if the user was told of the connection, the command with which this peer began was confirmed: a server's has its answer alone
abbrev pub IsToldConfirmed : Peering → List Event → OneEnd → Type 0
IsToldConfirmed p events e = (info : ℕ) → Has e.taken (told.Connect info) → (answer : Numbered) × Has p.outbox.control.queued answer × IsConfirmed (beginning p) events answer

-- after every run of a server's peer that answers
abbrev pub AnsweringIsConfirmed : Type 0
AnsweringIsConfirmed = (now : ℕ) (offsets : Offsets) (offer : Offer) (server : Server) (limits : Limits) (events : List Event) (e : OneEnd)
    → Runs events (beginning (answering now offsets offer server limits)) e → IsToldConfirmed (answering now offsets offer server limits) events e
