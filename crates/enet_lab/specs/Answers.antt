-- The text of each answer, without the line feed that ends a line.
use Rattle.std.specs.Prelude.{ℕ, List, [], ◌++◌, codes, Option, Some, None, Result, Ok, Err}
use Rattle.std.specs.Option.{option_map}
use Rattle.std.specs.Fmt.{decimal}
use Rattle.enet_codec.specs.declared.refusal.Refusal.{Refusal}
use Rattle.enet_codec.specs.Refusal.{label_of}
use Rattle.law_network.specs.declared.event.Answer.{Answer}
use Rattle.law_network.specs.declared.event.Answer.TheVariants.{Peer, Done, Received, Sent, Taken}
use Rattle.enet_fleet.specs.declared.answer.Answer.{Answer as FleetAnswer}
use Rattle.enet_fleet.specs.declared.answer.Answer.TheVariants as fleet
use Rattle.enet_world.specs.declared.calm.Calm.{Calm}
use Rattle.enet_world.specs.declared.calm.Share.{Share}
use Rattle.enet_text.specs.Texts.{bytes_text, event_text, peer_text, received_text}
use Rattle.enet_lab.specs.declared.host.Host.{Host}
use Rattle.enet_lab.specs.declared.host.Recipient.{Recipient}
use Rattle.enet_lab.specs.Hosts.{host_text, recipient_text}

-- Whom a datagram went to. In a world that goes without saying.
abbrev pub to_text : Option Recipient → List ℕ
to_text None = []
to_text (Some recipient) = codes " to " ++ recipient_text recipient

-- What a host answered to an event. Where it put a datagram out, that went to this recipient and has these bytes.
abbrev pub text_of : Host → Option Recipient → List ℕ → Answer → List ℕ
text_of host to datagram (Peer peer) = codes "peer " ++ peer_text peer
text_of host to datagram Done = codes "ok"
text_of host to datagram (Received received) = received_text received
text_of host to datagram (Sent None) = codes "none"
text_of host to datagram (Sent (Some k)) = host_text host ++ codes "#" ++ decimal k ++ to_text to ++ codes " " ++ bytes_text datagram
text_of host to datagram (Taken None) = codes "none"
text_of host to datagram (Taken (Some event)) = event_text event

-- Of an answer in a fleet all is told but where the peer is of which an event was taken.
abbrev pub shown_of : FleetAnswer → Answer
shown_of (fleet.Peer peer) = Peer peer
shown_of fleet.Done = Done
shown_of (fleet.Received received) = Received received
shown_of (fleet.Sent number) = Sent number
shown_of (fleet.Taken told) = Taken (option_map (λ t. t.0) told)

abbrev pub outcome_shown : Result FleetAnswer Refusal → Result Answer Refusal
outcome_shown (Ok answer) = Ok (shown_of answer)
outcome_shown (Err refusal) = Err refusal

-- The same, or the refusal.
abbrev pub outcome_text : Host → Option Recipient → List ℕ → Result Answer Refusal → List ℕ
outcome_text host to datagram (Ok answer) = text_of host to datagram answer
outcome_text host to datagram (Err refusal) = label_of refusal

-- What a side did in rounds without losses, and both.
unfoldable pub share_text : Share → List ℕ
share_text s = codes "sent " ++ decimal s.sent ++ codes " refused " ++ decimal s.refused ++ codes " stopped " ++ decimal s.stopped ++ codes " taken " ++ decimal s.taken
    ++ codes " cut " ++ decimal s.cut_short

abbrev pub calm_text : Calm → List ℕ
calm_text told = codes "A " ++ share_text told.a ++ codes " B " ++ share_text told.b

-- How many rounds are enough, where that is known.
abbrev pub rounds_text : Option ℕ → List ℕ
rounds_text None = codes "none"
rounds_text (Some rounds) = decimal rounds
