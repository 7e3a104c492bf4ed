-- Short runs, computed.
use Rattle.std.proofs.Common.{◌≡◌, ℕ, ◌<◌, false, List, [], ◌∷◌, refl, sym, ap, subst, ◌∙◌, Option, Some, None, inl, inr, arith}
use Rattle.enet_codec.specs.Message.{ping}
use Rattle.enet_connect.specs.declared.server.Server.{Server}
use Rattle.enet_fragment.specs.Cutting as cutting
use Rattle.enet_peer.specs.declared.parts.Offsets.{Offsets}
use Rattle.enet_peer.specs.declared.parts.PeerEvent.TheVariants as told
use Rattle.enet_peer.specs.Peering.{Peering, joined, answering}
use Rattle.enet_peer.specs.CommandEffect.{obeyed}
use Rattle.law_connection.specs.Link.{is_late}
use Rattle.law_connection.specs.LinkSteps.{Has}
use Rattle.law_connection.specs.Connection as connection
use Rattle.law_connection.specs.Connection.{Put, End, Connection, sent_on}
use Rattle.law_connection.specs.Steps.{One, Two, Submit, Emit, Come, Take, Answer, InTime, no_end, asking_pair, joined_pair, with_submission, with_emission, with_peer}
use Rattle.law_connection.specs.Examples.{example_terms, example_limits, example_end, example_packet, example_offer, OfSomeJoined, OfSomeAsking, HasTaken, HasOneMark, HasConnected}
use Rattle.law_connection.proofs.FirstPacket.{first_message, with_untaken, rest, first-comes}

abbrev here : Peering
here = joined 0 example_terms example_limits

abbrev peer_of : Option Peering → Peering
peer_of None = here
peer_of (Some p) = p

abbrev first : List Put → Put
first [] = record { message = record { head = record { acknowledge = false; unsequenced = false; channel = 0; number = 0 }; body = ping }; sent_then = 0 }
first (p ∷ log) = p

abbrev second : List Put → Put
second [] = first []
second (p ∷ log) = first log

-- a packet is submitted, put out, comes, and is taken

abbrev pair : Connection
pair = joined_pair example_end example_end

abbrev submitted : End
submitted = with_submission pair.one here example_packet

abbrev emitted : End
emitted = with_emission submitted pair.two (peer_of submitted.peer) 0

abbrev put : Put
put = record { message = first_message; sent_then = 1 }

emitted-log : emitted.log ≡ put ∷ []
unfolding cutting.piece_count connection.reached
emitted-log = refl

emitted-greatest : sent_on 0 emitted ≡ 1
unfolding cutting.piece_count connection.reached
emitted-greatest = refl

abbrev arrived : End
arrived = with_peer pair.two (with_untaken here (example_packet ∷ rest))

comes : arrived ≡ with_peer pair.two (obeyed here 0 (Some 0) put.message).after
comes = ap (with_peer pair.two) (sym (first-comes here refl).1)

abbrev took : End
took = record arrived { peer = Some (with_untaken here rest); events = told.Receive example_packet ∷ [] }

in-time : InTime pair.two emitted put
in-time = record {
  logged = subst (λ (l : List Put). Has l put) (sym emitted-log) (inl refl);
  of_data = λ few c e. (let n : 1 ≡ c.number = cc in ap (λ g. is_late g 1 c.number) emitted-greatest ∙ subst (λ (x : ℕ). is_late 1 1 x ≡ false) n refl);
  of_acknowledgement = λ few number time e. absurd (cc);
}

pub a-packet-is-taken : OfSomeJoined HasTaken
unfolding cutting.piece_count connection.reached
a-packet-is-taken = (
  (One, Submit example_packet) ∷ (One, Emit 0) ∷ (Two, Come put 0 (Some 0)) ∷ (Two, Take) ∷ [],
  record { one = emitted; two = took },
  (
    record { one = submitted; two = pair.two },
    ((here, refl, refl, refl), refl),
    (
      record { one = emitted; two = pair.two },
      ((peer_of submitted.peer, refl, refl), refl),
      (
        record { one = emitted; two = arrived },
        ((here, refl, in-time, false, comes), refl),
        (
          record { one = emitted; two = took },
          ((with_untaken here (example_packet ∷ rest), with_untaken here rest, told.Receive example_packet, refl, refl, refl), refl),
          refl,
        ),
      ),
    ),
  ),
  (refl, refl),
)

-- two packets go in one datagram

abbrev submitted-twice : End
submitted-twice = with_submission submitted (peer_of submitted.peer) example_packet

abbrev emitted-both : End
emitted-both = with_emission submitted-twice pair.two (peer_of submitted-twice.peer) 0

pub one-datagram-has-one-mark : OfSomeJoined HasOneMark
unfolding cutting.piece_count connection.reached
one-datagram-has-one-mark = (
  (One, Submit example_packet) ∷ (One, Submit example_packet) ∷ (One, Emit 0) ∷ [],
  record { one = emitted-both; two = pair.two },
  (
    record { one = submitted; two = pair.two },
    ((here, refl, refl, refl), refl),
    (
      record { one = submitted-twice; two = pair.two },
      ((peer_of submitted.peer, refl, refl, refl), refl),
      (
        record { one = emitted-both; two = pair.two },
        ((peer_of submitted-twice.peer, refl, refl), refl),
        refl,
      ),
    ),
  ),
  refl,
)

-- a client asks, a host answers, and both are connected

-- nothing is added to the host's times and numbers
abbrev no_offsets : Offsets
no_offsets = record { time = 0; number = 0 }

abbrev server : Server
server = record { slot = 0; incoming_session = 255; outgoing_session = 255; channels = 2; mtu = 1000; incoming_bandwidth = 0; outgoing_bandwidth = 0 }

abbrev asking : Connection
asking = asking_pair 0 0 example_offer example_limits

abbrev asked : End
asked = with_emission asking.one asking.two (peer_of asking.one.peer) 0

abbrev answered : End
answered = with_peer no_end (answering 0 no_offsets example_offer server example_limits)

abbrev verified : End
verified = with_emission answered asked (peer_of answered.peer) 0

abbrev client : End
client = with_peer asked (obeyed (peer_of asked.peer) 0 (Some 0) (first verified.log).message).after

abbrev confirmed : End
confirmed = with_emission client verified (peer_of client.peer) 0

abbrev host : End
host = with_peer verified (obeyed (peer_of verified.peer) 0 None (second confirmed.log).message).after

pub both-ends-connect : OfSomeAsking HasConnected
unfolding cutting.piece_count connection.reached
both-ends-connect = (
  (One, Emit 0) ∷ (Two, Answer (first asked.log) example_offer 0 no_offsets server example_limits) ∷ (Two, Emit 0) ∷ (One, Come (first verified.log) 0 (Some 0)) ∷ (One, Emit 0)
      ∷ (Two, Come (second confirmed.log) 0 None) ∷ [],
  record { one = confirmed; two = host },
  (
    record { one = asked; two = no_end },
    ((peer_of asking.one.peer, refl, refl), refl),
    (
      record { one = asked; two = answered },
      ((refl, inl refl, refl, refl, refl), refl),
      (
        record { one = asked; two = verified },
        ((peer_of answered.peer, refl, refl), refl),
        (
          record { one = client; two = verified },
          ((peer_of asked.peer, refl, record { logged = inl refl; of_data = λ few c e. absurd (cc); of_acknowledgement = λ few number time e. absurd (cc) }, false, refl), refl),
          (
            record { one = confirmed; two = verified },
            ((peer_of client.peer, refl, refl), refl),
            (
              record { one = confirmed; two = host },
              ((peer_of verified.peer, refl, record { logged = inr (inl refl); of_data = λ few c e. absurd (cc); of_acknowledgement = λ few number time e. absurd (far few) }, false, refl), refl),
              refl,
            ),
          ),
        ),
      ),
    ),
  ),
  ((peer_of confirmed.peer, refl, refl), (peer_of host.peer, refl, refl)),
)
  where
    -- channel 0xFF isn't below 255
    far : 255 < 255 → ⊥
    far few = omega arith
