-- A short run: a packet comes and is taken.
use Rattle.std.proofs.Common.{◌≡◌, ◌<◌, false, [], ◌∷◌, refl, sym, ap, subst, inl, inr, arith, Some}
use Rattle.enet_codec.specs.Message.{IsMessage}
use Rattle.enet_receiver.specs.Members.{Has}
use Rattle.enet_sender.specs.CommandChoice.{ChosenPacket}
use Rattle.enet_peer.specs.declared.parts.PeerEvent.TheVariants as told
use Rattle.enet_peer.specs.Peering.{Peering, joined}
use Rattle.law_connection.specs.Examples.{example_terms, example_limits, example_packet}
use Rattle.law_connection.proofs.FirstPacket.{first_command, first_message, with_untaken, rest, first-comes}
use Rattle.law_one_end.specs.OneEnd.{Heard, OneEnd, Come, Take, with_come, beginning}
use Rattle.law_one_end.specs.Rules.{IsEven, IsInReach, KeepsRules}
use Rattle.law_one_end.specs.Examples.{example_sent, OfSomeRun, HasTaken}

abbrev here : Peering
here = joined 0 example_terms example_limits

abbrev start : OneEnd
start = beginning here

abbrev heard : OneEnd
heard = with_come start first_message (with_untaken here (example_packet ∷ rest))

abbrev left : Peering
left = with_untaken here rest

abbrev took : OneEnd
took = record heard { peer = left; taken = told.Receive example_packet ∷ [] }

is-message : IsMessage first_message
is-message = record { channel = (let z : 0 < 256 = omega arith in z); number = (let z : 1 < 65536 = omega arith in z); fields = ((let z : 2 < 65536 = omega arith in z), tt) }

the-packet : (c : ChosenPacket) → Has (example_sent ∷ []) c → example_sent ≡ c
the-packet c (inl e) = e
the-packet c (inr f) = absurd f

even : IsEven 576 example_sent
even = record { some_piece = omega arith; few = omega arith; covered = omega arith; tight = omega arith }

in-reach : IsInReach 576 (example_sent ∷ []) (record { channel = 0; command = first_command; front = 0; taken = 0 })
in-reach = record {
  meant = first_command;
  piece = record {
    packet = example_sent;
    number = 0;
    count = 0;
    index = 0;
    stands = record { before = []; behind = []; whole = refl; number_is = refl; count_is = refl };
    inside = omega arith;
    plain = λ e. refl;
    command = refl;
  };
  on_the_wire = refl;
  not_late = omega arith;
  not_early = omega arith;
}

keeps : KeepsRules 576 (example_sent ∷ []) 0 took.came
keeps = record {
  even = λ c there. subst (IsEven 576) (the-packet c there) even;
  sent = λ h there on. by h there;
}
  where
    by : (h : Heard) → Has took.came h → IsInReach 576 (example_sent ∷ []) h
    by h (inl e) = subst (IsInReach 576 (example_sent ∷ [])) e in-reach
    by h (inr f) = absurd f

pub a-packet-is-taken : OfSomeRun HasTaken
a-packet-is-taken = (
  Come first_message 0 (Some 0) ∷ Take ∷ [],
  took,
  (
    heard,
    (is-message, false, ap (with_come start first_message) (sym (first-comes here refl).1)),
    (
      took,
      (
        told.Receive example_packet,
        left,
        refl,
        refl,
      ),
      refl,
    ),
  ),
  (refl, keeps),
)
