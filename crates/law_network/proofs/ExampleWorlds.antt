-- Runs of a world, computed step by step.
use Rattle.std.proofs.Common.{◌≡◌, ◌≢◌, ℕ, ◌^◌, ◌&&◌, Bool, false, true, List, [], ◌∷◌, length, refl, sym, arith, Some, None}
use Rattle.std.proofs.lemmas.Bool.Decides.{nat_tests}
use Rattle.std.specs.Prelude.{nat_lt}
use Rattle.std.specs.Int.{byte_len}
use Rattle.std.specs.List.{AllByRecursion, list_all}
use Rattle.enet_codec.specs.declared.event.Event.TheVariants as events
use Rattle.enet_codec.specs.declared.command.Head.{Head}
use Rattle.enet_codec.specs.declared.command.Offer.{Offer}
use Rattle.enet_codec.specs.Message.{Message, Field, Fits, IsMessage, fields_of, acknowledge, connect, verify_connect}
use Rattle.enet_connect.specs.Verification.{verification_of}
use Rattle.enet_fragment.specs.Cutting as cutting
use Rattle.enet_peer.specs.declared.parts.PeerState.TheVariants as state
use Rattle.enet_peer.specs.declared.parts.PeerEvent.TheVariants as told
use Rattle.enet_peer.specs.Peering.{Peering, joined}
use Rattle.enet_peer.specs.CommandEffect.{obeyed}
use Rattle.enet_peer.specs.Calls.{submission_refusal, next_event}
use Rattle.enet_sender.specs.CommandChoice.{Packet}
use Rattle.law_connection.specs.Examples.{example_packet, example_terms, example_limits}
use Rattle.law_connection.proofs.FirstPacket.{first_message, with_untaken, rest, first-comes}
use Rattle.enet_host.specs.Crediting.{came, no_credit}
use Rattle.enet_host.specs.Opening.{no_totals}
use Rattle.enet_host.specs.Receiving.{with_datagram_in}
use Rattle.enet_slot.specs.Giving.{unused_slot, server_from}
use Rattle.law_network.specs.declared.event.Side.TheVariants.{A, B}
use Rattle.law_network.specs.Examples.{example_config, first_name, crossing, crossed, CrossesOpened, CrossesJoined}
use Rattle.law_network.specs.Log.{Logged, fresh_channels, fresh_greatest, joined_greatest}
use Rattle.law_network.specs.World.{Runs}
use Rattle.law_network.proofs.LoneSites.{Lone, site, stands, after_submission, after_taking, header_of, logged, PutsOne, after_putting, spells, Brings, after_hearing, Obeys, free_site, beginning, offer_with, asking_peer, answering_peer, between, submit, turn, deliver, take_event, connect_event, deliver_offer}

-- the numbers of a command fit their fields

both : (a b : Bool) → (a && b) ≡ true → (a ≡ true) × (b ≡ true)
both true true h = (refl, refl)
both true false h = absurd (cc)
both false b h = absurd (cc)

abbrev fits : Field → Bool
fits f = nat_lt f.1 (256 ^ byte_len f.0)

all-fit : (fs : List Field) → list_all fits fs ≡ true → AllByRecursion Fits fs
all-fit [] h = tt
all-fit (f ∷ fs) h =
    let b = both (fits f) (list_all fits fs) h in
    let one : nat_lt f.1 (256 ^ byte_len f.0) ≡ true = b.0 in
    (grind (arith, nat_tests), all-fit fs b.1)

abbrev is_message : Message → Bool
is_message m = nat_lt m.head.channel (2 ^ 8) && (nat_lt m.head.number (2 ^ 16) && list_all fits (fields_of m.body))

message-fits : (m : Message) → is_message m ≡ true → IsMessage m
message-fits m h =
    let a = both (nat_lt m.head.channel (2 ^ 8)) (nat_lt m.head.number (2 ^ 16) && list_all fits (fields_of m.body)) h in
    let b = both (nat_lt m.head.number (2 ^ 16)) (list_all fits (fields_of m.body)) a.1 in
    record {
      channel = (let t : nat_lt m.head.channel (2 ^ 8) ≡ true = a.0 in grind (arith, nat_tests));
      number = (let t : nat_lt m.head.number (2 ^ 16) ≡ true = b.0 in grind (arith, nat_tests));
      fields = all-fit (fields_of m.body) b.1;
    }

-- a packet crosses, from a host B to a host A

abbrev pub content : Packet
content = record { flags = example_packet.flags; body = example_packet.body }

abbrev pub submitting : Lone → Lone
submitting x = after_submission x 0 content

abbrev pub sending : Lone → Lone → Lone
sending x y = after_putting B (site A y) (submitting x) first_message

-- B's next datagram
abbrev pub sent : Lone → Lone → Logged
sent x y = logged B (site A y) (submitting x) first_message

abbrev pub hearing : Lone → Lone → Peering → Lone
hearing x y q = after_hearing y (sent x y).text q

abbrev pub taking : Lone → Lone → Peering → Peering → Lone
taking x y q u = after_taking (hearing x y q) (events.Receive first_name example_packet) u

-- it makes q of the peer of A, and its taking u
pub record Crosses (x y : Lone) (k : ℕ) (q u : Peering) : Type 0 where
  pub live : x.peer.state ≢ state.Free
  pub accepted : submission_refusal x.peer 0 (length content.body) ≡ None
  pub puts : PutsOne (submitting x).peer first_message
  pub number : k ≡ length x.log
  pub brings : Brings (site B (sending x y)) (site A y) A k 0 (header_of (submitting x).peer first_message).session (Some 0) (sent x y) first_message
  pub obeys : Obeys A y (header_of (submitting x).peer first_message).session (Some 0) first_message q
  pub tells : next_event q ≡ Some (record { event = told.Receive example_packet; after = u })
  pub stays : u.state ≢ state.Free

crosses : (x y : Lone) (k : ℕ) (q u : Peering) → Crosses x y k q u → Runs (between B (site B x) (site A y)) (crossing k) (crossed k) (between B (site B (sending x y)) (site A (taking x y q u)))
crosses x y k q u c = (
  between B (site B (submitting x)) (site A y),
  submit B (site A y) x 0 content c.accepted c.live,
  (
    between B (site B (sending x y)) (site A y),
    turn B (site A y) (submitting x) first_message k c.puts c.number,
    (
      between B (site B (sending x y)) (site A (hearing x y q)),
      deliver A (site B (sending x y)) y k (header_of (submitting x).peer first_message).session (Some 0) (sent x y) first_message q c.brings c.obeys,
      (between B (site B (sending x y)) (site A (taking x y q u)), take_event A (site B (sending x y)) (hearing x y q) u (told.Receive example_packet) c.tells c.stays, refl),
    ),
  ),
)

-- between two hosts that are connected from the start

abbrev idle : Lone
idle = record { totals = no_totals; credit = no_credit; emitted = 0; peer = joined 0 example_terms example_limits; log = []; mtu = 0; numbers = joined_greatest; channels = fresh_channels; events = [] }

puts-packet : PutsOne (submitting idle).peer first_message
unfolding cutting.piece_count
puts-packet = record { messages = refl; live = λ e. absurd (cc); ranges = message-fits first_message refl; plain = refl }

crosses-idle : Crosses idle idle 0 (with_untaken idle.peer (example_packet ∷ rest)) (with_untaken idle.peer rest)
unfolding joined_greatest cutting.piece_count
crosses-idle = record {
  live = λ e. absurd (cc);
  accepted = refl;
  puts = puts-packet;
  number = refl;
  brings = record { there = refl; at = refl; of = refl; in_time = refl; spelled = spells (submitting idle).peer first_message puts-packet; plain = refl };
  obeys = record { let_in = refl; kept = refl; goes = (first-comes idle.peer refl).0; after = sym (first-comes idle.peer refl).1; live = λ e. absurd (cc) };
  tells = refl;
  stays = λ e. absurd (cc);
}

pub crosses-joined : CrossesJoined
unfolding fresh_channels
crosses-joined = (
  between B (site B (sending idle idle)) (site A (taking idle idle (with_untaken idle.peer (example_packet ∷ rest)) (with_untaken idle.peer rest))),
  crosses idle idle 0 (with_untaken idle.peer (example_packet ∷ rest)) (with_untaken idle.peer rest) crosses-idle,
  record { one = stands B (sending idle idle); two = stands A (taking idle idle (with_untaken idle.peer (example_packet ∷ rest)) (with_untaken idle.peer rest)); submitted = refl; taken = refl },
)

-- between two hosts whose slots are free: B asks, A answers, and three datagrams come

abbrev pub offer : Offer
offer = offer_with 3 9

abbrev pub reliable : Head
reliable = record { acknowledge = true; unsequenced = false; channel = 0xFF; number = 1 }

abbrev pub asking_message : Message
asking_message = record { head = reliable; body = connect offer }

abbrev pub verifying_message : Message
verifying_message = record { head = reliable; body = verify_connect (verification_of offer (server_from example_config 0 unused_slot offer)) }

abbrev pub confirming_message : Message
confirming_message = record { head = record { acknowledge = false; unsequenced = false; channel = 0xFF; number = 1 }; body = acknowledge 1 0 }

abbrev pub asking : Lone
asking = beginning no_totals no_credit (asking_peer offer)

abbrev pub asked : Lone
asked = after_putting B (free_site A) asking asking_message

abbrev pub ask : Logged
ask = logged B (free_site A) asking asking_message

abbrev pub answering : Lone
answering = beginning (with_datagram_in no_totals (length ask.text)) (came (length ask.text) no_credit) (answering_peer offer)

abbrev pub verified : Lone
verified = after_putting A (site B asked) answering verifying_message

abbrev pub verify : Logged
verify = logged A (site B asked) answering verifying_message

abbrev pub welcomed : Lone
welcomed = after_hearing asked verify.text (obeyed asked.peer 0 (Some 0) verifying_message).after

abbrev pub confirmed : Lone
confirmed = after_putting B (site A verified) welcomed confirming_message

abbrev pub confirm : Logged
confirm = logged B (site A verified) welcomed confirming_message

abbrev pub standing : Lone
standing = after_hearing verified confirm.text (obeyed verified.peer 0 None confirming_message).after

-- both users are told
abbrev pub told_asker : Lone
told_asker = after_taking confirmed (events.Connect first_name 0) (record confirmed.peer { greeting = None })

abbrev pub told_answerer : Lone
told_answerer = after_taking standing (events.Connect first_name 3) (record standing.peer { greeting = None })

pub puts-ask : PutsOne asking.peer asking_message
puts-ask = record { messages = refl; live = λ e. absurd (cc); ranges = message-fits asking_message refl; plain = refl }

pub brings-ask : Brings (site B asked) (free_site A) A 0 0xFFF (header_of asking.peer asking_message).session (Some 0) ask asking_message
unfolding fresh_greatest
brings-ask = record { there = refl; at = refl; of = refl; in_time = refl; spelled = spells asking.peer asking_message puts-ask; plain = refl }

pub puts-verify : PutsOne answering.peer verifying_message
puts-verify = record { messages = refl; live = λ e. absurd (cc); ranges = message-fits verifying_message refl; plain = refl }

pub brings-verify : Brings (site A verified) (site B asked) B 0 0 (header_of answering.peer verifying_message).session (Some 0) verify verifying_message
unfolding fresh_greatest
brings-verify = record { there = refl; at = refl; of = refl; in_time = refl; spelled = spells answering.peer verifying_message puts-verify; plain = refl }

pub puts-confirm : PutsOne welcomed.peer confirming_message
puts-confirm = record { messages = refl; live = λ e. absurd (cc); ranges = message-fits confirming_message refl; plain = refl }

pub brings-confirm : Brings (site B confirmed) (site A verified) A 1 0 (header_of welcomed.peer confirming_message).session None confirm confirming_message
unfolding fresh_greatest
brings-confirm = record { there = refl; at = refl; of = refl; in_time = refl; spelled = spells welcomed.peer confirming_message puts-confirm; plain = refl }

puts-packet-told : PutsOne (submitting told_asker).peer first_message
unfolding cutting.piece_count
puts-packet-told = record { messages = refl; live = λ e. absurd (cc); ranges = message-fits first_message refl; plain = refl }

pub crosses-told : Crosses told_asker told_answerer 2 (with_untaken told_answerer.peer (example_packet ∷ rest)) (with_untaken told_answerer.peer rest)
unfolding fresh_greatest cutting.piece_count
crosses-told = record {
  live = λ e. absurd (cc);
  accepted = refl;
  puts = puts-packet-told;
  number = refl;
  brings = record { there = refl; at = refl; of = refl; in_time = refl; spelled = spells (submitting told_asker).peer first_message puts-packet-told; plain = refl };
  obeys = record { let_in = refl; kept = refl; goes = (first-comes told_answerer.peer refl).0; after = sym (first-comes told_answerer.peer refl).1; live = λ e. absurd (cc) };
  tells = refl;
  stays = λ e. absurd (cc);
}

pub crosses-opened : CrossesOpened
unfolding fresh_channels
crosses-opened = (
  between B (site B (sending told_asker told_answerer)) (site A (taking told_asker told_answerer (with_untaken told_answerer.peer (example_packet ∷ rest)) (with_untaken told_answerer.peer rest))),
  (
    between B (site B asking) (free_site A),
    connect_event 3 9,
    (
      between B (site B asked) (free_site A),
      turn B (free_site A) asking asking_message 0 puts-ask refl,
      (
        between B (site B asked) (site A answering),
        deliver_offer (site B asked) 0 (header_of asking.peer asking_message).session (Some 0) ask reliable offer refl brings-ask,
        (
          between B (site B asked) (site A verified),
          turn A (site B asked) answering verifying_message 0 puts-verify refl,
          (
            between B (site B welcomed) (site A verified),
            deliver B (site A verified) asked 0 (header_of answering.peer verifying_message).session (Some 0) verify verifying_message welcomed.peer brings-verify
                (record { let_in = refl; kept = refl; goes = refl; after = refl; live = λ e. absurd (cc) }),
            (
              between B (site B confirmed) (site A verified),
              turn B (site A verified) welcomed confirming_message 1 puts-confirm refl,
              (
                between B (site B confirmed) (site A standing),
                deliver A (site B confirmed) verified 1 (header_of welcomed.peer confirming_message).session None confirm confirming_message standing.peer brings-confirm
                    (record { let_in = refl; kept = refl; goes = refl; after = refl; live = λ e. absurd (cc) }),
                (
                  between B (site B told_asker) (site A standing),
                  take_event B (site A standing) confirmed told_asker.peer (told.Connect 0) refl (λ e. absurd (cc)),
                  (
                    between B (site B told_asker) (site A told_answerer),
                    take_event A (site B told_asker) standing told_answerer.peer (told.Connect 3) refl (λ e. absurd (cc)),
                    crosses told_asker told_answerer 2 (with_untaken told_answerer.peer (example_packet ∷ rest)) (with_untaken told_answerer.peer rest) crosses-told,
                  ),
                ),
              ),
            ),
          ),
        ),
      ),
    ),
  ),
  record { one = stands B (sending told_asker told_answerer); two = stands A (taking told_asker told_answerer (with_untaken told_answerer.peer (example_packet ∷ rest)) (with_untaken told_answerer.peer rest)); submitted = refl; taken = refl },
)
