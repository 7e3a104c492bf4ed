-- A short run, computed.
use Rattle.std.proofs.Common.{◌≡◌, ℕ, ◌+◌, Bool, true, false, cond, leb, not, ◌&&◌, List, [], ◌∷◌, length, refl, sym, ap, subst, ◌∙◌, Option, Some, None, inl}
use Rattle.std.specs.Prelude.{◌||◌, sum_by, nat_lt, is_ok}
use Rattle.std.specs.Ordering.{nat_cmp}
use Rattle.std.specs.FinSet.{contains-empty}
use Rattle.std.specs.FinMap.{FinMap, empty, len, len-empty}
use Rattle.std.specs.Map.{values_of}
use Rattle.enet_codec.specs.declared.stop.Stop.TheVariants as stop
use Rattle.enet_fragment.specs.Cutting as cutting
use Rattle.enet_unsequenced.specs.Groups.{nothing_seen, past_base, dispatches}
use Rattle.enet_packets.specs.declared.incoming_packet.IncomingPacket.{IncomingPacket}
use Rattle.enet_packets.specs.Packets.{bytes_of, bytes_in, packets_in}
use Rattle.enet_packets.proofs.LineLemmas.{bytes_nothing}
use Rattle.enet_packets.proofs.Maps.{entries-empty}
use Rattle.enet_receiver.specs.Receiver.{nothing_received, held_bytes, held_packets}
use Rattle.enet_receiver.specs.Foresight.{ReceivingEnd}
use Rattle.enet_inbox.specs.Inbox.{Inbox, is_full, untaken_of, given_way}
use Rattle.enet_inbox.specs.DataEffect.{DataEffect, handled, stopped, unsequenced, unsequenced_taken, is_waiting, met, plain_arrival}
use Rattle.enet_outbox.specs.Emission.{unsequenced_of}
use Rattle.enet_peer.specs.declared.parts.PeerEvent.TheVariants as told
use Rattle.enet_peer.specs.Peering.{Peering, joined}
use Rattle.enet_peer.specs.CommandEffect.{obeyed, by_arrival}
use Rattle.law_connection.specs.LinkSteps.{Has}
use Rattle.law_connection.specs.Connection as connection
use Rattle.law_connection.specs.Connection.{Put, End, Connection}
use Rattle.law_connection.specs.Steps.{One, Two, Submit, Emit, Come, Take, InTime, joined_pair, with_submission, with_emission, with_peer}
use Rattle.law_connection.specs.Examples.{example_terms, example_limits, example_end, OfSomeJoined}
use Rattle.law_unsequenced.specs.Examples.{loose_packet, HasTaken}

abbrev here : Peering
here = joined 0 example_terms example_limits

abbrev peer_of : Option Peering → Peering
peer_of None = here
peer_of (Some p) = p

abbrev pair : Connection
pair = joined_pair example_end example_end

abbrev submitted : End
submitted = with_submission pair.one here loose_packet

abbrev emitted : End
emitted = with_emission submitted pair.two (peer_of submitted.peer) 0

abbrev put : Put
put = record { message = unsequenced_of (record { channel = 0; group = 1; body = 7 ∷ 8 ∷ [] }); sent_then = 0 }

emitted-log : emitted.log ≡ put ∷ []
unfolding cutting.piece_count connection.reached
emitted-log = refl

-- it comes: its group is new, and nothing waits

abbrev inbox : Inbox
inbox = here.inbox

abbrev taken : Inbox
taken = unsequenced_taken inbox 0 1 (7 ∷ 8 ∷ [])

abbrev effect : (new full : Bool) → DataEffect
effect new full = cond (not new) (handled inbox true) (cond full (stopped inbox stop.Waiting) (handled taken true))

new : dispatches nothing_seen 1 ≡ true
new = ap (λ t. nat_lt (past_base 0 1) 32768 && not t) (contains-empty nat_cmp 1)

nothing-in : bytes_in empty ≡ 0
nothing-in = ap (λ (es : List (ℕ × FinMap nat_cmp IncomingPacket)). sum_by bytes_of (values_of es)) entries-empty

nothing-held : held_bytes nothing_received ≡ 0
nothing-held = ap (λ n. n + bytes_in empty) bytes_nothing ∙ ap (λ n. 0 + n) nothing-in

none-in : packets_in empty ≡ 0
none-in = ap (λ (es : List (ℕ × FinMap nat_cmp IncomingPacket)). sum_by len (values_of es)) entries-empty

none-held : held_packets nothing_received ≡ 0
none-held = ap (λ n. n + packets_in empty) (len-empty nat_cmp IncomingPacket) ∙ ap (λ n. 0 + n) none-in

light : is_full inbox ≡ false
light =
    ap (λ n. leb 1000 (sum_by (λ (r : ReceivingEnd). n) inbox.receivers + untaken_of inbox) || leb 1024 (sum_by (λ (r : ReceivingEnd). held_packets r.receiver) inbox.receivers + length inbox.untaken)) nothing-held
    ∙ ap (λ n. leb 1000 0 || leb 1024 (sum_by (λ (r : ReceivingEnd). n) inbox.receivers + length inbox.untaken)) none-held

is : unsequenced inbox 0 1 (7 ∷ 8 ∷ []) ≡ effect true false
is = ap (λ t. effect t (is_full inbox)) new ∙ ap (effect true) light

abbrev arrived : End
arrived = with_peer pair.two (record here { inbox = taken })

-- so nothing gives way to it
met-here : met inbox put.message ≡ inbox
met-here = ap (λ (e : DataEffect). cond (is_waiting e.answer && is_ok (plain_arrival (given_way inbox) put.message).answer) (given_way inbox) inbox) is

comes : arrived ≡ with_peer pair.two (obeyed here 0 None put.message).after
comes = sym (ap (λ (b : Inbox). with_peer pair.two (by_arrival here put.message None (plain_arrival b put.message)).after) met-here
    ∙ ap (λ (e : DataEffect). with_peer pair.two (by_arrival here put.message None e).after) is)

abbrev took : End
took = record arrived { peer = Some (record here { inbox = record taken { untaken = [] } }); events = told.Receive loose_packet ∷ [] }

in-time : InTime pair.two emitted put
in-time = record {
  logged = subst (λ (l : List Put). Has l put) (sym emitted-log) (inl refl);
  of_data = λ few c e. absurd (cc);
  of_acknowledgement = λ few number time e. absurd (cc);
}

pub a-packet-is-taken : OfSomeJoined HasTaken
unfolding cutting.piece_count connection.reached
a-packet-is-taken = (
  (One, Submit loose_packet) ∷ (One, Emit 0) ∷ (Two, Come put 0 None) ∷ (Two, Take) ∷ [],
  record { one = emitted; two = took },
  (
    record { one = submitted; two = pair.two },
    ((here, refl, refl, refl), refl),
    (
      record { one = emitted; two = pair.two },
      ((peer_of submitted.peer, refl, refl), refl),
      (
        record { one = emitted; two = arrived },
        ((here, refl, in-time, false, comes), refl),
        (
          record { one = emitted; two = took },
          ((record here { inbox = taken }, record here { inbox = record taken { untaken = [] } }, told.Receive loose_packet, refl, refl, refl), refl),
          refl,
        ),
      ),
    ),
  ),
  (refl, refl),
)
