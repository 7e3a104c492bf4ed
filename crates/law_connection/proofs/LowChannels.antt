-- No packet in sequence is of a channel from 255 on.
use Rattle.std.proofs.Common.{◌≡◌, ℕ, ◌<◌, ◌≤◌, false, cond, ◌==◌, ◌&&◌, not, List, [], ◌∷◌, ◌++◌, map, refl, sym, ap, subst, ◌∙◌, arith, Some, length}
use Rattle.std.proofs.lemmas.Bool.Decides.{nat_tests}
use Rattle.std.proofs.lemmas.List.{length-map, length-set}
use Rattle.std.proofs.lemmas.List.FromFn.{length-map-range_with_len}
use Rattle.std.specs.List.{range_with_len}
use Rattle.enet_codec.specs.declared.packet.Packet.{Packet}
use Rattle.enet_packets.specs.declared.incoming_packet.Dispatched.{Dispatched}
use Rattle.enet_receiver.specs.Foresight.{ReceivingEnd, after_command}
use Rattle.enet_receiver.specs.Foresight as receiving
use Rattle.enet_inbox.specs.Inbox.{Inbox, cleared_receiver, is_full_for, given_way_receiver}
use Rattle.enet_inbox.specs.DataEffect.{packet_of, emptied}
use Rattle.enet_peer.specs.Peering.{Peering}
use Rattle.enet_peer.specs.Endings.{disconnecting, dropped, ended, freed, parting}
use Rattle.enet_peer.specs.declared.parts.PeerState.TheVariants.{AckDisconnect}
use Rattle.law_connection.specs.Connection.{in_sequence}
use Rattle.law_connection.specs.Invariant.{AreLow, IsLow}
use Rattle.law_connection.proofs.InboxMoves.{in_sequence-append}
use Rattle.law_connection.proofs.Commands.{unsequenced-end}
use Rattle.law_connection.proofs.PeerChanges.{Core, Changes}
use Rattle.law_connection.proofs.Runs.{inside, take-few}

pub low-append : (qs rs : List Packet) → AreLow qs → AreLow rs → AreLow (qs ++ rs)
low-append qs rs a b channel far = in_sequence-append channel qs rs ∙ ap (λ l. l ++ in_sequence channel rs) (a channel far) ∙ b channel far

low-handed : (j : ℕ) → j < 255 → (ds : List Dispatched) → AreLow (map (packet_of j) ds)
low-handed j few [] channel far = refl
low-handed j few (d ∷ ds) channel far =
    let f : (j == channel) ≡ false = grind (arith, nat_tests) in
    ap (λ b. cond (b && not (d.flags == 2)) ((record { flags = d.flags; body = d.body }) ∷ in_sequence channel (map (packet_of j) ds)) (in_sequence channel (map (packet_of j) ds))) f ∙ low-handed j few ds channel far

same : (p q : Peering) → q.inbox ≡ p.inbox → IsLow p → IsLow q
same p q e h = record { channels = subst (λ (b : Inbox). length b.receivers ≤ 255) (sym e) h.channels; untaken = subst (λ (b : Inbox). AreLow b.untaken) (sym e) h.untaken }

-- all that is undispatched is dropped
dropped-low : (p q : Peering) → q.inbox.receivers ≡ map cleared_receiver p.inbox.receivers → AreLow q.inbox.untaken → IsLow p → IsLow q
dropped-low p q e u h = record { channels = subst (λ (rs : List ReceivingEnd). length rs ≤ 255) (sym e) (subst (λ n. n ≤ 255) (sym (length-map p.inbox.receivers cleared_receiver)) h.channels); untaken = u }

none : AreLow []
none channel far = refl

pub lows : Changes IsLow
lows = record {
  quiet = λ p q e h. record { channels = subst (λ (c : Core). length c.receivers ≤ 255) (sym e) h.channels; untaken = subst (λ (c : Core). AreLow c.untaken) (sym e) h.untaken };
  controls = λ p what plain on h. record { channels = h.channels; untaken = h.untaken };
  ends = λ p why info here h. dropped-low p (ended p why info) refl h.untaken h;
  cuts = λ p why now gone over h. dropped-low p (ended p why 0) refl h.untaken h;
  frees = λ p h. dropped-low p (freed p) refl none h;
  parts = λ p info h. dropped-low p (parting p info) refl none h;
  disconnects = λ p info up h. dropped-low p (disconnecting p info) refl h.untaken h;
  answers = λ p info up h. dropped-low p (record (dropped p) { state = AckDisconnect; info = info }) refl h.untaken h;
  waits = λ p info on h. record { channels = h.channels; untaken = h.untaken };
  greets = λ p e h. record { channels = h.channels; untaken = h.untaken };
  welcomes = λ p v terms e big word h. record { channels = take-few terms.channels p.inbox.receivers h.channels; untaken = h.untaken };
  acknowledges = λ p j number here h. record { channels = h.channels; untaken = h.untaken };
  marks = λ p tick h. record { channels = h.channels; untaken = h.untaken };
  refuses = λ p at h. record { channels = h.channels; untaken = h.untaken };
  holds_back = λ p tick at h. record { channels = h.channels; untaken = h.untaken };
  gives_way = λ p on h. record { channels = subst (λ n. n ≤ 255) (sym (length-map p.inbox.receivers given_way_receiver)) h.channels; untaken = h.untaken };
  takes = λ p j r c on there h. record {
    channels = subst (λ n. n ≤ 255) (sym (length-set p.inbox.receivers j (emptied (after_command r (Some c) (is_full_for p.inbox r c))))) h.channels;
    untaken = low-append p.inbox.untaken (map (packet_of j) (after_command r (Some c) (is_full_for p.inbox r c)).receiver.dispatched) h.untaken
        (low-handed j (let i = inside p.inbox.receivers j r there in let f = h.channels in omega arith) (after_command r (Some c) (is_full_for p.inbox r c)).receiver.dispatched);
  };
  takes_unsequenced = λ p j group payload on h. record {
    channels = h.channels;
    untaken = λ channel far. unsequenced-end channel p.inbox.untaken (record { channel = j; flags = 2; body = payload }) refl ∙ h.untaken channel far;
  };
  puts_control = λ p now timeout n due h. record { channels = h.channels; untaken = h.untaken };
  puts_data = λ p k occasion s n there due h. record { channels = h.channels; untaken = h.untaken };
  drops_data = λ p k occasion s n there due h. record { channels = h.channels; untaken = h.untaken };
}

-- to which nothing came
pub low-new : (p : Peering) (most n : ℕ) → n ≤ 255 → p.inbox.receivers ≡ map (λ channel. receiving.new_end channel most) (range_with_len 0 n) → p.inbox.untaken ≡ [] → IsLow p
low-new p most n few rs us = record {
  channels = subst (λ (x : List ReceivingEnd). length x ≤ 255) (sym rs) (subst (λ k. k ≤ 255) (sym (length-map-range_with_len (λ channel. receiving.new_end channel most) 0 n)) few);
  untaken = subst AreLow (sym us) none;
}
