-- How peers begin: tidy, and linked. A server that answers keeps all links.
use Rattle.std.proofs.Common.{◌≡◌, ℕ, zero, suc, ◌+◌, ◌<◌, ◌≤◌, true, false, leb, List, [], ◌++◌, map, refl, sym, ap, subst, ◌∙◌, inl, inr, arith, Option, Some, None, length}
use Rattle.std.proofs.lemmas.Bool.Decides.{nat_tests}
use Rattle.std.proofs.lemmas.List.FromFn.{length-map-range_with_len}
use Rattle.std.specs.Prelude.{min, max, IsTrue}
use Rattle.std.specs.List.{range_with_len}
use Rattle.enet_codec.specs.declared.command.Offer.{Offer}
use Rattle.enet_connect.specs.declared.terms.Terms.{Terms}
use Rattle.enet_connect.specs.declared.server.Server.{Server}
use Rattle.enet_connect.specs.Terms.{is_channel_count}
use Rattle.enet_packets.specs.declared.incoming_packet.Dispatched.{Dispatched}
use Rattle.enet_receiver.specs.Receiver.{Receiver, nothing_received}
use Rattle.enet_receiver.specs.Foresight.{ReceivingEnd}
use Rattle.enet_receiver.specs.Foresight as receiving
use Rattle.enet_sender.specs.Due.{new_end}
use Rattle.enet_peer.specs.declared.parts.Limits.{Limits}
use Rattle.enet_peer.specs.declared.parts.Offsets.{Offsets}
use Rattle.enet_peer.specs.Peering.{Peering, joined, connecting, answering}
use Rattle.law_connection.specs.LinkSteps.{fresh_link}
use Rattle.law_connection.specs.Connection.{End, Connection, packets_of, in_sequence}
use Rattle.law_connection.specs.Steps.{with_peer, no_end, asking_pair}
use Rattle.law_connection.specs.Law.{mtu_of}
use Rattle.law_connection.specs.Linked.{IsLinked, ShowsSending, ShowsReceiving}
use Rattle.law_connection.specs.Invariant.{AreInPlace, IsTidy, AreLinked}
use Rattle.enet_receiver.proofs.Sequenced.{sequenced-nothing}
use Rattle.enet_receiver.specs.Sequenced.{HasSequenced}
use Rattle.law_connection.proofs.Runs.{reached-none, and-right}
use Rattle.law_connection.proofs.Relinking.{relinks, stays}
use Rattle.law_connection.proofs.GivingWay.{AreFlat}
use Rattle.law_connection.proofs.InOrder.{new-senders, new-places, new-receivers}

-- tidy from the start

new-flat : (most a n : ℕ) → AreFlat (map (λ channel. receiving.new_end channel most) (range_with_len a n))
new-flat most a zero i r e = cc
new-flat most a (suc n) zero r e = (let same : receiving.new_end a most ≡ r = (let f : Some (receiving.new_end a most) ≡ Some r = e in cc) in
    subst (λ (x : ReceivingEnd). (x.receiver.dispatched ≡ []) × HasSequenced x.receiver) same (refl, sequenced-nothing))
new-flat most a (suc n) (suc i) r e = new-flat most (a + 1) n i r e

new-in_place : (n : ℕ) → AreInPlace (map new_end (range_with_len 0 n))
new-in_place n i s e = new-places 0 n i s e ∙ (let z : 0 + i ≡ i = omega arith in z)

new-few : (n : ℕ) → n ≤ 255 → length (map new_end (range_with_len 0 n)) ≤ 255
new-few n h = subst (λ k. k ≤ 255) (sym (length-map-range_with_len new_end 0 n)) h

pub tidy-joined : (now : ℕ) (terms : Terms) (limits : Limits) → 28 < terms.mtu → terms.channels ≤ 255 → IsTidy [] (joined now terms limits)
tidy-joined now terms limits big few = record {
  places = new-in_place terms.channels;
  few = new-few terms.channels few;
  receivers = new-flat limits.max_packet 0 terms.channels;
  young = λ t. absurd (let x : false ≡ true = t in cc);
  big = λ t. big;
}

pub least : (n : ℕ) → min n 255 ≤ 255
least n = omega arith

pub tidy-connecting : (now offset : ℕ) (offer : Offer) (limits : Limits) → IsTidy [] (connecting now offset offer limits)
tidy-connecting now offset offer limits = record {
  places = new-in_place (min offer.channels 255);
  few = new-few (min offer.channels 255) (least offer.channels);
  receivers = new-flat limits.max_packet 0 (min offer.channels 255);
  young = λ t. (refl, new-senders 0 (min offer.channels 255), new-receivers limits.max_packet 0 (min offer.channels 255));
  big = λ t. absurd (let x : false ≡ true = t in cc);
}

pub granted-few : (a b : ℕ) → IsTrue (is_channel_count a) → min a b ≤ 255
granted-few a b h = (let t : leb a 255 ≡ true = and-right (leb 1 a) (leb a 255) h in let low : a ≤ 255 = grind (arith, nat_tests) in omega arith)

granted-big : (n : ℕ) → 28 < max 576 n
granted-big n = omega arith

pub tidy-answering : (now : ℕ) (offsets : Offsets) (offer : Offer) (server : Server) (limits : Limits) → IsTrue (is_channel_count offer.channels) → IsTidy [] (answering now offsets offer server limits)
tidy-answering now offsets offer server limits count = record {
  places = new-in_place (min offer.channels server.channels);
  few = new-few (min offer.channels server.channels) (granted-few offer.channels server.channels count);
  receivers = new-flat limits.max_packet 0 (min offer.channels server.channels);
  young = λ t. (refl, new-senders 0 (min offer.channels server.channels), new-receivers limits.max_packet 0 (min offer.channels server.channels));
  big = λ t. granted-big (min (min offer.mtu server.mtu) 4096);
}

-- a server answers

-- an end without a peer has submitted nothing
unsubmitted : (own other : End) (channel : ℕ) → own.peer ≡ None → IsLinked own other channel → own.submitted ≡ []
unsubmitted own other channel none k = elim k.agreed [
  | inl e ↦ e
  | inr e ↦ absurd (let big : 28 < k.mtu = k.big in let z : mtu_of own ≡ 0 = ap (λ (o : Option Peering). mtu_of (record own { peer = o })) none in let n : k.mtu ≡ 0 = sym e ∙ z in omega arith)
]

pub both-answered : (own other : End) (now : ℕ) (offsets : Offsets) (offer : Offer) (server : Server) (limits : Limits) → own.peer ≡ None → AreLinked own other → AreLinked (with_peer own (answering now offsets offer server limits)) other
both-answered own other now offsets offer server limits none b = record {
  out = λ channel few. (let k = b.out channel few in
      let h : ShowsSending None channel k.link = subst (λ (o : Option Peering). ShowsSending o channel k.link) none k.sending in
      relinks own other new other channel k k.link (stays k.mtu k.link) refl refl refl (inl (unsubmitted own other channel none k)) (
        (λ t. (h.0, h.1 ∙ sym (new-senders 0 n channel))),
        (λ f. absurd (let x : true ≡ false = f in cc)),
        (λ f. absurd (let x : true ≡ false = f in cc)),
        (λ s e. new-in_place n channel s e),
      ) k.receiving);
  back = λ channel few. (let k = b.back channel few in
      let h : ShowsReceiving own None channel k.link = subst (λ (o : Option Peering). ShowsReceiving own o channel k.link) none k.receiving in
      let gone : in_sequence channel (packets_of own.events) ++ [] ≡ [] = ap (λ (l : List Dispatched). l ++ []) h.3 in
      relinks other own other new channel k k.link (stays k.mtu k.link) refl refl refl k.agreed k.sending (
        sym h.0,
        (λ t. h.1 ∙ sym (ap (λ (r : Receiver). record r { dispatched = in_sequence channel (packets_of own.events) ++ [] }) (new-receivers limits.max_packet 0 n channel)
            ∙ ap (λ (l : List Dispatched). record nothing_received { dispatched = l }) gone)),
        ap (λ (r : Receiver). r.dispatched) h.1 ∙ sym gone,
        h.2,
      ));
}
  where
    n : ℕ
    n = min offer.channels server.channels

    new : End
    new = with_peer own (answering now offsets offer server limits)

-- a client that asks

asking-out : (now offset : ℕ) (offer : Offer) (limits : Limits) (channel : ℕ) → IsLinked (with_peer no_end (connecting now offset offer limits)) no_end channel
asking-out now offset offer limits channel = record {
  mtu = 576;
  big = omega arith;
  agreed = inl refl;
  link = fresh_link;
  events = [];
  runs = refl;
  between = refl;
  submitted = refl;
  greatest = sym (reached-none channel 0);
  sending = (
    (λ t. (refl, sym (new-senders 0 (min offer.channels 255) channel))),
    (λ f. absurd (let x : true ≡ false = f in cc)),
    (λ f. absurd (let x : true ≡ false = f in cc)),
    (λ s e. new-in_place (min offer.channels 255) channel s e),
  );
  receiving = (refl, refl, refl, refl);
  few = omega arith;
  commands = λ p c h. absurd h;
  acks = λ p number time h. absurd h;
}

asking-back : (now offset : ℕ) (offer : Offer) (limits : Limits) (channel : ℕ) → IsLinked no_end (with_peer no_end (connecting now offset offer limits)) channel
asking-back now offset offer limits channel = record {
  mtu = 576;
  big = omega arith;
  agreed = inl refl;
  link = fresh_link;
  events = [];
  runs = refl;
  between = refl;
  submitted = refl;
  greatest = sym (reached-none channel 0);
  sending = (refl, refl);
  receiving = (refl, (λ t. sym (ap (λ (r : Receiver). record r { dispatched = [] }) (new-receivers limits.max_packet 0 (min offer.channels 255) channel))), refl, refl);
  few = omega arith;
  commands = λ p c h. absurd h;
  acks = λ p number time h. absurd h;
}

pub asking-both : (now offset : ℕ) (offer : Offer) (limits : Limits) (c : Connection) → c ≡ asking_pair now offset offer limits → AreLinked c.one c.two
asking-both now offset offer limits c e = subst (λ (x : Connection). AreLinked x.one x.two) (sym e) (record {
  out = λ channel few. asking-out now offset offer limits channel;
  back = λ channel few. asking-back now offset offer limits channel;
})
