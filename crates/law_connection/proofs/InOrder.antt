-- Links give the order: what was taken of a channel follows what was submitted on it. A joined pair begins linked.
use Rattle.std.proofs.Common.{◌≡◌, ℕ, zero, suc, ◌+◌, ◌<◌, true, false, List, [], ◌∷◌, ◌++◌, map, refl, sym, ap, subst, ◌∙◌, inl, inr, arith, Option, Some, None}
use Rattle.std.specs.List.{slice_get, range_with_len}
use Rattle.enet_connect.specs.declared.terms.Terms.{Terms}
use Rattle.enet_packets.specs.declared.incoming_packet.Dispatched.{Dispatched}
use Rattle.enet_receiver.specs.Receiver.{Receiver, nothing_received}
use Rattle.enet_receiver.specs.Foresight as receiving
use Rattle.enet_sender.specs.Sender.{nothing_sent}
use Rattle.enet_sender.specs.Due.{SendingEnd, new_end}
use Rattle.enet_peer.specs.declared.parts.Limits.{Limits}
use Rattle.enet_peer.specs.Peering.{Peering, joined}
use Rattle.law_connection.specs.Follows.{Follows, FollowsCarried}
use Rattle.law_connection.specs.WireLink.{WireLink, stops_receiving}
use Rattle.law_connection.specs.LinkSteps.{StopReceiving, fresh_link, bodies_of}
use Rattle.law_connection.proofs.LinkRuns.{follows}
use Rattle.law_connection.specs.Connection.{End, Connection, of_channel, packets_of, in_sequence}
use Rattle.law_connection.specs.Steps.{with_peer, no_end, joined_pair}
use Rattle.law_connection.specs.Law.{mtu_of}
use Rattle.law_connection.specs.Linked.{IsLinked, sender_in, receiver_in, ShowsReceiving}
use Rattle.law_connection.specs.Invariant.{AreLinked}
use Rattle.law_connection.proofs.Runs.{Runs-push, reached-none}

abbrev InOrderBy : ℕ → End → End → ℕ → Type 0
InOrderBy mtu from to channel = Follows mtu (of_channel mtu channel from.submitted) (bodies_of (in_sequence channel (packets_of to.events)))

-- for the link's mtu
by-link : (from to : End) (channel : ℕ) (k : IsLinked from to channel) → InOrderBy k.mtu from to channel
by-link from to channel k = by to.peer k.receiving
  where
    taken : List Dispatched
    taken = in_sequence channel (packets_of to.events)

    by : (o : Option Peering) → ShowsReceiving to o channel k.link → InOrderBy k.mtu from to channel
    by None h = subst (λ (l : List Dispatched). Follows k.mtu (of_channel k.mtu channel from.submitted) (bodies_of l)) (sym h.3) tt
    by (Some p) h =
        let gone : List Dispatched = in_sequence channel p.inbox.untaken in
        let w : WireLink = stops_receiving k.link k.link.incoming taken in
        let run = Runs-push k.mtu k.events (StopReceiving k.link.incoming taken gone) fresh_link k.link w k.runs (record { dispatched = h.2; after = refl }) in
        subst (λ l. Follows k.mtu l (bodies_of taken)) k.submitted (follows k.mtu (k.events ++ StopReceiving k.link.incoming taken gone ∷ []) w k.big run)

pub in-order : (from to : End) (channel : ℕ) → IsLinked from to channel → Follows (mtu_of from) (of_channel (mtu_of from) channel from.submitted) (bodies_of (in_sequence channel (packets_of to.events)))
in-order from to channel k = elim k.agreed [
  | inl none ↦ (let bodies : List (List ℕ) = bodies_of (in_sequence channel (packets_of to.events)) in
      let nothing : FollowsCarried [] bodies = subst (λ qs. Follows k.mtu (of_channel k.mtu channel qs) bodies) none (by-link from to channel k) in
      subst (λ qs. Follows (mtu_of from) (of_channel (mtu_of from) channel qs) bodies) (sym none) nothing)
  | inr e ↦ subst (λ mtu. InOrderBy mtu from to channel) (sym e) (by-link from to channel k)
]

-- at first

pub new-senders : (a n i : ℕ) → sender_in (slice_get (map new_end (range_with_len a n)) i) ≡ nothing_sent
new-senders a zero i = refl
new-senders a (suc n) zero = refl
new-senders a (suc n) (suc i) = new-senders (a + 1) n i

pub new-places : (a n i : ℕ) (s : SendingEnd) → slice_get (map new_end (range_with_len a n)) i ≡ Some s → s.channel ≡ a + i
new-places a zero i s e = cc
new-places a (suc n) zero s e = (let same : new_end a ≡ s = (let f : Some (new_end a) ≡ Some s = e in cc) in sym (ap (λ (x : SendingEnd). x.channel) same) ∙ (let z : a ≡ a + zero = omega arith in z))
new-places a (suc n) (suc i) s e = new-places (a + 1) n i s e ∙ (let z : a + 1 + i ≡ a + suc i = omega arith in z)

pub new-receivers : (most a n i : ℕ) → receiver_in (slice_get (map (λ channel. receiving.new_end channel most) (range_with_len a n)) i) ≡ nothing_received
new-receivers most a zero i = refl
new-receivers most a (suc n) zero = refl
new-receivers most a (suc n) (suc i) = new-receivers most (a + 1) n i

joined-linked : (now1 now2 : ℕ) (t1 t2 : Terms) (l1 l2 : Limits) (channel : ℕ) → 28 < t1.mtu → IsLinked (with_peer no_end (joined now1 t1 l1)) (with_peer no_end (joined now2 t2 l2)) channel
joined-linked now1 now2 t1 t2 l1 l2 channel big = record {
  mtu = t1.mtu;
  big = big;
  agreed = inl refl;
  link = fresh_link;
  events = [];
  runs = refl;
  between = refl;
  submitted = refl;
  greatest = sym (reached-none channel 0);
  sending = (
    (λ t. (refl, sym (new-senders 0 t1.channels channel))),
    (λ f. absurd (let x : true ≡ false = f in cc)),
    (λ f. absurd (let x : true ≡ false = f in cc)),
    (λ s e. new-places 0 t1.channels channel s e ∙ (let z : 0 + channel ≡ channel = omega arith in z)),
  );
  receiving = (refl, (λ t. sym (ap (λ (r : Receiver). record r { dispatched = [] }) (new-receivers l2.max_packet 0 t2.channels channel))), refl, refl);
  few = omega arith;
  commands = λ p c h. absurd h;
  acks = λ p number time h. absurd h;
}

pub joined-both : (now1 now2 : ℕ) (t1 t2 : Terms) (l1 l2 : Limits) → 28 < t1.mtu → 28 < t2.mtu → (c : Connection) → c ≡ joined_pair (record { now = now1; terms = t1; limits = l1 }) (record { now = now2; terms = t2; limits = l2 }) → AreLinked c.one c.two
joined-both now1 now2 t1 t2 l1 l2 big1 big2 c e = subst (λ (x : Connection). AreLinked x.one x.two) (sym e) (record {
  out = λ channel few. joined-linked now1 now2 t1 t2 l1 l2 channel big1;
  back = λ channel few. joined-linked now2 now1 t2 t1 l2 l1 channel big2;
})
