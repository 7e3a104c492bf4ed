-- The laws, by induction over the events of a connection.
use Rattle.std.proofs.Common.{ℕ, ◌<◌, ◌≤◌, Bool, true, false, List, [], ◌∷◌, refl, sym, subst, inl, inr, arith}
use Rattle.std.specs.Prelude.{min}
use Rattle.enet_codec.specs.declared.command.Offer.{Offer}
use Rattle.enet_connect.specs.declared.terms.Terms.{Terms}
use Rattle.enet_packets.specs.declared.incoming_packet.Dispatched.{Dispatched}
use Rattle.enet_peer.specs.declared.parts.Limits.{Limits}
use Rattle.enet_peer.specs.Peering.{joined, connecting}
use Rattle.law_connection.specs.Follows.{Follows}
use Rattle.law_connection.specs.LinkSteps.{bodies_of}
use Rattle.law_connection.specs.Connection.{End, Connection, of_channel}
use Rattle.law_connection.specs.Steps.{Side, One, Two, Event, HappensAt, Runs, with_peer, no_end, joined_pair, asking_pair}
use Rattle.law_connection.specs.Law.{mtu_of, IsInOrder, IsLawful, OfEachJoined, OfEachAsking, JoinedLaw, AskingLaw}
use Rattle.law_connection.specs.Invariant.{IsFit, AreLinked, Invariant}
use Rattle.law_connection.specs.Life.{LivesOn}
use Rattle.law_connection.specs.Numbers.{Agree}
use Rattle.law_connection.proofs.Runs.{less-or-not}
use Rattle.law_connection.proofs.Agreement.{agree-on}
use Rattle.law_connection.proofs.Events.{both-happens}
use Rattle.law_connection.proofs.InOrder.{in-order, joined-both}
use Rattle.law_connection.proofs.CleanLogs.{clean-nothing}
use Rattle.law_connection.proofs.LowChannels.{low-new}
use Rattle.law_connection.proofs.Beginnings.{tidy-joined, tidy-connecting, asking-both, least}
use Rattle.law_connection.proofs.LifeChanges.{one-life, life-happens}
use Rattle.law_connection.proofs.FitEnds.{fit-peer, fit-happens}

swapped : (a b : End) → AreLinked a b → AreLinked b a
swapped a b k = record { out = k.back; back = k.out }

pub kept-at : (joined : Bool) (side : Side) (e : Event) (c d : Connection) → HappensAt side e c d → Invariant joined c → Invariant joined d
kept-at joined One e c d h k = record {
  both = subst (λ (x : End). AreLinked d.one x) (sym h.1) (both-happens c.one c.two d.one e (λ p is. let f = fit-peer c.one p is k.one in f.0) (let t = k.two in t.clean) k.both h.0);
  one = fit-happens c.one c.two d.one e k.one h.0;
  two = subst IsFit (sym h.1) k.two;
  life_one = life-happens joined c.one c.two d.one e k.life_one h.0;
  life_two = subst (λ (x : End). LivesOn joined x) (sym h.1) k.life_two;
}
kept-at joined Two e c d h k = record {
  both = subst (λ (x : End). AreLinked x d.two) (sym h.1) (swapped d.two c.one (both-happens c.two c.one d.two e (λ p is. let f = fit-peer c.two p is k.two in f.0) (let t = k.one in t.clean) (swapped c.one c.two k.both) h.0));
  one = subst IsFit (sym h.1) k.one;
  two = fit-happens c.two c.one d.two e k.two h.0;
  life_one = subst (λ (x : End). LivesOn joined x) (sym h.1) k.life_one;
  life_two = life-happens joined c.two c.one d.two e k.life_two h.0;
}

kept-runs : (joined : Bool) (es : List (Side × Event)) (c d : Connection) → Runs es c d → Invariant joined c → Invariant joined d
kept-runs joined [] c d r k = subst (Invariant joined) r k
kept-runs joined (e ∷ es) c d r k = kept-runs joined es r.0 d r.2 (kept-at joined e.0 e.1 c r.0 r.1 k)

ordered : (from to : End) → AreLinked from to → IsFit to → IsInOrder from to
ordered from to k f channel = elim (less-or-not channel 255) [
  | inl few ↦ in-order from to channel (k.out channel few)
  | inr far ↦ subst (λ (l : List Dispatched). Follows (mtu_of from) (of_channel (mtu_of from) channel from.submitted) (bodies_of l)) (sym (f.taken channel far)) tt
]

pub lawful : (joined : Bool) (c : Connection) → Invariant joined c → IsLawful joined c
lawful joined c k = record {
  forth = ordered c.one c.two k.both k.two;
  back = ordered c.two c.one (swapped c.one c.two k.both) k.one;
  life_one = one-life joined c.one k.life_one;
  life_two = one-life joined c.two k.life_two;
}

-- how both pairs begin

fit-joined : (now : ℕ) (t : Terms) (l : Limits) → 28 < t.mtu → t.channels ≤ 255 → IsFit (with_peer no_end (joined now t l))
fit-joined now t l big few = record {
  clean = clean-nothing (with_peer no_end (joined now t l)) refl;
  taken = λ channel far. refl;
  peer = (tidy-joined now t l big few, low-new (joined now t l) l.max_packet t.channels few refl refl);
}

pub joined-kept : (now1 now2 : ℕ) (t1 t2 : Terms) (l1 l2 : Limits) → 28 < t1.mtu → 28 < t2.mtu → t1.channels ≤ 255 → t2.channels ≤ 255 → Invariant true (joined_pair (record { now = now1; terms = t1; limits = l1 }) (record { now = now2; terms = t2; limits = l2 }))
joined-kept now1 now2 t1 t2 l1 l2 big1 big2 few1 few2 = record {
  both = joined-both now1 now2 t1 t2 l1 l2 big1 big2 (joined_pair (record { now = now1; terms = t1; limits = l1 }) (record { now = now2; terms = t2; limits = l2 })) refl;
  one = fit-joined now1 t1 l1 big1 few1;
  two = fit-joined now2 t2 l2 big2 few2;
  life_one = inl (refl, tt);
  life_two = inl (refl, tt);
}

pub asking-kept : (now offset : ℕ) (offer : Offer) (limits : Limits) → Invariant false (asking_pair now offset offer limits)
asking-kept now offset offer limits = record {
  both = asking-both now offset offer limits (asking_pair now offset offer limits) refl;
  one = record {
    clean = clean-nothing (with_peer no_end (connecting now offset offer limits)) refl;
    taken = λ channel far. refl;
    peer = (tidy-connecting now offset offer limits, low-new (connecting now offset offer limits) limits.max_packet (min offer.channels 255) (least offer.channels) refl refl);
  };
  two = record { clean = clean-nothing no_end refl; taken = λ channel far. refl; peer = refl };
  life_one = (refl, record { none = refl; greeting = refl; untaken = refl });
  life_two = (refl, refl);
}

pub big-of : (n : ℕ) → 576 ≤ n → 28 < n
big-of n h = omega arith

-- each run keeps the invariant

kept-joined : OfEachJoined (Invariant true)
kept-joined one two events c big1 big2 few1 few2 r =
    kept-runs true events (joined_pair one two) c r (joined-kept one.now two.now one.terms two.terms one.limits two.limits (big-of one.terms.mtu big1) (big-of two.terms.mtu big2) few1 few2)

kept-asking : OfEachAsking (Invariant false)
kept-asking now offset offer limits events c r = kept-runs false events (asking_pair now offset offer limits) c r (asking-kept now offset offer limits)

pub joined-law : JoinedLaw
joined-law one two events c big1 big2 few1 few2 r = lawful true c (kept-joined one two events c big1 big2 few1 few2 r)

pub asking-law : AskingLaw
asking-law now offset offer limits events c r = lawful false c (kept-asking now offset offer limits events c r)

-- and with it the ends agree on the numbers

pub agree : (joined : Bool) (c : Connection) → Invariant joined c → Agree c
agree joined c k channel few = let b = k.both in (agree-on c.one c.two channel (b.out channel few), agree-on c.two c.one channel (b.back channel few))

pub joined-agree : OfEachJoined Agree
joined-agree one two events c big1 big2 few1 few2 r = agree true c (kept-joined one two events c big1 big2 few1 few2 r)

pub asking-agree : OfEachAsking Agree
asking-agree now offset offer limits events c r = agree false c (kept-asking now offset offer limits events c r)
