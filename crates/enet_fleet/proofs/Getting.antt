-- What an end alone gets unsequenced, event by event, whatever the other end is: as `law_unsequenced` has it of two.
use Rattle.std.proofs.Common.{◌≡◌, ◌≢◌, ℕ, ◌+◌, ◌≤◌, Bool, true, false, cond, List, [], ◌∷◌, ◌++◌, map, refl, sym, ap, subst, ◌∙◌, inl, inr, Option, Some, None, slice_get}
use Rattle.std.specs.Prelude.{filter}
use Rattle.std.proofs.lemmas.List.{append-nil}
use Rattle.enet_codec.specs.declared.packet.Packet.{Packet}
use Rattle.enet_unsequenced.specs.Groups.{nothing_seen}
use Rattle.enet_unsequenced.proofs.OnceLemmas.{each_once}
use Rattle.enet_receiver.specs.Foresight.{ReceivingEnd}
use Rattle.enet_receiver.specs.Sequenced.{HasSequenced}
use Rattle.enet_outbox.specs.declared.parts.Unsequenced.{Unsequenced}
use Rattle.enet_outbox.specs.Emission.{filled}
use Rattle.enet_peer.specs.Peering.{Peering, answering}
use Rattle.enet_peer.specs.declared.parts.PeerEvent.{PeerEvent}
use Rattle.enet_peer.specs.Calls.{moved, pace_of, gone_on, submitted}
use Rattle.enet_peer.specs.Endings.{freed}
use Rattle.enet_peer.specs.Refusing.{heeded, told_again}
use Rattle.law_connection.specs.LinkSteps.{Has}
use Rattle.law_connection.specs.Connection.{Put, End, packets_of}
use Rattle.law_connection.specs.Steps.{Event, Answer, Submit, Emit, Come, Tick, Take, Disconnect, Set, GiveWay, TellAgain, Happens, with_setting}
use Rattle.law_connection.specs.Invariant.{IsFit, is_young}
use Rattle.law_connection.proofs.FitEnds.{fit-peer}
use Rattle.law_unsequenced.specs.Unsequenced.{come_unsequenced, come_by, carried, TakenAs, ComeAs, Each}
use Rattle.law_unsequenced.specs.Law.{AreInTime, AreDistinct}
use Rattle.law_unsequenced.proofs.Parts.{IsPart, part-front, part-of_map, each-part, each-map, pairs-part}
use Rattle.law_unsequenced.proofs.Staying.{core, Stays, Becomes, packet_in, moved-stays, left-stays, set-stays, gone_on-stays, heeded-becomes, freed-stays, told_again-stays}
use Rattle.law_unsequenced.proofs.Taking.{Gets, seen_in, untaken_in, gets-more, gets-took, all-dispatched}

as-taken : (qs : List Packet) (n : ℕ) (u : Unsequenced) → ComeAs qs n u → TakenAs qs n (packet_in u)
as-taken qs n u h = h.1

-- what passed a test passes it
pub true-in : {X : Type 0} (p : X → Bool) (xs : List X) (x : X) → Has (filter p xs) x → p x ≡ true
true-in p [] x h = absurd h
true-in p (y ∷ ys) x h = by (p y) refl h (λ k. true-in p ys x k)
  where
    by : (b : Bool) → p y ≡ b → Has (cond b (y ∷ filter p ys) (filter p ys)) x → (Has (filter p ys) x → p x ≡ true) → p x ≡ true
    by true e (inl same) rest = subst (λ z. p z ≡ true) same e
    by true e (inr more) rest = rest more
    by false e more rest = rest more

-- what an end took is some of what it kept, and of that each once, where none comes late
pub taken-once : (qs : List Packet) (come : List Unsequenced) (events : List PeerEvent) (o : Option Peering) → Gets come events o → (numbers : List ℕ) → Each (ComeAs qs) numbers come → AreInTime numbers
    → (took : List ℕ) × Each (TakenAs qs) took (come_unsequenced (packets_of events)) × AreDistinct took
taken-once qs come events o g numbers each in_time =
    let a = each-part (ComeAs qs) numbers come g.kept each g.part in
    let distinct : AreDistinct a.0 = subst AreDistinct (all-dispatched qs nothing_seen a.0 g.kept a.2 g.go) (each_once a.0 (pairs-part (λ earlier later. earlier ≤ later + 32768) a.0 numbers a.1 in_time)) in
    let b = part-of_map packet_in (come_unsequenced (packets_of events)) g.kept (part-front (come_unsequenced (packets_of events)) (untaken_in o) (map packet_in g.kept) g.got) in
    let c = each-part (ComeAs qs) a.0 g.kept b.0 a.2 b.1 in
    (c.0, subst (Each (TakenAs qs) c.0) b.2 (each-map (TakenAs qs) (ComeAs qs) packet_in (as-taken qs) c.0 b.0 c.2), pairs-part (λ earlier later. earlier ≢ later) c.0 a.0 c.1 distinct)

receivers-of : (own : End) (p : Peering) → own.peer ≡ Some p → IsFit own → (i : ℕ) (r : ReceivingEnd) → slice_get p.inbox.receivers i ≡ Some r → HasSequenced r.receiver
receivers-of own p is f i r there = let k = fit-peer own p is f in let t = k.0 in let x = t.receivers i r there in x.1

coming : (own : End) (full : Bool) (p : Peering) (put : Put) (now : ℕ) (sent : Option ℕ) → own.peer ≡ Some p → IsFit own → Becomes (is_young p.state) (carried put.message) (core p) (core (heeded full p now sent put.message).after)
coming own full p put now sent is f = heeded-becomes full p now sent put.message (receivers-of own p is f)

with-peer : (come : List Unsequenced) (e : End) (o : Option Peering) → e.peer ≡ o → Gets come e.events e.peer → Gets come e.events o
with-peer come e o is g = subst (Gets come e.events) is g

abbrev GetsTo : List Unsequenced → End → Type 0
GetsTo come x = Gets come x.events x.peer

gets-staying : (come : List Unsequenced) (own : End) (p q : Peering) → own.peer ≡ Some p → Stays (core p) (core q) → Gets come own.events own.peer → Gets (come ++ []) own.events (Some q)
gets-staying come own p q is h g = gets-more come [] own.events (Some p) q (inl (h.seen, h.untaken)) (with-peer come own (Some p) is g)

pub into : (own other new : End) (e : Event) (come : List Unsequenced) → IsFit own → Happens own other e new → Gets come own.events own.peer → Gets (come ++ come_by e) new.events new.peer
into own other new (Answer put offer now offsets server limits) come f h g =
    subst (GetsTo (come ++ [])) (sym h.4) (gets-more come [] own.events None (answering now offsets offer server limits) (inl (refl, inl refl)) (with-peer come own None h.0 g))
into own other new (Submit q) come f h g =
    let p : Peering = h.0 in
    subst (GetsTo (come ++ [])) (sym h.3)
    (gets-more come [] own.events (Some p) (submitted p q.channel (record { flags = q.flags; body = q.body })) (inl (refl, inl refl)) (with-peer come own (Some p) h.1 g))
into own other new (Emit now) come f h g =
    let p : Peering = h.0 in
    let between : Peering = record p { outbox = (filled (pace_of p now) p.outbox).outbox } in
    let k = gone_on-stays between in
    subst (GetsTo (come ++ [])) (sym h.2) (gets-more come [] own.events (Some p) (gone_on between) (inl (k.seen, k.untaken)) (with-peer come own (Some p) h.1 g))
into own other new (Come put now sent) come f h g =
    let p : Peering = h.0 in
    let b = coming own h.3 p put now sent h.1 f in
    subst (GetsTo (come ++ carried put.message)) (sym h.4) (gets-more come (carried put.message) own.events (Some p) (heeded h.3 p now sent put.message).after b.comes (with-peer come own (Some p) h.1 g))
into own other new (Tick now) come f h g = subst (GetsTo (come ++ [])) (sym h.3) (gets-staying come own h.0 (moved h.2 h.0 now) h.1 (moved-stays h.2 h.0 now) g)
into own other new Take come f h g =
    subst (GetsTo (come ++ [])) (sym h.5) (subst (λ l. Gets l (own.events ++ h.2 ∷ []) (Some h.1)) (sym (append-nil come)) (gets-took come own.events h.0 h.1 h.2 h.4 (with-peer come own (Some h.0) h.3 g)))
into own other new (Disconnect way info) come f h g = subst (GetsTo (come ++ [])) (sym h.4) (gets-staying come own h.0 h.1 h.2 (left-stays h.0 h.1 way info h.3) g)
into own other new (Set setting) come f h g = subst (GetsTo (come ++ [])) (sym h.3) (gets-staying come own h.0 (with_setting setting h.0) h.1 (set-stays h.0 setting) g)
into own other new GiveWay come f h g = subst (GetsTo (come ++ [])) (sym h.3) (gets-staying come own h.0 (freed h.0) h.1 (freed-stays h.0) g)
into own other new TellAgain come f h g = subst (GetsTo (come ++ [])) (sym h.3) (gets-staying come own h.0 (told_again h.0) h.1 (told_again-stays h.0) g)

-- what comes was put out by the other end
pub comes-of : (own other new : End) (e : Event) → Happens own other e new → (u : Unsequenced) → Has (come_by e) u → (x : Put) × Has other.log x × Has (carried x.message) u
comes-of own other new (Answer put offer now offsets server limits) h u c = absurd c
comes-of own other new (Submit q) h u c = absurd c
comes-of own other new (Emit now) h u c = absurd c
comes-of own other new (Come put now sent) h u c = (let t = h.2 in (put, t.logged, c))
comes-of own other new (Tick now) h u c = absurd c
comes-of own other new Take h u c = absurd c
comes-of own other new (Disconnect way info) h u c = absurd c
comes-of own other new (Set setting) h u c = absurd c
comes-of own other new GiveWay h u c = absurd c
comes-of own other new TellAgain h u c = absurd c

-- nothing came, and nothing was taken
pub gets-first : (e : End) → e.events ≡ [] → seen_in e.peer ≡ nothing_seen → untaken_in e.peer ≡ [] → Gets [] e.events e.peer
gets-first e events seen untaken = record { kept = []; part = tt; go = tt; seen = seen; got = subst (λ l. IsPart l []) (sym none) tt }
  where
    none : come_unsequenced (packets_of e.events) ++ untaken_in e.peer ≡ []
    none = ap (λ (es : List PeerEvent). come_unsequenced (packets_of es) ++ untaken_in e.peer) events ∙ untaken
