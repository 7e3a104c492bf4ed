-- The law, by induction over the events of a connection.
use Rattle.std.proofs.Common.{◌≡◌, ◌≢◌, ℕ, ◌+◌, ◌<◌, ◌≤◌, Bool, true, false, cond, ◌==◌, eq-eqb, List, [], ◌∷◌, ◌++◌, map, refl, sym, ap, subst, ◌∙◌, inl, inr, ◌⊎◌, Option, Some, None, slice_get}
use Rattle.std.specs.Prelude.{filter}
use Rattle.std.proofs.lemmas.List.{append-nil, append_assoc}
use Rattle.enet_codec.specs.declared.packet.Packet.{Packet}
use Rattle.enet_codec.specs.declared.command.Offer.{Offer}
use Rattle.enet_unsequenced.specs.Groups.{nothing_seen}
use Rattle.enet_unsequenced.proofs.OnceLemmas.{each_once}
use Rattle.enet_connect.specs.declared.terms.Terms.{Terms}
use Rattle.enet_receiver.specs.Foresight.{ReceivingEnd}
use Rattle.enet_receiver.specs.Sequenced.{HasSequenced}
use Rattle.enet_outbox.specs.declared.parts.Unsequenced.{Unsequenced}
use Rattle.enet_outbox.specs.Outbox.{Outbox, is_unsequenced}
use Rattle.enet_outbox.specs.Emission.{filled}
use Rattle.enet_peer.specs.Peering.{Peering, joined, connecting, answering}
use Rattle.enet_peer.specs.declared.parts.Limits.{Limits}
use Rattle.enet_peer.specs.declared.parts.PeerEvent.{PeerEvent}
use Rattle.enet_peer.specs.Calls.{pace_of, gone_on, submitted, moved, next_event}
use Rattle.enet_peer.specs.Endings.{freed}
use Rattle.enet_peer.specs.Refusing.{heeded, told_again}
use Rattle.law_connection.specs.LinkSteps.{Has}
use Rattle.law_connection.specs.Connection.{Put, End, Connection, packets_of}
use Rattle.law_connection.specs.Steps.{Side, One, Two, Event, Answer, Submit, Emit, Come, Tick, Take, Disconnect, Set, GiveWay, TellAgain, Happens, HappensAt, Runs, with_peer, with_setting, no_end, joined_pair, asking_pair}
use Rattle.law_connection.specs.Law.{mtu_of, IsLawful}
use Rattle.law_connection.specs.Numbers.{Agree}
use Rattle.law_connection.specs.Invariant.{PeerFits, IsFit, Invariant, is_young}
use Rattle.law_connection.proofs.Events.{took}
use Rattle.law_connection.proofs.FitEnds.{fit-peer}
use Rattle.law_connection.proofs.Laws.{kept-at as kept-event, joined-kept as connection-joined, asking-kept as connection-asking, lawful as connection-lawful, agree as connection-agree, big-of}
use Rattle.law_connection.proofs.Emits.{Has-from_map}
use Rattle.law_connection.proofs.Lists.{Has-append_cases, Has-filter, Has-from_filter}
use Rattle.law_unsequenced.specs.Unsequenced.{going_unsequenced, come_unsequenced, submitted_by, taken_by, come_by, come_at, come_to, carried, TakenAs, ComeAs, Each}
use Rattle.law_unsequenced.specs.Law.{AreInTime, AreDistinct, GoesAs, EachSubmitted, IsFair, AreFair, JoinedLaw, AskingLaw}
use Rattle.law_unsequenced.proofs.Parts.{IsPart, part-front, part-has, part-of_map, each-part, each-map, each-found, pairs-part}
use Rattle.law_unsequenced.proofs.Staying.{core, Stays, Becomes, packet_in, moved-stays, left-stays, set-stays, gone_on-stays, heeded-becomes, freed-stays, told_again-stays}
use Rattle.law_unsequenced.proofs.Sending.{IsOne, one-more, SendsAt, Goes, goes-on, goes-emitted, goes-submitted, goes-answered}
use Rattle.law_unsequenced.proofs.Taking.{Gets, seen_in, untaken_in, gets-more, gets-took, all-dispatched}

-- from one end to another, to which these came
pub record Flows (from to : End) (come : List Unsequenced) : Type 0 where
  pub sends : SendsAt from
  pub came : (u : Unsequenced) → Has come u → IsOne (submitted_by from) u
  pub gets : Gets come to.events to.peer

-- the law comes of it

as-taken : (qs : List Packet) (n : ℕ) (u : Unsequenced) → ComeAs qs n u → TakenAs qs n (packet_in u)
as-taken qs n u h = h.1

abbrev goes : ℕ → Packet → Bool
goes mtu q = is_unsequenced mtu (record { flags = q.flags; body = q.body })

Has-here : {X : Type 0} (before later : List X) (x : X) → Has (before ++ x ∷ later) x
Has-here [] later x = inl refl
Has-here (y ∷ before) later x = inr (Has-here before later x)

-- what passed a test passes it
true-in : {X : Type 0} (p : X → Bool) (xs : List X) (x : X) → Has (filter p xs) x → p x ≡ true
true-in p [] x h = absurd h
true-in p (y ∷ ys) x h = by (p y) refl h (λ k. true-in p ys x k)
  where
    by : (b : Bool) → p y ≡ b → Has (cond b (y ∷ filter p ys) (filter p ys)) x → (Has (filter p ys) x → p x ≡ true) → p x ≡ true
    by true e (inl same) rest = subst (λ z. p z ≡ true) same e
    by true e (inr more) rest = rest more
    by false e more rest = rest more

fair : (from to : End) (come : List Unsequenced) → Flows from to come → IsFair from to come
fair from to come h = record { taken = was-submitted; came = each-found (ComeAs qs) come h.came; once = at-most-once }
  where
    qs : List Packet
    qs = submitted_by from

    g : Gets come to.events to.peer
    g = h.gets

    -- what was taken is some of what was kept
    part : IsPart (taken_by to) (map packet_in g.kept)
    part = part-front (taken_by to) (untaken_in to.peer) (map packet_in g.kept) g.got

    -- one of the packets that go unsequenced
    found : (mtu : ℕ) (all : List Packet) (q : Packet) (n : ℕ) → TakenAs (going_unsequenced mtu all) n q → (p : Packet) × Has all p × GoesAs mtu p q
    found mtu all q n t =
        let p : Packet = t.packet in
        let there : Has (going_unsequenced mtu all) p = subst (λ l. Has l p) (sym t.split) (Has-here t.before t.later p) in
        (p, Has-from_filter (goes mtu) all p there, record { unsequenced = true-in (goes mtu) all p there; channel = t.channel_is; body = t.body_is })

    was-submitted : (q : Packet) → Has (packets_of to.events) q → q.flags ≡ 2 → (p : Packet) × Has from.submitted p × GoesAs (mtu_of from) p q
    was-submitted q t two =
        let there : Has (taken_by to) q = Has-filter (λ (x : Packet). x.flags == 2) (packets_of to.events) q t (eq-eqb q.flags 2 two) in
        let r = Has-from_map packet_in g.kept q (part-has (taken_by to) (map packet_in g.kept) q part there) in
        let one = h.came r.0 (part-has g.kept come r.0 g.part r.1) in
        found (mtu_of from) from.submitted q one.0 (subst (TakenAs qs one.0) r.2 (as-taken qs one.0 r.0 one.1))

    at-most-once : (numbers : List ℕ) → Each (ComeAs qs) numbers come → AreInTime numbers → (took : List ℕ) × Each (TakenAs qs) took (taken_by to) × AreDistinct took
    at-most-once numbers each in_time =
        let a = each-part (ComeAs qs) numbers come g.kept each g.part in
        let distinct : AreDistinct a.0 = subst AreDistinct (all-dispatched qs nothing_seen a.0 g.kept a.2 g.go) (each_once a.0 (pairs-part (λ earlier later. earlier ≤ later + 32768) a.0 numbers a.1 in_time)) in
        let b = part-of_map packet_in (taken_by to) g.kept part in
        let c = each-part (ComeAs qs) a.0 g.kept b.0 a.2 b.1 in
        (c.0, subst (Each (TakenAs qs) c.0) b.2 (each-map (TakenAs qs) (ComeAs qs) packet_in (as-taken qs) c.0 b.0 c.2), pairs-part (λ earlier later. earlier ≢ later) c.0 a.0 c.1 distinct)

-- each event keeps it at the end that sends

took-outbox : (p q : Peering) (e : PeerEvent) → next_event p ≡ Some (record { event = e; after = q }) → (q.terms ≡ p.terms) × (q.outbox ≡ p.outbox)
took-outbox p q e next = took (λ q e. (q.terms ≡ p.terms) × (q.outbox ≡ p.outbox)) p q e next (λ info g. (refl, refl)) (λ x rest g u. (refl, refl)) (λ g u at. (refl, refl))

goes-took : (own : End) (p q : Peering) (e : PeerEvent) → own.peer ≡ Some p → next_event p ≡ Some (record { event = e; after = q }) → SendsAt own → Goes own own.log own.submitted (Some q)
goes-took own p q e is next s =
    let k = took-outbox p q e next in
    goes-on own own.log p q is (inl (ap (λ (t : Terms). t.mtu) k.0)) (ap (λ (o : Outbox). o.group) k.1) (λ u w. subst (λ (o : Outbox). Has o.unsequenced u) k.1 w) (λ x u there c. inl there) s

goes-staying : (own : End) (p q : Peering) → own.peer ≡ Some p → Stays (core p) (core q) → SendsAt own → Goes own own.log own.submitted (Some q)
goes-staying own p q is h s = goes-on own own.log p q is (inl h.mtu) h.group h.waiting (λ x u there c. inl there) s

receivers-of : (own : End) (p : Peering) → own.peer ≡ Some p → IsFit own → (i : ℕ) (r : ReceivingEnd) → slice_get p.inbox.receivers i ≡ Some r → HasSequenced r.receiver
receivers-of own p is f i r there = let k = fit-peer own p is f in let t = k.0 in let x = t.receivers i r there in x.1

coming : (own : End) (full : Bool) (p : Peering) (put : Put) (now : ℕ) (sent : Option ℕ) → own.peer ≡ Some p → IsFit own → Becomes (is_young p.state) (carried put.message) (core p) (core (heeded full p now sent put.message).after)
coming own full p put now sent is f = heeded-becomes full p now sent put.message (receivers-of own p is f)

abbrev GoesTo : End → End → Type 0
GoesTo own x = Goes own x.log x.submitted x.peer

out : (own other new : End) (e : Event) → IsFit own → Happens own other e new → SendsAt own → Goes own new.log new.submitted new.peer
out own other new (Answer put offer now offsets server limits) f h s =
    let none : own.submitted ≡ [] = subst (λ (o : Option Peering). PeerFits own.submitted o) h.0 f.peer in
    subst (GoesTo own) (sym h.4) (goes-answered own now offsets offer server limits h.0 none s)
out own other new (Submit q) f h s = subst (GoesTo own) (sym h.3) (goes-submitted own h.0 q h.1 s)
out own other new (Emit now) f h s = subst (GoesTo own) (sym h.2) (goes-emitted own other h.0 now h.1 s)
out own other new (Come put now sent) f h s =
    let p : Peering = h.0 in
    let q : Peering = (heeded h.3 p now sent put.message).after in
    let b = coming own h.3 p put now sent h.1 f in
    let k = fit-peer own p h.1 f in
    let t = k.0 in
    let mtu : (q.terms.mtu ≡ p.terms.mtu) ⊎ (own.submitted ≡ []) = elim b.mtu [ inl same ↦ inl same | inr young ↦ (let y = t.young young in inr y.0) ] in
    subst (GoesTo own) (sym h.4) (goes-on own own.log p q h.1 mtu b.group b.waiting (λ x u there c. inl there) s)
out own other new (Tick now) f h s = subst (GoesTo own) (sym h.3) (goes-staying own h.0 (moved h.2 h.0 now) h.1 (moved-stays h.2 h.0 now) s)
out own other new Take f h s = subst (GoesTo own) (sym h.5) (goes-took own h.0 h.1 h.2 h.3 h.4 s)
out own other new (Disconnect way info) f h s = subst (GoesTo own) (sym h.4) (goes-staying own h.0 h.1 h.2 (left-stays h.0 h.1 way info h.3) s)
out own other new (Set setting) f h s = subst (GoesTo own) (sym h.3) (goes-staying own h.0 (with_setting setting h.0) h.1 (set-stays h.0 setting) s)
out own other new GiveWay f h s = subst (GoesTo own) (sym h.3) (goes-staying own h.0 (freed h.0) h.1 (freed-stays h.0) s)
out own other new TellAgain f h s = subst (GoesTo own) (sym h.3) (goes-staying own h.0 (told_again h.0) h.1 (told_again-stays h.0) s)

-- and at the end that takes

with-peer : (come : List Unsequenced) (e : End) (o : Option Peering) → e.peer ≡ o → Gets come e.events e.peer → Gets come e.events o
with-peer come e o is g = subst (Gets come e.events) is g

abbrev GetsTo : List Unsequenced → End → Type 0
GetsTo come x = Gets come x.events x.peer

gets-staying : (come : List Unsequenced) (own : End) (p q : Peering) → own.peer ≡ Some p → Stays (core p) (core q) → Gets come own.events own.peer → Gets (come ++ []) own.events (Some q)
gets-staying come own p q is h g = gets-more come [] own.events (Some p) q (inl (h.seen, h.untaken)) (with-peer come own (Some p) is g)

into : (own other new : End) (e : Event) (come : List Unsequenced) → IsFit own → Happens own other e new → Gets come own.events own.peer → Gets (come ++ come_by e) new.events new.peer
into own other new (Answer put offer now offsets server limits) come f h g =
    subst (GetsTo (come ++ [])) (sym h.4) (gets-more come [] own.events None (answering now offsets offer server limits) (inl (refl, inl refl)) (with-peer come own None h.0 g))
into own other new (Submit q) come f h g =
    let p : Peering = h.0 in
    subst (GetsTo (come ++ [])) (sym h.3)
    (gets-more come [] own.events (Some p) (submitted p q.channel (record { flags = q.flags; body = q.body })) (inl (refl, inl refl)) (with-peer come own (Some p) h.1 g))
into own other new (Emit now) come f h g =
    let p : Peering = h.0 in
    let between : Peering = record p { outbox = (filled (pace_of p now) p.outbox).outbox } in
    let k = gone_on-stays between in
    subst (GetsTo (come ++ [])) (sym h.2) (gets-more come [] own.events (Some p) (gone_on between) (inl (k.seen, k.untaken)) (with-peer come own (Some p) h.1 g))
into own other new (Come put now sent) come f h g =
    let p : Peering = h.0 in
    let b = coming own h.3 p put now sent h.1 f in
    subst (GetsTo (come ++ carried put.message)) (sym h.4) (gets-more come (carried put.message) own.events (Some p) (heeded h.3 p now sent put.message).after b.comes (with-peer come own (Some p) h.1 g))
into own other new (Tick now) come f h g = subst (GetsTo (come ++ [])) (sym h.3) (gets-staying come own h.0 (moved h.2 h.0 now) h.1 (moved-stays h.2 h.0 now) g)
into own other new Take come f h g =
    subst (GetsTo (come ++ [])) (sym h.5) (subst (λ l. Gets l (own.events ++ h.2 ∷ []) (Some h.1)) (sym (append-nil come)) (gets-took come own.events h.0 h.1 h.2 h.4 (with-peer come own (Some h.0) h.3 g)))
into own other new (Disconnect way info) come f h g = subst (GetsTo (come ++ [])) (sym h.4) (gets-staying come own h.0 h.1 h.2 (left-stays h.0 h.1 way info h.3) g)
into own other new (Set setting) come f h g = subst (GetsTo (come ++ [])) (sym h.3) (gets-staying come own h.0 (with_setting setting h.0) h.1 (set-stays h.0 setting) g)
into own other new GiveWay come f h g = subst (GetsTo (come ++ [])) (sym h.3) (gets-staying come own h.0 (freed h.0) h.1 (freed-stays h.0) g)
into own other new TellAgain come f h g = subst (GetsTo (come ++ [])) (sym h.3) (gets-staying come own h.0 (told_again h.0) h.1 (told_again-stays h.0) g)

-- what comes was put out by the other end
comes-of : (own other new : End) (e : Event) → Happens own other e new → (u : Unsequenced) → Has (come_by e) u → (x : Put) × Has other.log x × Has (carried x.message) u
comes-of own other new (Answer put offer now offsets server limits) h u c = absurd c
comes-of own other new (Submit q) h u c = absurd c
comes-of own other new (Emit now) h u c = absurd c
comes-of own other new (Come put now sent) h u c = (let t = h.2 in (put, t.logged, c))
comes-of own other new (Tick now) h u c = absurd c
comes-of own other new Take h u c = absurd c
comes-of own other new (Disconnect way info) h u c = absurd c
comes-of own other new (Set setting) h u c = absurd c
comes-of own other new GiveWay h u c = absurd c
comes-of own other new TellAgain h u c = absurd c

-- an event at the end that sends, and one at the end that takes

flows-out : (own other new : End) (e : Event) (come : List Unsequenced) → IsFit own → Happens own other e new → Flows own other come → Flows new other come
flows-out own other new e come fit h f =
    let g = out own other new e fit h f.sends in
    record { sends = g.sends; came = λ u c. subst (λ qs. IsOne qs u) (sym g.grows) (one-more (submitted_by own) g.more u (f.came u c)); gets = f.gets }

flows-in : (own other new : End) (e : Event) (come : List Unsequenced) → IsFit own → Happens own other e new → Flows other own come → Flows other new (come ++ come_by e)
flows-in own other new e come fit h f = record {
  sends = f.sends;
  came = λ u c. elim (Has-append_cases come (come_by e) u c) [
    | inl old ↦ f.came u old
    | inr new' ↦ (let r = comes-of own other new e h u new' in let s = f.sends in s.logged r.0 u r.1 r.2)
  ];
  gets = into own other new e come fit h f.gets;
}

-- both ways
pub record Both (a b : List Unsequenced) (c : Connection) : Type 0 where
  pub forth : Flows c.one c.two a
  pub back : Flows c.two c.one b

both-at : (joined : Bool) (side : Side) (e : Event) (c d : Connection) (a b : List Unsequenced) → HappensAt side e c d → Invariant joined c → Both a b c → Both (a ++ come_at Two side e) (b ++ come_at One side e) d
both-at joined One e c d a b h k f = record {
  forth = subst (λ l. Flows d.one d.two l) (sym (append-nil a)) (subst (λ (x : End). Flows d.one x a) (sym h.1) (flows-out c.one c.two d.one e a k.one h.0 f.forth));
  back = subst (λ (x : End). Flows x d.one (b ++ come_by e)) (sym h.1) (flows-in c.one c.two d.one e b k.one h.0 f.back);
}
both-at joined Two e c d a b h k f = record {
  forth = subst (λ (x : End). Flows x d.two (a ++ come_by e)) (sym h.1) (flows-in c.two c.one d.two e a k.two h.0 f.forth);
  back = subst (λ l. Flows d.two d.one l) (sym (append-nil b)) (subst (λ (x : End). Flows d.two x b) (sym h.1) (flows-out c.two c.one d.two e b k.two h.0 f.back));
}

-- lists that are equal
both-same : (a b x y : List Unsequenced) (c : Connection) → x ≡ a → y ≡ b → Both a b c → Both x y c
both-same a b x y c e f h = subst (λ l. Both l y c) (sym e) (subst (λ l. Both a l c) (sym f) h)

both-runs : (joined : Bool) (es : List (Side × Event)) (c d : Connection) (a b : List Unsequenced) → Runs es c d → Invariant joined c → Both a b c → Both (a ++ come_to Two es) (b ++ come_to One es) d
both-runs joined [] c d a b r k f = subst (Both (a ++ []) (b ++ [])) r (both-same a b (a ++ []) (b ++ []) c (append-nil a) (append-nil b) f)
both-runs joined (e ∷ es) c d a b r k f =
    let at-two : List Unsequenced = come_at Two e.0 e.1 in
    let at-one : List Unsequenced = come_at One e.0 e.1 in
    both-same ((a ++ at-two) ++ come_to Two es) ((b ++ at-one) ++ come_to One es) (a ++ (at-two ++ come_to Two es)) (b ++ (at-one ++ come_to One es)) d
    (sym (append_assoc a at-two (come_to Two es))) (sym (append_assoc b at-one (come_to One es)))
    (both-runs joined es r.0 d (a ++ at-two) (b ++ at-one) r.2 (kept-event joined e.0 e.1 c r.0 r.1 k) (both-at joined e.0 e.1 c r.0 a b r.1 k f))

-- what every run of a connection keeps, of unsequenced packets too
pub record Kept (joined : Bool) (c : Connection) : Type 0 where
  pub connection : Invariant joined c
  pub to_one : List Unsequenced  -- what came to the one end, and to the other
  pub to_two : List Unsequenced
  pub both : Both to_two to_one c

pub kept-at : (joined : Bool) (side : Side) (e : Event) (c d : Connection) → HappensAt side e c d → Kept joined c → Kept joined d
kept-at joined side e c d h k = record {
  connection = kept-event joined side e c d h k.connection;
  to_one = k.to_one ++ come_at One side e;
  to_two = k.to_two ++ come_at Two side e;
  both = both-at joined side e c d k.to_two k.to_one h k.connection k.both;
}

pub lawful : (joined : Bool) (c : Connection) → Kept joined c → IsLawful joined c
lawful joined c k = connection-lawful joined c k.connection

pub agree : (joined : Bool) (c : Connection) → Kept joined c → Agree c
agree joined c k = connection-agree joined c k.connection

pub each-submitted : (joined : Bool) (c : Connection) → Kept joined c → EachSubmitted c.one c.two × EachSubmitted c.two c.one
each-submitted joined c k = (let b = k.both in let forth = fair c.one c.two k.to_two b.forth in let back = fair c.two c.one k.to_one b.back in (forth.taken, back.taken))

-- at first

first : (from to : End) → SendsAt from → to.events ≡ [] → seen_in to.peer ≡ nothing_seen → untaken_in to.peer ≡ [] → Flows from to []
first from to s events seen untaken = record {
  sends = s;
  came = λ u c. absurd c;
  gets = record { kept = []; part = tt; go = tt; seen = seen; got = subst (λ l. IsPart l []) (sym none) tt };
}
  where
    none : come_unsequenced (packets_of to.events) ++ untaken_in to.peer ≡ []
    none = ap (λ (es : List PeerEvent). come_unsequenced (packets_of es) ++ untaken_in to.peer) events ∙ untaken

sends-first : (p : Peering) → p.outbox.group ≡ 0 → p.outbox.unsequenced ≡ [] → SendsAt (with_peer no_end p)
sends-first p group none = record {
  logged = λ x u there c. absurd there;
  queued = record { group_is = group; waits = λ u w. absurd (subst (λ l. Has l u) none w) };
}

both-fair : (events : List (Side × Event)) (c : Connection) → Both (come_to Two events) (come_to One events) c → AreFair events c
both-fair events c f = (fair c.one c.two (come_to Two events) f.forth, fair c.two c.one (come_to One events) f.back)

joined-first : (now1 now2 : ℕ) (t1 t2 : Terms) (l1 l2 : Limits) → Both [] [] (joined_pair (record { now = now1; terms = t1; limits = l1 }) (record { now = now2; terms = t2; limits = l2 }))
joined-first now1 now2 t1 t2 l1 l2 =
    let e1 : End = with_peer no_end (joined now1 t1 l1) in
    let e2 : End = with_peer no_end (joined now2 t2 l2) in
    record { forth = first e1 e2 (sends-first (joined now1 t1 l1) refl refl) refl refl refl; back = first e2 e1 (sends-first (joined now2 t2 l2) refl refl) refl refl refl }

asking-first : (now offset : ℕ) (offer : Offer) (limits : Limits) → Both [] [] (asking_pair now offset offer limits)
asking-first now offset offer limits =
    let e1 : End = with_peer no_end (connecting now offset offer limits) in
    record {
      forth = first e1 no_end (sends-first (connecting now offset offer limits) refl refl) refl refl refl;
      back = first no_end e1 (record { logged = λ x u there c. absurd there; queued = tt }) refl refl refl;
    }

pub joined-kept : (now1 now2 : ℕ) (t1 t2 : Terms) (l1 l2 : Limits) → 28 < t1.mtu → 28 < t2.mtu → t1.channels ≤ 255 → t2.channels ≤ 255 → Kept true (joined_pair (record { now = now1; terms = t1; limits = l1 }) (record { now = now2; terms = t2; limits = l2 }))
joined-kept now1 now2 t1 t2 l1 l2 big1 big2 few1 few2 =
    record { connection = connection-joined now1 now2 t1 t2 l1 l2 big1 big2 few1 few2; to_one = []; to_two = []; both = joined-first now1 now2 t1 t2 l1 l2 }

pub asking-kept : (now offset : ℕ) (offer : Offer) (limits : Limits) → Kept false (asking_pair now offset offer limits)
asking-kept now offset offer limits = record { connection = connection-asking now offset offer limits; to_one = []; to_two = []; both = asking-first now offset offer limits }

pub joined-law : JoinedLaw
joined-law one two events c big1 big2 few1 few2 r =
    both-fair events c (both-runs true events (joined_pair one two) c [] [] r
    (connection-joined one.now two.now one.terms two.terms one.limits two.limits (big-of one.terms.mtu big1) (big-of two.terms.mtu big2) few1 few2)
    (joined-first one.now two.now one.terms two.terms one.limits two.limits))

pub asking-law : AskingLaw
asking-law now offset offer limits events c r = both-fair events c (both-runs false events (asking_pair now offset offer limits) c [] [] r (connection-asking now offset offer limits) (asking-first now offset offer limits))
