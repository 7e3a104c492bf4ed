-- Where no reliable command is queued and nothing waits for its acknowledgement, each reliable packet was dispatched.
use Rattle.std.proofs.Common.{◌≡◌, ℕ, ◌+◌, ◌-◌, ◌<◌, ◌≤◌, Bool, true, false, cond, List, [], ◌∷◌, ◌++◌, refl, sym, ap, subst, ◌∙◌, inl, inr, arith, Some, None}
use Rattle.std.proofs.lemmas.List.{append-nil}
use Rattle.std.specs.FinMap.{get}
use Rattle.enet_fragment.specs.PartialPacket.{count_of}
use Rattle.enet_fragment.specs.Whole.{is_whole}
use Rattle.enet_packets.specs.declared.incoming_packet.IncomingPacket.{IncomingPacket}
use Rattle.enet_receiver.specs.Receiver.{Receiver, next_whole}
use Rattle.enet_sender.specs.CommandChoice.{ChosenPacket, carried}
use Rattle.law_connection.specs.Follows.{command_count}
use Rattle.law_connection.specs.LinkSteps.{Has, bodies_of}
use Rattle.law_connection.specs.Meant.{OfReliable, Stands, has_piece}
use Rattle.law_connection.specs.Image.{reliable_count}
use Rattle.law_connection.specs.WireLink.{WireLink}
use Rattle.law_connection.specs.Keeps.{IsReceived}
use Rattle.law_connection.proofs.CarriageLemmas.{AllCut, Consumed, Consumed-append, Consumed-none, command_count-append, command_count-reliable, same_start, Has-append_right}
use Rattle.law_connection.proofs.ContentLemmas.{Ready}
use Rattle.law_connection.proofs.Makings.{has_piece-some, missing}
use Rattle.law_connection.proofs.ReceiverLemmas.{Within, Lacks}
use Rattle.law_connection.proofs.LinkLemmas.{order}
use Rattle.law_connection.proofs.Counting.{counted}
use Rattle.law_connection.proofs.Shown.{Images, Sound}
use Rattle.law_progress.specs.Links.{AllDispatched}

pub none-of_images : (mtu : ℕ) (cs : List ChosenPacket) (ns : List ℕ) → Images mtu cs ns [] → ns ≡ []
none-of_images mtu cs [] i = refl
none-of_images mtu cs (n ∷ ns) i = absurd i

-- the last number of a packet is at most the number of all reliable commands
last-counted : (cs : List ChosenPacket) (number count : ℕ) (c : ChosenPacket) → Stands cs number count c → c.reliable ≡ true → number + c.pieces ≤ command_count cs
last-counted cs number count c st rel =
    let whole : command_count cs ≡ command_count (st.before ++ c ∷ st.behind) = ap command_count st.whole in
    let split = command_count-append st.before (c ∷ st.behind) in
    let own = command_count-reliable c st.behind rel in
    let before = st.number_is in
    omega arith

-- where all numbers up to `sent` were received, and no packet goes past it, the front is there
pub front-at_last : (mtu : ℕ) (cs : List ChosenPacket) (sent : ℕ) (r : Receiver) → Ready mtu cs r → Within sent r → Lacks r → command_count cs ≡ sent → ((m : ℕ) → 0 < m → m ≤ sent → IsReceived r m) → r.front ≡ sent
front-at_last mtu cs sent r k w lacks total all = elim (order sent r.front) [
  | inl reached ↦ (let low = w.front in omega arith)
  | inr before ↦ absurd (short before)
]
  where
    -- the packet just past the front is whole
    piece_came : (e : IncomingPacket) → get r.held (r.front + 1) ≡ Some e → (q : OfReliable mtu cs (r.front + 1) e.making) → (i : ℕ) → i < q.packet.pieces → has_piece e.making i ≡ true
    piece_came e t q i low =
        let place = q.place in
        let last = last-counted cs q.number q.count q.packet q.stands q.reliable in
        elim (all (r.front + 1 + i) (omega arith) (omega arith)) [
          | inl below ↦ absurd (omega arith)
          | inr f ↦ found f.0 f.1 f.2 f.3 f.4
        ]
      where
        found : (n : ℕ) (x : IncomingPacket) → get r.held n ≡ Some x → n ≤ r.front + 1 + i → has_piece x.making (r.front + 1 + i - n) ≡ true → has_piece e.making i ≡ true
        found n x s least h =
            let p = k.held n x s in
            let b = has_piece-some x.making (r.front + 1 + i - n) h in
            let pm = p.matches in
            let inside : r.front + 1 + i - n < p.packet.pieces = (pm.pieces (r.front + 1 + i - n) b.0 b.1).0 in
            let place = q.place in
            let other = p.place in
            let same : q.number ≡ p.number = same_start cs q.number p.number q.count p.count (r.front + 1 + i) q.packet p.packet q.stands p.stands q.reliable p.reliable (omega arith) (omega arith) (omega arith) (omega arith) in
            let first : n ≡ r.front + 1 = omega arith in
            let is : Some x ≡ Some e = sym s ∙ ap (get r.held) first ∙ t in
            let it : x ≡ e = cc in
            let index : r.front + 1 + i - n ≡ i = omega arith in
            subst (λ j. has_piece e.making j ≡ true) index (subst (λ (y : IncomingPacket). has_piece y.making (r.front + 1 + i - n) ≡ true) it h)

    at_front : (e : IncomingPacket) → get r.held (r.front + 1) ≡ Some e → ⊥
    at_front e t =
        let q = k.held (r.front + 1) e t in
        let qm = q.matches in
        let size = qm.count in
        go e t (is_whole e.making) refl (λ i low. piece_came e t q i (omega arith))
      where
        go : (e : IncomingPacket) → get r.held (r.front + 1) ≡ Some e → (b : Bool) → is_whole e.making ≡ b → ((i : ℕ) → i < count_of e.making → has_piece e.making i ≡ true) → ⊥
        go e t true is came =
            let found : next_whole (get r.held (r.front + 1)) ≡ Some e = ap next_whole t ∙ ap (λ b. cond b (Some e) None) is in
            (let f : Some e ≡ None = sym found ∙ lacks.4 in cc)
        go e t false is came =
            let m = missing e.making is in
            (let f : true ≡ false = sym (came m.0 m.1) ∙ m.2 in cc)

    short : r.front < sent → ⊥
    short before = elim (all (r.front + 1) (omega arith) (omega arith)) [
      | inl below ↦ omega arith
      | inr f ↦
          let above = (w.held f.0 f.1 f.2).0 in
          let least = f.3 in
          let is : f.0 ≡ r.front + 1 = omega arith in
          at_front f.1 (ap (get r.held) (sym is) ∙ f.2)
    ]

-- nothing is queued and nothing waits
pub Consumed-all : (mtu : ℕ) (v : WireLink) → Sound mtu v → v.is_sending ≡ true → v.is_open ≡ true → reliable_count v.outgoing.queued ≡ 0 → v.outgoing.sent ≡ [] → Consumed (carried mtu v.submitted) (bodies_of v.incoming.dispatched)
Consumed-all mtu v s sending up no_queued no_sent =
    let l = s.link in
    let h = s.shows in
    let g = s.numbers in
    let o : l.is_open ≡ true = sym h.is_open ∙ up in
    let unacked : l.unacked ≡ [] = none-of_images mtu l.carried l.unacked (subst (λ x. Images mtu l.carried l.unacked x) no_sent (h.images sending)) in
    let count = counted mtu v s sending in
    let none : command_count (carried mtu v.submitted) ≡ v.greatest + 0 = count ∙ ap (λ n. v.greatest + n) no_queued in
    let same = h.greatest in
    let carries : command_count l.carried ≡ command_count (carried mtu v.submitted) = ap command_count h.carried in
    let total : command_count l.carried ≡ l.sent = omega arith in
    let front : l.receiver.front ≡ l.sent = front-at_last mtu l.carried l.sent l.receiver s.ready (g.within o) (g.gap o) total
    (λ m low high. elim (g.removed m low high) [
      | inl u ↦ absurd (subst (λ ns. Has ns m) unacked u)
      | inr k ↦ k o
    ]) in
    let p = s.ready.passed in
    let split : command_count l.carried ≡ command_count p.passed + command_count p.left = ap command_count p.whole ∙ command_count-append p.passed p.left in
    let passed = p.count in
    let nothing_left : command_count p.left ≡ 0 = omega arith in
    let cut : AllCut mtu p.left = λ c k. s.ready.cut c (subst (λ cs. Has cs c) (sym p.whole) (Has-append_right p.passed p.left c k)) in
    let bodies = bodies_of l.receiver.dispatched in
    let all : Consumed (p.passed ++ p.left) (bodies ++ []) = Consumed-append p.passed p.left bodies [] p.consumed (Consumed-none mtu p.left cut nothing_left) in
    let shown = h.incoming o in
    subst (λ cs. Consumed cs (bodies_of v.incoming.dispatched)) (sym p.whole ∙ h.carried)
    (subst (λ rs. Consumed (p.passed ++ p.left) rs) (append-nil bodies ∙ ap bodies_of (sym shown.dispatched)) all)

pub dispatched-consumed : (cs : List ChosenPacket) (rs : List (List ℕ)) → Consumed cs rs → AllDispatched cs rs
dispatched-consumed [] rs h = h
dispatched-consumed (c ∷ cs) rs (inl w) = inl (w.0, w.1, dispatched-consumed cs w.0 w.2)
dispatched-consumed (c ∷ cs) rs (inr w) = inr (w.0, dispatched-consumed cs rs w.1)
