-- Where a client keeps the rules, a receiver is ready for its commands, and what it dispatched follows its packets.
use Rattle.std.proofs.Common.{◌≡◌, ℕ, ◌+◌, ◌%◌, ◌≤◌, Bool, true, false, cond, ◌&&◌, List, [], refl, sym, ap, subst, ◌∙◌, inl, inr, ◌⊎◌, arith, Option, Some, None}
use Rattle.std.specs.Prelude.{unwrap_or}
use Rattle.std.specs.Ordering.{nat_cmp}
use Rattle.std.specs.FinMap.{FinMap, get, insert, empty, get-empty}
use Rattle.enet_seq.specs.Windows.{ahead, in_window, fragment_in_window}
use Rattle.enet_seq.specs.Numbering.{unbounded, number_read, start_read}
use Rattle.enet_seq.proofs.WindowsLemmas.{behind_is_outside, ahead_true}
use Rattle.enet_fragment.specs.PartialPacket.{PartialPacket, count_of, with_piece}
use Rattle.enet_fragment.specs.declared.data.DataCommand.{DataCommand}
use Rattle.enet_fragment.specs.DataCommand.{piece_of, place_in_packet}
use Rattle.enet_packets.specs.declared.incoming_packet.IncomingPacket.{IncomingPacket}
use Rattle.enet_packets.specs.Packets.{line_at, with_line}
use Rattle.enet_receiver.specs.Receiver.{Receiver, nothing_received}
use Rattle.enet_receiver.specs.DataOutcome.{came_at, earlier_or_new, with_added, received}
use Rattle.enet_receiver.proofs.Maps.{get_inserted, two_numbers}
use Rattle.enet_sender.specs.CommandChoice.{ChosenPacket}
use Rattle.law_connection.specs.Follows.{FollowsCarried}
use Rattle.law_connection.specs.Link.{wired}
use Rattle.law_connection.specs.Meant.{IsPieceOf, has_piece}
use Rattle.law_connection.proofs.Makings.{count_of-with, has_piece-with_same}
use Rattle.law_connection.proofs.CarriageLemmas.{IsCut, AllCut, Stands, Stands-has, Follows-consumed}
use Rattle.law_connection.proofs.ContentLemmas.{Matches, OfReliable, OfUnreliable, bodies_of, Ready, Ready-dispatched, Ready-flush, waiting-replaced_same, waiting-replaced_other, none-wait}
use Rattle.law_connection.proofs.PieceLemmas.{says, tells, same_reliable, same_unreliable, Matches-more}
use Rattle.law_connection.proofs.Runs.{less-or-not}
use Rattle.law_one_end.specs.OneEnd.{Heard}
use Rattle.law_one_end.specs.Rules.{IsInReach, KeepsRules}
use Rattle.law_one_end.proofs.Rows.{Covers}
use Rattle.law_one_end.proofs.Taking.{IsTaken, grown, received-keeps, added-reliable, added-unreliable}

pub all-cut : (mtu : ℕ) (cs : List ChosenPacket) (channel : ℕ) (came : List Heard) → KeepsRules mtu cs channel came → AllCut mtu cs
all-cut mtu cs channel came k c there = (let e = k.even c there in record { some' = e.some_piece; few = e.few; covered = e.covered; tight = e.tight })

pub fewer-keep : (mtu : ℕ) (cs : List ChosenPacket) (channel : ℕ) (came more : List Heard) → Covers came more → KeepsRules mtu cs channel more → KeepsRules mtu cs channel came
fewer-keep mtu cs channel came more sub k = record { even = k.even; sent = λ h there on. k.sent h (sub h there) on }

-- a number in reach is read as itself, or as nothing

reads-number : (front n : ℕ) → front ≤ n + 32768 → n ≤ front + 65535 → (number_read unbounded front (n % 65536) ≡ None) ⊎ (number_read unbounded front (n % 65536) ≡ Some n)
reads-number front n late early = elim (less-or-not n front) [
  | inl behind ↦ inl (ap (λ b. cond b (Some (front + ahead (front % 65536) (n % 65536))) None) (behind_is_outside front n behind (omega arith)))
  | inr above ↦ by above (in_window (front % 65536) (n % 65536))
]
  where
    by : front ≤ n → (b : Bool) → (cond b (Some (front + ahead (front % 65536) (n % 65536))) None ≡ None) ⊎ (cond b (Some (front + ahead (front % 65536) (n % 65536))) None ≡ Some n)
    by above true = (let a = ahead_true front n above (omega arith) in let is : front + ahead (front % 65536) (n % 65536) ≡ n = omega arith in inr (ap Some is))
    by above false = inl refl

and-right-false : (a b : Bool) → b ≡ false → (a && b) ≡ false
and-right-false true b e = e
and-right-false false b e = refl

reads-start : (front start own : ℕ) → start ≤ own → own ≤ start + 16383 → front ≤ own + 32768 → own ≤ front + 65535
    → (start_read unbounded front (start % 65536) (own % 65536) ≡ None) ⊎ (start_read unbounded front (start % 65536) (own % 65536) ≡ Some start)
reads-start front start own low length late early = elim (less-or-not start front) [
  | inr above ↦ by above (fragment_in_window (front % 65536) (start % 65536) (own % 65536))
  | inl behind ↦ elim (less-or-not (start + 36864) front) [
    | inl far ↦ outside (and-right-false (in_window (front % 65536) (start % 65536)) (in_window (front % 65536) (own % 65536)) (behind_is_outside front own (omega arith) (omega arith)))
    | inr near ↦ outside (ap (λ b. b && in_window (front % 65536) (own % 65536)) (behind_is_outside front start behind near))
  ]
]
  where
    at : ℕ
    at = front + ahead (front % 65536) (start % 65536)

    outside : fragment_in_window (front % 65536) (start % 65536) (own % 65536) ≡ false
        → (start_read unbounded front (start % 65536) (own % 65536) ≡ None) ⊎ (start_read unbounded front (start % 65536) (own % 65536) ≡ Some start)
    outside e = inl (ap (λ b. cond b (Some at) None) e)

    by : front ≤ start → (b : Bool) → (cond b (Some at) None ≡ None) ⊎ (cond b (Some at) None ≡ Some start)
    by above true = (let a = ahead_true front start above (omega arith) in let is : at ≡ start = omega arith in inr (ap Some is))
    by above false = inl refl

read-is : (o : Option ℕ) (place n : ℕ) → o ≡ Some place → (o ≡ None) ⊎ (o ≡ Some n) → place ≡ n
read-is o place n e (inl f) = absurd (let g : Some place ≡ None = sym e ∙ f in cc)
read-is o place n e (inr f) = (let g : Some place ≡ Some n = sym e ∙ f in let is : place ≡ n = cc in is)

-- a piece is added to a reliable packet
ready-reliable : (mtu : ℕ) (cs : List ChosenPacket) (r : Receiver) (d : DataCommand) (p : IsPieceOf mtu cs d) → Ready mtu cs r → d.reliable ≡ true
    → Ready mtu cs (record r { held = insert r.held (p.number + 1) (grown r (wired d) (p.number + 1)) })
ready-reliable mtu cs r d p k rel =
    let c = p.packet in
    let start = p.number + 1 in
    let sd = says mtu cs d p in
    let cr : c.reliable ≡ true = sym sd.reliable ∙ rel in
    let e : IncomingPacket = grown r (wired d) start in
    let cut : IsCut mtu c = k.cut c (Stands-has cs p.number p.count c p.stands) in
    let came' : came_at r (wired d) start ≡ get r.held start = ap (λ b. cond b (get r.held start) (get (line_at r.waiting start) d.unreliable)) rel in
    let matches : Matches mtu e.making c = Matches-more mtu (came_at r (wired d) start) d c p.number p.count p.index p.inside sd (tells mtu cs d p cut) (λ x t.
    let q = k.held start x (sym came' ∙ t) in
    let qp = q.place in
    let n : q.number ≡ p.number = omega arith in
    let qcut = k.cut q.packet (Stands-has cs q.number q.count q.packet q.stands) in
    let same : q.packet ≡ c = same_reliable cs p.number q.count p.count q.packet c (subst (λ z. Stands cs z q.count q.packet) n q.stands) p.stands q.reliable cr qcut.some' cut.some' in
    subst (λ y. Matches mtu x.making y) same q.matches) in
    let before : PartialPacket = (earlier_or_new (came_at r (wired d) start) (wired d)).making in
    let before_count : count_of before ≡ c.pieces = sym (count_of-with before (place_in_packet (wired d)) d.body) ∙ matches.count in
    let inside = p.inside in
    let own = sd.index_is in
    let has : has_piece e.making p.index ≡ true =
    subst (λ j. has_piece (with_piece before (place_in_packet (wired d)) d.body) j ≡ true) sd.index_is (has_piece-with_same before (place_in_packet (wired d)) d.body (omega arith)) in
    record {
      cut = k.cut;
      waiting = k.waiting;
      passed = k.passed;
      held = λ n x t. elim (get_inserted r.held start n e x t) [
        | inl w ↦ subst (λ y. OfReliable mtu cs n y.making) w.1 (record { packet = c; number = p.number; count = p.count; place = w.0; stands = p.stands; reliable = cr; matches = matches; begun = (p.index, has) })
        | inr w ↦ k.held n x w.1
      ];
    }

-- and to an unreliable one
ready-unreliable : (mtu : ℕ) (cs : List ChosenPacket) (r : Receiver) (d : DataCommand) (p : IsPieceOf mtu cs d) → Ready mtu cs r → d.reliable ≡ false
    → Ready mtu cs (record r { waiting = with_line r.waiting p.number (insert (line_at r.waiting p.number) d.unreliable (grown r (wired d) p.number)) })
ready-unreliable mtu cs r d p k rel =
    let c = p.packet in
    let n = p.number in
    let sd = says mtu cs d p in
    let cr : c.reliable ≡ false = sym sd.reliable ∙ rel in
    let count : d.unreliable ≡ p.count + 1 = sd.unreliable ∙ ap (λ b. cond b 0 (p.count + 1)) cr in
    let e : IncomingPacket = grown r (wired d) n in
    let came' : came_at r (wired d) n ≡ get (line_at r.waiting n) d.unreliable = ap (λ b. cond b (get r.held n) (get (line_at r.waiting n) d.unreliable)) rel in
    let matches : Matches mtu e.making c = Matches-more mtu (came_at r (wired d) n) d c p.number p.count p.index p.inside sd (tells mtu cs d p (k.cut c (Stands-has cs p.number p.count c p.stands))) (λ x t.
    let q = k.waiting n d.unreliable x (sym came' ∙ t) in
    let qp = q.place in
    let z : q.count ≡ p.count = omega arith in
    let same : q.packet ≡ c = same_unreliable mtu cs n p.count q.packet c k.cut (subst (λ y. Stands cs n y q.packet) z q.stands) p.stands q.reliable cr in
    subst (λ y. Matches mtu x.making y) same q.matches) in
    let packets : FinMap nat_cmp IncomingPacket = insert (line_at r.waiting n) d.unreliable e in
    record {
      cut = k.cut;
      held = k.held;
      passed = k.passed;
      waiting = λ m q x t. elim (two_numbers m n) [
        | inl same ↦
            let here : get packets q ≡ Some x = ap (λ y. get y q) (sym (waiting-replaced_same r.waiting n packets)) ∙ subst (λ z. get (unwrap_or (get (with_line r.waiting n packets) z) empty) q ≡ Some x) same t in
            elim (get_inserted (line_at r.waiting n) d.unreliable q e x here) [
              | inl w ↦ subst (λ y. OfUnreliable mtu cs m q y.making) w.1 (record { packet = c; count = p.count; place = w.0 ∙ count; stands = subst (λ z. Stands cs z p.count c) (sym same) p.stands; reliable = cr; matches = matches })
              | inr w ↦ subst (λ z. OfUnreliable mtu cs z q x.making) (sym same) (k.waiting n q x w.1)
            ]
        | inr apart ↦ k.waiting m q x (ap (λ (o : Option (FinMap nat_cmp IncomingPacket)). get (unwrap_or o empty) q) (sym (waiting-replaced_other r.waiting n m packets apart)) ∙ t)
      ];
    }

ready-added : (mtu : ℕ) (cs : List ChosenPacket) (most : ℕ) (r : Receiver) (d : DataCommand) (place : ℕ) (p : IsPieceOf mtu cs d) → r.front ≤ d.number + 32768 → d.number ≤ r.front + 65535
    → Ready mtu cs r → IsTaken most r (wired d) place → Ready mtu cs (with_added r (wired d) place (grown r (wired d) place))
ready-added mtu cs most r d place p late early k t = by d.reliable refl
  where
    by : (b : Bool) → d.reliable ≡ b → Ready mtu cs (with_added r (wired d) place (grown r (wired d) place))
    by true rel =
        let c = p.packet in
        let sd = says mtu cs d p in
        let cr : c.reliable ≡ true = sym sd.reliable ∙ rel in
        let own : d.number ≡ p.number + (p.index + 1) = sd.own ∙ ap (λ b. cond b (p.number + (p.index + 1)) p.number) cr in
        let cut : IsCut mtu c = k.cut c (Stands-has cs p.number p.count c p.stands) in
        let few = cut.few in
        let inside = p.inside in
        let read : start_read unbounded r.front ((p.number + 1) % 65536) (d.number % 65536) ≡ Some place =
        sym (ap (λ b. cond b (start_read unbounded r.front (piece_of (wired d)).start (d.number % 65536)) (number_read unbounded r.front (d.number % 65536))) rel
        ∙ ap (λ n. start_read unbounded r.front n (d.number % 65536)) (sd.start cr)) ∙ t.read in
        let is : place ≡ p.number + 1 = read-is _ place (p.number + 1) read (reads-start r.front (p.number + 1) d.number (omega arith) (omega arith) late early) in
        subst (λ n. Ready mtu cs (with_added r (wired d) n (grown r (wired d) n))) (sym is)
        (subst (Ready mtu cs) (sym (added-reliable r (wired d) (p.number + 1) (grown r (wired d) (p.number + 1)) rel)) (ready-reliable mtu cs r d p k rel))
    by false rel =
        let sd = says mtu cs d p in
        let cr : p.packet.reliable ≡ false = sym sd.reliable ∙ rel in
        let own : d.number ≡ p.number = sd.own ∙ ap (λ b. cond b (p.number + (p.index + 1)) p.number) cr in
        let read : number_read unbounded r.front (d.number % 65536) ≡ Some place =
        sym (ap (λ b. cond b (start_read unbounded r.front (piece_of (wired d)).start (d.number % 65536)) (number_read unbounded r.front (d.number % 65536))) rel) ∙ t.read in
        let is : place ≡ p.number = read-is _ place d.number read (reads-number r.front d.number late early) ∙ own in
        subst (λ n. Ready mtu cs (with_added r (wired d) n (grown r (wired d) n))) (sym is)
        (subst (Ready mtu cs) (sym (added-unreliable r (wired d) p.number (grown r (wired d) p.number) rel)) (ready-unreliable mtu cs r d p k rel))

pub ready-received : (mtu : ℕ) (cs : List ChosenPacket) (most : ℕ) (r : Receiver) (h : Heard) (full : Bool) → IsInReach mtu cs h → h.front ≡ r.front
    → Ready mtu cs r → Ready mtu cs (received unbounded most r h.command full)
ready-received mtu cs most r h full i at k =
    let late = i.not_late in
    let early = i.not_early in
    subst (λ c. Ready mtu cs (received unbounded most r c full)) (sym i.on_the_wire)
    (received-keeps (Ready mtu cs) (λ x c e w h. Ready-dispatched mtu cs x c e w h) (λ x h. Ready-flush mtu cs x h) most r (wired i.meant) full k
    (λ place t. ready-added mtu cs most r i.meant place i.piece (omega arith) (omega arith) k t))

pub ready-nothing : (mtu : ℕ) (cs : List ChosenPacket) → AllCut mtu cs → Ready mtu cs nothing_received
ready-nothing mtu cs cut = record {
  cut = cut;
  held = λ n e t. absurd (let f : get (empty {X = IncomingPacket} {R = nat_cmp}) n ≡ None = get-empty nat_cmp n in cc);
  waiting = λ n q e t. absurd (let f : Some e ≡ None = sym t ∙ none-wait n q in cc);
  passed = record { passed = []; left = cs; whole = refl; consumed = refl; count = refl; last = refl };
}

pub ready-follows : (mtu : ℕ) (cs : List ChosenPacket) (r : Receiver) → Ready mtu cs r → FollowsCarried cs (bodies_of r.dispatched)
ready-follows mtu cs r k = (let p = k.passed in subst (λ l. FollowsCarried l (bodies_of r.dispatched)) (sym p.whole) (Follows-consumed p.passed p.left (bodies_of r.dispatched) p.consumed))
