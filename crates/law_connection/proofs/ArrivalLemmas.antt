-- What a command of the log does to the receiver.
use Rattle.std.proofs.Common.{◌≡◌, ◌≢◌, ℕ, ◌+◌, ◌-◌, ◌%◌, ◌<◌, ◌≤◌, Bool, true, false, cond, ◌||◌, if◌then◌else◌, List, ◌++◌, refl, sym, ap, subst, ◌∙◌, inl, inr, ◌⊎◌, arith, Option, Some, None}
use Rattle.std.proofs.lemmas.Bool.Decides.{nat_tests}
use Rattle.std.specs.Ordering.{nat_cmp}
use Rattle.std.specs.Option.{is_some, is_none}
use Rattle.std.specs.Prelude.{nat_le, unwrap_or, ◌&&◌, ◌==◌}
use Rattle.std.specs.FinMap.{FinMap, get, insert, len, empty}
use Rattle.enet_seq.specs.Windows.{in_window, fragment_in_window, ahead}
use Rattle.enet_seq.specs.Windows as windows
use Rattle.enet_seq.proofs.WindowsLemmas.{near_is_inside, ahead_true, read_ahead, read_behind, fragment_start}
use Rattle.enet_seq.specs.Numbering.{unbounded, number_read, start_read}
use Rattle.enet_fragment.specs.declared.data.DataCommand.{DataCommand}
use Rattle.enet_fragment.specs.DataCommand.{piece_of, place_in_packet}
use Rattle.enet_fragment.specs.PartialPacket.{PartialPacket, count_of, with_piece}
use Rattle.enet_packets.specs.declared.incoming_packet.IncomingPacket.{IncomingPacket}
use Rattle.enet_packets.specs.Packets.{line_at, with_line}
use Rattle.enet_receiver.specs.DataOutcome.{is_piece_of_its_packet, place_read, came_at, came, is_behind, outcome_of, outcome_at, outcome, earlier_or_new, with_more, with_added, added_at, received_with, received, is_handled}
use Rattle.enet_receiver.specs.Receiver.{Receiver, flushed, with_dispatched, released, all_released}
use Rattle.enet_receiver.specs.declared.took.Took.{Took}
use Rattle.enet_receiver.specs.declared.took.Took.TheVariants.{Bad, Outside, Again, Waiting, Held}
use Rattle.enet_sender.specs.CommandChoice.{ChosenPacket}
use Rattle.law_connection.specs.Link.{wired}
use Rattle.law_connection.proofs.Makings.{count_of-with, piece_at-nothing, piece_at-with_other, has_piece-some, has_piece-with_same, has_piece-with_more}
use Rattle.enet_receiver.proofs.Maps.{get-insert_other, get-insert_same, get_inserted, two_numbers}
use Rattle.law_connection.proofs.CarriageLemmas.{IsCut, AllCut, Stands, Stands-has, Stands-passed}
use Rattle.law_connection.proofs.ContentLemmas.{Matches, OfReliable, OfUnreliable, Ready, Ready-dispatched, Ready-flush, waiting-replaced_same, waiting-replaced_other}
use Rattle.law_connection.proofs.PieceLemmas.{IsPieceOf, says, tells, same_reliable, same_unreliable, Matches-more}
use Rattle.law_connection.proofs.ReceiverLemmas.{IsReceived, Within, Grows, Grows-same, Grows-trans, Lacks, Lacks-from_gap, released-keeps, released-gap, Within-dispatched, Grows-dispatched}
use Rattle.law_connection.specs.Meant.{has_piece}

-- what holds of a receiver after something came
pub record Settled (mtu : ℕ) (cs : List ChosenPacket) (sent : ℕ) (old new : Receiver) : Type 0 where
  pub ready : Ready mtu cs new
  pub within : Within sent new
  pub grows : Grows old new
  pub lacks : Lacks new

pub Settled-same : (mtu : ℕ) (cs : List ChosenPacket) (sent : ℕ) (r : Receiver) → Ready mtu cs r → Within sent r → Lacks r → Settled mtu cs sent r r
Settled-same mtu cs sent r k s l = record { ready = k; within = s; grows = Grows-same r; lacks = l }

-- the front and what is held stay
Within-flushed : (sent : ℕ) (r : Receiver) → Within sent r → Within sent (flushed r)
Within-flushed sent r s = record { front = s.front; held = s.held }

Grows-flushed : (r s : Receiver) → Grows r s → Grows r (flushed s)
Grows-flushed r s g = record { front = g.front; received = g.received }

Lacks-flushed : (r : Receiver) → Lacks r → Lacks (flushed r)
Lacks-flushed r l = l

pub Settled-released : (mtu : ℕ) (cs : List ChosenPacket) (sent : ℕ) (r : Receiver) → Ready mtu cs r → Within sent r → Settled mtu cs sent r (all_released unbounded r)
Settled-released mtu cs sent r k s =
    let most = len r.held in
    let both = released-keeps (λ x. Ready mtu cs x × Within sent x × Grows r x)
    (λ x c e w h. (Ready-dispatched mtu cs x c e w h.0, Within-dispatched mtu cs sent x c e w h.0 h.1, Grows-trans r x (with_dispatched unbounded x c) h.2 (Grows-dispatched mtu cs sent x c e h.0 h.1)))
    most r (k, s, Grows-same r) in
    let gap = released-gap mtu cs most r k (omega arith) in
    record {
      ready = Ready-flush mtu cs (released unbounded most r) both.0;
      within = Within-flushed sent (released unbounded most r) both.1;
      grows = Grows-flushed r (released unbounded most r) both.2;
      lacks = Lacks-flushed (released unbounded most r) (Lacks-from_gap mtu cs sent (released unbounded most r) both.0 both.1 gap);
    }

and_both : (a b : Bool) → (a && b) ≡ true → (a ≡ true) × (b ≡ true)
and_both true b h = (refl, h)
and_both false b h = absurd (cc)

pub less_or_not : (a b : ℕ) → (a < b) ⊎ (b ≤ a)
less_or_not a b = grind arith

-- a fragment's start is read as itself, or it is at or behind the front
pub start_reads : (front start own sent : ℕ) → start ≤ own → own ≤ start + 16383 → own ≤ sent → sent ≤ front + 24575 → front ≤ sent → sent ≤ own + 32768
    → ((start_read unbounded front (start % 65536) (own % 65536) ≡ Some start) × (front ≤ start)) ⊎ ((start_read unbounded front (start % 65536) (own % 65536) ≡ None) × (start ≤ front))
start_reads front start own sent low near high span below late = go (fragment_in_window (front % 65536) (start % 65536) (own % 65536)) refl
  where
    some_is : (a b : ℕ) → Some a ≡ Some b → a ≡ b
    some_is a b e = ap (λ (o : Option ℕ). unwrap_or o a) e

    outside : fragment_in_window (front % 65536) (start % 65536) (own % 65536) ≡ false → front < start → ⊥
    outside e above =
        let a = ahead_true front start (omega arith) (omega arith) in
        let b = ahead_true front own (omega arith) (omega arith) in
        let x = near_is_inside (front % 65536) (start % 65536) (omega arith) (omega arith) (omega arith) in
        let y = near_is_inside (front % 65536) (own % 65536) (omega arith) (omega arith) (omega arith) in
        let z : fragment_in_window (front % 65536) (start % 65536) (own % 65536) ≡ true = λ i. x i && y i in
        (let f : true ≡ false = sym z ∙ e in cc)

    go : (b : Bool) → fragment_in_window (front % 65536) (start % 65536) (own % 65536) ≡ b
        → ((cond b (Some (front + ahead (front % 65536) (start % 65536))) None ≡ Some start) × (front ≤ start)) ⊎ ((cond b (Some (front + ahead (front % 65536) (start % 65536))) None ≡ None) × (start ≤ front))
    go true e =
        let both = and_both (in_window (front % 65536) (start % 65536)) (in_window (front % 65536) (own % 65536)) e in
        let read : windows.number_in_window front (start % 65536) ≡ Some start = fragment_start front start own low near (omega arith) (omega arith) e in
        let is : Some (front + ahead (front % 65536) (start % 65536)) ≡ Some start = sym (ap (λ b. cond b (Some (front + ahead (front % 65536) (start % 65536))) None) both.0) ∙ read in
        let eq = some_is (front + ahead (front % 65536) (start % 65536)) start is in
        inl (is, omega arith)
    go false e = inr (refl, elim (less_or_not front start) [ inl above ↦ absurd (outside e above) | inr at ↦ at ])

-- the cases of an outcome where the place is read
outcome_cases : (r : Receiver) (d : DataCommand) (full : Bool) (place : ℕ) (earlier : Option IncomingPacket)
    → ((outcome_of r d full place earlier ≡ Held) × (is_behind r d place ≡ false))
    ⊎ (outcome_of r d full place earlier ≡ Waiting)
    ⊎ ((outcome_of r d full place earlier ≡ Again) × ((is_behind r d place ≡ true) ⊎ (came earlier d ≡ true)))
outcome_cases r d full place earlier =
    elim (is_behind r d place) as (λ y. let o : Took = cond (y || came earlier d) Again (cond (full && is_none earlier) Waiting Held) in
    ((o ≡ Held) × (y ≡ false)) ⊎ (o ≡ Waiting) ⊎ ((o ≡ Again) × ((y ≡ true) ⊎ (came earlier d ≡ true)))) [
      | true ↦ inr (inr (refl, inl refl))
      | false ↦ elim (came earlier d) as (λ z. let o : Took = cond z Again (cond (full && is_none earlier) Waiting Held) in
          ((o ≡ Held) × (false ≡ false)) ⊎ (o ≡ Waiting) ⊎ ((o ≡ Again) × ((false ≡ true) ⊎ (z ≡ true)))) [
            | true ↦ inr (inr (refl, inr refl))
            | false ↦ elim (full && is_none earlier) as (λ w. let o : Took = cond w Waiting Held in
                ((o ≡ Held) × (false ≡ false)) ⊎ (o ≡ Waiting) ⊎ ((o ≡ Again) × ((false ≡ true) ⊎ (false ≡ true)))) [
                  | true ↦ inr (inl refl)
                  | false ↦ inl (refl, refl)
                ]
          ]
    ]

-- what a command of the log leaves: where it is considered, a reliable one was received
pub record Arrived (mtu : ℕ) (cs : List ChosenPacket) (sent most : ℕ) (r : Receiver) (d : DataCommand) (full : Bool) : Type 0 where
  pub settled : Settled mtu cs sent r (received unbounded most r (wired d) full)
  pub known : d.reliable ≡ true → is_handled (outcome unbounded most r (wired d) full) ≡ true → IsReceived (received unbounded most r (wired d) full) d.number

-- by the outcome alone
arrived_by : (mtu : ℕ) (cs : List ChosenPacket) (sent most : ℕ) (r : Receiver) (d : DataCommand) (full : Bool) → Ready mtu cs r → Within sent r → Lacks r
    → ((outcome unbounded most r (wired d) full ≡ Held) × Settled mtu cs sent r (added_at unbounded r (wired d) (place_read unbounded r (wired d))) × (d.reliable ≡ true → IsReceived (added_at unbounded r (wired d) (place_read unbounded r (wired d))) d.number))
    ⊎ (((o : Took) × (outcome unbounded most r (wired d) full ≡ o) × ((o ≡ Bad) ⊎ (o ≡ Waiting) ⊎ (((o ≡ Outside) ⊎ (o ≡ Again)) × (d.reliable ≡ true → IsReceived r d.number)))))
    → Arrived mtu cs sent most r d full
arrived_by mtu cs sent most r d full k s l (inl h) = record {
  settled = subst (λ o. Settled mtu cs sent r (received_with o unbounded r (wired d))) (sym h.0) h.1;
  known = λ t c. subst (λ o. IsReceived (received_with o unbounded r (wired d)) d.number) (sym h.0) (h.2 t);
}
arrived_by mtu cs sent most r d full k s l (inr w) = elim w.2 [
  | inl is ↦ same Bad (w.1 ∙ is) refl (λ t c. absurd (cc))
  | inr (inl is) ↦ same Waiting (w.1 ∙ is) refl (λ t c. absurd (cc))
  | inr (inr h) ↦ elim h.0 [
    | inl is ↦ same Outside (w.1 ∙ is) refl (λ t c. h.1 t)
    | inr is ↦ same Again (w.1 ∙ is) refl (λ t c. h.1 t)
  ]
]
  where
    same : (o : Took) → outcome unbounded most r (wired d) full ≡ o → received_with o unbounded r (wired d) ≡ r → (d.reliable ≡ true → is_handled o ≡ true → IsReceived r d.number) → Arrived mtu cs sent most r d full
    same o e stays known = record {
      settled = subst (λ x. Settled mtu cs sent r (received_with x unbounded r (wired d))) (sym e) (subst (λ x. Settled mtu cs sent r x) (sym stays) (Settled-same mtu cs sent r k s l));
      known = λ t c. subst (λ x. IsReceived (received_with x unbounded r (wired d)) d.number) (sym e) (subst (λ x. IsReceived x d.number) (sym stays) (known t (subst (λ x. is_handled x ≡ true) e c)));
    }

-- a number of a packet that the front reached is at or below the front
reached : (mtu : ℕ) (cs : List ChosenPacket) (r : Receiver) (number count : ℕ) (c : ChosenPacket) → Ready mtu cs r → Stands cs number count c → c.reliable ≡ true → number < r.front → number + c.pieces ≤ r.front
reached mtu cs r number count c k st rel low =
    let p = k.passed in
    let e = p.count in
    let all : AllCut mtu (p.passed ++ p.left) = subst (λ l. AllCut mtu l) p.whole k.cut in
    let at : Stands (p.passed ++ p.left) number count c = subst (λ l. Stands l number count c) p.whole st in
    let x = Stands-passed mtu p.passed p.left number count c all rel at (omega arith) in
    omega arith

-- what is added to a packet that stands behind the front
added_reliable : (mtu : ℕ) (cs : List ChosenPacket) (sent : ℕ) (r : Receiver) (d : DataCommand) (p : IsPieceOf mtu cs d) → Ready mtu cs r → Within sent r → d.reliable ≡ true → d.number ≤ sent → r.front < p.number + 1
    → let after = all_released unbounded (with_added r (wired d) (p.number + 1) (with_more (earlier_or_new (came_at r (wired d) (p.number + 1)) (wired d)) (wired d))) in
    Settled mtu cs sent r after × IsReceived after d.number
added_reliable mtu cs sent r d p k s rel high above =
    let c = p.packet in
    let start = p.number + 1 in
    let sd = says mtu cs d p in
    let cr : c.reliable ≡ true = sym sd.reliable ∙ rel in
    let own : d.number ≡ p.number + (p.index + 1) = sd.own ∙ ap (λ b. cond b (p.number + (p.index + 1)) p.number) cr in
    let e : IncomingPacket = with_more (earlier_or_new (came_at r (wired d) start) (wired d)) (wired d) in
    let cut : IsCut mtu c = k.cut c (Stands-has cs p.number p.count c p.stands) in
    let came' : came_at r (wired d) start ≡ get r.held start = ap (λ b. cond b (get r.held start) (get (line_at r.waiting start) d.unreliable)) rel in
    let matches : Matches mtu e.making c = Matches-more mtu (came_at r (wired d) start) d c p.number p.count p.index p.inside sd (tells mtu cs d p cut) (λ x t.
    let q = k.held start x (sym came' ∙ t) in
    let qp = q.place in
    let n : q.number ≡ p.number = omega arith in
    let qcut = k.cut q.packet (Stands-has cs q.number q.count q.packet q.stands) in
    let same : q.packet ≡ c = same_reliable cs p.number q.count p.count q.packet c (subst (λ z. Stands cs z q.count q.packet) n q.stands) p.stands q.reliable cr qcut.some' cut.some' in
    subst (λ y. Matches mtu x.making y) same q.matches) in
    let before : PartialPacket = (earlier_or_new (came_at r (wired d) start) (wired d)).making in
    let before_count : count_of before ≡ c.pieces = sym (count_of-with before (place_in_packet (wired d)) d.body) ∙ matches.count in
    let has : has_piece e.making p.index ≡ true = has_own (came_at r (wired d) start) sd.index_is (let a = p.inside in omega arith) in
    let mid : Receiver = record r { held = insert r.held start e } in
    let is : with_added r (wired d) start e ≡ mid = λ i. record r { held = if rel i then insert r.held start e else r.held; waiting = if rel i then r.waiting else with_line r.waiting start (insert (line_at r.waiting start) d.unreliable e) } in
    let ready : Ready mtu cs mid = record {
      cut = k.cut;
      waiting = k.waiting;
      passed = k.passed;
      held = λ n x t. elim (get_inserted r.held start n e x t) [
        | inl w ↦ subst (λ y. OfReliable mtu cs n y.making) w.1 (record { packet = c; number = p.number; count = p.count; place = w.0; stands = p.stands; reliable = cr; matches = matches; begun = (p.index, has) })
        | inr w ↦ k.held n x w.1
      ];
    } in
    let within : Within sent mid = record {
      front = s.front;
      held = λ n x t. elim (get_inserted r.held start n e x t) [
        | inl w ↦ (
          let a = w.0 in omega arith,
          λ i h.
              reach n x i w.0 w.1 h,
        )
        | inr w ↦ s.held n x w.1
      ];
    } in
    let grows : Grows r mid = record {
      front = omega arith;
      received = λ m h. elim h [
        | inl low ↦ inl low
        | inr w ↦ elim (two_numbers w.0 start) [
          | inl same ↦ inr (start, e, get-insert_same r.held start e, (let a = w.3 in omega arith), keeps m w.0 w.1 w.2 same w.4)
          | inr apart ↦ inr (w.0, w.1, get-insert_other r.held start w.0 e apart ∙ w.2, w.3, w.4)
        ]
      ];
    } in
    let after = Settled-released mtu cs sent mid ready within in
    let ag = after.grows in
    let here : IsReceived mid d.number = inr (start, e, get-insert_same r.held start e, omega arith, subst (λ z. has_piece e.making z ≡ true) (let z : p.index ≡ d.number - start = omega arith in z) has) in
    subst (λ x. Settled mtu cs sent r (all_released unbounded x) × IsReceived (all_released unbounded x) d.number) (sym is)
    (record { ready = after.ready; within = after.within; grows = Grows-trans r mid (all_released unbounded mid) grows after.grows; lacks = after.lacks }, ag.received d.number here)
  where
    e0 : IncomingPacket
    e0 = with_more (earlier_or_new (came_at r (wired d) (p.number + 1)) (wired d)) (wired d)

    at_start : came_at r (wired d) (p.number + 1) ≡ get r.held (p.number + 1)
    at_start = ap (λ b. cond b (get r.held (p.number + 1)) (get (line_at r.waiting (p.number + 1)) d.unreliable)) rel

    has_own : (o : Option IncomingPacket) → (piece_of (wired d)).number ≡ p.index → p.index < count_of (earlier_or_new o (wired d)).making → has_piece (with_more (earlier_or_new o (wired d)) (wired d)).making p.index ≡ true
    has_own o f low = subst (λ j. has_piece (with_piece (earlier_or_new o (wired d)).making (place_in_packet (wired d)) d.body) j ≡ true) f (has_piece-with_same (earlier_or_new o (wired d)).making (place_in_packet (wired d)) d.body (omega arith))

    own_is : d.number ≡ p.number + (p.index + 1)
    own_is = let sd = says mtu cs d p in sd.own ∙ ap (λ b. cond b (p.number + (p.index + 1)) p.number) (sym sd.reliable ∙ rel)

    reach_of : (o : Option IncomingPacket) → came_at r (wired d) (p.number + 1) ≡ o → (i : ℕ) → has_piece (with_more (earlier_or_new o (wired d)) (wired d)).making i ≡ true → p.number + 1 + i ≤ sent
    reach_of o t i h =
        let sd = says mtu cs d p in
        let j = sd.index_is in
        elim (two_numbers i (piece_of (wired d)).number) [
          | inl same ↦ (let a = own_is in omega arith)
          | inr apart ↦ before o t (ap is_some (sym (piece_at-with_other (earlier_or_new o (wired d)).making (place_in_packet (wired d)) d.body i apart)) ∙ h)
        ]
      where
        before : (o : Option IncomingPacket) → came_at r (wired d) (p.number + 1) ≡ o → has_piece (earlier_or_new o (wired d)).making i ≡ true → p.number + 1 + i ≤ sent
        before None t h = absurd (let f = piece_at-nothing (piece_of (wired d)).count (piece_of (wired d)).total i in let g : true ≡ false = sym h ∙ ap is_some f in cc)
        before (Some x) t h = (s.held (p.number + 1) x (sym at_start ∙ t)).1 i h

    reach : (n : ℕ) (x : IncomingPacket) (i : ℕ) → n ≡ p.number + 1 → e0 ≡ x → has_piece x.making i ≡ true → n + i ≤ sent
    reach n x i a b h =
        let y = reach_of (came_at r (wired d) (p.number + 1)) refl i (ap (λ (z : IncomingPacket). has_piece z.making i) b ∙ h) in
        omega arith

    keeps : (m n : ℕ) (x : IncomingPacket) → get r.held n ≡ Some x → n ≡ p.number + 1 → has_piece x.making (m - n) ≡ true → has_piece e0.making (m - (p.number + 1)) ≡ true
    keeps m n x t a h =
        let here : came_at r (wired d) (p.number + 1) ≡ Some x = at_start ∙ ap (get r.held) (sym a) ∙ t in
        let old : has_piece (earlier_or_new (came_at r (wired d) (p.number + 1)) (wired d)).making (m - (p.number + 1)) ≡ true =
        ap (λ o. has_piece (earlier_or_new o (wired d)).making (m - (p.number + 1))) here ∙ ap (λ z. has_piece x.making (m - z)) (sym a) ∙ h in
        has_piece-with_more (earlier_or_new (came_at r (wired d) (p.number + 1)) (wired d)).making (place_in_packet (wired d)) d.body (m - (p.number + 1)) old

-- a reliable command of the log comes, near enough and in time
pub Arrived-reliable : (mtu : ℕ) (cs : List ChosenPacket) (sent most : ℕ) (r : Receiver) (d : DataCommand) (full : Bool) → IsPieceOf mtu cs d → Ready mtu cs r → Within sent r → Lacks r
    → d.reliable ≡ true → d.number ≤ sent → sent ≤ r.front + 24575 → sent ≤ d.number + 32768 → Arrived mtu cs sent most r d full
Arrived-reliable mtu cs sent most r d full p k s l rel high span late =
    let c = p.packet in
    let start = p.number + 1 in
    let sd = says mtu cs d p in
    let cr : c.reliable ≡ true = sym sd.reliable ∙ rel in
    let own : d.number ≡ p.number + (p.index + 1) = sd.own ∙ ap (λ b. cond b (p.number + (p.index + 1)) p.number) cr in
    let cut : IsCut mtu c = k.cut c (Stands-has cs p.number p.count c p.stands) in
    let few = cut.few in
    let inside = p.inside in
    let front_low = s.front in
    let place : place_read unbounded r (wired d) ≡ start_read unbounded r.front (start % 65536) (d.number % 65536) =
    ap (λ b. cond b (start_read unbounded r.front (piece_of (wired d)).start (d.number % 65536)) (number_read unbounded r.front (d.number % 65536))) rel
    ∙ ap (λ n. start_read unbounded r.front n (d.number % 65536)) (sd.start cr) in
    elim (start_reads r.front start d.number sent (omega arith) (omega arith) high span front_low late) [
      | inl w ↦ inside_case (place ∙ w.0) w.1 cr own sd.index_is
      | inr w ↦ arrived_by mtu cs sent most r d full k s l (inr (go_outside (place ∙ w.0) (λ t. inl (let low = w.1 in let z = reached mtu cs r p.number p.count c k p.stands cr (omega arith) in omega arith))))
    ]
  where
    shape : outcome unbounded most r (wired d) full ≡ cond (is_piece_of_its_packet unbounded most r (wired d)) (outcome_at r (wired d) full (place_read unbounded r (wired d))) Bad
    shape = refl

    go_outside : place_read unbounded r (wired d) ≡ None → (d.reliable ≡ true → IsReceived r d.number) → (o : Took) × (outcome unbounded most r (wired d) full ≡ o) × ((o ≡ Bad) ⊎ (o ≡ Waiting) ⊎ (((o ≡ Outside) ⊎ (o ≡ Again)) × (d.reliable ≡ true → IsReceived r d.number)))
    go_outside e known =
        elim (is_piece_of_its_packet unbounded most r (wired d)) as (λ b. (o : Took) × (cond b (outcome_at r (wired d) full (place_read unbounded r (wired d))) Bad ≡ o) × ((o ≡ Bad) ⊎ (o ≡ Waiting) ⊎ (((o ≡ Outside) ⊎ (o ≡ Again)) × (d.reliable ≡ true → IsReceived r d.number)))) [
          | true ↦ (Outside, ap (outcome_at r (wired d) full) e, inr (inr (inl refl, known)))
          | false ↦ (Bad, refl, inl refl)
        ]

    came_index : (o : Option IncomingPacket) → came_at r (wired d) (p.number + 1) ≡ o → came o (wired d) ≡ true → d.number ≡ p.number + (p.index + 1) → (piece_of (wired d)).number ≡ p.index → IsReceived r d.number
    came_index None t h own idx = absurd (cc)
    came_index (Some x) t h own idx =
        let here : get r.held (p.number + 1) ≡ Some x = sym (ap (λ b. cond b (get r.held (p.number + 1)) (get (line_at r.waiting (p.number + 1)) d.unreliable)) rel) ∙ t in
        let back : d.number - (p.number + 1) ≡ p.index = omega arith in
        inr (
          p.number + 1,
          x,
          here,
          omega arith,
          subst (λ z. has_piece x.making z ≡ true) (sym back) (elim (or_cases (is_none (wired d).fragment) (has_piece x.making (piece_of (wired d)).number) h) [
            | inl none ↦ single x here none
            | inr has ↦ subst (λ z. has_piece x.making z ≡ true) idx has
          ]),
        )
      where
        or_cases : (a b : Bool) → (a || b) ≡ true → (a ≡ true) ⊎ (b ≡ true)
        or_cases true b e = inl refl
        or_cases false b e = inr e

        single : (x : IncomingPacket) → get r.held (p.number + 1) ≡ Some x → is_none (wired d).fragment ≡ true → has_piece x.making p.index ≡ true
        single x here none =
            let sd = says mtu cs d p in
            let one = sd.single none in
            let cr : p.packet.reliable ≡ true = sym sd.reliable ∙ rel in
            let q = k.held (p.number + 1) x here in
            let qp = q.place in
            let n : q.number ≡ p.number = omega arith in
            let qcut = k.cut q.packet (Stands-has cs q.number q.count q.packet q.stands) in
            let cut = k.cut p.packet (Stands-has cs p.number p.count p.packet p.stands) in
            let same : q.packet ≡ p.packet = same_reliable cs p.number q.count p.count q.packet p.packet (subst (λ z. Stands cs z q.count q.packet) n q.stands) p.stands q.reliable cr qcut.some' cut.some' in
            let i = q.begun in
            let got = has_piece-some x.making i.0 i.1 in
            let qm = q.matches in
            let low : i.0 < q.packet.pieces = (qm.pieces i.0 got.0 got.1).0 in
            let size : q.packet.pieces ≡ p.packet.pieces = ap (λ (y : ChosenPacket). y.pieces) same in
            let inside = p.inside in
            let is : i.0 ≡ p.index = omega arith in
            subst (λ z. has_piece x.making z ≡ true) is i.1

    inside_case : place_read unbounded r (wired d) ≡ Some (p.number + 1) → r.front ≤ p.number + 1 → p.packet.reliable ≡ true → d.number ≡ p.number + (p.index + 1) → (piece_of (wired d)).number ≡ p.index → Arrived mtu cs sent most r d full
    inside_case e above cr own idx =
        elim (is_piece_of_its_packet unbounded most r (wired d)) as (λ b. (outcome unbounded most r (wired d) full ≡ cond b (outcome_at r (wired d) full (place_read unbounded r (wired d))) Bad) → Arrived mtu cs sent most r d full) [
          | false ↦ λ q. arrived_by mtu cs sent most r d full k s l (inr (Bad, q, inl refl))
          | true ↦ λ q. considered (q ∙ ap (outcome_at r (wired d) full) e)
        ] refl
      where
        not_front : is_behind r (wired d) (p.number + 1) ≡ false → r.front < p.number + 1
        not_front b = elim (two_numbers (p.number + 1) r.front) [
          | inl same ↦ absurd (
              let y : (p.number + 1 == r.front) ≡ true = grind (arith, nat_tests) in
              let z : is_behind r (wired d) (p.number + 1) ≡ true = λ i. y i && (rel i || nat_le d.unreliable r.unreliable) in
              (let f : true ≡ false = sym z ∙ b in cc))
          | inr apart ↦ grind arith
        ]

        at_front : is_behind r (wired d) (p.number + 1) ≡ true → IsReceived r d.number
        at_front b = elim (two_numbers (p.number + 1) r.front) [
          | inl same ↦ inl (let z = reached mtu cs r p.number p.count p.packet k p.stands cr (omega arith) in let i = p.inside in omega arith)
          | inr apart ↦ absurd (
              let y : (p.number + 1 == r.front) ≡ false = not_same (p.number + 1) r.front apart in
              let z : is_behind r (wired d) (p.number + 1) ≡ false = ap (λ x. x && (d.reliable || nat_le d.unreliable r.unreliable)) y in
              (let f : true ≡ false = sym b ∙ z in cc))
        ]
          where
            not_same : (a b : ℕ) → a ≢ b → (a == b) ≡ false
            not_same a b n = grind (arith, nat_tests)

        considered : outcome unbounded most r (wired d) full ≡ outcome_of r (wired d) full (p.number + 1) (came_at r (wired d) (p.number + 1)) → Arrived mtu cs sent most r d full
        considered q = elim (outcome_cases r (wired d) full (p.number + 1) (came_at r (wired d) (p.number + 1))) [
          | inl h ↦
              let both = added_reliable mtu cs sent r d p k s rel high (not_front h.1) in
              let is : added_at unbounded r (wired d) (place_read unbounded r (wired d)) ≡ all_released unbounded (with_added r (wired d) (p.number + 1) (with_more (earlier_or_new (came_at r (wired d) (p.number + 1)) (wired d)) (wired d))) = ap (added_at unbounded r (wired d)) e in
              arrived_by mtu cs sent most r d full k s l (inl (q ∙ h.0, subst (λ x. Settled mtu cs sent r x) (sym is) both.0, λ t. subst (λ x. IsReceived x d.number) (sym is) both.1))
          | inr (inl is) ↦ arrived_by mtu cs sent most r d full k s l (inr (Waiting, q ∙ is, inr (inl refl)))
          | inr (inr h) ↦ arrived_by mtu cs sent most r d full k s l (inr (Again, q ∙ h.0, inr (inr (inr refl, λ t. elim h.1 [ inl b ↦ at_front b | inr b ↦ came_index (came_at r (wired d) (p.number + 1)) refl b own idx ]))))
        ]

-- a piece is added to an unreliable packet
added_unreliable : (mtu : ℕ) (cs : List ChosenPacket) (sent : ℕ) (r : Receiver) (d : DataCommand) (p : IsPieceOf mtu cs d) → Ready mtu cs r → Within sent r → d.reliable ≡ false
    → Settled mtu cs sent r (all_released unbounded (with_added r (wired d) p.number (with_more (earlier_or_new (came_at r (wired d) p.number) (wired d)) (wired d))))
added_unreliable mtu cs sent r d p k s rel =
    let c = p.packet in
    let n = p.number in
    let sd = says mtu cs d p in
    let cr : c.reliable ≡ false = sym sd.reliable ∙ rel in
    let count : d.unreliable ≡ p.count + 1 = sd.unreliable ∙ ap (λ b. cond b 0 (p.count + 1)) cr in
    let e : IncomingPacket = with_more (earlier_or_new (came_at r (wired d) n) (wired d)) (wired d) in
    let came' : came_at r (wired d) n ≡ get (line_at r.waiting n) d.unreliable = ap (λ b. cond b (get r.held n) (get (line_at r.waiting n) d.unreliable)) rel in
    let matches : Matches mtu e.making c = Matches-more mtu (came_at r (wired d) n) d c p.number p.count p.index p.inside sd (tells mtu cs d p (k.cut c (Stands-has cs p.number p.count c p.stands))) (λ x t.
    let q = k.waiting n d.unreliable x (sym came' ∙ t) in
    let qp = q.place in
    let z : q.count ≡ p.count = omega arith in
    let same : q.packet ≡ c = same_unreliable mtu cs n p.count q.packet c k.cut (subst (λ y. Stands cs n y q.packet) z q.stands) p.stands q.reliable cr in
    subst (λ y. Matches mtu x.making y) same q.matches) in
    let packets : FinMap nat_cmp IncomingPacket = insert (line_at r.waiting n) d.unreliable e in
    let mid : Receiver = record r { waiting = with_line r.waiting n packets } in
    let is : with_added r (wired d) n e ≡ mid = λ i. record r { held = if rel i then insert r.held n e else r.held; waiting = if rel i then r.waiting else with_line r.waiting n packets } in
    let ready : Ready mtu cs mid = record {
      cut = k.cut;
      held = k.held;
      passed = k.passed;
      waiting = λ m q x t. elim (two_numbers m n) [
        | inl same ↦
            let here : get packets q ≡ Some x = ap (λ y. get y q) (sym (waiting-replaced_same r.waiting n packets)) ∙ subst (λ z. get (unwrap_or (get (with_line r.waiting n packets) z) empty) q ≡ Some x) same t in
            elim (get_inserted (line_at r.waiting n) d.unreliable q e x here) [
              | inl w ↦ subst (λ y. OfUnreliable mtu cs m q y.making) w.1 (record { packet = c; count = p.count; place = w.0 ∙ count; stands = subst (λ z. Stands cs z p.count c) (sym same) p.stands; reliable = cr; matches = matches })
              | inr w ↦ subst (λ z. OfUnreliable mtu cs z q x.making) (sym same) (k.waiting n q x w.1)
            ]
        | inr apart ↦ k.waiting m q x (ap (λ (o : Option (FinMap nat_cmp IncomingPacket)). get (unwrap_or o empty) q) (sym (waiting-replaced_other r.waiting n m packets apart)) ∙ t)
      ];
    } in
    let within : Within sent mid = record { front = s.front; held = s.held } in
    let grows : Grows r mid = record { front = omega arith; received = λ m h. h } in
    let after = Settled-released mtu cs sent mid ready within in
    subst (λ x. Settled mtu cs sent r (all_released unbounded x)) (sym is)
    (record { ready = after.ready; within = after.within; grows = Grows-trans r mid (all_released unbounded mid) grows after.grows; lacks = after.lacks })

-- an unreliable command of the log comes, near enough and in time
pub Arrived-unreliable : (mtu : ℕ) (cs : List ChosenPacket) (sent most : ℕ) (r : Receiver) (d : DataCommand) (full : Bool) → IsPieceOf mtu cs d → Ready mtu cs r → Within sent r → Lacks r
    → d.reliable ≡ false → d.number ≤ sent → sent ≤ r.front + 24575 → sent ≤ d.number + 32768 → Arrived mtu cs sent most r d full
Arrived-unreliable mtu cs sent most r d full p k s l rel high span late =
    let sd = says mtu cs d p in
    let cr : p.packet.reliable ≡ false = sym sd.reliable ∙ rel in
    let own : d.number ≡ p.number = sd.own ∙ ap (λ b. cond b (p.number + (p.index + 1)) p.number) cr in
    let front_low = s.front in
    let place : place_read unbounded r (wired d) ≡ number_read unbounded r.front (p.number % 65536) =
    ap (λ b. cond b (start_read unbounded r.front (piece_of (wired d)).start (d.number % 65536)) (number_read unbounded r.front (d.number % 65536))) rel ∙ ap (λ n. number_read unbounded r.front (n % 65536)) own in
    elim (less_or_not p.number r.front) [
      | inl behind ↦ outside (place ∙ read_behind r.front p.number behind (omega arith))
      | inr above ↦ inside_case (place ∙ read_ahead r.front p.number above (omega arith))
    ]
  where
    unknown : d.reliable ≡ true → IsReceived r d.number
    unknown t = absurd (let f : true ≡ false = sym t ∙ rel in cc)

    outside : place_read unbounded r (wired d) ≡ None → Arrived mtu cs sent most r d full
    outside e =
        elim (is_piece_of_its_packet unbounded most r (wired d)) as (λ b. (outcome unbounded most r (wired d) full ≡ cond b (outcome_at r (wired d) full (place_read unbounded r (wired d))) Bad) → Arrived mtu cs sent most r d full) [
          | false ↦ λ q. arrived_by mtu cs sent most r d full k s l (inr (Bad, q, inl refl))
          | true ↦ λ q. arrived_by mtu cs sent most r d full k s l (inr (Outside, q ∙ ap (outcome_at r (wired d) full) e, inr (inr (inl refl, unknown))))
        ] refl

    inside_case : place_read unbounded r (wired d) ≡ Some p.number → Arrived mtu cs sent most r d full
    inside_case e =
        elim (is_piece_of_its_packet unbounded most r (wired d)) as (λ b. (outcome unbounded most r (wired d) full ≡ cond b (outcome_at r (wired d) full (place_read unbounded r (wired d))) Bad) → Arrived mtu cs sent most r d full) [
          | false ↦ λ q. arrived_by mtu cs sent most r d full k s l (inr (Bad, q, inl refl))
          | true ↦ λ q. considered (q ∙ ap (outcome_at r (wired d) full) e)
        ] refl
      where
        considered : outcome unbounded most r (wired d) full ≡ outcome_of r (wired d) full p.number (came_at r (wired d) p.number) → Arrived mtu cs sent most r d full
        considered q = elim (outcome_cases r (wired d) full p.number (came_at r (wired d) p.number)) [
          | inl h ↦
              let is : added_at unbounded r (wired d) (place_read unbounded r (wired d)) ≡ all_released unbounded (with_added r (wired d) p.number (with_more (earlier_or_new (came_at r (wired d) p.number) (wired d)) (wired d))) = ap (added_at unbounded r (wired d)) e in
              arrived_by mtu cs sent most r d full k s l (inl (q ∙ h.0, subst (λ x. Settled mtu cs sent r x) (sym is) (added_unreliable mtu cs sent r d p k s rel), λ t. absurd (let f : true ≡ false = sym t ∙ rel in cc)))
          | inr (inl is) ↦ arrived_by mtu cs sent most r d full k s l (inr (Waiting, q ∙ is, inr (inl refl)))
          | inr (inr h) ↦ arrived_by mtu cs sent most r d full k s l (inr (Again, q ∙ h.0, inr (inr (inr refl, unknown))))
        ]

pub Arrived-command : (mtu : ℕ) (cs : List ChosenPacket) (sent most : ℕ) (r : Receiver) (d : DataCommand) (full : Bool) → IsPieceOf mtu cs d → Ready mtu cs r → Within sent r → Lacks r
    → d.number ≤ sent → sent ≤ r.front + 24575 → sent ≤ d.number + 32768 → Arrived mtu cs sent most r d full
Arrived-command mtu cs sent most r d full p k s l high span late =
    elim d.reliable as (λ b. d.reliable ≡ b → Arrived mtu cs sent most r d full) [
      | true ↦ λ t. Arrived-reliable mtu cs sent most r d full p k s l t high span late
      | false ↦ λ t. Arrived-unreliable mtu cs sent most r d full p k s l t high span late
    ] refl

-- a command's place is read as that of its packet, or as nothing
pub place_as_meant : (mtu : ℕ) (cs : List ChosenPacket) (sent : ℕ) (r : Receiver) (d : DataCommand) (p : IsPieceOf mtu cs d) → Ready mtu cs r → r.front ≤ sent → d.number ≤ sent → sent ≤ r.front + 24575 → sent ≤ d.number + 32768
    → (place_read unbounded r (wired d) ≡ None) ⊎ (place_read unbounded r (wired d) ≡ Some (cond p.packet.reliable (p.number + 1) p.number))
place_as_meant mtu cs sent r d p k front high span late =
    elim d.reliable as (λ b. d.reliable ≡ b → (place_read unbounded r (wired d) ≡ None) ⊎ (place_read unbounded r (wired d) ≡ Some (cond p.packet.reliable (p.number + 1) p.number))) [
      | true ↦ λ t. reliable t
      | false ↦ λ t. unreliable t
    ] refl
  where
    reliable : d.reliable ≡ true → (place_read unbounded r (wired d) ≡ None) ⊎ (place_read unbounded r (wired d) ≡ Some (cond p.packet.reliable (p.number + 1) p.number))
    reliable rel =
        let sd = says mtu cs d p in
        let cr : p.packet.reliable ≡ true = sym sd.reliable ∙ rel in
        let own : d.number ≡ p.number + (p.index + 1) = sd.own ∙ ap (λ b. cond b (p.number + (p.index + 1)) p.number) cr in
        let cut : IsCut mtu p.packet = k.cut p.packet (Stands-has cs p.number p.count p.packet p.stands) in
        let few = cut.few in
        let inside = p.inside in
        let place : place_read unbounded r (wired d) ≡ start_read unbounded r.front ((p.number + 1) % 65536) (d.number % 65536) =
        ap (λ b. cond b (start_read unbounded r.front (piece_of (wired d)).start (d.number % 65536)) (number_read unbounded r.front (d.number % 65536))) rel
        ∙ ap (λ n. start_read unbounded r.front n (d.number % 65536)) (sd.start cr) in
        elim (start_reads r.front (p.number + 1) d.number sent (omega arith) (omega arith) high span front late) [
          | inl w ↦ inr (place ∙ w.0 ∙ ap (λ b. Some (cond b (p.number + 1) p.number)) (sym cr))
          | inr w ↦ inl (place ∙ w.0)
        ]

    unreliable : d.reliable ≡ false → (place_read unbounded r (wired d) ≡ None) ⊎ (place_read unbounded r (wired d) ≡ Some (cond p.packet.reliable (p.number + 1) p.number))
    unreliable rel =
        let sd = says mtu cs d p in
        let cr : p.packet.reliable ≡ false = sym sd.reliable ∙ rel in
        let own : d.number ≡ p.number = sd.own ∙ ap (λ b. cond b (p.number + (p.index + 1)) p.number) cr in
        let place : place_read unbounded r (wired d) ≡ number_read unbounded r.front (p.number % 65536) =
        ap (λ b. cond b (start_read unbounded r.front (piece_of (wired d)).start (d.number % 65536)) (number_read unbounded r.front (d.number % 65536))) rel ∙ ap (λ n. number_read unbounded r.front (n % 65536)) own in
        elim (less_or_not p.number r.front) [
          | inl behind ↦ inl (place ∙ read_behind r.front p.number behind (omega arith))
          | inr above ↦ inr (place ∙ read_ahead r.front p.number above (omega arith) ∙ ap (λ b. Some (cond b (p.number + 1) p.number)) (sym cr))
        ]
