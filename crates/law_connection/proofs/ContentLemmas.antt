-- What is put out, held and dispatched are pieces and packets of what was submitted.
use Rattle.std.proofs.Common.{◌≡◌, ◌≢◌, ℕ, ◌+◌, ◌*◌, ◌<◌, ◌≤◌, T, Bool, true, false, cond, List, [], ◌∷◌, ◌++◌, take, refl, sym, ap, subst, ◌∙◌, inl, inr, arith, Less, Equal, Greater, Option, Some, None, append_assoc}
use Rattle.std.proofs.lemmas.Bool.Decides.{nat_tests}
use Rattle.std.proofs.lemmas.List.{append-nil, map-append, take_all}
use Rattle.std.specs.Ordering.{nat_cmp, is_lt}
use Rattle.std.specs.Cmp.{ranked}
use Rattle.std.specs.Prelude.{unwrap_or, nat_lt, nat_le, ◌&&◌, ◌==◌}
use Rattle.std.specs.FinMap.{FinMap, get, insert, remove, len, entries, entries_sorted, is_sorted, empty, empty_of_len, get-empty, retain_keys}
use Rattle.std.specs.FinMap.Entries.{below_all}
use Rattle.enet_seq.specs.Numbering.{unbounded}
use Rattle.enet_fragment.specs.Cutting.{piece_length}
use Rattle.enet_fragment.specs.PartialPacket.{PartialPacket, joined, count_of}
use Rattle.enet_fragment.specs.Whole.{is_whole}
use Rattle.enet_packets.specs.declared.incoming_packet.IncomingPacket.{IncomingPacket}
use Rattle.enet_packets.specs.declared.incoming_packet.Dispatched.{Dispatched}
use Rattle.enet_packets.specs.Packets.{line_at, with_line, fresh, last_fresh, handed_out}
use Rattle.enet_receiver.specs.Receiver.{Receiver, flushed_from, flushed, without, with_passed, with_dispatched, without_waiting}
use Rattle.enet_sender.specs.CommandChoice.{ChosenPacket}
pub use Rattle.law_connection.specs.Meant.{Matches, OfReliable, OfUnreliable}
pub use Rattle.law_connection.specs.LinkSteps.{bodies_of}
use Rattle.law_connection.proofs.Lists.{Has}
use Rattle.law_connection.proofs.Makings.{joined-pieces}
use Rattle.enet_receiver.proofs.Maps.{get-remove_other, get-remove_same, get-insert_other, get-insert_same, two_numbers}
use Rattle.enet_receiver.proofs.Entries.{get_entry, get_retained, above_all, T_left, T_right}
use Rattle.enet_receiver.proofs.Without.{get_without}
use Rattle.law_connection.proofs.CarriageLemmas.{IsCut, AllCut, Stands, Stands-has, Stands-next, Stands-next_unreliable, Consumed, Consumed-append, Consumed-none, command_count-append, command_count-reliable, command_count-unreliable, count_after-push, IsNext, IsNextUnreliable, Has-append_left, Has-append_right}
use Rattle.law_connection.specs.Follows.{command_count, count_after}

-- what is whole has the packet's bytes
pub joined-whole : (mtu : ℕ) (m : PartialPacket) (c : ChosenPacket) → IsCut mtu c → Matches mtu m c → is_whole m ≡ true → joined m.pieces ≡ c.packet.body
joined-whole mtu m c cut h w =
    joined-pieces (piece_length mtu) m.pieces c.packet.body (λ i bytes e. (h.pieces i bytes e).1) w
    ∙ ap (λ n. take (n * piece_length mtu) c.packet.body) h.count
    ∙ take_all (c.pieces * piece_length mtu) c.packet.body cut.covered

-- the packets that the receiver went past, and those that it didn't
pub record Passed (cs : List ChosenPacket) (front unreliable : ℕ) (bodies : List (List ℕ)) : Type 0 where
  pub passed : List ChosenPacket
  pub left : List ChosenPacket
  pub whole : cs ≡ passed ++ left
  pub consumed : Consumed passed bodies
  pub count : command_count passed ≡ front
  pub last : count_after 0 passed ≡ unreliable

pub record Ready (mtu : ℕ) (cs : List ChosenPacket) (r : Receiver) : Type 0 where
  pub cut : AllCut mtu cs
  pub held : (n : ℕ) (e : IncomingPacket) → get r.held n ≡ Some e → OfReliable mtu cs n e.making
  pub waiting : (n k : ℕ) (e : IncomingPacket) → get (line_at r.waiting n) k ≡ Some e → OfUnreliable mtu cs n k e.making
  pub passed : Passed cs r.front r.unreliable (bodies_of r.dispatched)

-- the packet behind the front is dispatched, and unreliable ones before it are left out
Passed-more : (mtu : ℕ) (cs : List ChosenPacket) (front unreliable : ℕ) (bodies : List (List ℕ)) (m : PartialPacket) → AllCut mtu cs → Passed cs front unreliable bodies → OfReliable mtu cs (front + 1) m → is_whole m ≡ true
    → Passed cs (front + count_of m) 0 (bodies ++ joined m.pieces ∷ [])
Passed-more mtu cs front unreliable bodies m all p h w =
    let c = h.packet in
    let number : h.number ≡ command_count p.passed = let a = h.place in let b = p.count in omega arith in
    let cut : IsCut mtu c = all c (Stands-has cs h.number h.count c h.stands) in
    let at : Stands (p.passed ++ p.left) (command_count p.passed) h.count c = subst (λ n. Stands (p.passed ++ p.left) n h.count c) number (subst (λ l. Stands l h.number h.count c) p.whole h.stands) in
    let next : IsNext p.left c = Stands-next p.passed p.left h.count c h.reliable cut.some' at in
    let skipped = next.0 in let rest = next.1 in
    let more : List ChosenPacket = skipped ++ c ∷ [] in
    let body : joined m.pieces ≡ c.packet.body = joined-whole mtu m c cut h.matches w in
    let only : Consumed (c ∷ []) (joined m.pieces ∷ []) = inl ([], ap (λ b. b ∷ []) body, refl) in
    let of_skipped : AllCut mtu skipped = λ d g. all d (subst (λ l. Has l d) (sym p.whole) (Has-append_right p.passed p.left d (subst (λ l. Has l d) (sym next.2) (Has-append_left skipped (c ∷ rest) d g)))) in
    record {
      passed = p.passed ++ more;
      left = rest;
      whole = p.whole ∙ ap (λ l. p.passed ++ l) (next.2 ∙ sym (append_assoc skipped (c ∷ []) rest)) ∙ sym (append_assoc p.passed more rest);
      consumed = Consumed-append p.passed more bodies (joined m.pieces ∷ []) p.consumed (Consumed-append skipped (c ∷ []) [] (joined m.pieces ∷ []) (Consumed-none mtu skipped of_skipped next.3) only);
      count = let a = command_count-append p.passed more in let b = command_count-append skipped (c ∷ []) in let d = p.count in let e = next.3 in let f = command_count-reliable c [] h.reliable in let g = h.matches.count in omega arith;
      last = ap (count_after 0) (sym (append_assoc p.passed skipped (c ∷ []))) ∙ count_after-push (p.passed ++ skipped) c ∙ ap (λ b. cond b 0 (count_after 0 (p.passed ++ skipped) + 1)) h.reliable;
    }

-- an unreliable packet of the front is dispatched, and earlier ones are left out
Passed-unreliable : (mtu : ℕ) (cs : List ChosenPacket) (front unreliable count : ℕ) (bodies : List (List ℕ)) (m : PartialPacket) → AllCut mtu cs → Passed cs front unreliable bodies → OfUnreliable mtu cs front count m → is_whole m ≡ true → unreliable < count
    → Passed cs front count (bodies ++ joined m.pieces ∷ [])
Passed-unreliable mtu cs front unreliable count bodies m all p h w low =
    let c = h.packet in
    let cut : IsCut mtu c = all c (Stands-has cs front h.count c h.stands) in
    let of_passed : AllCut mtu p.passed = λ d g. all d (subst (λ l. Has l d) (sym p.whole) (Has-append_left p.passed p.left d g)) in
    let at : Stands (p.passed ++ p.left) (command_count p.passed) h.count c = subst (λ n. Stands (p.passed ++ p.left) n h.count c) (sym p.count) (subst (λ l. Stands l front h.count c) p.whole h.stands) in
    let next : IsNextUnreliable p.passed p.left h.count c = Stands-next_unreliable mtu p.passed p.left h.count c of_passed h.reliable at (let e = p.last in let f = h.place in omega arith) in
    let skipped = next.0 in let rest = next.1 in
    let more : List ChosenPacket = skipped ++ c ∷ [] in
    let body : joined m.pieces ≡ c.packet.body = joined-whole mtu m c cut h.matches w in
    let only : Consumed (c ∷ []) (joined m.pieces ∷ []) = inl ([], ap (λ b. b ∷ []) body, refl) in
    let of_skipped : AllCut mtu skipped = λ d g. all d (subst (λ l. Has l d) (sym p.whole) (Has-append_right p.passed p.left d (subst (λ l. Has l d) (sym next.2) (Has-append_left skipped (c ∷ rest) d g)))) in
    record {
      passed = p.passed ++ more;
      left = rest;
      whole = p.whole ∙ ap (λ l. p.passed ++ l) (next.2 ∙ sym (append_assoc skipped (c ∷ []) rest)) ∙ sym (append_assoc p.passed more rest);
      consumed = Consumed-append p.passed more bodies (joined m.pieces ∷ []) p.consumed (Consumed-append skipped (c ∷ []) [] (joined m.pieces ∷ []) (Consumed-none mtu skipped of_skipped next.3) only);
      count = let a = command_count-append p.passed more in let b = command_count-append skipped (c ∷ []) in let d = p.count in let e = next.3 in let f = command_count-unreliable c [] h.reliable in omega arith;
      last = ap (count_after 0) (sym (append_assoc p.passed skipped (c ∷ []))) ∙ count_after-push (p.passed ++ skipped) c ∙ ap (λ b. cond b 0 (count_after 0 (p.passed ++ skipped) + 1)) h.reliable ∙ ap (λ n. n + 1) next.4 ∙ sym h.place;
    }

bodies_of-push : (ds : List Dispatched) (e : IncomingPacket) → bodies_of (ds ++ handed_out e ∷ []) ≡ bodies_of ds ++ joined e.making.pieces ∷ []
bodies_of-push ds e = map-append (λ (d : Dispatched). d.body) ds (handed_out e ∷ [])

-- from where on they are dispatched
above_same : (last k : ℕ) → nat_le (last + 1) k ≡ nat_lt last k
above_same last k = elim (nat_lt last k) as (λ b. nat_lt last k ≡ b → nat_le (last + 1) k ≡ b) [ true ↦ λ t. grind (arith, nat_tests) | false ↦ λ t. grind (arith, nat_tests) ] refl

both_above : (first last k : ℕ) → first ≤ k → last < k → nat_le first k ≡ nat_lt last k
both_above first last k low up =
    let here : nat_le first k ≡ true = grind (arith, nat_tests) in
    let there : nat_lt last k ≡ true = grind (arith, nat_tests) in
    here ∙ sym there

pub is_up : (a b : ℕ) → T (is_lt (nat_cmp a b)) → a < b
is_up a b t =
    elim (nat_cmp a b) as (λ r. r ≡ nat_cmp a b → T (is_lt r) → a < b) [
      | Less ↦ λ e _. ranked a b Less e
      | Equal ↦ λ _ f. absurd f
      | Greater ↦ λ _ f. absurd f
    ] refl t

-- those that waited are dispatched
Passed-fresh : (mtu : ℕ) (cs : List ChosenPacket) (front first last : ℕ) (ds : List Dispatched) (es : List (ℕ × IncomingPacket)) → AllCut mtu cs → T (is_sorted nat_cmp es)
    → ((e : ℕ × IncomingPacket) → Has es e → OfUnreliable mtu cs front e.0 e.1.making) → ((e : ℕ × IncomingPacket) → Has es e → nat_le first e.0 ≡ nat_lt last e.0)
    → Passed cs front last (bodies_of ds) → Passed cs front (last_fresh last es) (bodies_of (ds ++ fresh first es))
Passed-fresh mtu cs front first last ds [] all sorted h same p = subst (λ (x : List Dispatched). Passed cs front last (bodies_of x)) (sym (append-nil ds)) p
Passed-fresh mtu cs front first last ds (e ∷ es) all sorted h same p =
    let below_rest = T_left (below_all nat_cmp e.0 es) (is_sorted nat_cmp es) sorted in
    let rest = T_right (below_all nat_cmp e.0 es) (is_sorted nat_cmp es) sorted in
    let test : (is_whole e.1.making && nat_le first e.0) ≡ (is_whole e.1.making && nat_lt last e.0) = ap (λ b. is_whole e.1.making && b) (same e (inl refl)) in
    subst (λ (b : Bool). Passed cs front (last_fresh last (e ∷ es)) (bodies_of (ds ++ cond b (handed_out e.1 ∷ fresh first es) (fresh first es)))) (sym test)
    (elim (is_whole e.1.making && nat_lt last e.0) as (λ b. (is_whole e.1.making && nat_lt last e.0) ≡ b → Passed cs front (cond b (last_fresh e.0 es) (last_fresh last es)) (bodies_of (ds ++ cond b (handed_out e.1 ∷ fresh first es) (fresh first es)))) [
      | true ↦ λ t.
          let both = parts (is_whole e.1.making) (nat_lt last e.0) t in
          let one = Passed-unreliable mtu cs front last e.0 (bodies_of ds) e.1.making all p (h e (inl refl)) both.0 (below last e.0 both.1) in
          let next = subst (λ (x : List (List ℕ)). Passed cs front e.0 x) (sym (bodies_of-push ds e.1)) one in
          let from_here : first ≤ e.0 = not_before first e.0 (same e (inl refl) ∙ both.1) in
          subst (λ (x : List Dispatched). Passed cs front (last_fresh e.0 es) (bodies_of x)) (append_assoc ds (handed_out e.1 ∷ []) (fresh first es))
          (Passed-fresh mtu cs front first e.0 (ds ++ handed_out e.1 ∷ []) es all rest (λ x k. h x (inr k))
          (λ x k. (let up = is_up e.0 x.0 (above_all e.0 es x below_rest k) in both_above first e.0 x.0 (omega arith) up)) next)
      | false ↦ λ t. Passed-fresh mtu cs front first last ds es all rest (λ x k. h x (inr k)) (λ x k. same x (inr k)) p
    ] refl)
  where
    parts : (a b : Bool) → (a && b) ≡ true → (a ≡ true) × (b ≡ true)
    parts true b k = (refl, k)
    parts false b k = absurd (cc)

    below : (p q : ℕ) → nat_lt p q ≡ true → p < q
    below p q x = grind (arith, nat_tests)

    not_before : (p q : ℕ) → nat_le p q ≡ true → p ≤ q
    not_before p q x = grind (arith, nat_tests)

-- what waits for a number after another number's packets were replaced
pub waiting-replaced_same : (w : FinMap nat_cmp (FinMap nat_cmp IncomingPacket)) (n : ℕ) (packets : FinMap nat_cmp IncomingPacket) → unwrap_or (get (with_line w n packets) n) empty ≡ packets
waiting-replaced_same w n packets =
    elim (len packets == 0) as (λ b. (len packets == 0) ≡ b → unwrap_or (get (cond b (remove w n) (insert w n packets)) n) empty ≡ packets) [
      | true ↦ λ t. ap (λ (o : Option (FinMap nat_cmp IncomingPacket)). unwrap_or o empty) (get-remove_same w n) ∙ sym (empty_of_len packets (zero_is (len packets) t))
      | false ↦ λ t. ap (λ (o : Option (FinMap nat_cmp IncomingPacket)). unwrap_or o empty) (get-insert_same w n packets)
    ] refl
  where
    zero_is : (k : ℕ) → (k == 0) ≡ true → k ≡ 0
    zero_is k t = grind (arith, nat_tests)

pub waiting-replaced_other : (w : FinMap nat_cmp (FinMap nat_cmp IncomingPacket)) (n q : ℕ) (packets : FinMap nat_cmp IncomingPacket) → q ≢ n → get (with_line w n packets) q ≡ get w q
waiting-replaced_other w n q packets apart =
    elim (len packets == 0) as (λ b. get (cond b (remove w n) (insert w n packets)) q ≡ get w q) [
      | true ↦ get-remove_other w n q apart
      | false ↦ get-insert_other w n q packets apart
    ]

-- what still waits waited before
pub waiting-left : (w : FinMap nat_cmp (FinMap nat_cmp IncomingPacket)) (n k : ℕ) (o : Option (FinMap nat_cmp IncomingPacket)) (e : IncomingPacket) → ((m : FinMap nat_cmp IncomingPacket) → o ≡ Some m → get w n ≡ Some m) → get (unwrap_or o empty) k ≡ Some e → get (unwrap_or (get w n) empty) k ≡ Some e
waiting-left w n k None e h t = absurd (let f : get (empty {X = IncomingPacket} {R = nat_cmp}) k ≡ None = get-empty nat_cmp k in cc)
waiting-left w n k (Some m) e h t = ap (λ (o : Option (FinMap nat_cmp IncomingPacket)). get (unwrap_or o empty) k) (h m refl) ∙ t

Ready-passed : (mtu : ℕ) (cs : List ChosenPacket) (r : Receiver) (c : IncomingPacket) → get r.held (r.front + 1) ≡ Some c → is_whole c.making ≡ true → Ready mtu cs r → Ready mtu cs (with_passed unbounded r c)
Ready-passed mtu cs r c e w k = record {
  cut = k.cut;
  held = λ n x t. k.held n x (get_without unbounded r.held (r.front + 1) (count_of c.making) n x t);
  waiting = λ n q x t. k.waiting n q x (waiting-left r.waiting n q (get (without unbounded r.waiting r.front (count_of c.making)) n) x (λ m f. get_without unbounded r.waiting r.front (count_of c.making) n m f) t);
  passed = subst (λ (x : List (List ℕ)). Passed cs (r.front + (count_of c.making)) 0 x) (sym (bodies_of-push r.dispatched c))
      (Passed-more mtu cs r.front r.unreliable (bodies_of r.dispatched) c.making k.cut k.passed (k.held (r.front + 1) c e) w);
}

Ready-flushed : (mtu : ℕ) (cs : List ChosenPacket) (first : ℕ) (r : Receiver) → Ready mtu cs r → ((q : ℕ) (x : IncomingPacket) → get (line_at r.waiting r.front) q ≡ Some x → nat_le first q ≡ nat_lt r.unreliable q) → Ready mtu cs (flushed_from first r)
Ready-flushed mtu cs first r k same_from =
    let keep : ℕ → Bool = nat_lt (last_fresh r.unreliable (entries (line_at r.waiting r.front))) in
    record {
      cut = k.cut;
      held = k.held;
      waiting = λ n q x t. elim (two_numbers n r.front) [
        | inl same ↦
            let here : get (retain_keys (line_at r.waiting r.front) keep) q ≡ Some x =
            ap (λ m. get m q) (sym (waiting-replaced_same r.waiting r.front (retain_keys (line_at r.waiting r.front) keep)))
            ∙ subst (λ z. get (unwrap_or (get (with_line r.waiting r.front (retain_keys (line_at r.waiting r.front) keep)) z) empty) q ≡ Some x) same t in
            subst (λ z. OfUnreliable mtu cs z q x.making) (sym same) (k.waiting r.front q x (get_retained (line_at r.waiting r.front) keep q x here))
        | inr apart ↦ k.waiting n q x (ap (λ (o : Option (FinMap nat_cmp IncomingPacket)). get (unwrap_or o empty) q) (sym (waiting-replaced_other r.waiting r.front n (retain_keys (line_at r.waiting r.front) keep) apart)) ∙ t)
      ];
      passed = Passed-fresh mtu cs r.front first r.unreliable r.dispatched (entries (line_at r.waiting r.front)) k.cut (entries_sorted (line_at r.waiting r.front))
          (λ e h. k.waiting r.front e.0 e.1 (get_entry (line_at r.waiting r.front) e h))
          (λ e h. same_from e.0 e.1 (get_entry (line_at r.waiting r.front) e h)) k.passed;
    }

pub Ready-dispatched : (mtu : ℕ) (cs : List ChosenPacket) (r : Receiver) (c : IncomingPacket) → get r.held (r.front + 1) ≡ Some c → is_whole c.making ≡ true → Ready mtu cs r → Ready mtu cs (with_dispatched unbounded r c)
Ready-dispatched mtu cs r c e w k =
    let passed = Ready-passed mtu cs r c e w k in
    let s : Receiver = with_passed unbounded r c in
    Ready-flushed mtu cs 0 s passed (λ q x there. (let one = (passed.waiting s.front q x there).place in both_above 0 0 q (omega arith) (omega arith)))

pub Ready-flush : (mtu : ℕ) (cs : List ChosenPacket) (r : Receiver) → Ready mtu cs r → Ready mtu cs (flushed r)
Ready-flush mtu cs r k = Ready-flushed mtu cs (r.unreliable + 1) r k (λ q x _. above_same r.unreliable q)

-- what waits is given up

pub none-wait : (n k : ℕ) → get (line_at empty n) k ≡ None
none-wait n k =
    let line : get (empty {X = FinMap nat_cmp IncomingPacket} {R = nat_cmp}) n ≡ None = get-empty nat_cmp n in
    let none : get (empty {X = IncomingPacket} {R = nat_cmp}) k ≡ None = get-empty nat_cmp k in
    ap (λ (o : Option (FinMap nat_cmp IncomingPacket)). get (unwrap_or o empty) k) line ∙ none

pub Ready-given_up : (mtu : ℕ) (cs : List ChosenPacket) (r : Receiver) → Ready mtu cs r → Ready mtu cs (without_waiting r)
Ready-given_up mtu cs r k = record { cut = k.cut; held = k.held; waiting = λ n q x t. absurd (let some' : Some x ≡ None = sym t ∙ none-wait n q in cc); passed = k.passed }
