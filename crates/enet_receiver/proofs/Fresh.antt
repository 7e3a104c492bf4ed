-- Which unreliable packets are dispatched, and how many.
use Rattle.std.proofs.Common.{◌≡◌, ℕ, ◌+◌, ◌<◌, ◌≤◌, ltb, leb, Bool, true, false, cond, ◌&&◌, inl, inr, List, [], ◌∷◌, length, refl, sym, ap, subst, ◌∙◌, arith, Less, Equal, Greater, Option, Some, None}
use Rattle.std.specs.Ordering.{nat_cmp, eq_by_cmp}
use Rattle.std.specs.Cmp.{nat_cmp_total}
use Rattle.std.specs.FinMap.{get, insert, entries, get-entries, find, put, entries-insert, nat_cmp-IsAntisymmetric}
use Rattle.std.specs.FinMap.Entries.{by_order}
use Rattle.std.proofs.lemmas.Bool.Decides.{nat_tests}
use Rattle.enet_fragment.specs.Whole.{is_whole}
use Rattle.enet_packets.specs.declared.incoming_packet.IncomingPacket.{IncomingPacket}
use Rattle.enet_packets.specs.Packets.{fresh, last_fresh, still_ahead, handed_out}
use Rattle.enet_receiver.specs.Members.{Has}
use Rattle.enet_receiver.proofs.Maps.{apart_numbers, two_numbers}
use Rattle.enet_receiver.proofs.Entries.{get_entry, get_retained}
use Rattle.enet_receiver.proofs.LineLemmas.{Line}

abbrev pub Entries : Type 0
Entries = List (ℕ × IncomingPacket)

-- whether an entry is dispatched, from a number on
abbrev pub is_due : ℕ → ℕ × IncomingPacket → Bool
is_due first e = is_whole e.1.making && leb first e.0

last_fresh-ge : (u : ℕ) (es : Entries) → u ≤ last_fresh u es
last_fresh-ge u [] = omega arith
last_fresh-ge u (x ∷ es) =
    let low = last_fresh-ge u es in
    let high = last_fresh-ge x.0 es in
    go (is_whole x.1.making) (ltb u x.0) refl low high
  where
    go : (w b : Bool) → ltb u x.0 ≡ b → u ≤ last_fresh u es → x.0 ≤ last_fresh x.0 es → u ≤ cond (w && b) (last_fresh x.0 es) (last_fresh u es)
    go true true e low high = (let up : u < x.0 = grind (arith, nat_tests) in omega arith)
    go true false e low high = low
    go false b e low high = low

-- none that is whole is above the last one that is dispatched
last_fresh-top : (u : ℕ) (es : Entries) (e : ℕ × IncomingPacket) → Has es e → is_whole e.1.making ≡ true → e.0 ≤ last_fresh u es
last_fresh-top u [] e h w = absurd h
last_fresh-top u (x ∷ es) e (inl is) w =
    let same : x.0 ≡ e.0 = ap (λ (y : ℕ × IncomingPacket). y.0) is in
    let whole : is_whole x.1.making ≡ true = ap (λ (y : ℕ × IncomingPacket). is_whole y.1.making) is ∙ w in
    go (is_whole x.1.making) (ltb u x.0) refl whole same (last_fresh-ge x.0 es) (last_fresh-ge u es)
  where
    go : (v b : Bool) → ltb u x.0 ≡ b → v ≡ true → x.0 ≡ e.0 → x.0 ≤ last_fresh x.0 es → u ≤ last_fresh u es → e.0 ≤ cond (v && b) (last_fresh x.0 es) (last_fresh u es)
    go true true f t s high low = omega arith
    go true false f t s high low = (let down : x.0 ≤ u = grind (arith, nat_tests) in omega arith)
    go false b f t s high low = absurd (cc)
last_fresh-top u (x ∷ es) e (inr h) w =
    go (is_whole x.1.making && ltb u x.0) (last_fresh-top x.0 es e h w) (last_fresh-top u es e h w)
  where
    go : (b : Bool) → e.0 ≤ last_fresh x.0 es → e.0 ≤ last_fresh u es → e.0 ≤ cond b (last_fresh x.0 es) (last_fresh u es)
    go true a c = a
    go false a c = c

nothing_due : (first : ℕ) (es : Entries) → ((e : ℕ × IncomingPacket) → Has es e → is_due first e ≡ false) → fresh first es ≡ []
nothing_due first [] h = refl
nothing_due first (x ∷ es) h =
    ap (λ b. cond b (handed_out x.1 ∷ fresh first es) (fresh first es)) (h x (inl refl)) ∙ nothing_due first es (λ e k. h e (inr k))

tied : (q k : ℕ) → eq_by_cmp nat_cmp q k ≡ true → q ≡ k
tied q k e = elim (two_numbers q k) [ inl same ↦ same | inr apart ↦ absurd (let f = apart_numbers q k apart in cc) ]

find-entry : (es : Entries) (q : ℕ) (c : IncomingPacket) → find nat_cmp q es ≡ Some c → Has es (q, c)
find-entry [] q c e = absurd (cc)
find-entry (x ∷ es) q c e =
    elim (eq_by_cmp nat_cmp q x.0) as (λ b. eq_by_cmp nat_cmp q x.0 ≡ b → cond b (Some x.1) (find nat_cmp q es) ≡ Some c → Has (x ∷ es) (q, c)) [
      | true ↦ λ t f. inl (let key : q ≡ x.0 = tied q x.0 t in let value : x.1 ≡ c = cc in (λ i. (sym key i, value i)))
      | false ↦ λ t f. inr (find-entry es q c f)
    ] refl e

-- what is found at a number is an entry
pub entry_at : (m : Line) (q : ℕ) (c : IncomingPacket) → get m q ≡ Some c → Has (entries m) (q, c)
entry_at m q c e = find-entry (entries m) q c (sym (get-entries m q) ∙ e)

low_test : (w : Bool) (last k : ℕ) → (w ≡ true → k ≤ last) → (w && leb (last + 1) k) ≡ false
low_test true last k h = (let low = h refl in grind (arith, nat_tests))
low_test false last k h = refl

-- once the whole packets of a line are dispatched, none is left that is due
pub fresh_again : (u : ℕ) (line : Line) → fresh (last_fresh u (entries line) + 1) (entries (still_ahead line (last_fresh u (entries line)))) ≡ []
fresh_again u line =
    nothing_due (last_fresh u (entries line) + 1) (entries (still_ahead line (last_fresh u (entries line)))) (λ e h.
    low_test (is_whole e.1.making) (last_fresh u (entries line)) e.0 (λ w.
    last_fresh-top u (entries line) e (entry_at line e.0 e.1 (get_retained line (ltb (last_fresh u (entries line))) e.0 e.1 (get_entry (still_ahead line (last_fresh u (entries line))) e h))) w))

-- how many are due, counted one by one
due_count : ℕ → Entries → ℕ
due_count first [] = 0
due_count first (x ∷ es) = cond (is_due first x) (1 + due_count first es) (due_count first es)

length-fresh : (first : ℕ) (es : Entries) → length (fresh first es) ≡ due_count first es
unfolding due_count
length-fresh first [] = refl
length-fresh first (x ∷ es) = go (is_due first x) (length-fresh first es)
  where
    go : (b : Bool) → length (fresh first es) ≡ due_count first es → length (cond b (handed_out x.1 ∷ fresh first es) (fresh first es)) ≡ cond b (1 + due_count first es) (due_count first es)
    go true e = omega arith
    go false e = e

abbrev pub one_if : Bool → ℕ
one_if b = cond b 1 0

abbrev pub not_whole : Option IncomingPacket → Type 0
not_whole None = Unit {0}
not_whole (Some c) = is_whole c.making ≡ false

plus_first : (b : Bool) (n : ℕ) → cond b (1 + n) n ≡ n + one_if b
plus_first true n = omega arith
plus_first false n = omega arith

plus_past : (b : Bool) (n m k : ℕ) → n ≡ m + k → cond b (1 + n) n ≡ cond b (1 + m) m + k
plus_past true n m k e = omega arith
plus_past false n m k e = omega arith

tied_here : (q k : ℕ) → nat_cmp q k ≡ Equal → eq_by_cmp nat_cmp q k ≡ true
tied_here q k e = grind (arith, nat_cmp_total)

apart_here : (q k : ℕ) → nat_cmp q k ≡ Greater → eq_by_cmp nat_cmp q k ≡ false
apart_here q k e = grind (arith, nat_cmp_total)

-- a packet more, where none that is whole was
due_count-put : (first k : ℕ) (g : IncomingPacket) (es : Entries) → not_whole (find nat_cmp k es) → due_count first (put nat_cmp k g es) ≡ due_count first es + one_if (is_due first (k, g))
unfolding due_count
due_count-put first k g [] h = plus_first (is_due first (k, g)) 0
due_count-put first k g (x ∷ es) h =
    elim (nat_cmp k x.0) as (λ o. nat_cmp k x.0 ≡ o → due_count first (by_order o ((k, g) ∷ x ∷ es) ((x.0, g) ∷ es) (x ∷ put nat_cmp k g es)) ≡ cond (is_due first x) (1 + due_count first es) (due_count first es) + one_if (is_due first (k, g))) [
      | Less ↦ λ o. plus_first (is_due first (k, g)) (due_count first (x ∷ es))
      | Equal ↦ λ o.
          let same : k ≡ x.0 = nat_cmp-IsAntisymmetric k x.0 o in
          let none : is_whole x.1.making ≡ false = subst (λ b. not_whole (cond b (Some x.1) (find nat_cmp k es))) (tied_here k x.0 o) h in
          ap (λ n. cond (is_whole g.making && leb first n) (1 + due_count first es) (due_count first es)) (sym same)
          ∙ plus_first (is_due first (k, g)) (due_count first es)
          ∙ ap (λ b. cond (b && leb first x.0) (1 + due_count first es) (due_count first es) + one_if (is_due first (k, g))) (sym none)
      | Greater ↦ λ o.
          plus_past (is_due first x) (due_count first (put nat_cmp k g es)) (due_count first es) (one_if (is_due first (k, g)))
          (due_count-put first k g es (subst (λ b. not_whole (cond b (Some x.1) (find nat_cmp k es))) (apart_here k x.0 o) h))
    ] refl

-- how many are dispatched of a line with a packet more
pub fresh-insert : (first k : ℕ) (g : IncomingPacket) (line : Line) → not_whole (get line k)
    → length (fresh first (entries (insert line k g))) ≡ length (fresh first (entries line)) + one_if (is_due first (k, g))
fresh-insert first k g line h =
    length-fresh first (entries (insert line k g))
    ∙ ap (due_count first) (entries-insert nat_cmp_total line k g)
    ∙ due_count-put first k g (entries line) (subst not_whole (get-entries line k) h)
    ∙ ap (λ n. n + one_if (is_due first (k, g))) (sym (length-fresh first (entries line)))
