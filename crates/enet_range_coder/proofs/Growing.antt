-- A memory that learns, branch by branch.
use Rattle.std.proofs.Common.{◌≡◌, ℕ, ◌+◌, ◌-◌, ◌<◌, ◌≤◌, ◌⊎◌, inl, inr, Bool, true, false, ◌==◌, nat_le, min, map, get_or, slice_set, zero, suc, List, [], ◌∷◌, length, refl, sym, ◌∙◌, ap, arith, if◌then◌else◌}
use Rattle.std.proofs.lemmas.Bool.Decides.{nat_tests}
use Rattle.enet_range_coder.specs.declared.cell.Cell.{Cell}
use Rattle.enet_range_coder.specs.declared.coder.Coder.{Coder}
use Rattle.enet_range_coder.specs.Memory.{cell_at}
use Rattle.enet_range_coder.specs.Learning.{nothing_learned, halve_weight, halved_cell, is_heavy, is_heavy_root, root_weighed, fresh, add, cell_set, last_below, halve, weighed, halved_in, counted, planted, before_in, place_in, has, noted_in, noted_root, noted, linked, goes_on, learned_from, is_full, is_longest, stepped}

pub below_ends : (left : ℕ) (cells : List Cell) (place before byte : ℕ) → (left ≡ 0) ⊎ ((left ≡ 0 → ⊥) × (place ≡ 0)) → before ≡ last_below left cells place before byte
unfolding last_below
below_ends zero cells place before byte h = refl
below_ends (suc left) cells place before byte h = elim h [ inl e ↦ absurd (omega arith) | inr e ↦ rw e.1 refl ]

pub below_stops : (left : ℕ) (cells : List Cell) (place before byte : ℕ) (cell : Cell) → (left ≡ 0 → ⊥) → (place ≡ 0 → ⊥) → cell ≡ cell_at cells place → byte ≤ cell.byte → before ≡ last_below left cells place before byte
unfolding last_below
below_stops zero cells place before byte cell h k e l = absurd (h refl)
below_stops (suc left) cells place before byte cell h k e l =
    let t : (place == 0) ≡ false = grind (arith, nat_tests) in
    let u : nat_le byte (cell_at cells place).byte ≡ true = let f = ap (λ (x : Cell). x.byte) e in grind (arith, nat_tests) in
    rw (t, u) refl

pub below_goes : (left : ℕ) (cells : List Cell) (place before byte : ℕ) (cell : Cell) (r : ℕ) → (left ≡ 0 → ⊥) → (place ≡ 0 → ⊥) → cell ≡ cell_at cells place → cell.byte < byte → r ≡ last_below (left - 1) cells cell.next place byte
    → r ≡ last_below left cells place before byte
unfolding last_below
below_goes zero cells place before byte cell r h k e l g = absurd (h refl)
below_goes (suc left) cells place before byte cell r h k e l g =
    let t : (place == 0) ≡ false = grind (arith, nat_tests) in
    let u : nat_le byte (cell_at cells place).byte ≡ false = let f = ap (λ (x : Cell). x.byte) e in grind (arith, nat_tests) in
    let n : suc left - 1 ≡ left = omega arith in
    rw (t, u) (rw (n, e) at g)

pub halve_ends : (left : ℕ) (cells : List Cell) (place : ℕ) → (left ≡ 0) ⊎ ((left ≡ 0 → ⊥) × (place ≡ 0)) → cells ≡ halve left cells place
unfolding halve
halve_ends zero cells place h = refl
halve_ends (suc left) cells place h = elim h [ inl e ↦ absurd (omega arith) | inr e ↦ rw e.1 refl ]

pub halve_goes : (left : ℕ) (cells next r : List Cell) (place : ℕ) (cell half : Cell) → (left ≡ 0 → ⊥) → (place ≡ 0 → ⊥) → cell ≡ cell_at cells place → half ≡ halved_cell cell → next ≡ cell_set cells place half
    → r ≡ halve (left - 1) next cell.next → r ≡ halve left cells place
unfolding halve
halve_goes zero cells next r place cell half h k e d f g = absurd (h refl)
halve_goes (suc left) cells next r place cell half h k e d f g =
    let t : (place == 0) ≡ false = grind (arith, nat_tests) in
    let n : suc left - 1 ≡ left = omega arith in
    rw t (rw (n, f, d, e) at g)

pub count_halves : (m n r : Coder) (context place : ℕ) (cell : Cell) (heavy : Bool) → cell ≡ cell_at m.cells place → heavy ≡ is_heavy cell.weight → heavy ≡ true → n ≡ weighed m place → r ≡ halved_in n context → r ≡ counted m context place
unfolding counted
count_halves m n r context place cell heavy e h l f g = let t : is_heavy (cell_at m.cells place).weight ≡ true = rw e at (sym h ∙ l) in rw t (rw f at g)

pub count_stays : (m n : Coder) (context place : ℕ) (cell : Cell) (heavy : Bool) → cell ≡ cell_at m.cells place → heavy ≡ is_heavy cell.weight → heavy ≡ false → n ≡ weighed m place → n ≡ counted m context place
unfolding counted
count_stays m n context place cell heavy e h l f = let t : is_heavy (cell_at m.cells place).weight ≡ false = rw e at (sym h ∙ l) in rw t f

pub noted_has : (m : Coder) (context byte before place : ℕ) → before ≡ before_in m context byte → place ≡ (if before == 0 then (cell_at m.cells context).first else (cell_at m.cells before).next) → has m place byte ≡ true
    → noted_in m context byte ≡ record { memory = counted m context place; cell = place; is_new = false }
unfolding noted_in
noted_has m context byte before place e f h =
    let g : place ≡ place_in m context byte = f ∙ ap (λ (b : ℕ). if b == 0 then (cell_at m.cells context).first else (cell_at m.cells b).next) e in
    let t : has m (place_in m context byte) byte ≡ true = ap (λ (p : ℕ). has m p byte) (sym g) ∙ h in
    rw (t, g) refl

pub noted_new : (m : Coder) (context byte before place : ℕ) → before ≡ before_in m context byte → place ≡ (if before == 0 then (cell_at m.cells context).first else (cell_at m.cells before).next) → has m place byte ≡ false
    → noted_in m context byte ≡ record { memory = planted m context before place byte; cell = m.used; is_new = true }
unfolding noted_in
noted_new m context byte before place e f h =
    let g : place ≡ place_in m context byte = f ∙ ap (λ (b : ℕ). if b == 0 then (cell_at m.cells context).first else (cell_at m.cells b).next) e in
    let t : has m (place_in m context byte) byte ≡ false = ap (λ (p : ℕ). has m p byte) (sym g) ∙ h in
    rw (t, g, e) refl

pub noted_empty : (m : Coder) (context byte : ℕ) → context ≡ 0 → noted m context byte ≡ noted_root m byte
unfolding noted
noted_empty m context byte e = rw e refl

pub noted_other : (m : Coder) (context byte : ℕ) → (context ≡ 0 → ⊥) → noted m context byte ≡ noted_in m context byte
unfolding noted
noted_other m context byte e = let t : (context == 0) ≡ false = grind (arith, nat_tests) in rw t refl

pub step_full : (m : Coder) → is_full m.used ≡ true → nothing_learned ≡ stepped m
unfolding stepped
step_full m t = rw t refl

pub step_long : (m : Coder) (here : ℕ) → is_full m.used ≡ false → is_longest m.length ≡ true → here ≡ (cell_at m.cells m.here).shorter → record m { here = here } ≡ stepped m
unfolding stepped
step_long m here t u e = rw (t, u, e) refl

pub step_short : (m : Coder) → is_full m.used ≡ false → is_longest m.length ≡ false → record m { length = m.length + 1 } ≡ stepped m
unfolding stepped
step_short m t u = rw (t, u) refl

pub learn_none : (left : ℕ) (m : Coder) (context longer byte : ℕ) → left ≡ 0 → m ≡ learned_from left m context longer byte
unfolding learned_from
learn_none left m context longer byte e = rw e refl

pub learn_goes : (left : ℕ) (m n l r : Coder) (context longer byte cell shorter : ℕ) (new goes : Bool) → (left ≡ 0 → ⊥) → n ≡ (noted m context byte).memory → cell ≡ (noted m context byte).cell → new ≡ (noted m context byte).is_new
    → goes ≡ goes_on new context → goes ≡ true → l ≡ linked n longer cell → shorter ≡ (cell_at l.cells context).shorter → r ≡ learned_from (left - 1) l shorter cell byte → r ≡ learned_from left m context longer byte
unfolding learned_from
learn_goes zero m n l r context longer byte cell shorter new goes h a b c d k e s g = absurd (h refl)
learn_goes (suc left) m n l r context longer byte cell shorter new goes h a b c d k e s g =
    let t : goes_on (noted m context byte).is_new context ≡ true = rw c at (sym d ∙ k) in
    let f : suc left - 1 ≡ left = omega arith in
    let there : l ≡ linked (noted m context byte).memory longer (noted m context byte).cell = e ∙ ap (λ (x : Coder). linked x longer cell) a ∙ ap (linked (noted m context byte).memory longer) b in
    let on : r ≡ learned_from left l shorter cell byte = rw f at g in
    let all : learned_from left l shorter cell byte ≡ learned_from left l (cell_at l.cells context).shorter (noted m context byte).cell byte =
    ap (λ (x : ℕ). learned_from left l x cell byte) s ∙ ap (λ (x : ℕ). learned_from left l (cell_at l.cells context).shorter x byte) b in
    let same : learned_from left l (cell_at l.cells context).shorter (noted m context byte).cell byte ≡ learned_from left (linked (noted m context byte).memory longer (noted m context byte).cell) (cell_at (linked (noted m context byte).memory longer (noted m context byte).cell).cells context).shorter (noted m context byte).cell byte =
    ap (λ (x : Coder). learned_from left x (cell_at x.cells context).shorter (noted m context byte).cell byte) there in
    rw t (on ∙ all ∙ same)

pub learn_stays : (left : ℕ) (m n l : Coder) (context longer byte cell : ℕ) (new goes : Bool) → (left ≡ 0 → ⊥) → n ≡ (noted m context byte).memory → cell ≡ (noted m context byte).cell → new ≡ (noted m context byte).is_new
    → goes ≡ goes_on new context → goes ≡ false → l ≡ linked n longer cell → l ≡ learned_from left m context longer byte
unfolding learned_from
learn_stays zero m n l context longer byte cell new goes h a b c d k e = absurd (h refl)
learn_stays (suc left) m n l context longer byte cell new goes h a b c d k e =
    let t : goes_on (noted m context byte).is_new context ≡ false = rw c at (sym d ∙ k) in
    let there : l ≡ linked (noted m context byte).memory longer (noted m context byte).cell = e ∙ ap (λ (x : Coder). linked x longer cell) a ∙ ap (linked (noted m context byte).memory longer) b in
    rw t there

pub root_halves : (ws r : List ℕ) (byte up : ℕ) → is_heavy_root (get_or ws byte 0) ≡ true → up ≡ min (get_or ws byte 0 + 3) 255 → r ≡ map halve_weight (slice_set ws byte up) → r ≡ root_weighed ws byte
unfolding root_weighed
root_halves ws r byte up t e f = rw t (rw e at f)

pub root_stays : (ws : List ℕ) (byte up : ℕ) → is_heavy_root (get_or ws byte 0) ≡ false → up ≡ min (get_or ws byte 0 + 3) 255 → slice_set ws byte up ≡ root_weighed ws byte
unfolding root_weighed
root_stays ws byte up t e = rw (t, e) refl

pub root_has : (m : Coder) (byte : ℕ) (ws : List ℕ) → ws ≡ root_weighed m.weights byte → (get_or m.roots byte 0 ≡ 0 → ⊥) → noted_root m byte ≡ record { memory = record m { weights = ws }; cell = get_or m.roots byte 0; is_new = false }
unfolding noted_root
root_has m byte ws e h = let t : (get_or m.roots byte 0 == 0) ≡ false = grind (arith, nat_tests) in rw (t, e) refl

pub root_new : (m n : Coder) (byte cell : ℕ) (ws : List ℕ) (f : Cell) → ws ≡ root_weighed m.weights byte → get_or m.roots byte 0 ≡ 0 → f ≡ fresh byte 3 0 → n ≡ add (record m { weights = ws }) f → cell ≡ m.used
    → noted_root m byte ≡ record { memory = record n { roots = slice_set n.roots byte cell }; cell = cell; is_new = true }
unfolding noted_root
root_new m n byte cell ws f e h g k u = let t : (get_or m.roots byte 0 == 0) ≡ true = grind (arith, nat_tests) in rw (t, k, g, e, u) refl

pub get_any : (xs : List ℕ) (i d e : ℕ) → i < length xs → get_or xs i d ≡ get_or xs i e
get_any [] i d e l = absurd (omega arith)
get_any (x ∷ xs) zero d e l = refl
get_any (x ∷ xs) (suc i) d e l = get_any xs i d e (omega arith)
