-- Each step keeps the rule.
use Rattle.std.proofs.Common.{◌≡◌, ◌≢◌, ℕ, zero, suc, ◌+◌, ◌<◌, ◌≤◌, ◌==◌, ◌⊎◌, inl, inr, ⊎_elim, true, false, cond, List, [], ◌∷◌, ◌++◌, length, set, sym, refl, ap, ◌∙◌, subst, append_assoc, append-nil, length-append, arith, eq-eqb, ne_eqb}
use Rattle.std.specs.List.{All}
use Rattle.std.proofs.lemmas.List.Elements.{filter-append, All-nil, All-cons, All-head, All-tail, All-push, All-same}
use mathlib.Core.Option.{some, some-injective, some-ne-none}
use lib.ListN.{get_elem?}
use Rattle.crossbeam_queue.specs.Fifo.{Pushes, Pops, Forks, Merges, Learns}
use Rattle.crossbeam_queue.proofs.Lists.{at_set}
use Rattle.enet_events.specs.declared.numbered.Numbered.{Numbered}
use Rattle.enet_events.specs.declared.rule.Share.{Share}
use Rattle.enet_events.specs.declared.rule.View.{View}
use Rattle.enet_events.specs.declared.rule.View.TheVariants.{Posting, Taking, Spent}
use Rattle.enet_events.specs.History.{IsNumbered, part, AreWith}
use Rattle.enet_events.specs.Rule.{share, Among, Claims, Agrees, Invariant, Pushed, Popped, PosterSees, PosterKnows, TakerSees, TakerLearns, posted_of, taken_of, widened, made_one, taker_of, informed}

-- ---- lists
part_append : (who : ℕ → ℕ) (t : ℕ) (a b : List Numbered) → part who t (a ++ b) ≡ part who t a ++ part who t b
part_append who t a b = filter-append (λ x. who x.number == t) a b

IsNumbered_more : (k : ℕ) (xs : List Numbered) (x : Numbered) → IsNumbered k xs → x.number ≡ k + length xs → IsNumbered k (xs ++ x ∷ [])
IsNumbered_more k [] x c e = (omega arith, tt)
IsNumbered_more k (y ∷ ys) x c e = (c.0, IsNumbered_more (k + 1) ys x c.1 (omega arith))

IsNumbered_at : (k : ℕ) (xs : List Numbered) (x : Numbered) (ys : List Numbered) → IsNumbered k (xs ++ x ∷ ys) → x.number ≡ k + length xs
IsNumbered_at k [] x ys c = omega arith
IsNumbered_at k (y ∷ xs) x ys c = let r = IsNumbered_at (k + 1) xs x ys c.1 in omega arith

IsNumbered_front : (k : ℕ) (xs ys : List Numbered) → IsNumbered k (xs ++ ys) → IsNumbered k xs
IsNumbered_front k [] ys c = tt
IsNumbered_front k (x ∷ xs) ys c = (c.0, IsNumbered_front (k + 1) xs ys c.1)

abbrev give : (ℕ → ℕ) → ℕ → ℕ → ℕ → ℕ
give f n t k = cond (k == n) t (f k)

give_here : (f : ℕ → ℕ) (n t k : ℕ) → k ≡ n → give f n t k ≡ t
give_here f n t k e = ap (λ b. cond b t (f k)) (eq-eqb k n e)

give_else : (f : ℕ → ℕ) (n t k : ℕ) → k ≢ n → give f n t k ≡ f k
give_else f n t k e = ap (λ b. cond b t (f k)) (ne_eqb k n e)

-- numbers below n are taken by whom they were
part_same : (who : ℕ → ℕ) (n t s k : ℕ) (xs : List Numbered) → IsNumbered k xs → k + length xs ≤ n → part (give who n t) s xs ≡ part who s xs
part_same who n t s k [] c le = refl
part_same who n t s k (x ∷ xs) c le =
    let w : give who n t x.number ≡ who x.number = give_else who n t x.number (λ z. absurd (let q = c.0 in omega arith)) in
    let rest = part_same who n t s (k + 1) xs c.1 (omega arith) in
    λ i. cond (w i == s) (x ∷ rest i) (rest i)

part_here : (who : ℕ → ℕ) (x : Numbered) (t s : ℕ) → s ≡ t → part (give who x.number t) s (x ∷ []) ≡ x ∷ []
part_here who x t s e = ap (λ b. cond b (x ∷ []) []) (eq-eqb (give who x.number t x.number) s (give_here who x.number t x.number refl ∙ sym e))

part_else : (who : ℕ → ℕ) (x : Numbered) (t s : ℕ) → s ≢ t → part (give who x.number t) s (x ∷ []) ≡ []
part_else who x t s n = ap (λ b. cond b (x ∷ []) []) (ne_eqb (give who x.number t x.number) s (λ z. n (sym z ∙ give_here who x.number t x.number refl)))

part_more_here : (who : ℕ → ℕ) (x : Numbered) (t s : ℕ) (xs : List Numbered) → IsNumbered 0 xs → x.number ≡ length xs → s ≡ t → part (give who x.number t) s (xs ++ x ∷ []) ≡ part who s xs ++ x ∷ []
part_more_here who x t s xs c n e = let w = give who x.number t in
    part_append w s xs (x ∷ []) ∙ (λ i. part_same who x.number t s 0 xs c (omega arith) i ++ part_here who x t s e i)

part_more_else : (who : ℕ → ℕ) (x : Numbered) (t s : ℕ) (xs : List Numbered) → IsNumbered 0 xs → x.number ≡ length xs → s ≢ t → part (give who x.number t) s (xs ++ x ∷ []) ≡ part who s xs
part_more_else who x t s xs c n e = let w = give who x.number t in
    part_append w s xs (x ∷ []) ∙ ((λ i. part_same who x.number t s 0 xs c (omega arith) i ++ part_else who x t s e i) ∙ append-nil (part who s xs))

-- events that were taken earlier stay with their takers
with_same : (who : ℕ → ℕ) (n t total k : ℕ) (xs : List Numbered) → IsNumbered k xs → k + length xs ≤ n → AreWith who total xs → AreWith (give who n t) total xs
with_same who n t total k [] c le all = All-nil (λ (y : Numbered). give who n t y.number < total)
with_same who n t total k (x ∷ xs) c le all =
    let P : Numbered → Type 0 = λ y. who y.number < total in
    let Q : Numbered → Type 0 = λ y. give who n t y.number < total in
    let w : give who n t x.number ≡ who x.number = give_else who n t x.number (λ z. absurd (let q = c.0 in omega arith)) in
    All-cons Q x xs (subst (λ y. y < total) (sym w) (All-head P x xs all)) (with_same who n t total (k + 1) xs c.1 (omega arith) (All-tail P x xs all))

-- the event at the front goes to the taker t
with_more : (who : ℕ → ℕ) (x : Numbered) (t total : ℕ) (xs : List Numbered) → IsNumbered 0 xs → x.number ≡ length xs → t < total → AreWith who total xs → AreWith (give who x.number t) total (xs ++ x ∷ [])
with_more who x t total xs c n lt all =
    let Q : Numbered → Type 0 = λ y. give who x.number t y.number < total in
    All-push Q xs x (with_same who x.number t total 0 xs c (omega arith) all) (subst (λ y. y < total) (sym (give_here who x.number t x.number refl)) lt)

-- a taker's part of the first n events has numbers below n, and is no longer
part_below : (who : ℕ → ℕ) (t n k : ℕ) (xs : List Numbered) → IsNumbered k xs → k + length xs ≤ n → All (λ y. y.number < n) (part who t xs) × (length (part who t xs) ≤ length xs)
part_below who t n k [] c le = (All-nil (λ (y : Numbered). y.number < n), omega arith)
part_below who t n k (x ∷ xs) c le =
    let P : Numbered → Type 0 = λ y. y.number < n in
    let r = part_below who t n (k + 1) xs c.1 (omega arith) in
    let lt : x.number < n = let q = c.0 in omega arith in
    elim (who x.number == t) as (λ b. All (λ y. y.number < n) (cond b (x ∷ part who t xs) (part who t xs)) × (length (cond b (x ∷ part who t xs) (part who t xs)) ≤ length (x ∷ xs))) [
      | true ↦ (All-cons P x (part who t xs) lt r.0, let q = r.1 in omega arith)
      | false ↦ (r.0, let q = r.1 in omega arith)
    ]

at_push : {A : Type 0} (l : List A) (a b : A) (j : ℕ) → get_elem? (l ++ a ∷ []) j ≡ some b → ((j < length l) × (get_elem? l j ≡ some b)) ⊎ ((j ≡ length l) × (a ≡ b))
at_push [] a b zero e = inr (refl, some-injective a b e)
at_push [] a b (suc j) e = absurd (some-ne-none b (sym e))
at_push (x ∷ xs) a b zero e = inl (omega arith, e)
at_push (x ∷ xs) a b (suc j) e = ⊎_elim (λ (t : (j < length xs) × (get_elem? xs j ≡ some b)). inl (omega arith, t.1)) (λ (t : (j ≡ length xs) × (a ≡ b)). inr (ap suc t.0, t.1)) (at_push xs a b j e)

-- a pass that doesn't post needs no history
agrees_other : (poster total : ℕ) (a b : List Numbered) (j : ℕ) (u : View) → j ≢ poster → Agrees poster total a j u → Agrees poster total b j u
agrees_other p n a b j (Posting takers made posted known) ne h = absurd (ne h.0)
agrees_other p n a b j (Taking takers t taken) ne h = h
agrees_other p n a b j Spent ne h = tt

-- ---- a push
pub pushes : (n port takers m : ℕ) (posted : List Numbered) (known : List Share) (x : Numbered) → x.number ≡ length posted → length posted < 4294967295
    → Pushes Invariant n port (Posting takers m posted known) x (Pushed (Posting takers m posted known) x)
pushes n port takers m posted known x num room items views free b at =
    let v : View = Posting takers m posted known in
    let w : View = Posting takers m (posted ++ x ∷ []) known in
    let mine = b.agrees port v at in
    let h : List Numbered = b.taken ++ items in
    let size : length posted ≡ length h = ap length mine.2 in
    let more : h ++ x ∷ [] ≡ b.taken ++ (items ++ x ∷ []) = append_assoc b.taken items (x ∷ []) in
    let numbered : IsNumbered 0 (b.taken ++ (items ++ x ∷ [])) = subst (IsNumbered 0) more (IsNumbered_more 0 h x b.numbered (omega arith)) in
    let whole : posted ++ x ∷ [] ≡ b.taken ++ (items ++ x ∷ []) = ap (λ y. y ++ x ∷ []) mine.2 ∙ more in (
      w,
      record {
        poster = b.poster;
        total = b.total;
        taken = b.taken;
        who = b.who;
        owner = b.owner;
        numbered = numbered;
        short = subst (λ (y : List Numbered). length y ≤ 4294967295) more (omega (arith, length-append h (x ∷ [])));
        shared = b.shared;
        agrees = λ j u e. ⊎_elim (λ (q : (j ≡ port) × (w ≡ u)). subst (Agrees b.poster b.total (b.taken ++ (items ++ x ∷ [])) j) q.1 (q.0 ∙ mine.0, mine.1, whole))
            (λ (q : (j ≢ port) × (get_elem? views j ≡ some u)). agrees_other b.poster b.total h (b.taken ++ (items ++ x ∷ [])) j u (λ d. q.0 (d ∙ sym mine.0)) (b.agrees j u q.1)) (at_set views port j w u e);
        claims = λ j u e. ⊎_elim
            (λ (q : (j ≡ port) × (w ≡ u)). λ t l c. let old = b.claims port v at t l (subst (λ (y : View). Claims y t l) (sym q.1) c) in (old.0 ∙ sym q.0, old.1))
            (λ (q : (j ≢ port) × (get_elem? views j ≡ some u)). b.claims j u q.1)
            (at_set views port j w u e);
      },
      (refl, items, record { taken = b.taken; who = b.who; in_order = whole; numbered = subst (IsNumbered 0) (sym whole) numbered; shared = subst (λ k. AreWith b.who k b.taken) (sym mine.1) b.shared }),
    )

-- ---- a pop
pub pops : (port takers t : ℕ) (got : List Numbered) → t < takers → Pops Invariant port (Taking takers t got) (Popped (Taking takers t got))
pops port takers t got lt x items views b at =
    let v : View = Taking takers t got in
    let w : View = Taking takers t (got ++ x ∷ []) in
    let mine = b.claims port v at t got (refl, refl) in
    let total : takers ≡ b.total = b.agrees port v at in
    let again : b.taken ++ x ∷ items ≡ (b.taken ++ x ∷ []) ++ items = sym (append_assoc b.taken (x ∷ []) items) in
    let num : x.number ≡ length b.taken = (let q = IsNumbered_at 0 b.taken x items b.numbered in omega arith) in
    let c : IsNumbered 0 b.taken = IsNumbered_front 0 b.taken (x ∷ items) b.numbered in
    let below = part_below b.who t x.number 0 b.taken c (omega arith) in
    let size : length (part b.who t b.taken) ≡ length got = ap length mine.1 in
    let short = b.short in
    let who : ℕ → ℕ = give b.who x.number t in
    let shared : AreWith who b.total (b.taken ++ x ∷ []) = with_more b.who x t b.total b.taken c num (omega arith) b.shared in
    let given : part who t (b.taken ++ x ∷ []) ≡ got ++ x ∷ [] = part_more_here b.who x t t b.taken c num refl ∙ ap (λ (y : List Numbered). y ++ x ∷ []) mine.1 in
    let before : TakerSees v (b.taken ++ x ∷ items) (x ∷ items) = (record { taken = b.taken; who = b.who; in_order = refl; numbered = b.numbered; shared = subst (λ k. AreWith b.who k b.taken) (sym total) b.shared }, mine.1) in
    let after : TakerSees w (b.taken ++ x ∷ items) items = (record { taken = b.taken ++ x ∷ []; who = who; in_order = again; numbered = b.numbered; shared = subst (λ k. AreWith who k (b.taken ++ x ∷ [])) (sym total) shared }, given) in (
      w,
      record {
        poster = b.poster;
        total = b.total;
        taken = b.taken ++ x ∷ [];
        who = who;
        owner = b.owner;
        numbered = subst (IsNumbered 0) again b.numbered;
        short = subst (λ (y : List Numbered). length y ≤ 4294967295) again b.short;
        shared = shared;
        agrees = λ j u e. ⊎_elim (λ (q : (j ≡ port) × (w ≡ u)). subst (Agrees b.poster b.total ((b.taken ++ x ∷ []) ++ items) j) q.1 total)
            (λ (q : (j ≢ port) × (get_elem? views j ≡ some u)). subst (λ (y : List Numbered). Agrees b.poster b.total y j u) again (b.agrees j u q.1)) (at_set views port j w u e);
        claims = λ j u e. ⊎_elim
            (λ (q : (j ≡ port) × (w ≡ u)). λ s l k.
            let k' : Claims w s l = subst (λ (y : View). Claims y s l) (sym q.1) k in (
              (ap b.owner k'.0 ∙ mine.0) ∙ sym q.0,
              part_more_here b.who x t s b.taken c num k'.0 ∙ (ap (λ (y : List Numbered). y ++ x ∷ []) (ap (λ y. part b.who y b.taken) k'.0 ∙ mine.1) ∙ sym k'.1),
            ))
            (λ (q : (j ≢ port) × (get_elem? views j ≡ some u)). λ s l k.
            let old = b.claims j u q.1 s l k in
            (old.0, part_more_else b.who x t s b.taken c num (λ same. q.0 (sym old.0 ∙ (ap b.owner same ∙ mine.0))) ∙ old.1))
            (at_set views port j w u e);
      },
      (refl, (let q = below.1 in omega arith), omega (arith, length-append b.taken (x ∷ items)), All-same (λ (y : Numbered). y.number < x.number) got (part b.who t b.taken) (sym mine.1) below.0, b.taken ++ x ∷ items, items, before, after),
    )

-- ---- one more taker is to come
-- before the first taker is made, only the poster knows how many there are to be
agrees_wider : (poster total : ℕ) (history : List Numbered) (j port : ℕ) (u : View) → j ≢ poster → Agrees poster total history j u
    → {owner : ℕ → ℕ} → ((t : ℕ) (l : List Numbered) → Claims u t l → owner t ≡ j) → ((t : ℕ) → owner t ≡ port) → j ≢ port → Agrees poster (total + 1) history j u
agrees_wider p n h j port (Posting takers made posted known) ne a mine all other = absurd (ne a.0)
agrees_wider p n h j port (Taking takers t taken) ne a mine all other = absurd (other (sym (mine t taken (refl, refl)) ∙ all t))
agrees_wider p n h j port Spent ne a mine all other = tt

with_wider : (who : ℕ → ℕ) (total : ℕ) (xs : List Numbered) → AreWith who total xs → AreWith who (total + 1) xs
with_wider who total xs all k d lt = let q = all k d lt in omega arith

pub widens : (port takers : ℕ) → Forks Invariant port (Posting takers 0 [] []) (Posting (takers + 1) 0 [] []) Spent
widens port takers items views b at =
    let v : View = Posting takers 0 [] [] in
    let w : View = Posting (takers + 1) 0 [] [] in
    let h : List Numbered = b.taken ++ items in
    let mine = b.agrees port v at in
    let Fits : ℕ → View → Type 0 = λ j u. Agrees b.poster (b.total + 1) h j u × ((s : ℕ) (l : List Numbered) → Claims u s l → (b.owner s ≡ j) × (part b.who s b.taken ≡ l)) in
    let all : (j : ℕ) (u : View) → get_elem? (set views port w ++ Spent ∷ []) j ≡ some u → Fits j u = λ j u e.
    ⊎_elim
    (λ (p : (j < length (set views port w)) × (get_elem? (set views port w) j ≡ some u)).
    ⊎_elim (λ (q : (j ≡ port) × (w ≡ u)). subst (Fits j) q.1 ((q.0 ∙ mine.0, (let z = mine.1 in omega arith), mine.2), λ s l c. let o = b.claims port v at s l c in (o.0 ∙ sym q.0, o.1)))
    (λ (q : (j ≢ port) × (get_elem? views j ≡ some u)). (agrees_wider b.poster b.total h j port u (λ d. q.0 (d ∙ sym mine.0)) (b.agrees j u q.1) (λ s l c. (b.claims j u q.1 s l c).0) (λ s. (b.claims port v at s [] (inl (omega arith, refl))).0) q.0, b.claims j u q.1))
    (at_set views port j w u p.1))
    (λ (p : (j ≡ length (set views port w)) × (Spent ≡ u)). subst (Fits j) p.1 (tt, λ s l c. absurd c))
    (at_push (set views port w) Spent u j e) in
    record { poster = b.poster; total = b.total + 1; taken = b.taken; who = b.who; owner = b.owner; numbered = b.numbered; short = b.short; shared = with_wider b.who b.total b.taken b.shared; agrees = λ j u e. (all j u e).0; claims = λ j u e. (all j u e).1 }

-- ---- a taker is made
pub makes : (port takers m : ℕ) (posted : List Numbered) → Forks Invariant port (Posting takers m posted []) (Posting takers (m + 1) posted []) (Taking takers m [])
makes port takers m posted items views b at =
    let v : View = Posting takers m posted [] in
    let w : View = Posting takers (m + 1) posted [] in
    let new : View = Taking takers m [] in
    let vs : List View = set views port w in
    let h : List Numbered = b.taken ++ items in
    let owner : ℕ → ℕ = give b.owner m (length vs) in
    let mine = b.agrees port v at in
    let free = b.claims port v at m [] (inl (omega arith, refl)) in
    let Fits : ℕ → View → Type 0 = λ j u. Agrees b.poster b.total h j u × ((s : ℕ) (l : List Numbered) → Claims u s l → (owner s ≡ j) × (part b.who s b.taken ≡ l)) in
    let all : (j : ℕ) (u : View) → get_elem? (vs ++ new ∷ []) j ≡ some u → Fits j u = λ j u e.
    ⊎_elim
    (λ (p : (j < length vs) × (get_elem? vs j ≡ some u)).
    ⊎_elim
    (λ (q : (j ≡ port) × (w ≡ u)). subst (Fits j) q.1 (
      (q.0 ∙ mine.0, mine.1, mine.2),
      λ s l c. ⊎_elim
          (λ (o : (m + 1 ≤ s) × (l ≡ [])).
          let old = b.claims port v at s l (inl (omega arith, o.1)) in
          (give_else b.owner m (length vs) s (λ z. absurd (omega arith)) ∙ (old.0 ∙ sym q.0), old.1))
          (λ (o : Among (share s l) []). absurd (some-ne-none (share s l) (sym o.1)))
          c,
    ))
    (λ (q : (j ≢ port) × (get_elem? views j ≡ some u)). (
      b.agrees j u q.1,
      λ s l c.
          let old = b.claims j u q.1 s l c in
          (give_else b.owner m (length vs) s (λ z. q.0 (sym old.0 ∙ (ap b.owner z ∙ free.0))) ∙ old.0, old.1),
    ))
    (at_set views port j w u p.1))
    (λ (p : (j ≡ length vs) × (new ≡ u)). subst (Fits j) p.1
    (mine.1, λ s l c. (give_here b.owner m (length vs) s c.0 ∙ sym p.0, ap (λ k. part b.who k b.taken) c.0 ∙ (free.1 ∙ sym c.1))))
    (at_push vs new u j e) in
    record { poster = b.poster; total = b.total; taken = b.taken; who = b.who; owner = owner; numbered = b.numbered; short = b.short; shared = b.shared; agrees = λ j u e. (all j u e).0; claims = λ j u e. (all j u e).1 }

among_more : (xs : List Share) (a x : Share) → Among x (xs ++ a ∷ []) → Among x xs ⊎ (a ≡ x)
among_more xs a x o = ⊎_elim (λ (p : (o.0 < length xs) × (get_elem? xs o.0 ≡ some x)). inl (o.0, p.1)) (λ (p : (o.0 ≡ length xs) × (a ≡ x)). inr p.1) (at_push xs a x o.0 o.1)

-- ---- the poster takes in a taker
pub finishes : (port takers m : ℕ) (posted : List Numbered) (known : List Share) (other n s : ℕ) (got : List Numbered)
    → Merges Invariant port (Posting takers m posted known) other (Taking n s got) (Posting takers m posted (known ++ share s got ∷ [])) Spent
finishes port takers m posted known other n s got items views b at apart theirs =
    let v : View = Posting takers m posted known in
    let w : View = Posting takers m posted (known ++ share s got ∷ []) in
    let u₀ : View = Taking n s got in
    let vs : List View = set views port w in
    let h : List Numbered = b.taken ++ items in
    let owner : ℕ → ℕ = give b.owner s port in
    let mine = b.agrees port v at in
    let was : get_elem? views other ≡ some u₀ = ⊎_elim (λ (x : (other ≡ port) × (w ≡ u₀)). absurd (apart x.0)) (λ (x : (other ≢ port) × (get_elem? views other ≡ some u₀)). x.1) (at_set views port other w u₀ theirs) in
    let given = b.claims other u₀ was s got (refl, refl) in
    let Fits : ℕ → View → Type 0 = λ j u. Agrees b.poster b.total h j u × ((k : ℕ) (l : List Numbered) → Claims u k l → (owner k ≡ j) × (part b.who k b.taken ≡ l)) in
    let kept : (j k : ℕ) (l : List Numbered) → (b.owner k ≡ j) × (part b.who k b.taken ≡ l) → j ≢ other → (owner k ≡ j) × (part b.who k b.taken ≡ l) =
    λ j k l old ne. (give_else b.owner s port k (λ z. ne (sym old.0 ∙ (ap b.owner z ∙ given.0))) ∙ old.0, old.1) in
    let all : (j : ℕ) (u : View) → get_elem? (set vs other Spent) j ≡ some u → Fits j u = λ j u e.
    ⊎_elim
    (λ (p : (j ≡ other) × (Spent ≡ u)). subst (Fits j) p.1 (tt, λ k l c. absurd c))
    (λ (p : (j ≢ other) × (get_elem? vs j ≡ some u)).
    ⊎_elim
    (λ (q : (j ≡ port) × (w ≡ u)). subst (Fits j) q.1 (
      (q.0 ∙ mine.0, mine.1, mine.2),
      λ k l c. ⊎_elim
          (λ (o : (m ≤ k) × (l ≡ [])). let old = b.claims port v at k l (inl o) in kept j k l (old.0 ∙ sym q.0, old.1) p.0)
          (λ (o : Among (share k l) (known ++ share s got ∷ [])).
          ⊎_elim
          (λ (r : Among (share k l) known). let old = b.claims port v at k l (inr r) in kept j k l (old.0 ∙ sym q.0, old.1) p.0)
          (λ (r : share s got ≡ share k l).
          let ks : k ≡ s = ap (λ (y : Share). y.index) (sym r) in
          (give_here b.owner s port k ks ∙ sym q.0, ap (λ y. part b.who y b.taken) ks ∙ (given.1 ∙ ap (λ (y : Share). y.taken) r)))
          (among_more known (share s got) (share k l) o))
          c,
    ))
    (λ (q : (j ≢ port) × (get_elem? views j ≡ some u)). (b.agrees j u q.1, λ k l c. kept j k l (b.claims j u q.1 k l c) p.0))
    (at_set views port j w u p.1))
    (at_set vs other j Spent u e) in
    record { poster = b.poster; total = b.total; taken = b.taken; who = b.who; owner = owner; numbered = b.numbered; short = b.short; shared = b.shared; agrees = λ j u e. (all j u e).0; claims = λ j u e. (all j u e).1 }

-- ---- the opening
pub begins : Invariant [] (Posting 0 0 [] [] ∷ [])
begins =
    let Fits : ℕ → View → Type 0 = λ j u. Agrees 0 0 [] j u × ((k : ℕ) (l : List Numbered) → Claims u k l → (0 ≡ j) × ([] ≡ l)) in
    let v : View = Posting 0 0 [] [] in
    let first : Fits 0 v = ((refl, refl, refl), λ k l c. (refl, ⊎_elim (λ (o : (0 ≤ k) × (l ≡ [])). sym o.1) (λ (o : Among (share k l) []). absurd (some-ne-none (share k l) (sym o.1))) c)) in
    let all : (j : ℕ) (u : View) → get_elem? ([] ++ v ∷ []) j ≡ some u → Fits j u = λ j u e.
    ⊎_elim (λ (p : (j < 0) × (get_elem? [] j ≡ some u)). absurd (omega arith)) (λ (p : (j ≡ 0) × (v ≡ u)). subst (λ (y : ℕ × View). Fits y.0 y.1) (λ i. (sym p.0 i, p.1 i)) first) (at_push [] v u j e) in
    record { poster = 0; total = 0; taken = []; who = λ k. 0; owner = λ k. 0; numbered = tt; short = omega arith; shared = All-nil (λ (y : Numbered). 0 < 0); agrees = λ j u e. (all j u e).0; claims = λ j u e. (all j u e).1 }

-- ---- what a look shows
pub poster_sees : (port takers m : ℕ) (posted : List Numbered) (known : List Share) → Learns Invariant port (Posting takers m posted known) (PosterKnows (Posting takers m posted known))
poster_sees port takers m posted known items views b at =
    let v : View = Posting takers m posted known in
    let mine = b.agrees port v at in (
      record { taken = b.taken; who = b.who; in_order = mine.2; numbered = subst (IsNumbered 0) (sym mine.2) b.numbered; shared = subst (λ k. AreWith b.who k b.taken) (sym mine.1) b.shared },
      λ x a. (b.claims port v at x.index x.taken (inr a)).1,
    )

pub taker_sees : (port takers t : ℕ) (got : List Numbered) → Learns Invariant port (Taking takers t got) (TakerLearns (Taking takers t got))
taker_sees port takers t got items views b at =
    let v : View = Taking takers t got in (
      b.taken ++ items,
      (record { taken = b.taken; who = b.who; in_order = refl; numbered = b.numbered; shared = subst (λ k. AreWith b.who k b.taken) (sym (b.agrees port v at)) b.shared }, (b.claims port v at t got (refl, refl)).1),
    )

-- ---- the same for a pass whose view is known by an equation
pub posts : (n port takers m : ℕ) (v : View) (known : List Share) (x : Numbered) → v ≡ Posting takers m (posted_of v) known → x.number ≡ length (posted_of v) → length (posted_of v) < 4294967295
    → Pushes Invariant n port v x (Pushed v x) × Learns Invariant port v (PosterSees v)
posts n port takers m v known x e num room =
    subst (λ (y : View). Pushes Invariant n port y x (Pushed y x) × Learns Invariant port y (PosterSees y)) (sym e)
    (pushes n port takers m (posted_of v) known x num room, λ items views b at. (poster_sees port takers m (posted_of v) known items views b at).0)

pub takes : (port takers t : ℕ) (v : View) → t < takers → v ≡ Taking takers t (taken_of v) → Pops Invariant port v (Popped v) × Learns Invariant port v (TakerLearns v)
takes port takers t v lt e = subst (λ (y : View). Pops Invariant port y (Popped y) × Learns Invariant port y (TakerLearns y)) (sym e) (pops port takers t (taken_of v) lt, taker_sees port takers t (taken_of v))

pub one_more : (port takers : ℕ) (v : View) → v ≡ Posting takers 0 [] [] → Forks Invariant port v (widened v) Spent
one_more port takers v e = subst (λ (y : View). Forks Invariant port y (widened y) Spent) (sym e) (widens port takers)

pub new_one : (port takers m : ℕ) (v : View) (posted : List Numbered) → v ≡ Posting takers m posted [] → Forks Invariant port v (made_one v) (taker_of v)
new_one port takers m v posted e = subst (λ (y : View). Forks Invariant port y (made_one y) (taker_of y)) (sym e) (makes port takers m posted)

pub joins : (port takers m : ℕ) (v : View) (posted : List Numbered) (known : List Share) (other n s : ℕ) (w : View) (got : List Numbered)
    → v ≡ Posting takers m posted known → w ≡ Taking n s got → Merges Invariant port v other w (informed v w) Spent
joins port takers m v posted known other n s w got e f = subst (λ (y : View × View). Merges Invariant port y.0 other y.1 (informed y.0 y.1) Spent) (λ i. (sym e i, sym f i)) (finishes port takers m posted known other n s got)

pub looks : (port takers m : ℕ) (v : View) (posted : List Numbered) (known : List Share) → v ≡ Posting takers m posted known → Learns Invariant port v (PosterKnows v)
looks port takers m v posted known e = subst (λ (y : View). Learns Invariant port y (PosterKnows y)) (sym e) (poster_sees port takers m posted known)
