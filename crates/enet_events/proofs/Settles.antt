-- What the end of the queue rests on.
use Rattle.std.proofs.Common.{◌≡◌, ◌≢◌, ℕ, zero, suc, ◌+◌, ◌<◌, ◌≤◌, ◌==◌, ◌⊎◌, inl, inr, ⊎_elim, Bool, true, false, cond, List, [], ◌∷◌, ◌++◌, length, get_or, sym, refl, ap, ◌∙◌, subst, append-nil, length-append, arith, eq-eqb, ne_eqb}
use Rattle.std.specs.Prelude.{IsSome, unwrap_or, option_map, Some}
use Rattle.std.specs.List.{All, Contains, find}
use Rattle.std.proofs.lemmas.List.Elements.{All-nil, All-head, All-tail, All-push, All-same, All-contains_itself, All-weaker, Contains-append_cases}
use Rattle.std.proofs.lemmas.Bool.{eqb-true, false≢true}
use Rattle.std.proofs.lemmas.List.{nil_from_length, get_or_append_left}
use native.Mathlib.Decide.{ℕ_discrete}
use mathlib.Core.Option.{some}
use lib.ListN.{get_elem?}
use Rattle.crossbeam_queue.proofs.Lists.{at_longer, at_last}
use Rattle.enet_events.specs.declared.numbered.Numbered.{Numbered}
use Rattle.enet_events.specs.declared.rule.Share.{Share}
use Rattle.enet_events.specs.declared.rule.View.{View}
use Rattle.enet_events.specs.declared.rule.View.TheVariants.{Posting, Taking}
use Rattle.enet_events.specs.History.{part, AreWith, Moment}
use Rattle.enet_events.specs.Rule.{share, Among, index_of, taken_of, known_of, informed}
use Rattle.enet_events.specs.Words.{QueueId, PosterState, TakerState, new_takers, taken_by, taken_below, AllBack, IsAllTaken, IsSharedOut}

-- ---- the poster is told of one more taker
pub joined_view : (v v' w : View) (takers m : ℕ) (posted : List Numbered) (n t : ℕ) → v ≡ Posting takers m posted (known_of v) → w ≡ Taking n t (taken_of w) → v' ≡ informed v w
    → (v' ≡ Posting takers m posted (known_of v')) × (known_of v' ≡ known_of v ++ share (index_of w) (taken_of w) ∷ [])
joined_view v v' w takers m posted n t e f r =
    let z : v' ≡ Posting takers m posted (known_of v ++ share t (taken_of w) ∷ []) = r ∙ (λ i. informed (e i) (f i)) in
    let told : known_of v' ≡ known_of v ++ share t (taken_of w) ∷ [] = ap known_of z in
    (z ∙ ap (λ (y : List Share). Posting takers m posted y) (sym told), told ∙ ap (λ j. known_of v ++ share j (taken_of w) ∷ []) (sym (ap index_of f)))

pub All_front : (P : TakerState → Type 0) (xs ys zs : List TakerState) → zs ≡ xs ++ ys → All P zs → All P xs
All_front P xs ys zs e all k d lt =
    let same : get_or zs k d ≡ get_or xs k d = ap (λ l. get_or l k d) e ∙ get_or_append_left xs ys d k lt in
    let n : length zs ≡ length (xs ++ ys) = ap length e in
    subst P same (all k d (omega (arith, length-append xs ys)))

only_one : (x t : TakerState) → Contains (x ∷ []) t → t ≡ x
only_one x t c = let z : c.0 ≡ 0 = omega (arith, c.1) in sym (subst (λ k. get_or (x ∷ []) k t ≡ t) z c.2)

-- what was known or is still to be joined is known or still to be joined
pub still : (before after : List TakerState) (last : TakerState) (known known' : List Share) → before ≡ after ++ last ∷ [] → known' ≡ known ++ share last.index last.taken ∷ []
    → (t : TakerState) → Contains before t ⊎ Among (share t.index t.taken) known → Contains after t ⊎ Among (share t.index t.taken) known'
still before after last known known' e k t = ⊎_elim
    (λ (c : Contains before t). ⊎_elim
    (λ (a : Contains after t). inl a)
    (λ (a : Contains (last ∷ []) t).
    let is : last ≡ t = sym (only_one last t a) in
    inr (length known, ap (λ l. get_elem? l (length known)) k ∙ (at_last known (share last.index last.taken) (length known) refl ∙ ap (λ (y : TakerState). some (share y.index y.taken)) is)))
    (Contains-append_cases after (last ∷ []) t (subst (λ l. Contains l t) e c)))
    (λ (a : Among (share t.index t.taken) known). inr (a.0, ap (λ l. get_elem? l a.0) k ∙ at_longer known (share last.index last.taken ∷ []) a.0 (share t.index t.taken) a.1))

-- all are known, once none is still to be joined
pub none_left : (all left : List TakerState) (known : List Share) → 0 ≡ length left → ((t : TakerState) → Contains all t → Contains left t ⊎ Among (share t.index t.taken) known) → All (λ t. Among (share t.index t.taken) known) all
none_left all left known z h = All-weaker (Contains all) (λ t. Among (share t.index t.taken) known)
    (λ t c. ⊎_elim (λ (a : Contains left t). absurd (omega (arith, a.1, z))) (λ (k : Among (share t.index t.taken) known). k) (h t c)) all (All-contains_itself all)

-- ---- the opening
new_own : (queue : QueueId) (n : ℕ) → All (λ t. t.queue ≡ queue) (new_takers queue n)
new_own queue zero = All-nil (λ (t : TakerState). t.queue ≡ queue)
new_own queue (suc n) = All-push (λ (t : TakerState). t.queue ≡ queue) (new_takers queue n) (record { queue = queue; index = n; taken = [] }) (new_own queue n) refl

pub own_takers : (queue : QueueId) (n : ℕ) (ts : List TakerState) → ts ≡ new_takers queue n → All (λ t. t.queue ≡ queue) ts
own_takers queue n ts e = All-same (λ (t : TakerState). t.queue ≡ queue) ts (new_takers queue n) e (new_own queue n)

-- ---- the end: how many events there are, by who took them
-- f of each number below n, added up
total_below : ℕ → (ℕ → ℕ) → ℕ
total_below zero f = 0
total_below (suc n) f = total_below n f + f n

total_zero : (n : ℕ) (f : ℕ → ℕ) → ((i : ℕ) → f i ≡ 0) → total_below n f ≡ 0
unfolding total_below
total_zero zero f z = refl
total_zero (suc n) f z = let a = total_zero n f z in let b = z n in omega arith

total_same : (n : ℕ) (s : ℕ) (f g : ℕ → ℕ) → ((i : ℕ) → i ≢ s → g i ≡ f i) → n ≤ s → total_below n g ≡ total_below n f
unfolding total_below
total_same zero s f g e le = refl
total_same (suc n) s f g e le = let a = total_same n s f g e (omega arith) in let b = e n (λ z. absurd (omega arith)) in omega arith

total_step : (n s : ℕ) (f g : ℕ → ℕ) → ((i : ℕ) → i ≢ s → g i ≡ f i) → g s ≡ f s + 1 → s < n → total_below n g ≡ total_below n f + 1
unfolding total_below
total_step zero s f g e one lt = absurd (omega arith)
total_step (suc n) s f g e one lt =
    elim (ℕ_discrete n s) [
      | yes q ↦ let a = total_same n s f g e (omega arith) in let b : g n ≡ g s = ap g q in let c : f n ≡ f s = ap f q in omega arith
      | no d ↦ let a = total_step n s f g e one (let d' : n ≢ s = d in omega arith) in let b = e n d in omega arith
    ]

part_other : (who : ℕ → ℕ) (t : ℕ) (x : Numbered) (h : List Numbered) → t ≢ who x.number → part who t (x ∷ h) ≡ part who t h
part_other who t x h n = ap (λ b. cond b (x ∷ part who t h) (part who t h)) (ne_eqb (who x.number) t (λ z. n (sym z)))

part_here : (who : ℕ → ℕ) (x : Numbered) (h : List Numbered) → part who (who x.number) (x ∷ h) ≡ x ∷ part who (who x.number) h
part_here who x h = ap (λ b. cond b (x ∷ part who (who x.number) h) (part who (who x.number) h)) (eq-eqb (who x.number) (who x.number) refl)

-- the parts of the takers have as many events as there are
by_takers : (who : ℕ → ℕ) (n : ℕ) (h : List Numbered) → AreWith who n h → total_below n (λ t. length (part who t h)) ≡ length h
by_takers who n [] all = total_zero n (λ t. 0) (λ i. refl)
by_takers who n (x ∷ h) all =
    let w : ℕ = who x.number in
    let P : Numbered → Type 0 = λ y. who y.number < n in
    let rest = by_takers who n h (All-tail P x h all) in
    let step = total_step n w (λ t. length (part who t h)) (λ t. length (part who t (x ∷ h))) (λ i d. ap length (part_other who i x h d)) (ap length (part_here who x h) ∙ omega arith) (All-head P x h all) in
    omega arith

-- what is counted of the takers that are there is what their parts have
counted : (who : ℕ → ℕ) (taken : List Numbered) (ts : List TakerState) → All (λ t. part who t.index taken ≡ t.taken) ts → (index : ℕ) → IsSome (taken_by index ts) → unwrap_or (taken_by index ts) 0 ≡ length (part who index taken)
counted who taken [] all index there = absurd (false≢true there)
counted who taken (t ∷ ts) all index there = by (t.index == index) refl (λ rest. counted who taken ts (All-tail (λ (u : TakerState). part who u.index taken ≡ u.taken) t ts all) index rest) there
  where
    own : part who t.index taken ≡ t.taken
    own = All-head (λ (u : TakerState). part who u.index taken ≡ u.taken) t ts all

    by : (b : Bool) → (t.index == index) ≡ b → (IsSome (taken_by index ts) → unwrap_or (taken_by index ts) 0 ≡ length (part who index taken))
        → IsSome (option_map (λ (u : TakerState). length u.taken) (cond b (Some t) (find (λ u. u.index == index) ts)))
        → unwrap_or (option_map (λ (u : TakerState). length u.taken) (cond b (Some t) (find (λ u. u.index == index) ts))) 0 ≡ length (part who index taken)
    by true e rest s = sym (ap length own) ∙ ap (λ i. length (part who i taken)) (eqb-true t.index index e)
    by false e rest s = rest s

taken_total : (who : ℕ → ℕ) (taken : List Numbered) (ts : List TakerState) (n : ℕ) → All (λ t. part who t.index taken ≡ t.taken) ts → AllBack n ts → taken_below n ts ≡ total_below n (λ t. length (part who t taken))
unfolding total_below
taken_total who taken ts zero all back = refl
taken_total who taken ts (suc n) all back =
    let rest = taken_total who taken ts n all (λ i lt. back i (omega arith)) in
    let here = counted who taken ts all n (back n (omega arith)) in
    omega arith

-- where the takers took as many as were posted, nothing is held, and each event is with the taker that took it
pub settled : (p : PosterState) (ts : List TakerState) (known : List Share) (held : List Numbered) → (m : Moment p.queue.takers p.posted held) → ((x : Share) → Among x known → part m.who x.index m.taken ≡ x.taken)
    → IsAllTaken p ts → All (λ t. Among (share t.index t.taken) known) ts → IsSharedOut p ts
settled p ts known held m parts all there =
    let lists : All (λ (t : TakerState). part m.who t.index m.taken ≡ t.taken) ts = All-weaker (λ (t : TakerState). Among (share t.index t.taken) known) (λ t. part m.who t.index m.taken ≡ t.taken) (λ t a. parts (share t.index t.taken) a) ts there in
    let count = taken_total m.who m.taken ts p.queue.takers lists all.0 in
    let size = by_takers m.who p.queue.takers m.taken m.shared in
    let whole : length p.posted ≡ length (m.taken ++ held) = ap length m.in_order in
    let counts = all.1 in
    let none : held ≡ [] = nil_from_length held (omega (arith, length-append m.taken held)) in
    let same : m.taken ≡ p.posted = sym (append-nil m.taken) ∙ (ap (λ y. m.taken ++ y) (sym none) ∙ sym m.in_order) in
    record {
      who = m.who;
      numbered = m.numbered;
      shared = subst (AreWith m.who p.queue.takers) same m.shared;
      lists = subst (λ y. All (λ (t : TakerState). part m.who t.index y ≡ t.taken) ts) same lists;
    }
