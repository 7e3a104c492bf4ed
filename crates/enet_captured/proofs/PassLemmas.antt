-- What passes a filter, one more datagram or command at a time.
use Rattle.std.proofs.Common.{◌≡◌, ◌≢◌, ◌<◌, ◌+◌, ◌-◌, ◌==◌, ◌&&◌, ◌||◌, ℕ, zero, suc, nat_lt, Bool, true, false, if◌then◌else◌, List, [], ◌∷◌, ◌++◌, length, take, get_or, filter, Option, Some, None, refl, sym, ap, subst, ◌∙◌, add-one, arith}
use Rattle.std.specs.BTreeMap as tree
use Rattle.std.specs.BTreeMap.{BTreeMap, is_at}
use Rattle.std.specs.Cmp.{unsigned_tied}
use Rattle.std.specs.List.{list_any}
use Rattle.std.specs.Option.{unwrap_or}
use Rattle.std.specs.Ordering.{nat_cmp}
use Rattle.std.proofs.lemmas.Bool.{eq-eqb, eqb-true, lt-ltb, ne_eqb}
use Rattle.std.proofs.lemmas.List.{take_more}
use Rattle.std.proofs.lemmas.List.Elements.{filter-append}
use Rattle.std.proofs.lemmas.List.Folds.{list_any-append}
use Rattle.enet_captured.specs.declared.timeline.Mark.{Mark}
use Rattle.enet_captured.specs.declared.timeline.Seen.{Seen}
use Rattle.enet_captured.specs.declared.timeline.Timeline.{Timeline}
use Rattle.enet_captured.specs.declared.filter.Filter.{Filter}
use Rattle.enet_captured.specs.declared.part.Part.{Part}
use Rattle.enet_captured.specs.Filters.{has_channel, is_on, is_within, seen_passes}
use Rattle.enet_captured.specs.Parts.{AreParts, IsTold}
use Rattle.enet_captured.specs.Private.Numbers.{noted}

filter_one : {A : Type 0} (p : A → Bool) (x : A) (b : Bool) → p x ≡ b → filter p (x ∷ []) ≡ (if b then x ∷ [] else [])
filter_one p x true e = rw e refl
filter_one p x false e = rw e refl

filter_more : {A : Type 0} (p : A → Bool) (xs : List A) (k : ℕ) (d : A) (b : Bool) (old new : List A) → k < length xs → b ≡ p (get_or xs k d)
    → old ≡ filter p (take k xs) → new ≡ old ++ (if b then get_or xs k d ∷ [] else []) → new ≡ filter p (take (k + 1) xs)
filter_more p xs k d b old new within is was put =
    let x = get_or xs k d in
    put ∙ ap (λ l. l ++ (if b then x ∷ [] else [])) was ∙ ap (λ l. filter p (take k xs) ++ l) (sym (filter_one p x b (sym is)))
    ∙ sym (filter-append p (take k xs) (x ∷ [])) ∙ ap (filter p) (sym (take_more xs k d within))

pub seen_more : (f : Filter) (begun : ℕ) (marks : List Mark) (xs : List Seen) (k : ℕ) (d : Seen) (on b : Bool) (old new : List Seen) → k < length xs
    → b ≡ (is_within f ((get_or xs k d).at - begun) && on) → on ≡ has_channel f.channel marks (get_or xs k d).number
    → old ≡ filter (seen_passes f begun marks) (take k xs) → new ≡ old ++ (if b then get_or xs k d ∷ [] else [])
    → new ≡ filter (seen_passes f begun marks) (take (k + 1) xs)
seen_more f begun marks xs k d on b old new within is same was put =
    let one : Seen = get_or xs k d in
    filter_more (seen_passes f begun marks) xs k d b old new within (is ∙ ap (λ o. is_within f (one.at - begun) && o) same) was put

any_one : (b : Bool) → (b || false) ≡ b
any_one true = refl
any_one false = refl

pub any_more : {A : Type 0} (p : A → Bool) (xs : List A) (k : ℕ) (d : A) (old new : Bool) → k < length xs → old ≡ list_any p (take k xs)
    → new ≡ (old || p (get_or xs k d)) → new ≡ list_any p (take (k + 1) xs)
any_more p xs k d old new within was is =
    let x = get_or xs k d in
    is ∙ ap (λ b. b || p x) was ∙ ap (λ b. list_any p (take k xs) || b) (sym (any_one (p x)))
    ∙ sym (list_any-append p (take k xs) (x ∷ [])) ∙ ap (list_any p) (sym (take_more xs k d within))

-- ---- the number of a datagram is noted

noted_if : (here : Bool) (old : Option Bool) → unwrap_or (if here then Some true else old) false ≡ (unwrap_or old false || here)
noted_if true None = refl
noted_if true (Some true) = refl
noted_if true (Some false) = refl
noted_if false None = refl
noted_if false (Some true) = refl
noted_if false (Some false) = refl

and_true : (b c : Bool) → c ≡ true → b ≡ (b && c)
and_true true c e = sym e
and_true false c e = refl

and_false : (b c d : Bool) → d ≡ false → c ≡ (c || (b && d))
and_false true true d e = refl
and_false true false d e = sym e
and_false false true d e = refl
and_false false false d e = refl

pub noted_here : (old new : BTreeMap ℕ Bool) (mark : Mark) (channel q : ℕ) → mark.told.channel ≡ channel
    → tree.get nat_cmp new q ≡ (if is_at (nat_cmp mark.datagram) q then Some true else tree.get nat_cmp old q)
    → noted new q ≡ (noted old q || is_on channel q mark)
noted_here old new mark channel q same put =
    let here = mark.datagram == q in
    ap (λ (o : Option Bool). unwrap_or o false) (put ∙ ap (λ (b : Bool). if b then Some true else tree.get nat_cmp old q) (unsigned_tied mark.datagram q))
    ∙ noted_if here (tree.get nat_cmp old q)
    ∙ ap (λ b. noted old q || b) (and_true here (mark.told.channel == channel) (eq-eqb mark.told.channel channel same))

pub noted_elsewhere : (old : BTreeMap ℕ Bool) (mark : Mark) (channel q : ℕ) → mark.told.channel ≢ channel → noted old q ≡ (noted old q || is_on channel q mark)
noted_elsewhere old mark channel q other = and_false (mark.datagram == q) (noted old q) (mark.told.channel == channel) (ne_eqb _ _ other)

-- ---- the parts

pub no_parts : (t : Timeline) (f : Filter) → AreParts t f 0 []
unfolding AreParts
no_parts t f = refl

parts_suc : (t : Timeline) (f : Filter) (n : ℕ) (before more : List Part) → AreParts t f n before → IsTold t f n more → AreParts t f (suc n) (before ++ more)
unfolding AreParts
parts_suc t f n before more are told = (before, more, refl, are, told)

pub parts_more : (t : Timeline) (f : Filter) (n : ℕ) (before more all : List Part) → AreParts t f n before → IsTold t f n more → all ≡ before ++ more
    → AreParts t f (n + 1) all
parts_more t f n before more all are told is =
    subst (λ k. AreParts t f k all) (sym (add-one n)) (subst (AreParts t f (suc n)) (sym is) (parts_suc t f n before more are told))

none_of : (a b : Bool) → b ≡ false → (a && b) ≡ false
none_of true b e = e
none_of false b e = refl

and_true_of : (a b : Bool) → a ≡ true → b ≡ true → (a && b) ≡ true
and_true_of a b e f = rw (e, f) refl

not_some : (n : ℕ) → (n == 0) ≡ true → nat_lt 0 n ≡ false
not_some zero e = refl
not_some (suc n) e = absurd (let none : suc n ≡ 0 = eqb-true (suc n) 0 e in omega (arith, none))

is_some : (n : ℕ) → (n == 0) ≡ false → nat_lt 0 n ≡ true
is_some zero e = absurd cc
is_some (suc n) e = lt-ltb 0 (suc n) (omega arith)

pub not_asked : (t takes some : Bool) → t ≡ takes → takes ≡ false → (t && some) ≡ false
not_asked t takes some is never = rw (is ∙ never) refl

pub none_passes : {A : Type 0} (asked empty : Bool) (items seen : List A) → items ≡ seen → empty ≡ (length items == 0) → empty ≡ true
    → (asked && nat_lt 0 (length seen)) ≡ false
none_passes asked empty items seen same is none = none_of asked (nat_lt 0 (length seen)) (not_some (length seen) (ap (λ l. length l == 0) (sym same) ∙ sym is ∙ none))

pub some_pass : {A : Type 0} (asked empty : Bool) (items seen : List A) → asked ≡ true → items ≡ seen → empty ≡ (length items == 0) → empty ≡ false
    → (asked && nat_lt 0 (length seen)) ≡ true
some_pass asked empty items seen sure same is some =
    and_true_of asked (nat_lt 0 (length seen)) sure (is_some (length seen) (ap (λ l. length l == 0) (sym same) ∙ sym is ∙ some))
