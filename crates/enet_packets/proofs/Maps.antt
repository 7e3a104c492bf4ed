-- A tree's entries, and the finite map that they stand for.
use Rattle.std.proofs.Common.{◌≡◌, ℕ, ◌+◌, ◌*◌, T, Option, Ordering, ◌<◌, ◌≤◌, Bool, true, false, cond, List, [], ◌∷◌, length, map, sum_by, refl, sym, ap, ◌∙◌, arith, Some, None, Less, Equal, Greater, All}
use Rattle.std.proofs.Math.Nat.{mul-le-mul_right}
use Rattle.std.specs.Ordering.{nat_cmp, eq_by_cmp, is_eq, is_lt, match_ordering}
use Rattle.std.specs.Cmp.{nat_cmp_total, eq_by_cmp_equiv}
use Rattle.std.specs.List.{AllByRecursion}
use Rattle.std.specs.Option.{is_some, option_map, unwrap_or}
use Rattle.std.specs.Prelude.{◌&&◌}
use Rattle.std.specs.List.Sorted.{IsStrictlySortedBy}
use Rattle.std.specs.Map.{lookup, keys_of, values_of, set_value}
use Rattle.std.specs.BTreeMap.{is_at, insert_entry}
use Rattle.std.specs.FinMap.{FinMap, gets, get, values, is_sorted, entries_sorted, get-entries, len-insert, insert, remove, find, len, empty, entries, put, from_entries, retain_keys, get-retain_keys, get-from_entries, get-remove, get-insert, len-empty, len-entries, entries-insert, same_map, nat_cmp-IsAntisymmetric}
use Rattle.std.specs.FinMap.Entries.{below_all, by_order, where_key, find-where_key, find-put}
use Rattle.std.proofs.lemmas.List.{nil_from_length, length-map}
use Rattle.std.proofs.lemmas.List.Sums.{sum_by-le}
use Rattle.std.proofs.lemmas.Map.{lookup-none}
use Rattle.std.proofs.lemmas.Map.Keys.{sorted_head, sorted_tail}
use Rattle.std.proofs.lemmas.Map.Entries.{none_below_head, sum_by-insert_entry}
use Rattle.std.proofs.lemmas.Map.Views.{length-le_from_below}

swapped : (q k : ℕ) → eq_by_cmp nat_cmp q k ≡ eq_by_cmp nat_cmp k q
swapped q k = (eq_by_cmp_equiv nat_cmp_total).symm q k

module _ {X : Type 0} where
  find-lookup : (q : ℕ) (es : List (ℕ × X)) → find nat_cmp q es ≡ lookup (is_at (nat_cmp q)) es
  find-lookup q [] = refl
  find-lookup q (e ∷ es) = ap (cond (eq_by_cmp nat_cmp q e.0) (Some e.1)) (find-lookup q es)

  -- what the map has at a number is what the tree has
  pub get-from : (es : List (ℕ × X)) (q : ℕ) → get (from_entries {R = nat_cmp} es) q ≡ lookup (is_at (nat_cmp q)) es
  get-from es q = get-from_entries nat_cmp_total es q ∙ find-lookup q es

  -- the map after a removal from the tree
  pub removed : (es fs : List (ℕ × X)) (k : ℕ)
      → ((q : ℕ) → lookup (is_at (nat_cmp q)) fs ≡ cond (is_at (nat_cmp k) q) None (lookup (is_at (nat_cmp q)) es))
      → from_entries {R = nat_cmp} fs ≡ remove (from_entries {R = nat_cmp} es) k
  removed es fs k is = same_map nat_cmp_total nat_cmp-IsAntisymmetric _ _ (λ q.
      get-from fs q ∙ is q
      ∙ sym (get-remove nat_cmp_total (from_entries es) k q
      ∙ ap (λ b. cond b None (get (from_entries {R = nat_cmp} es) q)) (swapped q k)
      ∙ ap (cond (eq_by_cmp nat_cmp k q) None) (get-from es q)))

  put-insert : (es : List (ℕ × X)) (k : ℕ) (v : X) → insert_entry nat_cmp es k v ≡ put nat_cmp k v es
  put-insert [] k v = refl
  put-insert (e ∷ es) k v =
      elim (nat_cmp k e.0) as (λ o. match_ordering o ((k, v) ∷ e ∷ es) ((e.0, v) ∷ es) (e ∷ insert_entry nat_cmp es k v) ≡ by_order o ((k, v) ∷ e ∷ es) ((e.0, v) ∷ es) (e ∷ put nat_cmp k v es)) [
        | Less ↦ refl
        | Equal ↦ refl
        | Greater ↦ ap (λ xs. e ∷ xs) (put-insert es k v)
      ]

  -- the map after an insertion into the tree
  pub inserted_entry : (es fs : List (ℕ × X)) (k : ℕ) (v : X) → fs ≡ insert_entry nat_cmp es k v → from_entries {R = nat_cmp} fs ≡ insert (from_entries {R = nat_cmp} es) k v
  inserted_entry es fs k v is = same_map nat_cmp_total nat_cmp-IsAntisymmetric _ _ (λ q.
      get-from_entries nat_cmp_total fs q
      ∙ ap (find nat_cmp q) (is ∙ put-insert es k v)
      ∙ find-put nat_cmp nat_cmp_total q k v es
      ∙ sym (get-insert nat_cmp_total (from_entries es) k v q ∙ ap (cond (eq_by_cmp nat_cmp q k) (Some v)) (get-from_entries nat_cmp_total es q)))

  -- the map of the entries whose numbers pass a test
  pub retained : (p : ℕ → Bool) (es : List (ℕ × X)) → from_entries {R = nat_cmp} (where_key nat_cmp p es) ≡ retain_keys (from_entries {R = nat_cmp} es) p
  retained p es = same_map nat_cmp_total nat_cmp-IsAntisymmetric _ _ (λ q.
      let alike : (x : ℕ) → nat_cmp q x ≡ Equal → p x ≡ p q = λ x t. ap p (sym (nat_cmp-IsAntisymmetric q x t)) in
      get-from_entries nat_cmp_total (where_key nat_cmp p es) q
      ∙ find-where_key nat_cmp p q alike es
      ∙ ap (λ o. cond (p q) o None) (sym (get-from_entries nat_cmp_total es q))
      ∙ sym (get-retain_keys (from_entries {R = nat_cmp} es) p q alike))

  -- the entries of a list in order stay as they are
  put-first : (e : ℕ × X) (es : List (ℕ × X)) → AllByRecursion (λ y. nat_cmp e.0 y ≡ Less) (keys_of es) → put nat_cmp e.0 e.1 es ≡ e ∷ es
  put-first e [] h = refl
  put-first e (x ∷ es) h = ap (λ o. by_order o ((e.0, e.1) ∷ x ∷ es) ((x.0, e.1) ∷ es) (x ∷ put nat_cmp e.0 e.1 es)) h.0

  pub entries-sorted : (es : List (ℕ × X)) → IsStrictlySortedBy nat_cmp (keys_of es) → entries (from_entries {R = nat_cmp} es) ≡ es
  entries-sorted [] h = nil_from_length _ (sym (len-entries (empty {X = X} {R = nat_cmp})) ∙ len-empty nat_cmp X)
  entries-sorted (e ∷ es) h =
      entries-insert nat_cmp_total (from_entries es) e.0 e.1
      ∙ ap (put nat_cmp e.0 e.1) (entries-sorted es (sorted_tail nat_cmp e.0 (keys_of es) h))
      ∙ put-first e es (sorted_head nat_cmp e.0 (keys_of es) h)

  pub len-sorted : (es : List (ℕ × X)) → IsStrictlySortedBy nat_cmp (keys_of es) → len (from_entries {R = nat_cmp} es) ≡ length es
  len-sorted es h = len-entries (from_entries {R = nat_cmp} es) ∙ ap length (entries-sorted es h)

  pub values-sorted : (es : List (ℕ × X)) → IsStrictlySortedBy nat_cmp (keys_of es) → (f : X → ℕ) → sum_by f (map (λ (e : ℕ × X). e.1) (entries (from_entries {R = nat_cmp} es))) ≡ sum_by f (values_of es)
  values-sorted es h f = ap (λ (xs : List (ℕ × X)). sum_by f (map (λ (e : ℕ × X). e.1) xs)) (entries-sorted es h)

  -- a value that is written over itself
  pub set_value-same : (test : ℕ → Bool) (es : List (ℕ × X)) (v : X) → lookup test es ≡ Some v → set_value test es v ≡ es
  set_value-same test [] v e = refl
  set_value-same test (x ∷ es) v e =
      elim (test x.0) as (λ b. cond b (Some x.1) (lookup test es) ≡ Some v → cond b ((x.0, v) ∷ es) (x ∷ set_value test es v) ≡ x ∷ es) [
        | true ↦ λ h. let same : x.1 ≡ v = cc in ap (λ w. (x.0, w) ∷ es) (sym same)
        | false ↦ λ h. ap (λ xs. x ∷ xs) (set_value-same test es v h)
      ] e

  -- to write over a number's value is to insert it
  pub set_value-insert : (k : ℕ) (es : List (ℕ × X)) (v w : X) → IsStrictlySortedBy nat_cmp (keys_of es) → lookup (is_at (nat_cmp k)) es ≡ Some v → set_value (is_at (nat_cmp k)) es w ≡ insert_entry nat_cmp es k w
  set_value-insert k [] v w h e = absurd (cc)
  set_value-insert k (x ∷ es) v w h e =
      elim (nat_cmp k x.0) as (λ o. nat_cmp k x.0 ≡ o → cond (is_eq o) (Some x.1) (lookup (is_at (nat_cmp k)) es) ≡ Some v
      → cond (is_eq o) ((x.0, w) ∷ es) (x ∷ set_value (is_at (nat_cmp k)) es w) ≡ by_order o ((k, w) ∷ x ∷ es) ((x.0, w) ∷ es) (x ∷ insert_entry nat_cmp es k w)) [
        | Less ↦ λ t _. absurd (let none = lookup-none (is_at (nat_cmp k)) (x ∷ es) (none_below_head nat_cmp_total k x es h t) in cc)
        | Equal ↦ λ t _. refl
        | Greater ↦ λ t f. ap (λ xs. x ∷ xs) (set_value-insert k es v w (sorted_tail nat_cmp x.0 (keys_of es) h) f)
      ] refl e

  pub length-values : (es : List (ℕ × X)) → length (values_of es) ≡ length (keys_of es)
  length-values es = length-map es (λ (e : ℕ × X). e.1) ∙ sym (length-map es (λ (e : ℕ × X). e.0))

  -- at most all numbers are there
  pub length_bounded : (es : List (ℕ × X)) → IsStrictlySortedBy nat_cmp (keys_of es) → All (λ (n : ℕ). n < 65536) (keys_of es) → length es ≤ 65536
  length_bounded es h low =
      let few : length (keys_of es) ≤ 65536 = length-le_from_below 65536 (keys_of es) h low in
      let same : length (keys_of es) ≡ length es = length-map es (λ (e : ℕ × X). e.0) in
      omega arith

  -- so what they weigh is bounded
  pub sum_bounded : (f : X → ℕ) (most : ℕ) (es : List (ℕ × X)) → IsStrictlySortedBy nat_cmp (keys_of es) → All (λ (n : ℕ). n < 65536) (keys_of es)
      → All (λ (x : X). f x ≤ most) (values_of es) → sum_by f (values_of es) ≤ 65536 * most
  sum_bounded f most es h low all =
      let few : length (keys_of es) ≤ 65536 = length-le_from_below 65536 (keys_of es) h low in
      let sum = sum_by-le f most (values_of es) all in
      let same : length (values_of es) ≡ length (keys_of es) = length-values es in
      let bound : length (values_of es) * most ≤ 65536 * most = mul-le-mul_right most (omega arith) in
      omega arith

T_left : (a b : Bool) → T (a && b) → T a
T_left true b h = tt
T_left false b h = absurd h

T_right : (a b : Bool) → T (a && b) → T b
T_right true b h = h
T_right false b h = absurd h

less : (o : Ordering) → T (is_lt o) → o ≡ Less
less Less p = refl
less Equal p = absurd p
less Greater p = absurd p

equal : (o : Ordering) → is_eq o ≡ true → o ≡ Equal
equal Less e = absurd (cc)
equal Equal e = refl
equal Greater e = absurd (cc)

module _ {X : Type 0} where
  below_from : (k : ℕ) (es : List (ℕ × X)) → T (below_all nat_cmp k es) → AllByRecursion (λ y. nat_cmp k y ≡ Less) (keys_of es)
  below_from k [] t = tt
  below_from k (e ∷ es) t = (less (nat_cmp k e.0) (T_left (is_lt (nat_cmp k e.0)) (below_all nat_cmp k es) t), below_from k es (T_right (is_lt (nat_cmp k e.0)) (below_all nat_cmp k es) t))

  sorted_from : (es : List (ℕ × X)) → T (is_sorted nat_cmp es) → IsStrictlySortedBy nat_cmp (keys_of es)
  unfolding IsStrictlySortedBy
  sorted_from [] t = tt
  sorted_from (e ∷ es) t = (below_from e.0 es (T_left (below_all nat_cmp e.0 es) (is_sorted nat_cmp es) t), sorted_from es (T_right (below_all nat_cmp e.0 es) (is_sorted nat_cmp es) t))

  -- what a finite map weighs, once it has a value more
  pub sum-insert : (f : X → ℕ) (m : FinMap nat_cmp X) (k : ℕ) (v : X)
      → sum_by f (values (insert m k v)) + unwrap_or (option_map f (get m k)) 0 ≡ sum_by f (values m) + f v
  sum-insert f m k v =
      let es : List (ℕ × X) = entries m in
      let new : sum_by f (values (insert m k v)) ≡ sum_by f (values_of (insert_entry nat_cmp es k v)) =
      ap (λ (xs : List (ℕ × X)). sum_by f (values_of xs)) (entries-insert nat_cmp_total m k v ∙ sym (put-insert es k v)) in
      let old : unwrap_or (option_map f (get m k)) 0 ≡ unwrap_or (option_map f (lookup (is_at (nat_cmp k)) es)) 0 =
      ap (λ (o : Option X). unwrap_or (option_map f o) 0) (get-entries m k ∙ find-lookup k es) in
      let sum = sum_by-insert_entry f nat_cmp_total es k v (sorted_from es (entries_sorted m)) in
      omega arith

  pub sum-new : (f : X → ℕ) (m : FinMap nat_cmp X) (k : ℕ) (v : X) → get m k ≡ None → sum_by f (values (insert m k v)) ≡ sum_by f (values m) + f v
  sum-new f m k v absent =
      let sum = sum-insert f m k v in
      let none : unwrap_or (option_map f (get m k)) 0 ≡ 0 = ap (λ (o : Option X). unwrap_or (option_map f o) 0) absent in
      omega arith

  pub len-new : (m : FinMap nat_cmp X) (k : ℕ) (v : X) → get m k ≡ None → len (insert m k v) ≡ len m + 1
  len-new m k v absent = len-insert nat_cmp_total m k v ∙ ap (λ (o : Option X). cond (is_some o) (len m) (len m + 1)) absent

  pub len-over : (m : FinMap nat_cmp X) (k : ℕ) (v w : X) → get m k ≡ Some v → len (insert m k w) ≡ len m
  len-over m k v w there = len-insert nat_cmp_total m k w ∙ ap (λ (o : Option X). cond (is_some o) (len m) (len m + 1)) there

  pub sum-over : (f : X → ℕ) (m : FinMap nat_cmp X) (k : ℕ) (v w : X) → get m k ≡ Some v → f w ≡ f v → sum_by f (values (insert m k w)) ≡ sum_by f (values m)
  sum-over f m k v w there same =
      let sum = sum-insert f m k w in
      let some' : unwrap_or (option_map f (get m k)) 0 ≡ f v = ap (λ (o : Option X). unwrap_or (option_map f o) 0) there in
      omega arith

  pub entries-empty : entries (empty {X = X} {R = nat_cmp}) ≡ []
  entries-empty = nil_from_length _ (sym (len-entries (empty {X = X} {R = nat_cmp})) ∙ len-empty nat_cmp X)

  pub get-insert_same : (m : FinMap nat_cmp X) (k : ℕ) (v : X) → get (insert m k v) k ≡ Some v
  get-insert_same m k v = grind (arith, gets)

  -- to insert and to remove is to remove
  pub remove-insert : (m : FinMap nat_cmp X) (k : ℕ) (v : X) → remove (insert m k v) k ≡ remove m k
  remove-insert m k v = same_map nat_cmp_total nat_cmp-IsAntisymmetric _ _ (λ q.
      get-remove nat_cmp_total (insert m k v) k q
      ∙ ap (λ (o : Option X). cond (eq_by_cmp nat_cmp q k) None o) (get-insert nat_cmp_total m k v q)
      ∙ inner (eq_by_cmp nat_cmp q k) (Some v) (get m q)
      ∙ sym (get-remove nat_cmp_total m k q))
    where
      inner : (b : Bool) (x y : Option X) → cond b None (cond b x y) ≡ cond b None y
      inner true x y = refl
      inner false x y = refl

  -- what isn't there stays away
  pub remove-absent : (m : FinMap nat_cmp X) (k : ℕ) → get m k ≡ None → remove m k ≡ m
  remove-absent m k absent = same_map nat_cmp_total nat_cmp-IsAntisymmetric _ _ (λ q.
      get-remove nat_cmp_total m k q
      ∙ elim (eq_by_cmp nat_cmp q k) as (λ b. eq_by_cmp nat_cmp q k ≡ b → cond b None (get m q) ≡ get m q) [
        | true ↦ λ t. sym (ap (get m) (nat_cmp-IsAntisymmetric q k (equal (nat_cmp q k) t)) ∙ absent)
        | false ↦ λ t. refl
      ] refl)

  -- the numbers of nothing
  pub retained-empty : (p : ℕ → Bool) → retain_keys (empty {X = X} {R = nat_cmp}) p ≡ empty
  retained-empty p = sym (retained p [])
