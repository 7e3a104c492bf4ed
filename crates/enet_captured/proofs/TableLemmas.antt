-- Lists that have what a function gives for each place.
use Rattle.std.proofs.Common.{◌≡◌, ◌<◌, ◌+◌, ℕ, zero, suc, Bool, true, false, List, [], ◌∷◌, ◌++◌, length, map, Option, Some, None, refl, sym, ap, ◌∙◌, arith, if◌then◌else◌, below_more, length-append, slice_get, nat_le, ◌-◌}
use Rattle.std.proofs.Math.ListN.{get_or-append}
use Rattle.std.proofs.Math.Seq.{get_or-append_seam}
use Rattle.std.proofs.lemmas.List.{length_push}
use Rattle.std.proofs.lemmas.Option.{slice_get-get_or, slice_get-map, get_or_from_slice_get}
use Rattle.std.specs.Option.{option_map, unwrap_or}
use Rattle.enet_captured.specs.declared.timeline.Mark.{Mark}
use Rattle.enet_captured.specs.Sends.{Key, key_of, at, is_key, last_with, last_of, near, leads_to, or_here, first_to}
use Rattle.enet_captured.specs.Private.Tables.{IsTable, flat, item, turn_at}

read_front : {A : Type 0} (xs ys : List A) (k : ℕ) (x : A) → slice_get xs k ≡ Some x → k < length xs → slice_get (xs ++ ys) k ≡ Some x
read_front xs ys k x here within =
    let longer : k < length (xs ++ ys) = omega (arith, within, length-append xs ys) in
    slice_get-get_or (xs ++ ys) k x longer ∙ ap Some (get_or-append xs ys x k within ∙ get_or_from_slice_get xs k x x here)

read_seam : {A : Type 0} (xs : List A) (x : A) → slice_get (xs ++ x ∷ []) (length xs) ≡ Some x
read_seam xs x =
    let longer : length xs < length (xs ++ x ∷ []) = omega (arith, length_push xs x) in
    slice_get-get_or (xs ++ x ∷ []) (length xs) x longer ∙ ap Some (get_or-append_seam xs x [] x)

pub table_more : {A : Type 0} (of : ℕ → A) (n : ℕ) (items : List A) (x : A) → IsTable of n items → x ≡ of n → IsTable of (n + 1) (items ++ x ∷ [])
table_more of n items x t is = record {
  len = length_push items x ∙ ap (λ (k : ℕ). k + 1) t.len;
  each = below_more (λ (k : ℕ). slice_get (items ++ x ∷ []) k ≡ Some (of k)) n
      (λ k below. read_front items (x ∷ []) k (of k) (t.each k below) (omega (arith, t.len, below)))
      (ap (slice_get (items ++ x ∷ [])) (sym t.len) ∙ read_seam items x ∙ ap Some is);
}

-- the same list by another function, which gives the same at each place
pub table_as : {A : Type 0} (f g : ℕ → A) (n m : ℕ) (items : List A) → IsTable f n items → n ≡ m → ((k : ℕ) → k < m → f k ≡ g k) → IsTable g m items
table_as f g n m items t is same = record {
  len = t.len ∙ is;
  each = λ k below. t.each k (omega (arith, below, is)) ∙ ap Some (same k below);
}

pub item_at : {A : Type 0} (of : ℕ → Option A) (n : ℕ) (items : List (Option A)) → IsTable of n items → (k : ℕ) → k < n → item items k ≡ of k
item_at of n items t k below = ap flat (t.each k below)

pub turn_in : (of : ℕ → ℕ) (n : ℕ) (items : List ℕ) → IsTable of n items → (k : ℕ) → k < n → turn_at items k ≡ of k
turn_in of n items t k below = ap (λ (o : Option ℕ). unwrap_or o 0) (t.each k below)

flat_map_key : (key : Mark → Option Key) (o : Option Mark) → flat (option_map key o) ≡ key_of key o
flat_map_key key None = refl
flat_map_key key (Some mark) = refl

pub item_mapped : (key : Mark → Option Key) (marks : List Mark) (keys : List (Option Key)) → keys ≡ map key marks → (k : ℕ) → item keys k ≡ at key marks k
item_mapped key marks keys is k =
    ap (λ (l : List (Option Key)). item l k) is ∙ ap flat (slice_get-map key marks k) ∙ flat_map_key key (slice_get marks k)

-- ---- the last one

pub last_with_same : (f g : ℕ → Option Key) (q : Key) (n : ℕ) → ((k : ℕ) → k < n → f k ≡ g k) → last_with f q n ≡ last_with g q n
last_with_same f g q zero same = refl
last_with_same f g q (suc n) same =
    ap (λ (o : Option Key). if is_key q o then Some n else last_with f q n) (same n (omega arith))
    ∙ ap (λ (r : Option ℕ). if is_key q (g n) then Some n else r) (last_with_same f g q n (λ k below. same k (omega (arith, below))))

pub last_of_same : (f g : ℕ → Option Key) (asked : Option Key) (n : ℕ) → ((k : ℕ) → k < n → f k ≡ g k) → last_of f asked n ≡ last_of g asked n
last_of_same f g None n same = refl
last_of_same f g (Some q) n same = last_with_same f g q n same

below_here : (f : ℕ → Option Key) (q : Key) (n k : ℕ) (b : Bool) → ((j : ℕ) → last_with f q n ≡ Some j → j < n)
    → (if b then Some n else last_with f q n) ≡ Some k → k < suc n
below_here f q n k true h e = let same : n ≡ k = cc in omega (arith, same)
below_here f q n k false h e = omega (arith, h k e)

last_below : (f : ℕ → Option Key) (q : Key) (n k : ℕ) → last_with f q n ≡ Some k → k < n
last_below f q zero k e = absurd cc
last_below f q (suc n) k e = below_here f q n k (is_key q (f n)) (λ j there. last_below f q n j there) e

pub last_of_below : (f : ℕ → Option Key) (asked : Option Key) (n k : ℕ) → last_of f asked n ≡ Some k → k < n
last_of_below f None n k e = absurd cc
last_of_below f (Some q) n k e = last_below f q n k e

near_same : (t u : ℕ → ℕ) (place : ℕ) (before : Option ℕ) → t place ≡ u place → ((k : ℕ) → before ≡ Some k → t k ≡ u k)
    → near t place before ≡ near u place before
near_same t u place None here there = refl
near_same t u place (Some k) here there =
    let same : t k ≡ u k = there k refl in
    rw (here, same) refl

pub near_last_same : (f g : ℕ → Option Key) (t u : ℕ → ℕ) (n place : ℕ) → place < n → ((k : ℕ) → k < n → f k ≡ g k)
    → ((k : ℕ) → k < n → t k ≡ u k) → near t place (last_of f (f place) place) ≡ near u place (last_of g (g place) place)
near_last_same f g t u n place within keys turns =
    let asked : last_of f (f place) place ≡ last_of f (g place) place = ap (λ (o : Option Key). last_of f o place) (keys place within) in
    let found : last_of f (g place) place ≡ last_of g (g place) place = last_of_same f g (g place) place (λ k below. keys k (omega (arith, below, within))) in
    ap (near t place) (asked ∙ found)
    ∙ near_same t u place (last_of g (g place) place) (turns place within)
    (λ k there. let below : k < place = last_of_below g (g place) place k there in turns k (omega (arith, below, within)))

-- ---- the first one

pub first_to_same : (f g : ℕ → Option ℕ) (place n : ℕ) → ((k : ℕ) → k < n → f k ≡ g k) → first_to f place n ≡ first_to g place n
first_to_same f g place zero same = refl
first_to_same f g place (suc n) same =
    ap (λ (o : Option ℕ). or_here (first_to f place n) (leads_to place o) n) (same n (omega arith))
    ∙ ap (λ (r : Option ℕ). or_here r (leads_to place (g n)) n) (first_to_same f g place n (λ k below. same k (omega (arith, below))))

near_below : (t : ℕ → ℕ) (place : ℕ) (before : Option ℕ) (n k : ℕ) (b : Bool) → ((j : ℕ) → before ≡ Some j → j < n)
    → (if b then before else None) ≡ Some k → k < n
near_below t place before n k true h e = h k e
near_below t place before n k false h e = absurd cc

near_if : (t : ℕ → ℕ) (place : ℕ) (before : Option ℕ) (n k : ℕ) → ((j : ℕ) → before ≡ Some j → j < n) → near t place before ≡ Some k → k < n
near_if t place None n k h e = absurd cc
near_if t place (Some j) n k h e = near_below t place (Some j) n k (nat_le (t place - t j) 4096) h e

pub near_last_below : (f : ℕ → Option Key) (t : ℕ → ℕ) (asked : Option Key) (place k : ℕ) → near t place (last_of f asked place) ≡ Some k → k < place
near_last_below f t asked place k e = near_if t place (last_of f asked place) place k (λ j there. last_of_below f asked place j there) e
