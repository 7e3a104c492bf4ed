-- The marks of words, as the words change.
use Rattle.std.proofs.Common.{inl, inr, bit_or, w64, ◌≡◌, ◌≢◌, ℕ, ◌*◌, ◌/◌, ◌%◌, ◌^◌, ◌<◌, Bool, true, false, eqb, List, length, get_or, set, sym, ap, subst, ◌∙◌, arith}
use Rattle.std.specs.Int.{bit_at}
use Rattle.std.specs.List.{All}
use Rattle.std.proofs.lemmas.Bool.{cases_eq, cases_lt}
use Rattle.std.proofs.lemmas.List.{length-set, get_or-set_same, get_or-set_other, get_or_past, same_lists}
use Rattle.std.proofs.lemmas.List.FromFn.{length-map-range_with_len, get_or-map-range_with_len}
use Rattle.std.proofs.lemmas.Nat.Bits.{bit_at-zero, bit_at_set_same, bit_at_set_other}
use Rattle.enet_unsequenced.specs.Marks.{mark_in, marks_in}

pub length-marks_in : (count : ℕ) (words : List ℕ) → length (marks_in count words) ≡ count
unfolding marks_in
length-marks_in count words = length-map-range_with_len (mark_in words) 0 count

pub marks_in-at : (count : ℕ) (words : List ℕ) (i : ℕ) (d : Bool) → i < count → get_or (marks_in count words) i d ≡ mark_in words i
unfolding marks_in
marks_in-at count words i d inside = get_or-map-range_with_len (mark_in words) 0 count i i d inside (omega arith)

-- where no bit is set, no mark is
unmarked-word : (words : List ℕ) (i : ℕ) → All (λ word. word ≡ 0) words → get_or words i 0 ≡ 0
unmarked-word words i clear = elim (cases_lt i (length words)) [
  | inl inside ↦ clear i 0 inside
  | inr past ↦ get_or_past words i 0 past
]

pub marks_in-unmarked : (count : ℕ) (words : List ℕ) → All (λ word. word ≡ 0) words → All (λ mark. mark ≡ false) (marks_in count words)
marks_in-unmarked count words clear = λ i d low.
    let long = length-marks_in count words in
    marks_in-at count words i d (omega arith) ∙ ap (λ n. eqb n 1) (ap (λ w. bit_at w (i % 64)) (unmarked-word words (i / 64) clear) ∙ bit_at-zero (i % 64))

-- mark i is set in its word
marked-here : (words : List ℕ) (i n : ℕ) → i / 64 < length words → mark_in (set words (i / 64) (bit_or n (1 * 2 ^ (i % 64) % 2 ^ 64))) i ≡ true
marked-here words i n inside =
    ap (λ w. eqb (bit_at w (i % 64)) 1) (get_or-set_same words (i / 64) (bit_or n (1 * 2 ^ (i % 64) % 2 ^ 64)) 0 inside)
    ∙ ap (λ b. eqb b 1) (bit_at_set_same w64 n (i % 64) (omega arith))

marked-other : (words : List ℕ) (i n j : ℕ) → i / 64 < length words → n ≡ get_or words (i / 64) 0 → j ≢ i
    → mark_in (set words (i / 64) (bit_or n (1 * 2 ^ (i % 64) % 2 ^ 64))) j ≡ mark_in words j
marked-other words i n j inside is other =
    let word = bit_or n (1 * 2 ^ (i % 64) % 2 ^ 64) in
    elim (cases_eq (j / 64) (i / 64)) [
      | inl same ↦
          let apart : j % 64 ≢ i % 64 = λ e. other (omega arith) in
          let now = ap (λ k. get_or (set words (i / 64) word) k 0) same ∙ get_or-set_same words (i / 64) word 0 inside in
          ap (λ w. eqb (bit_at w (j % 64)) 1) now
          ∙ ap (λ b. eqb b 1) (bit_at_set_other w64 n (i % 64) (omega arith) (j % 64) apart ∙ ap (λ w. bit_at w (j % 64)) (is ∙ ap (λ k. get_or words k 0) (sym same)))
      | inr apart ↦ ap (λ w. eqb (bit_at w (j % 64)) 1) (get_or-set_other words (i / 64) (j / 64) word 0 apart)
    ]

pub marks_in-set : (count : ℕ) (words : List ℕ) (i n : ℕ) → i / 64 < length words → n ≡ get_or words (i / 64) 0
    → marks_in count (set words (i / 64) (bit_or n (1 * 2 ^ (i % 64) % 2 ^ 64))) ≡ set (marks_in count words) i true
marks_in-set count words i n inside is =
    let now = set words (i / 64) (bit_or n (1 * 2 ^ (i % 64) % 2 ^ 64)) in
    let len = length-marks_in count words in
    let long = length-marks_in count now in
    let same = length-set (marks_in count words) i true in
    same_lists (marks_in count now) (set (marks_in count words) i true) (omega arith) (λ k d low.
    let within : k < count = omega arith in
    marks_in-at count now k d within ∙ elim (cases_eq k i) [
      | inl here ↦ ap (mark_in now) here ∙ marked-here words i n inside ∙ sym (ap (λ j. get_or (set (marks_in count words) i true) j d) here ∙ get_or-set_same (marks_in count words) i true d (omega arith))
      | inr other ↦ marked-other words i n k inside is other ∙ sym (get_or-set_other (marks_in count words) i k true d other ∙ marks_in-at count words k d within)
    ])

pub marks_in-set-at : (count : ℕ) (words : List ℕ) (i m n : ℕ) → m ≡ i / 64 → m < length words → n ≡ get_or words m 0
    → marks_in count (set words m (bit_or n (1 * 2 ^ (i % 64) % 2 ^ 64))) ≡ set (marks_in count words) i true
marks_in-set-at count words i m n at inside is =
    subst (λ (k : ℕ). k < length words → n ≡ get_or words k 0 → marks_in count (set words k (bit_or n (1 * 2 ^ (i % 64) % 2 ^ 64))) ≡ set (marks_in count words) i true)
    (sym at) (λ within there. marks_in-set count words i n within there) inside is
