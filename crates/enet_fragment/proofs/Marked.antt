-- Marks of words, as the words change.
use Rattle.std.proofs.Common.{inl, inr, bit_or, bit_and, w32, ◌≡◌, ◌≢◌, ℕ, ◌*◌, ◌/◌, ◌%◌, ◌^◌, ◌<◌, Bool, true, false, eqb, List, length, get_or, set, replicate, sym, ap, ◌∙◌, arith}
use Rattle.std.specs.Int.{bit_at}
use Rattle.std.specs.Int.{bit_not}
use Rattle.std.proofs.lemmas.Bool.{cases_eq, cases_lt}
use Rattle.std.proofs.lemmas.List.{length-set, get_or-set_same, get_or-set_other, get_or_past, get_or-replicate, length-replicate, same_lists}
use Rattle.std.proofs.lemmas.List.FromFn.{length-map-range_with_len, get_or-map-range_with_len}
use Rattle.std.proofs.lemmas.Nat.Bits.{bit_at-zero, bit_at_set_same, bit_at_set_other, bit_at_clear_same, bit_at_clear_other}
use Rattle.enet_fragment.specs.Marks.{mark_in, marks_in, AreMarks}

pub length-marks_in : (count : ℕ) (words : List ℕ) → length (marks_in count words) ≡ count
length-marks_in count words = length-map-range_with_len (mark_in words) 0 count

-- mark i, and false past the last one
pub marks_in-inside : (count : ℕ) (words : List ℕ) (i : ℕ) (d : Bool) → i < count → get_or (marks_in count words) i d ≡ mark_in words i
marks_in-inside count words i d inside = get_or-map-range_with_len (mark_in words) 0 count i i d inside (omega arith)

pub marks_in-any : (count : ℕ) (words : List ℕ) (i : ℕ) → AreMarks count words → get_or (marks_in count words) i false ≡ mark_in words i
marks_in-any count words i kept =
    let len = length-marks_in count words in
    elim (cases_lt i count) [
      | inl inside ↦ marks_in-inside count words i false inside
      | inr past ↦ get_or_past (marks_in count words) i false (omega arith) ∙ sym (kept.clear i past)
    ]

-- one word is written: mark i gets b, and no other mark changes
pub record Writes (words : List ℕ) (i : ℕ) (word : ℕ) (b : Bool) : Type 0 where
  pub inside : i / 32 < length words
  pub same : eqb (bit_at word (i % 32)) 1 ≡ b
  pub others : (k : ℕ) → k < 32 → k ≢ i % 32 → bit_at word k ≡ bit_at (get_or words (i / 32) 0) k

written-mark : (words : List ℕ) (i word : ℕ) (b : Bool) → Writes words i word b → mark_in (set words (i / 32) word) i ≡ b
written-mark words i word b w = ap (λ n. eqb (bit_at n (i % 32)) 1) (get_or-set_same words (i / 32) word 0 w.inside) ∙ w.same

written-other : (words : List ℕ) (i word : ℕ) (b : Bool) (j : ℕ) → Writes words i word b → j ≢ i → mark_in (set words (i / 32) word) j ≡ mark_in words j
written-other words i word b j w other =
    elim (cases_eq (j / 32) (i / 32)) [
      | inl same ↦
          let apart : j % 32 ≢ i % 32 = λ e. other (omega arith) in
          let now = ap (λ n. get_or (set words (i / 32) word) n 0) same ∙ get_or-set_same words (i / 32) word 0 w.inside in
          ap (λ n. eqb (bit_at n (j % 32)) 1) now ∙ ap (λ n. eqb n 1) (w.others (j % 32) (omega arith) apart ∙ ap (λ n. bit_at (get_or words n 0) (j % 32)) (sym same))
      | inr apart ↦ ap (λ n. eqb (bit_at n (j % 32)) 1) (get_or-set_other words (i / 32) (j / 32) word 0 apart)
    ]

pub marks-written : (count : ℕ) (words : List ℕ) (i word : ℕ) (b : Bool) → Writes words i word b → marks_in count (set words (i / 32) word) ≡ set (marks_in count words) i b
marks-written count words i word b w =
    let now = set words (i / 32) word in
    let len = length-marks_in count words in
    let long = length-marks_in count now in
    let same = length-set (marks_in count words) i b in
    same_lists (marks_in count now) (set (marks_in count words) i b) (omega arith) (λ k d low.
    let inside : k < count = omega arith in
    marks_in-inside count now k d inside ∙ elim (cases_eq k i) [
      | inl is ↦ ap (mark_in now) is ∙ written-mark words i word b w ∙ sym (ap (λ j. get_or (set (marks_in count words) i b) j d) is ∙ get_or-set_same (marks_in count words) i b d (omega arith))
      | inr other ↦ written-other words i word b k w other ∙ sym (get_or-set_other (marks_in count words) i k b d other ∙ marks_in-inside count words k d inside)
    ])

pub kept-written : (count : ℕ) (words : List ℕ) (i word : ℕ) (b : Bool) → Writes words i word b → i < count → AreMarks count words → AreMarks count (set words (i / 32) word)
kept-written count words i word b w inside kept = record {
  small = kept.small;
  enough = length-set words (i / 32) word ∙ kept.enough;
  clear = λ j past. written-other words i word b j w (λ same. omega arith) ∙ kept.clear j past;
}

-- a bit set or cleared in the word of mark i
pub Writes-set : (words : List ℕ) (i n : ℕ) → i / 32 < length words → n ≡ get_or words (i / 32) 0 → Writes words i (bit_or n (1 * 2 ^ (i % 32) % 2 ^ 32)) true
Writes-set words i n inside is = record {
  inside = inside;
  same = ap (λ b. eqb b 1) (bit_at_set_same w32 n (i % 32) (omega arith));
  others = λ k low other. bit_at_set_other w32 n (i % 32) (omega arith) k other ∙ ap (λ m. bit_at m k) is;
}

pub Writes-clear : (words : List ℕ) (i n : ℕ) → i / 32 < length words → n ≡ get_or words (i / 32) 0 → Writes words i (bit_and n (bit_not w32 (1 * 2 ^ (i % 32) % 2 ^ 32))) false
Writes-clear words i n inside is = record {
  inside = inside;
  same = ap (λ b. eqb b 1) (bit_at_clear_same w32 n (i % 32) (omega arith));
  others = λ k low other. bit_at_clear_other w32 n (i % 32) (omega arith) k low other ∙ ap (λ m. bit_at m k) is;
}

-- words of no mark
pub mark_in-none : (n i : ℕ) → mark_in (replicate n 0) i ≡ false
mark_in-none n i =
    elim (cases_lt (i / 32) n) [
      | inl inside ↦ ap (λ w. eqb (bit_at w (i % 32)) 1) (get_or-replicate n (i / 32) 0 0 inside) ∙ ap (λ b. eqb b 1) (bit_at-zero (i % 32))
      | inr past ↦ ap (λ w. eqb (bit_at w (i % 32)) 1) (get_or_past (replicate n 0) (i / 32) 0 (omega (arith, length-replicate {A = ℕ} n 0))) ∙ ap (λ b. eqb b 1) (bit_at-zero (i % 32))
    ]

pub marks-none : (count n : ℕ) → marks_in count (replicate n 0) ≡ replicate count false
marks-none count n =
    let len = length-marks_in count (replicate n 0) in
    let long = length-replicate count false in
    same_lists (marks_in count (replicate n 0)) (replicate count false) (omega arith) (λ k d low.
    marks_in-inside count (replicate n 0) k d (omega arith) ∙ mark_in-none n k ∙ sym (get_or-replicate count k false d (omega arith)))
