-- Marks of numbers, as their blocks change.
use Rattle.std.proofs.Common.{inl, inr, ◌⊎◌, ◌≡◌, ◌≢◌, ℕ, zero, suc, ◌+◌, ◌-◌, ◌/◌, ◌%◌, ◌<◌, ◌≤◌, Bool, true, false, not, eqb, ◌&&◌, ◌||◌, List, [], ◌∷◌, ◌++◌, length, get_or, set, replicate, Option, Some, None, Result, Ok, Err, is_some, refl, sym, ap, subst, ◌∙◌, arith}
use Rattle.std.proofs.lemmas.Bool.{cases_eq, cases_lt, eq-eqb, ne_eqb}
use Rattle.std.proofs.lemmas.List.{get_or-set_same, get_or-set_other, get_or_past, get_or_push, get_or_append_left, get_or-replicate, length-replicate, length-set}
use Rattle.std.specs.Option.{IsSomeAnd}
use Rattle.std.specs.Result.{is_err, OnOk, OnErr}
use Rattle.std.specs.Ordering.{nat_cmp}
use Rattle.std.specs.Cmp.{nat_cmp_total}
use Rattle.std.specs.FinMap.{FinMap, get, insert, remove, empty, get-empty, same_map, nat_cmp-IsAntisymmetric}
use Rattle.enet_fragment.specs.Assembly.{missing_in}
use Rattle.enet_fragment.proofs.Pieces.{missing_in-le, missing_in-set, missing_in-unset}
use Rattle.enet_packets.specs.declared.incoming_packet.IncomingPacket.{IncomingPacket}
use Rattle.enet_receiver.specs.Blocks.{block_has, marked_in, KeepsBlock, AreMarked}
use Rattle.enet_receiver.proofs.Maps.{get-insert_same, get-insert_other, get-remove_same, get-remove_other, two_numbers}

abbrev pub Blocks : Type 0
Blocks = List (Option (List Bool))

-- a list of which no mark is set
pub none_set : (marks : List Bool) (k : ℕ) → missing_in marks ≡ length marks → get_or marks k false ≡ false
unfolding missing_in
none_set [] k h = refl
none_set (true ∷ rest) k h = absurd (omega (arith, missing_in-le rest))
none_set (false ∷ rest) zero h = refl
none_set (false ∷ rest) (suc k) h = none_set rest k (omega arith)

-- one mark is set or taken back
pub set_mark : (marks : List Bool) (i k : ℕ) → i < length marks → get_or (set marks i true) k false ≡ (eqb k i || get_or marks k false)
set_mark marks i k low = elim (cases_eq k i) [
  | inl same ↦ ap (λ j. get_or (set marks i true) j false) same ∙ get_or-set_same marks i true false low ∙ sym (ap (λ b. b || get_or marks k false) (eq-eqb k i same))
  | inr apart ↦ get_or-set_other marks i k true false apart ∙ sym (ap (λ b. b || get_or marks k false) (ne_eqb k i apart))
]

pub unset_mark : (marks : List Bool) (i k : ℕ) → i < length marks → get_or (set marks i false) k false ≡ (not (eqb k i) && get_or marks k false)
unset_mark marks i k low = elim (cases_eq k i) [
  | inl same ↦ ap (λ j. get_or (set marks i false) j false) same ∙ get_or-set_same marks i false false low ∙ sym (ap (λ b. not b && get_or marks k false) (eq-eqb k i same))
  | inr apart ↦ get_or-set_other marks i k false false apart ∙ sym (ap (λ b. not b && get_or marks k false) (ne_eqb k i apart))
]

-- one that is set already, or isn't set
pub set_again : (marks : List Bool) (i k : ℕ) → get_or marks i false ≡ true → get_or marks k false ≡ (eqb k i || get_or marks k false)
set_again marks i k is = elim (cases_eq k i) [
  | inl same ↦ ap (λ j. get_or marks j false) same ∙ is ∙ sym (ap (λ b. b || get_or marks k false) (eq-eqb k i same))
  | inr apart ↦ sym (ap (λ b. b || get_or marks k false) (ne_eqb k i apart))
]

pub unset_again : (marks : List Bool) (i k : ℕ) → get_or marks i false ≡ false → get_or marks k false ≡ (not (eqb k i) && get_or marks k false)
unset_again marks i k is = elim (cases_eq k i) [
  | inl same ↦ ap (λ j. get_or marks j false) same ∙ is ∙ sym (ap (λ b. not b && get_or marks k false) (eq-eqb k i same))
  | inr apart ↦ sym (ap (λ b. not b && get_or marks k false) (ne_eqb k i apart))
]

-- a number in a block that is another one after
in_same : (blocks : Blocks) (place n : ℕ) (o : Option (List Bool)) → place < length blocks → n / 4096 ≡ place → marked_in (set blocks place o) n ≡ block_has o (n % 4096)
in_same blocks place n o low same = ap (λ x. block_has x (n % 4096)) (ap (λ j. get_or (set blocks place o) j None) same ∙ get_or-set_same blocks place o None low)

in_other : (blocks : Blocks) (place n : ℕ) (o : Option (List Bool)) → n / 4096 ≢ place → marked_in (set blocks place o) n ≡ marked_in blocks n
in_other blocks place n o apart = ap (λ x. block_has x (n % 4096)) (get_or-set_other blocks place (n / 4096) o None apart)

was_in : (blocks : Blocks) (place n : ℕ) (o : Option (List Bool)) → get_or blocks place None ≡ o → n / 4096 ≡ place → marked_in blocks n ≡ block_has o (n % 4096)
was_in blocks place n o there same = ap (λ x. block_has x (n % 4096)) (ap (λ j. get_or blocks j None) same ∙ there)

same_test : (n number : ℕ) → n / 4096 ≡ number / 4096 → eqb (n % 4096) (number % 4096) ≡ eqb n number
same_test n number same = elim (two_numbers n number) [
  | inl is ↦ eq-eqb (n % 4096) (number % 4096) (ap (λ x. x % 4096) is) ∙ sym (eq-eqb n number is)
  | inr apart ↦ ne_eqb (n % 4096) (number % 4096) (λ e. apart (omega arith)) ∙ sym (ne_eqb n number apart)
]

other_test : (n number : ℕ) → n / 4096 ≢ number / 4096 → eqb n number ≡ false
other_test n number apart = ne_eqb n number (λ e. apart (ap (λ x. x / 4096) e))

-- a number's block has one mark more, or less
pub block_marked : (blocks : Blocks) (number n : ℕ) (old new : List Bool) → number / 4096 < length blocks → get_or blocks (number / 4096) None ≡ Some old
    → ((k : ℕ) → get_or new k false ≡ (eqb k (number % 4096) || get_or old k false)) → marked_in (set blocks (number / 4096) (Some new)) n ≡ (eqb n number || marked_in blocks n)
block_marked blocks number n old new low there marks = elim (two_numbers (n / 4096) (number / 4096)) [
  | inl same ↦ in_same blocks (number / 4096) n (Some new) low same ∙ marks (n % 4096) ∙ ap (λ b. b || get_or old (n % 4096) false) (same_test n number same)
      ∙ ap (λ b. eqb n number || b) (sym (was_in blocks (number / 4096) n (Some old) there same))
  | inr apart ↦ in_other blocks (number / 4096) n (Some new) apart ∙ sym (ap (λ b. b || marked_in blocks n) (other_test n number apart))
]

pub block_unmarked : (blocks : Blocks) (number n : ℕ) (old new : List Bool) → number / 4096 < length blocks → get_or blocks (number / 4096) None ≡ Some old
    → ((k : ℕ) → get_or new k false ≡ (not (eqb k (number % 4096)) && get_or old k false)) → marked_in (set blocks (number / 4096) (Some new)) n ≡ (not (eqb n number) && marked_in blocks n)
block_unmarked blocks number n old new low there marks = elim (two_numbers (n / 4096) (number / 4096)) [
  | inl same ↦ in_same blocks (number / 4096) n (Some new) low same ∙ marks (n % 4096) ∙ ap (λ b. not b && get_or old (n % 4096) false) (same_test n number same)
      ∙ ap (λ b. not (eqb n number) && b) (sym (was_in blocks (number / 4096) n (Some old) there same))
  | inr apart ↦ in_other blocks (number / 4096) n (Some new) apart ∙ sym (ap (λ b. not b && marked_in blocks n) (other_test n number apart))
]

-- where there is no block, no mark is taken back
pub none_unmarked : (blocks : Blocks) (number n : ℕ) → get_or blocks (number / 4096) None ≡ None → marked_in blocks n ≡ (not (eqb n number) && marked_in blocks n)
none_unmarked blocks number n none = elim (two_numbers (n / 4096) (number / 4096)) [
  | inl same ↦ let clear : marked_in blocks n ≡ false = was_in blocks (number / 4096) n None none same in clear ∙ sym (ap (λ b. not (eqb n number) && b) clear ∙ and_false (not (eqb n number)))
  | inr apart ↦ sym (ap (λ b. not b && marked_in blocks n) (other_test n number apart))
]
  where
    and_false : (b : Bool) → (b && false) ≡ false
    and_false true = refl
    and_false false = refl

-- a block of which no number is marked comes or goes
pub block_gone : (blocks : Blocks) (place n : ℕ) (o : Option (List Bool)) → place < length blocks → ((k : ℕ) → block_has (get_or blocks place None) k ≡ false) → ((k : ℕ) → block_has o k ≡ false)
    → marked_in (set blocks place o) n ≡ marked_in blocks n
block_gone blocks place n o low was is = elim (two_numbers (n / 4096) place) [
  | inl same ↦ in_same blocks place n o low same ∙ is (n % 4096) ∙ sym (was_in blocks place n (get_or blocks place None) refl same ∙ was (n % 4096))
  | inr apart ↦ in_other blocks place n o apart
]

pub fresh_block : (k : ℕ) → get_or (replicate 4096 false) k false ≡ false
fresh_block k = elim (cases_lt k 4096) [
  | inl low ↦ get_or-replicate 4096 k false false low
  | inr past ↦ get_or_past (replicate 4096 false) k false (let many = length-replicate 4096 false in omega arith)
]

-- a place more, where no block is
pub table_longer : (blocks : Blocks) (n : ℕ) → marked_in (blocks ++ None ∷ []) n ≡ marked_in blocks n
table_longer blocks n = ap (λ o. block_has o (n % 4096)) (elim (cases_lt (n / 4096) (length blocks)) [
  | inl low ↦ get_or_append_left blocks (None ∷ []) None (n / 4096) low
  | inr past ↦ longer (two_numbers (n / 4096) (length blocks)) past
])
  where
    longer : (n / 4096 ≡ length blocks) ⊎ (n / 4096 ≢ length blocks) → length blocks ≤ n / 4096 → get_or (blocks ++ None ∷ []) (n / 4096) None ≡ get_or blocks (n / 4096) None
    longer (inl same) past = get_or_push blocks None None (n / 4096) (sym same) ∙ sym (get_or_past blocks (n / 4096) None past)
    longer (inr apart) past = get_or_past (blocks ++ None ∷ []) (n / 4096) None (let more = length_more blocks in grind arith) ∙ sym (get_or_past blocks (n / 4096) None past)
      where
        length_more : (xs : Blocks) → length (xs ++ None ∷ []) ≡ length xs + 1
        length_more [] = refl
        length_more (x ∷ xs) = let more = length_more xs in omega arith

-- the marks of what is held, as that changes
nothing : (o : Option IncomingPacket) → is_some o ≡ false → o ≡ None
nothing None h = refl
nothing (Some x) h = absurd (cc)

pub not_held : (blocks : Blocks) (held : FinMap nat_cmp IncomingPacket) (number : ℕ) → AreMarked blocks held → number < 65536 → marked_in blocks number ≡ false → get held number ≡ None
not_held blocks held number marks low clear = nothing (get held number) (sym (marks number low) ∙ clear)

pub AreMarked-new : (held : FinMap nat_cmp IncomingPacket) → held ≡ empty → AreMarked [] held
AreMarked-new held is = λ n low. ap (λ o. block_has o (n % 4096)) (get_or_past [] (n / 4096) None (omega arith)) ∙ sym (ap (λ m. is_some (get m n)) is ∙ ap is_some (get-empty nat_cmp n))

pub AreMarked-same : (blocks after : Blocks) (held : FinMap nat_cmp IncomingPacket) → AreMarked blocks held → ((n : ℕ) → marked_in after n ≡ marked_in blocks n) → AreMarked after held
AreMarked-same blocks after held marks same = λ n low. same n ∙ marks n low

pub AreMarked-inserted : (blocks after : Blocks) (held : FinMap nat_cmp IncomingPacket) (number : ℕ) (x : IncomingPacket) → AreMarked blocks held
    → ((n : ℕ) → marked_in after n ≡ (eqb n number || marked_in blocks n)) → AreMarked after (insert held number x)
AreMarked-inserted blocks after held number x marks more = λ n low. more n ∙ elim (two_numbers n number) [
  | inl same ↦ ap (λ b. b || marked_in blocks n) (eq-eqb n number same) ∙ sym (ap is_some (ap (get (insert held number x)) same ∙ get-insert_same held number x))
  | inr apart ↦ ap (λ b. b || marked_in blocks n) (ne_eqb n number apart) ∙ marks n low ∙ sym (ap is_some (get-insert_other held number n x apart))
]

pub AreMarked-removed : (blocks after : Blocks) (held : FinMap nat_cmp IncomingPacket) (number : ℕ) → AreMarked blocks held
    → ((n : ℕ) → marked_in after n ≡ (not (eqb n number) && marked_in blocks n)) → AreMarked after (remove held number)
AreMarked-removed blocks after held number marks fewer = λ n low. fewer n ∙ elim (two_numbers n number) [
  | inl same ↦ ap (λ b. not b && marked_in blocks n) (eq-eqb n number same) ∙ sym (ap is_some (ap (get (remove held number)) same ∙ get-remove_same held number))
  | inr apart ↦ ap (λ b. not b && marked_in blocks n) (ne_eqb n number apart) ∙ marks n low ∙ sym (ap is_some (get-remove_other held number n apart))
]

-- a piece more of what is held
pub AreMarked-added : (blocks : Blocks) (held : FinMap nat_cmp IncomingPacket) (number : ℕ) (was x : IncomingPacket) → get held number ≡ Some was → AreMarked blocks held → AreMarked blocks (insert held number x)
AreMarked-added blocks held number was x there marks = λ n low. marks n low ∙ elim (two_numbers n number) [
  | inl same ↦ ap is_some (ap (get held) same ∙ there) ∙ sym (ap is_some (ap (get (insert held number x)) same ∙ get-insert_same held number x))
  | inr apart ↦ sym (ap is_some (get-insert_other held number n x apart))
]

-- a mark that is taken back at once
pub AreMarked-back : (blocks more after : Blocks) (held : FinMap nat_cmp IncomingPacket) (number : ℕ) → get held number ≡ None → AreMarked blocks held
    → ((n : ℕ) → marked_in more n ≡ (eqb n number || marked_in blocks n)) → ((n : ℕ) → marked_in after n ≡ (not (eqb n number) && marked_in more n)) → AreMarked after held
AreMarked-back blocks more after held number none marks marked unmarked = λ n low. unmarked n ∙ elim (two_numbers n number) [
  | inl same ↦ ap (λ b. not b && marked_in more n) (eq-eqb n number same) ∙ sym (ap is_some (ap (get held) same ∙ none))
  | inr apart ↦ ap (λ b. not b && marked_in more n) (ne_eqb n number apart) ∙ marked n ∙ ap (λ b. b || marked_in blocks n) (ne_eqb n number apart) ∙ marks n low
]

-- what isn't there is taken out
pub remove_missing : (held : FinMap nat_cmp IncomingPacket) (number : ℕ) → get held number ≡ None → remove held number ≡ held
remove_missing held number none = same_map nat_cmp_total nat_cmp-IsAntisymmetric _ _ (λ q. elim (two_numbers q number) [
  | inl same ↦ ap (get (remove held number)) same ∙ get-remove_same held number ∙ sym (ap (get held) same ∙ none)
  | inr apart ↦ get-remove_other held number q apart
])

-- the count of the marks that are missing, once one is set or taken back
pub one_missing : (marks : List Bool) (missing i : ℕ) (has : Bool) → KeepsBlock marks missing → i < 4096 → has ≡ get_or marks i false → has ≡ false → (1 ≤ missing) × KeepsBlock (set marks i true) (missing - 1)
one_missing marks missing i has k low is clear =
    let many = k.many in
    let counted : missing ≡ missing_in marks = k.counted in
    let fewer : missing_in (set marks i true) + 1 ≡ missing_in marks = missing_in-set marks i (omega arith) (sym is ∙ clear) in
    (omega arith, record { many = length-set marks i true ∙ many; counted = omega arith })

marked_low : (marks : List Bool) (i : ℕ) → get_or marks i false ≡ true → i < length marks
marked_low marks i is = elim (cases_lt i (length marks)) [
  | inl low ↦ low
  | inr past ↦ absurd (let none = get_or_past marks i false past in cc)
]

pub one_more_missing : (marks : List Bool) (missing i : ℕ) → KeepsBlock marks missing → get_or marks i false ≡ true → (missing + 1 ≤ 4096) × KeepsBlock (set marks i false) (missing + 1)
one_more_missing marks missing i k is =
    let many = k.many in
    let counted : missing ≡ missing_in marks = k.counted in
    let more : missing_in (set marks i false) ≡ missing_in marks + 1 = missing_in-unset marks i (marked_low marks i is) is in
    let most = missing_in-le (set marks i false) in
    let same = length-set marks i false in
    (omega arith, record { many = same ∙ many; counted = omega arith })

-- a block is made where none was
pub block_made : (blocks : Blocks) (place n : ℕ) (was : Option (List Bool)) (block : List Bool) → place < length blocks → get_or blocks place None ≡ was → is_some was ≡ false → block ≡ replicate 4096 false
    → marked_in (set blocks place (Some block)) n ≡ marked_in blocks n
block_made blocks place n (Some x) block low there none fresh = absurd (cc)
block_made blocks place n None block low there none fresh =
    block_gone blocks place n (Some block) low (λ k. ap (λ o. block_has o k) there) (λ k. ap (λ (marks : List Bool). get_or marks k false) fresh ∙ fresh_block k)

there : (P : IncomingPacket → Type 0) (o : Option IncomingPacket) → IsSomeAnd o P → (x : IncomingPacket) × (o ≡ Some x)
there P None h = absurd h
there P (Some x) h = (x, refl)

-- a piece more, where memory is not refused
pub AreMarked-grown : {A E : Type 0} (P : IncomingPacket → Type 0) (result : Result A E) (blocks : Blocks) (held new : FinMap nat_cmp IncomingPacket) (number : ℕ) (grown : IncomingPacket → IncomingPacket)
    → AreMarked blocks held → IsSomeAnd (get held number) P → OnOk result ((c : IncomingPacket) → get held number ≡ Some c → new ≡ insert held number (grown c)) → OnErr result (new ≡ held) → AreMarked blocks new
AreMarked-grown P (Ok x) blocks held new number grown marks some' ok err =
    let was = there P (get held number) some' in
    subst (λ (m : FinMap nat_cmp IncomingPacket). AreMarked blocks m) (sym (ok was.0 was.1)) (AreMarked-added blocks held number was.0 (grown was.0) was.1 marks)
AreMarked-grown P (Err why) blocks held new number grown marks some' ok err = subst (λ (m : FinMap nat_cmp IncomingPacket). AreMarked blocks m) (sym err) marks

-- what holds of a result that is no error
pub from_no_err : {A E : Type 0} {P : Type 0} (r : Result A E) (b : Bool) → b ≡ is_err r → b ≡ false → OnOk r P → P
from_no_err (Ok x) b e t h = h
from_no_err (Err x) b e t h = absurd (cc)
