-- The pieces of a line, and what it says by them.
use Rattle.std.proofs.Common.{◌≡◌, ◌<◌, ◌≤◌, ◌+◌, ◌==◌, ℕ, suc, Bool, true, false, not, cond, nat_lt, List, [], ◌∷◌, length, take, drop, Option, Some, None, arith, refl, sym, ap, ◌∙◌}
use Rattle.std.specs.Prelude.{position}
use Rattle.std.specs.List.{slice_split, onto_first, position_or_len}
use Rattle.std.proofs.lemmas.Bool.{ltb-true, ltb-false}
use Rattle.std.proofs.lemmas.Option.{cond_some}
use Rattle.std.proofs.lemmas.List.Splits.{slice_split-cons_no, slice_split_first, length-slice_split}
use Rattle.enet_console.specs.declared.word.Word.{Word}
use Rattle.enet_console.specs.Words.{pieces, lone, followed, said, spells}

abbrev is_space : ℕ → Bool
is_space byte = byte == 32

no_place : (b : Bool) (k : ℕ) → cond b (Some k) None ≡ None → b ≡ false
no_place true k e = absurd (cc)
no_place false k e = refl

-- a text without a space is one piece
unsplit_by : (byte : ℕ) (rest : List ℕ) (b : Bool) → is_space byte ≡ b → (length rest ≤ position_or_len is_space rest → slice_split is_space rest ≡ rest ∷ [])
    → suc (length rest) ≤ cond (not b) (1 + position_or_len is_space rest) 0 → slice_split is_space (byte ∷ rest) ≡ (byte ∷ rest) ∷ []
unsplit_by byte rest true e h far = absurd (omega arith)
unsplit_by byte rest false e h far = slice_split-cons_no is_space byte rest e ∙ ap (onto_first byte) (h (omega arith))

unsplit : (text : List ℕ) → length text ≤ position_or_len is_space text → slice_split is_space text ≡ text ∷ []
unsplit [] far = refl
unsplit (byte ∷ rest) far = unsplit_by byte rest (is_space byte) refl (unsplit rest) far

pub pieces-one : (text : List ℕ) → position is_space text ≡ None → pieces text ≡ text ∷ []
unfolding pieces
pieces-one text e = unsplit text (ltb-false _ _ (no_place _ _ e))

place_of : (text : List ℕ) (k : ℕ) → position is_space text ≡ Some k → (position_or_len is_space text ≡ k) × (k < length text)
place_of text k e =
    let found : (nat_lt (position_or_len is_space text) (length text) ≡ true) × (position_or_len is_space text ≡ k) = cond_some _ _ _ e in
    (found.1, omega (arith, ltb-true _ _ found.0, found.1))

-- any other begins with the piece before its first space
pub pieces-more : (text before after : List ℕ) (space : ℕ) → position is_space text ≡ Some space → before ≡ take space text → after ≡ drop (space + 1) text
    → pieces text ≡ before ∷ pieces after
unfolding pieces
pieces-more text before after space e front back =
    let at = place_of text space e in
    slice_split_first is_space text 0 (omega (arith, at.0, at.1)) ∙ ap (λ k. take k text ∷ slice_split is_space (drop (k + 1) text)) at.0
    ∙ ap (λ f. f ∷ slice_split is_space (drop (space + 1) text)) (sym front) ∙ ap (λ r. before ∷ slice_split is_space r) (sym back)

pub pieces-some : (text : List ℕ) → 1 ≤ length (pieces text)
unfolding pieces
pieces-some text = omega (arith, length-slice_split is_space text)

-- a line of one piece
pub spells-lone : (line : List ℕ) (word : Option Word) → pieces line ≡ line ∷ [] → word ≡ lone line → word ≡ spells line
unfolding spells
spells-lone line word e is = is ∙ sym (ap (said line) e)

said_followed : (line word : List ℕ) (others : List (List ℕ)) → 1 ≤ length others → said line (word ∷ others) ≡ followed word others (drop (length word + 1) line)
said_followed line word [] some = absurd (omega arith)
said_followed line word (other ∷ others) some = refl

-- a line of several
pub spells-followed : (line word rest : List ℕ) → pieces line ≡ word ∷ pieces rest → rest ≡ drop (length word + 1) line
    → followed word (pieces rest) rest ≡ spells line
unfolding spells
spells-followed line word rest e behind =
    ap (followed word (pieces rest)) behind ∙ sym (said_followed line word (pieces rest) (pieces-some rest)) ∙ sym (ap (said line) e)
