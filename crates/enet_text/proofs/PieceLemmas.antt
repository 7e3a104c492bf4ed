-- The words of a line: where the first one ends, and what is left behind it.
use Rattle.std.proofs.Common.{◌≡◌, ◌<◌, ◌≤◌, ◌+◌, ◌==◌, ℕ, suc, Bool, true, false, not, cond, nat_lt, List, [], ◌∷◌, length, get_or, take, drop, filter, Option, Some, None, arith, refl, sym, ap, subst, ◌∙◌, one-add, add-one, add-zero, length-take, length-drop, get_or-drop}
use Rattle.std.specs.Prelude.{position, MatchOption}
use Rattle.std.specs.Borrow.{Bor}
use Rattle.std.specs.List.{onto_first, position_or_len}
use Rattle.std.proofs.lemmas.Bool.{ltb-true, ltb-false, not-true}
use Rattle.std.proofs.lemmas.Grind.{common_steps}
use Rattle.std.proofs.lemmas.Option.{cond_some}
use Rattle.std.proofs.lemmas.List.Sums.{passes_at_first}
use Rattle.std.proofs.Math.Seq.{drop-cons}
use Rattle.enet_text.specs.declared.words.Quoting.{Quoting}
use Rattle.enet_text.specs.declared.words.Quoting.TheVariants.{Outside, Inside, Escaped}
use Rattle.enet_text.specs.Words.{after, separates, pieces, spaced, begins_comment, before_comment, behind_first, words, line_words}
use Rattle.enet_text.specs.Private.Pieces.{piece_end}
use Rattle.enet_text.proofs.WordLemmas.{is_piece, kept, no_place}

abbrev is_space : ℕ → Bool
is_space byte = byte == 32

-- a space at the front adds no word
spaced-space : (byte : ℕ) (rest : List ℕ) → is_space byte ≡ true → spaced (byte ∷ rest) ≡ spaced rest
unfolding spaced
spaced-space byte rest e = ap (λ b. filter is_piece (cond b ([] ∷ pieces Outside rest) (onto_first byte (pieces (after Outside byte) rest)))) e

skip_by : (byte : ℕ) (rest : List ℕ) (n : ℕ) (b : Bool) → is_space byte ≡ b → spaced rest ≡ spaced (drop n rest)
    → spaced (byte ∷ rest) ≡ spaced (drop (cond (not (not b)) (1 + n) 0) (byte ∷ rest))
skip_by byte rest n true e h = spaced-space byte rest e ∙ h ∙ ap (λ k. spaced (drop k (byte ∷ rest))) (sym (one-add n))
skip_by byte rest n false e h = refl

-- the spaces at the front add none
skip : (text : List ℕ) → spaced text ≡ spaced (drop (position_or_len (λ b. not (is_space b)) text) text)
skip [] = refl
skip (byte ∷ rest) = skip_by byte rest (position_or_len (λ b. not (is_space b)) rest) (is_space byte) refl (skip rest)

no_words : spaced [] ≡ []
unfolding spaced
no_words = refl

-- a text of spaces alone has no word
pub spaced-spaces : (text : List ℕ) → position (λ b. not (b == 32)) text ≡ None → spaced text ≡ []
spaced-spaces text e =
    let k : ℕ = position_or_len (λ b. not (is_space b)) text in
    let far : length text ≤ k = ltb-false k (length text) (no_place _ k e) in
    let empty : drop k text ≡ [] = grind (arith, common_steps) in
    skip text ∙ ap spaced empty ∙ no_words

-- ---- a piece ends at the first space outside quotes

-- the pieces behind it
abbrev behind : List ℕ → List (List ℕ)
behind [] = []
behind (byte ∷ rest) = pieces Outside rest

pieces_by : (quoting : Quoting) (byte n : ℕ) (rest : List ℕ) (b : Bool)
    → pieces (after quoting byte) rest ≡ take n rest ∷ behind (drop n rest)
    → cond b ([] ∷ pieces Outside rest) (onto_first byte (pieces (after quoting byte) rest))
    ≡ take (cond b 0 (suc n)) (byte ∷ rest) ∷ behind (drop (cond b 0 (suc n)) (byte ∷ rest))
pieces_by quoting byte n rest true h = refl
pieces_by quoting byte n rest false h = ap (onto_first byte) h

pieces-cut : (quoting : Quoting) (text : List ℕ) → pieces quoting text ≡ take (piece_end quoting text) text ∷ behind (drop (piece_end quoting text) text)
pieces-cut quoting [] = refl
pieces-cut quoting (byte ∷ rest) = pieces_by quoting byte (piece_end (after quoting byte) rest) rest (separates quoting byte) (pieces-cut (after quoting byte) rest)

separates-space : (quoting : Quoting) (byte : ℕ) → separates quoting byte ≡ true → is_space byte ≡ true
separates-space Outside byte e = e
separates-space Inside byte e = absurd (cc)
separates-space Escaped byte e = absurd (cc)

behind_by : (quoting : Quoting) (byte n : ℕ) (rest : List ℕ) (b : Bool) → separates quoting byte ≡ b
    → filter is_piece (behind (drop n rest)) ≡ spaced (drop n rest)
    → filter is_piece (behind (drop (cond b 0 (suc n)) (byte ∷ rest))) ≡ spaced (drop (cond b 0 (suc n)) (byte ∷ rest))
unfolding spaced
behind_by quoting byte n rest true e h = sym (spaced-space byte rest (separates-space quoting byte e))
behind_by quoting byte n rest false e h = h

-- their words are those of what is left
behind-words : (quoting : Quoting) (text : List ℕ) → filter is_piece (behind (drop (piece_end quoting text) text)) ≡ spaced (drop (piece_end quoting text) text)
behind-words quoting [] = sym no_words
behind-words quoting (byte ∷ rest) = behind_by quoting byte (piece_end (after quoting byte) rest) rest (separates quoting byte) refl (behind-words (after quoting byte) rest)

some_end : (text : List ℕ) → 0 < length text → is_space (get_or text 0 0) ≡ false → 0 < piece_end Outside text
some_end [] some e = absurd (omega (arith, some))
some_end (byte ∷ rest) some e = subst (λ b. 0 < cond b 0 (suc (piece_end (after Outside byte) rest))) (sym e) (omega arith)

-- a text that begins with a word
begins : (text : List ℕ) → 0 < length text → is_space (get_or text 0 0) ≡ false
    → spaced text ≡ take (piece_end Outside text) text ∷ spaced (drop (piece_end Outside text) text)
unfolding spaced
begins text some e =
    let n : ℕ = piece_end Outside text in
    let long : 0 < length (take n text) = omega (arith, some, some_end text some e, length-take n text) in
    ap (filter is_piece) (pieces-cut Outside text) ∙ kept (take n text) (behind (drop n text)) long
    ∙ ap (λ more. take n text ∷ more) (behind-words Outside text)

-- the first word stands between the first byte that is no space and where the piece ends
pub spaced-read : (text rest front back : List ℕ) (start at : ℕ) → position (λ b. not (b == 32)) text ≡ Some start → rest ≡ drop start text
    → at ≡ piece_end Outside rest → front ≡ take at rest → back ≡ drop at rest → spaced text ≡ front ∷ spaced back
spaced-read text rest front back start at found cut ends first others =
    let place : (nat_lt (position_or_len (λ b. not (is_space b)) text) (length text) ≡ true) × (position_or_len (λ b. not (is_space b)) text ≡ start) =
    cond_some _ _ _ found in
    let inside : position_or_len (λ b. not (is_space b)) text < length text = ltb-true _ _ place.0 in
    let here : is_space (get_or text start 0) ≡ false =
    not-true _ (ap (λ k. not (is_space (get_or text k 0))) (sym place.1) ∙ passes_at_first (λ b. not (is_space b)) text 0 inside) in
    let whole : spaced text ≡ spaced rest = skip text ∙ ap (λ k. spaced (drop k text)) place.1 ∙ ap spaced (sym cut) in
    let some : 0 < length rest = subst (λ r. 0 < length r) (sym cut) (omega (arith, length-drop start text, inside, place.1)) in
    let top : is_space (get_or rest 0 0) ≡ false = subst (λ r. is_space (get_or r 0 0) ≡ false) (sym cut) (simp (get_or-drop, add-zero) here) in
    let split : spaced rest ≡ take at rest ∷ spaced (drop at rest) =
    subst (λ n. spaced rest ≡ take n rest ∷ spaced (drop n rest)) (sym ends) (begins rest some top) in
    whole ∙ split ∙ ap (λ f. f ∷ spaced (drop at rest)) (sym first) ∙ ap (λ r. front ∷ spaced r) (sym others)

-- ---- where a piece ends, byte by byte

end_step : (quoting : Quoting) (text : List ℕ) (i : ℕ) → i < length text
    → piece_end quoting (drop i text)
    ≡ cond (separates quoting (get_or text i 0)) 0 (suc (piece_end (after quoting (get_or text i 0)) (drop (suc i) text)))
end_step quoting text i within = ap (piece_end quoting) (drop-cons text i 0 within)

pub end-here : (quoting : Quoting) (text : List ℕ) (i byte : ℕ) → i < length text → byte ≡ get_or text i 0 → separates quoting byte ≡ true
    → piece_end Outside text ≡ i + piece_end quoting (drop i text) → i ≡ piece_end Outside text
end-here quoting text i byte within is e h =
    let now : separates quoting (get_or text i 0) ≡ true = subst (λ b. separates quoting b ≡ true) is e in
    let none : piece_end quoting (drop i text) ≡ 0 = end_step quoting text i within
    ∙ ap (λ b. cond b 0 (suc (piece_end (after quoting (get_or text i 0)) (drop (suc i) text)))) now in
    omega (arith, h, none)

pub end-further : (quoting next : Quoting) (text : List ℕ) (i byte : ℕ) → i < length text → byte ≡ get_or text i 0 → separates quoting byte ≡ false
    → next ≡ after quoting byte → piece_end Outside text ≡ i + piece_end quoting (drop i text) → piece_end Outside text ≡ (i + 1) + piece_end next (drop (i + 1) text)
end-further quoting next text i byte within is e goes h =
    let now : separates quoting (get_or text i 0) ≡ false = subst (λ b. separates quoting b ≡ false) is e in
    let same : next ≡ after quoting (get_or text i 0) = goes ∙ ap (after quoting) is in
    let one : piece_end quoting (drop i text) ≡ suc (piece_end (after quoting (get_or text i 0)) (drop (suc i) text)) = end_step quoting text i within
    ∙ ap (λ b. cond b 0 (suc (piece_end (after quoting (get_or text i 0)) (drop (suc i) text)))) now in
    let along : piece_end next (drop (i + 1) text) ≡ piece_end (after quoting (get_or text i 0)) (drop (suc i) text) =
    ap (λ q. piece_end q (drop (i + 1) text)) same ∙ ap (λ k. piece_end (after quoting (get_or text i 0)) (drop k text)) (add-one i) in
    omega (arith, h, one, along)

-- ---- the words of pieces, up to a comment

pub words-none : (text : List ℕ) → spaced text ≡ [] → words text ≡ []
unfolding words
words-none text e = ap before_comment e

pub words-comment : (text first rest : List ℕ) → spaced text ≡ first ∷ spaced rest → begins_comment first ≡ true → words text ≡ []
unfolding words
words-comment text first rest e begins = ap before_comment e ∙ ap (λ b. cond b [] (first ∷ before_comment (spaced rest))) begins

pub words-word : (text first rest : List ℕ) → spaced text ≡ first ∷ spaced rest → begins_comment first ≡ false → words text ≡ first ∷ words rest
unfolding words
words-word text first rest e begins = ap before_comment e ∙ ap (λ b. cond b [] (first ∷ before_comment (spaced rest))) begins

pub line-read : (line : List ℕ) (result : Option (Bor (List ℕ) × Bor (List ℕ)))
    → MatchOption result (spaced line ≡ []) (λ read. spaced line ≡ read.0.now ∷ spaced read.1.now)
    → MatchOption result (line_words line ≡ []) (λ read. line_words line ≡ read.0.now ∷ words read.1.now)
unfolding line_words words
line-read line None e = ap behind_first e
line-read line (Some read) e = ap behind_first e
