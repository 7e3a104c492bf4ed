-- Lines whose text was written, and one more.
use Rattle.std.proofs.Common.{◌≡◌, ◌≤◌, ◌<◌, ◌+◌, ◌++◌, ℕ, suc, min, List, [], ◌∷◌, length, Option, Some, None, IsSome, IfSome, sym, ap, subst, ◌∙◌, append_assoc, append-nil, length-append, arith, add-zero, zero-add}
use Rattle.std.proofs.lemmas.Grind.{flat_map-append}
use Rattle.std.proofs.lemmas.List.Elements.{All-push}
use Rattle.std.proofs.KnownBytes.{Appends-trans}
use Rattle.std.specs.Borrow.{Bor}
use Rattle.enet_text.specs.declared.body.Bodies.{Bodies}
use Rattle.enet_text.specs.declared.line.Line.{Line}
use Rattle.enet_text.specs.declared.line.Line.TheVariants.{PassedOver, Datagram}
use Rattle.enet_text.specs.Inspected.{Found, TellsEach, TellsLines, Wrote, found_in, found_in_lines, lines_of}
use Rattle.enet_text.specs.Lines.{line_of}
use Rattle.enet_text.specs.Private.InputTexts.{lines_left, bytes_left}

shift : (n k : ℕ) → n + suc k ≡ suc n + k
shift n k = omega arith

-- more datagrams behind others
pub each-append : (bodies : Bodies) (number : ℕ) (some others : List Found) (a b : List ℕ) → TellsEach bodies number some a → TellsEach bodies (number + length some) others b
    → TellsEach bodies number (some ++ others) (a ++ b)
each-append bodies number [] others a b told more = rw told (subst (λ n. TellsEach bodies n others b) (add-zero number) more)
each-append bodies number (found ∷ some) others a b told more = (
  told.0,
  told.1 ++ b,
  ap (λ l. l ++ b) told.2 ∙ append_assoc told.0 told.1 b,
  told.3,
  each-append bodies (suc number) some others told.1 b told.4 (subst (λ n. TellsEach bodies n others b) (shift number (length some)) more),
)

-- a line has one datagram at most
one_at_most : (read : Option Line) → length (found_in read) ≤ 1
one_at_most None = omega arith
one_at_most (Some PassedOver) = omega arith
one_at_most (Some (Datagram bytes)) = omega arith

found-append : (lines : List (List ℕ)) (line : List ℕ) → found_in_lines (lines ++ line ∷ []) ≡ found_in_lines lines ++ found_in (line_of line)
found-append lines line = flat_map-append (λ l. found_in (line_of l)) lines (line ∷ []) ∙ ap (λ l. found_in_lines lines ++ l) (append-nil (found_in (line_of line)))

found-few : (lines : List (List ℕ)) → length (found_in_lines lines) ≤ length lines
found-few [] = omega arith
found-few (line ∷ lines) = omega (arith, one_at_most (line_of line), found-few lines, length-append (found_in (line_of line)) (found_in_lines lines))

pub lines-push : (bodies : Bodies) (lines : List (List ℕ)) (line a b : List ℕ) → TellsLines bodies lines a → IsSome (line_of line)
    → TellsEach bodies (length (found_in_lines lines)) (found_in (line_of line)) b → TellsLines bodies (lines ++ line ∷ []) (a ++ b)
lines-push bodies lines line a b told some more = record {
  readable = All-push (λ l. IsSome (line_of l)) lines line told.readable some;
  told = subst (λ (fs : List Found). TellsEach bodies 0 fs (a ++ b)) (sym (found-append lines line)) (each-append bodies 0 (found_in_lines lines) (found_in (line_of line)) a b told.told
      (subst (λ n. TellsEach bodies n (found_in (line_of line)) b) (sym (zero-add (length (found_in_lines lines)))) more));
}

left-shorter : (left : Option (Bor (List ℕ))) (n : ℕ) → IfSome left (λ rest. length rest.now < n) → bytes_left left ≤ n
left-shorter None n h = omega arith
left-shorter (Some rest) n h = omega (arith, h)

-- of an input these lines are told, and of what is left behind them the first line is told, too
pub line_more : (bodies : Bodies) (input : List ℕ) (before : List (List ℕ)) (rest line : List ℕ) (left : Option (Bor (List ℕ))) (lines told count next : ℕ) (old mid new : Option (List ℕ))
    → lines_of input ≡ before ++ lines_of rest → length before + (length rest + 1) ≤ length input + 1 → lines ≡ length before
    → told ≡ length (found_in_lines before) → Wrote old mid (TellsLines bodies before) → length input < 9223372036854775808
    → lines_of rest ≡ line ∷ lines_left left → IfSome left (λ r. length r.now < length rest) → count ≡ min (lines + 1) 18446744073709551615
    → IsSome (line_of line) → Wrote mid new (TellsEach bodies told (found_in (line_of line))) → next ≡ min (told + length (found_in (line_of line))) 18446744073709551615
    → (after : List (List ℕ)) × (lines_of input ≡ after ++ lines_left left) × (length after + bytes_left left ≤ length input + 1)
    × (count ≡ length after) × (next ≡ length (found_in_lines after)) × Wrote old new (TellsLines bodies after)
line_more bodies input before rest line left lines told count next old mid new are within lines_is told_is past short cut shorter count_is some more next_is =
    let after = before ++ line ∷ [] in
    let longer : length after ≡ length before + 1 = length-append before (line ∷ []) in
    let found : length (found_in_lines after) ≡ length (found_in_lines before) + length (found_in (line_of line)) =
    ap length (found-append before line) ∙ length-append (found_in_lines before) (found_in (line_of line)) in
    let few : length (found_in_lines after) ≤ length after = found-few after in (
      after,
      are ∙ ap (λ l. before ++ l) cut ∙ sym (append_assoc before (line ∷ []) (lines_left left)),
      omega (arith, longer, within, left-shorter left (length rest) shorter),
      omega (arith, longer, within, short, count_is, lines_is),
      omega (arith, longer, within, short, next_is, told_is, found, few),
      (
        past.0 ++ more.0,
        Appends-trans old mid new past.0 more.0 past.1 more.1,
        lines-push bodies before line past.0 more.0 past.2 some (subst (λ n. TellsEach bodies n (found_in (line_of line)) more.0) told_is more.2),
      ),
    )
