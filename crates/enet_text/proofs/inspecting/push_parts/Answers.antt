use Rattle.std.proofs.Common.{◌≡◌, ◌++◌, ℕ, ◌-◌, Bool, if◌then◌else◌, List, [], ◌∷◌, length, replicate, sym, ap, ◌∙◌, append-nil, append_assoc, arith}
use Rattle.std.specs.Fmt.{decimal, format_spec, styled_decimal, padded_integral, char_count}
use Rattle.std.specs.String.{string_bytes}
use Rattle.enet_text.proofs.Joins.{if_ok}
use Rattle.enet_text.specs.Captures.{with_zeros}
use Rattle.enet_text.proofs.inspecting.push_parts.Goals as goal

zeros_before : (digits : ℕ) (numeral : List ℕ) → replicate (digits - length numeral - 0 - 0) 48 ++ (numeral ++ []) ≡ replicate (digits - length numeral) 48 ++ numeral
zeros_before digits numeral =
    let short : digits - length numeral - 0 - 0 ≡ digits - length numeral = omega arith in
    ap (λ (k : ℕ). replicate k 48 ++ (numeral ++ [])) short ∙ ap (λ (l : List ℕ). replicate (digits - length numeral) 48 ++ l) (append-nil numeral)

nine_digits : (n : ℕ) → styled_decimal (format_spec 32 0 4 9 18446744073709551615) n ≡ with_zeros 9 n
unfolding padded_integral char_count
nine_digits n = zeros_before 9 (decimal n)

six_digits : (n : ℕ) → styled_decimal (format_spec 32 0 4 6 18446744073709551615) n ≡ with_zeros 6 n
unfolding padded_integral char_count
six_digits n = zeros_before 6 (decimal n)

pub returns-then-nanoseconds : goal.returns-then-nanoseconds
returns-then-nanoseconds c =
    if_ok c.write.result (λ is. is ∙ ap (λ (l : List ℕ). string_bytes c.args.text.now ++ 46 ∷ l)
    (ap (λ s. styled_decimal s c.args.parts) c.laid_out.ensures ∙ nine_digits c.args.parts
    ∙ ap (λ (b : Bool). with_zeros (if b then 9 else 6) c.args.parts) (sym c.if-nanoseconds.true))
    ∙ sym (append_assoc (string_bytes c.args.text.now) (46 ∷ []) (with_zeros (if c.args.nanoseconds then 9 else 6) c.args.parts))) c.write.ensures.bytes

pub returns-else-nanoseconds : goal.returns-else-nanoseconds
returns-else-nanoseconds c =
    if_ok c.write-else-nanoseconds.result (λ is. is ∙ ap (λ (l : List ℕ). string_bytes c.args.text.now ++ 46 ∷ l)
    (ap (λ s. styled_decimal s c.args.parts) c.laid_out-else-nanoseconds.ensures ∙ six_digits c.args.parts
    ∙ ap (λ (b : Bool). with_zeros (if b then 9 else 6) c.args.parts) (sym c.if-nanoseconds.false))
    ∙ sym (append_assoc (string_bytes c.args.text.now) (46 ∷ []) (with_zeros (if c.args.nanoseconds then 9 else 6) c.args.parts))) c.write-else-nanoseconds.ensures.bytes
