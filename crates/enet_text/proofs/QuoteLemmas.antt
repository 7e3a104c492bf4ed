-- The bytes of a text in quotes, letter by letter.
use Rattle.std.proofs.Common.{arith, ◌≡◌, ◌≢◌, ◌==◌, ◌&&◌, ◌+◌, ◌*◌, ◌<◌, ◌≤◌, ℕ, Bool, true, false, cond, nat_lt, List, [], ◌∷◌, ◌++◌, length, Option, Some, None, refl, sym, ap, subst, ◌∙◌, append_assoc, append-nil}
use Rattle.std.specs.Prelude.{bytes_eq, option_map, option_and_then}
use Rattle.std.specs.Borrow.{Bor}
use Rattle.std.proofs.lemmas.Bool.{ne_eqb, lt-ltb, le-ltb}
use Rattle.hex.specs.Hex.{hex_digit_value}
use Rattle.enet_text.specs.Words.{Next, letter, escape, high, low, onto, at_end, escape_of, unquoted}
use Rattle.enet_text.specs.Private.Pieces.{LeadsOn, ended}

-- these bytes before those that are read behind them
abbrev pub ahead : List ℕ → Option (List ℕ) → Option (List ℕ)
ahead bytes behind = option_map (λ more. bytes ++ more) behind

pub ahead-nothing : (behind : Option (List ℕ)) → behind ≡ ahead [] behind
ahead-nothing None = refl
ahead-nothing (Some more) = refl

ahead-push : (bytes : List ℕ) (byte : ℕ) (behind : Option (List ℕ)) → ahead bytes (onto (Some byte) behind) ≡ ahead (bytes ++ byte ∷ []) behind
ahead-push bytes byte None = refl
ahead-push bytes byte (Some more) = ap Some (sym (append_assoc bytes (byte ∷ []) more))

pub ahead-step : (bytes items : List ℕ) (byte : ℕ) (whole now next : Option (List ℕ)) → whole ≡ ahead bytes now → now ≡ onto (Some byte) next
    → items ≡ bytes ++ byte ∷ [] → whole ≡ ahead items next
ahead-step bytes items byte whole now next h e is = h ∙ ap (ahead bytes) e ∙ ahead-push bytes byte next ∙ ap (λ l. ahead l next) (sym is)

pub ahead-all : (bytes : List ℕ) (whole now : Option (List ℕ)) → whole ≡ ahead bytes now → now ≡ Some [] → Some bytes ≡ whole
ahead-all bytes whole now h e = sym (h ∙ ap (ahead bytes) e ∙ ap Some (append-nil bytes))

pub ahead-none : (bytes : List ℕ) (whole now : Option (List ℕ)) → whole ≡ ahead bytes now → now ≡ None → None ≡ whole
ahead-none bytes whole now h e = sym (h ∙ ap (ahead bytes) e)

-- ---- what the first byte leads on to

nothing : (text : List ℕ) → length text ≡ 0 → text ≡ []
nothing [] e = refl
nothing (byte ∷ rest) e = absurd (omega (arith, e))

-- what is read of one text is read of another that spells the same
pub leads : (next other : Next) (text behind : List ℕ) (one two : Option (List ℕ)) (result : Option (ℕ × Bor (List ℕ)))
    → unquoted next text ≡ unquoted other behind → two ≡ one → LeadsOn other behind one result → LeadsOn next text two result
leads next other text behind one two None e same h = e ∙ h ∙ sym same
leads next other text behind one two (Some read) e same h = e ∙ h

pub letter-nothing : (text : List ℕ) → length text ≡ 0 → unquoted letter text ≡ ended text
unfolding unquoted
letter-nothing text e = subst (λ t. unquoted letter t ≡ ended t) (sym (nothing text e)) refl

quote-only : (rest : List ℕ) → unquoted letter (34 ∷ rest) ≡ ended (34 ∷ rest)
unfolding unquoted
quote-only [] = refl
quote-only (byte ∷ rest) = refl

abbrev by_byte : ℕ → List ℕ → Bool → Bool → Bool → Option (List ℕ)
by_byte byte rest quote backslash control =
    cond quote (at_end rest) (cond backslash (unquoted escape rest) (cond control None (onto (Some byte) (unquoted letter rest))))

letter-by : (byte : ℕ) (rest : List ℕ) (quote backslash control : Bool) → (byte == 34) ≡ quote → (byte == 92) ≡ backslash → nat_lt byte 32 ≡ control
    → unquoted letter (byte ∷ rest) ≡ by_byte byte rest quote backslash control
unfolding unquoted
letter-by byte rest quote backslash control one two three =
    ap (λ b. by_byte byte rest b (byte == 92) (nat_lt byte 32)) one ∙ ap (λ b. by_byte byte rest quote b (nat_lt byte 32)) two
    ∙ ap (λ b. by_byte byte rest quote backslash b) three

module _ (text rest : List ℕ) (byte : ℕ) (cut : text ≡ byte ∷ rest) where
  pub letter-quote : byte ≡ 34 → unquoted letter text ≡ ended text
  letter-quote is = subst (λ t. unquoted letter t ≡ ended t) (sym (cut ∙ ap (λ b. b ∷ rest) is)) (quote-only rest)

  pub not-ended : byte ≢ 34 → ended text ≡ None
  not-ended other = ap ended cut ∙ ap (λ b. cond (b && bytes_eq rest []) (Some []) None) (ne_eqb byte 34 other)

  pub letter-control : byte ≢ 34 → byte < 32 → unquoted letter text ≡ ended text
  letter-control other below =
      ap (unquoted letter) cut ∙ letter-by byte rest false false true (ne_eqb byte 34 other) (ne_eqb byte 92 (omega (arith, below))) (lt-ltb byte 32 below)
      ∙ sym (not-ended other)

  pub letter-backslash : byte ≡ 92 → unquoted letter text ≡ unquoted escape rest
  unfolding unquoted
  letter-backslash is = ap (unquoted letter) (cut ∙ ap (λ b. b ∷ rest) is)

  pub letter-plain : byte ≢ 34 → 32 ≤ byte → byte ≢ 92 → unquoted letter text ≡ onto (Some byte) (unquoted letter rest)
  letter-plain quote above backslash =
      ap (unquoted letter) cut
      ∙ letter-by byte rest false false false (ne_eqb byte 34 quote) (ne_eqb byte 92 backslash) (le-ltb byte 32 above)

  pub escape-hex : byte ≡ 120 → unquoted escape text ≡ unquoted high rest
  unfolding unquoted
  escape-hex is = ap (unquoted escape) (cut ∙ ap (λ b. b ∷ rest) is)

  escape-other : byte ≢ 120 → unquoted escape text ≡ onto (escape_of byte) (unquoted letter rest)
  unfolding unquoted
  escape-other other = ap (unquoted escape) cut ∙ ap (λ b. cond b (unquoted high rest) (onto (escape_of byte) (unquoted letter rest))) (ne_eqb byte 120 other)

  pub escape-none : byte ≢ 120 → None ≡ escape_of byte → unquoted escape text ≡ None
  escape-none other none = escape-other other ∙ ap (λ o. onto o (unquoted letter rest)) (sym none)

  pub escape-read : (value : ℕ) → byte ≢ 120 → Some value ≡ escape_of byte → unquoted escape text ≡ onto (Some value) (unquoted letter rest)
  escape-read value other some = escape-other other ∙ ap (λ o. onto o (unquoted letter rest)) (sym some)

  no_digit_behind : (digit : Option ℕ) → option_and_then (λ d. unquoted (low d) []) digit ≡ None
  unfolding unquoted
  no_digit_behind None = refl
  no_digit_behind (Some d) = refl

  pub high-alone : length rest ≡ 0 → unquoted high text ≡ None
  unfolding unquoted
  high-alone e = ap (unquoted high) (cut ∙ ap (λ r. byte ∷ r) (nothing rest e)) ∙ no_digit_behind (hex_digit_value byte)

  pub high-none : None ≡ hex_digit_value byte → unquoted high text ≡ None
  unfolding unquoted
  high-none none = ap (unquoted high) cut ∙ ap (λ o. option_and_then (λ d. unquoted (low d) rest) o) (sym none)

  pub high-low : (digit : ℕ) → Some digit ≡ hex_digit_value byte → unquoted high text ≡ unquoted (low digit) rest
  unfolding unquoted
  high-low digit some = ap (unquoted high) cut ∙ ap (λ o. option_and_then (λ d. unquoted (low d) rest) o) (sym some)

  pub low-none : (digit : ℕ) → None ≡ hex_digit_value byte → unquoted (low digit) text ≡ None
  unfolding unquoted
  low-none digit none = ap (unquoted (low digit)) cut ∙ ap (λ o. onto (option_map (λ other. 16 * digit + other) o) (unquoted letter rest)) (sym none)

  pub low-read : (digit other : ℕ) → Some other ≡ hex_digit_value byte → unquoted (low digit) text ≡ onto (Some (16 * digit + other)) (unquoted letter rest)
  unfolding unquoted
  low-read digit other some = ap (unquoted (low digit)) cut ∙ ap (λ o. onto (option_map (λ it. 16 * digit + it) o) (unquoted letter rest)) (sym some)

pub escape-nothing : (text : List ℕ) → length text ≡ 0 → unquoted escape text ≡ None
unfolding unquoted
escape-nothing text e = ap (unquoted escape) (nothing text e)

pub high-nothing : (text : List ℕ) → length text ≡ 0 → unquoted high text ≡ None
unfolding unquoted
high-nothing text e = ap (unquoted high) (nothing text e)
