-- How bytes of standard input are given, one by one.
use Rattle.std.specs.Prelude.{◌≡◌, ◌<◌, ℕ, zero, suc, ℤ, pos, negsuc, [], ◌∷◌, Option, MatchOption}
use Rattle.enet_console.specs.declared.input.Came.{Came}
use Rattle.enet_console.specs.declared.input.Came.TheVariants.{Bytes, End, Nothing}
use Rattle.enet_console.specs.declared.input.Input.{Input}
use Rattle.enet_console.specs.Inputs.{rest, Goes}

abbrev pub IsUntouched : Input → Input → Type 0
IsUntouched before after = (after.from ≡ before.from) × (after.to ≡ before.to)

-- The next byte; or none, and then nothing is left that was read.
abbrev pub Gives : Input → Input → Option ℕ → Type 0
Gives before after given = MatchOption given (Goes before after [] × (rest after ≡ [])) (λ byte. Goes before after (byte ∷ []))

-- The first of what was read and not given.
abbrev pub Takes : Input → Input → Option ℕ → Type 0
Takes before after given = MatchOption given ((after ≡ before) × (rest before ≡ [])) (λ byte. before.from < before.to → rest before ≡ byte ∷ rest after)

-- What a read gave: it answers how many bytes came, 0 where none come any more, or that it failed, as it may at any time.
abbrev pub what_came : ℤ → Came
what_came (pos zero) = End
what_came (pos (suc n)) = Bytes (suc n)
what_came (negsuc n) = Nothing
