-- The rule of the game.
use Rattle.std.specs.Prelude.{◌≡◌, ℕ, ◌<◌, List, ◌++◌, codes}
use Rattle.std.specs.Fmt.{decimal}

-- the text that answers a guess, where so many guesses were made with it
pub record IsAnswer (secret guess guesses : ℕ) (text : List ℕ) : Type 0 where
  pub lower : secret < guess → text ≡ codes "lower"
  pub higher : guess < secret → text ≡ codes "higher"
  pub right : guess ≡ secret → text ≡ codes "right after " ++ decimal guesses
