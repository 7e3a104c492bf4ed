-- Steps one after another, whatever a step is.
use Rattle.std.specs.Prelude.{◌≡◌, List, [], ◌∷◌}

-- by such steps, the events of a list in order with what was answered to each
abbrev pub RunsBy : {W E A : Type 0} → (W → E → A → W → Type 0) → W → List E → List A → W → Type 0
RunsBy S old [] [] new = new ≡ old
RunsBy {W = W} S old (e ∷ es) (a ∷ as') new = (between : W) × S old e a between × RunsBy S between es as' new
RunsBy S old _ _ new = ⊥
