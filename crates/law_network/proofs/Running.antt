-- What steps keep, runs keep; and a run that goes on by one step.
use Rattle.std.proofs.Common.{List, [], ◌∷◌, ◌++◌, refl, sym, subst}
use Rattle.law_network.specs.Running.{RunsBy}

pub runs-keep : {W E A : Type 0} (S : W → E → A → W → Type 0) (P : W → Type 0) → ((w v : W) (e : E) (a : A) → S w e a v → P w → P v)
    → (es : List E) (xs : List A) (w v : W) → RunsBy S w es xs v → P w → P v
runs-keep S P step [] [] w v r k = subst P (sym r) k
runs-keep S P step [] (x ∷ xs) w v r k = absurd r
runs-keep S P step (e ∷ es) [] w v r k = absurd r
runs-keep S P step (e ∷ es) (x ∷ xs) w v r k = runs-keep S P step es xs r.0 v r.2 (step w r.0 e x r.1 k)

pub runs-push : {W E A : Type 0} (S : W → E → A → W → Type 0) (w : W) (es : List E) (xs : List A) (v u : W) (e : E) (x : A)
    → RunsBy S w es xs v → S v e x u → RunsBy S w (es ++ e ∷ []) (xs ++ x ∷ []) u
runs-push S w [] [] v u e x same step = (u, subst (λ (y : _). S y e x u) same step, refl)
runs-push S w [] (y ∷ ys) v u e x h step = absurd h
runs-push S w (f ∷ es) [] v u e x h step = absurd h
runs-push S w (f ∷ es) (y ∷ ys) v u e x h step = (h.0, h.1, runs-push S h.0 es ys v u e x h.2 step)
