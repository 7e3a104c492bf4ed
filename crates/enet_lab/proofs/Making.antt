-- What a first line makes, by what opening a network answers.
use Rattle.std.proofs.Common.{◌≡◌, Bool, true, false, refl, sym, subst, Result, Ok, Err}
use Rattle.enet_codec.specs.declared.refusal.Refusal.{Refusal}
use Rattle.enet_codec.specs.declared.refusal.Refusal.TheVariants.{Memory, BadConfig}
use Rattle.enet_lab.specs.declared.stage.Stage.{Stage}
use Rattle.enet_lab.specs.Lines.{Makes}

-- it is made only if the numbers are in range
pub fits : {X : Type 0} (in_range : Bool) (made : X) → (in_range ≡ false → ◌≡◌ {A = Result X Refusal} (Ok made) (Err BadConfig)) → in_range ≡ true
fits true made h = refl
fits {X} false made h = absurd (let e : ◌≡◌ {A = Result X Refusal} (Ok made) (Err BadConfig) = h refl in cc)

same-why : {X : Type 0} (why other : Refusal) → ◌≡◌ {A = Result X Refusal} (Err why) (Err other) → why ≡ other
same-why why other e = cc

-- and refused because they aren't, or for want of memory
pub refuses : {X : Type 0} (in_range : Bool) (fresh : Stage) (why : Refusal) → (in_range ≡ false → ◌≡◌ {A = Result X Refusal} (Err why) (Err BadConfig)) → (in_range ≡ true → why ≡ Memory) → Makes in_range fresh (Err why)
refuses true fresh why out within = subst (λ (w : Refusal). Makes true fresh (Err w)) (sym (within refl)) (refl, refl)
refuses {X} false fresh why out within = subst (λ (w : Refusal). Makes false fresh (Err w)) (sym (same-why {X = X} why BadConfig (out refl))) refl
