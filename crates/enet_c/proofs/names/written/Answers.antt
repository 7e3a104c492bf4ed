use Rattle.std.proofs.Common.{arith, ℕ, List, length, ◌++◌, refl, ap, ◌∙◌}
use Rattle.std.specs.Prelude.{drop}
use Rattle.enet_c.specs.Numbers.{short, fits}
use Rattle.enet_c.proofs.names.written.Goals as goal

pub returns-then-count-name : goal.returns-then-count-name
returns-then-count-name c = short (omega arith)

pub returns : goal.returns
returns c =
    fits _ _ (omega arith) (refl, ap (λ (xs : List ℕ). xs ++ drop (length c.args.label.now) c.args.name.now) (c.copy_from_slice.ensures.after ∙ c.as_bytes.ensures.value))
