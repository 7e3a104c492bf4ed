use Rattle.std.proofs.Common.{arith, ℕ, List, ◌++◌, Option, sym, ap, ◌∙◌, subst}
use Rattle.std.specs.Prelude.{drop}
use Rattle.enet_c.specs.Border.{Copies, nothing, short, copied}
use Rattle.enet_c.proofs.held.Held.copy_body.Goals as goal

pub returns-in_default : goal.returns-in_default
returns-in_default c =
    subst (λ (o : Option (List ℕ)). Copies o c.args.buffer.now 36 c.args.buffer.now) (sym c.in_default.is) (nothing _)

pub returns-then-count-buffer : goal.returns-then-count-buffer
returns-then-count-buffer c =
    subst (λ (o : Option (List ℕ)). Copies o c.args.buffer.now 34 c.args.buffer.now) (sym c.in-Some.is) (let count = c.len-count.ensures.value in short _ _ (omega (arith, count)))

pub returns : goal.returns
returns c =
    let count = c.len-count.ensures.value in
    subst (λ (o : Option (List ℕ)). Copies o c.args.buffer.now 0 (c.copy_from_slice.new.self ++ drop c.len-count.result c.args.buffer.now)) (sym c.in-Some.is)
    (copied _ _ _ (omega (arith, count))
    (ap (λ (xs : List ℕ). xs ++ drop c.len-count.result c.args.buffer.now) (c.copy_from_slice.ensures.after ∙ c.deref.ensures)
    ∙ ap (λ (n : ℕ). c.in-Some.body ++ drop n c.args.buffer.now) count))
