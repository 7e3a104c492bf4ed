use Rattle.std.proofs.Common.{ℕ, List, [], ◌∷◌, ◌++◌, take, Option, Ok, refl, ap, ◌∙◌, inl, arith}
use Rattle.enet_codec.specs.declared.address.Addr.{Addr}
use Rattle.enet_wire.specs.declared.told.Told.TheVariants.{NothingCame}
use Rattle.enet_wire.specs.Wires.{also, unless_spent, came}
use Rattle.enet_guard.proofs.Passings.{came_so, told_on, over_on, passes_more, length_more}
use Rattle.enet_guard.proofs.guarded.first_passing.Goals as goal

pub returns-in_default-clause-receives : goal.returns-in_default-clause-receives
returns-in_default-clause-receives g c =
    let inv = c.loop-over.invariant in
    let over : List (Addr × List ℕ) = inv.0 in
    let buf : List ℕ = c.recv.new.buf in
    let now = c.in_ok-from.ensures.told
    ∙ ap (λ (d : Option (Addr × ℕ)). also (g.N.Wire.told c.loop-over.wire) (unless_spent (g.N.Wire.faults c.loop-over.wire) (came (Ok d) buf))) c.in_default.is in record {
      over = over;
      between = c.loop-over.guard;
      told = NothingCame ∷ [];
      passed_over = inv.1;
      gives = (refl, inl refl);
      inside_tells = told_on _ _ _ _ _ (came_so over) (NothingCame ∷ []) inv.3 inv.4 now;
    }

pub loop-over-preserved : goal.loop-over-preserved
loop-over-preserved g c =
    let inv = c.loop-over.invariant in
    let over : List (Addr × List ℕ) = inv.0 in
    let buf : List ℕ = c.recv.new.buf in
    let from : Addr = c.in-Some.from in
    let bytes : List ℕ = take c.in-Some.len buf in
    let now = c.in_ok-from.ensures.told
    ∙ ap (λ (d : Option (Addr × ℕ)). also (g.N.Wire.told c.loop-over.wire) (unless_spent (g.N.Wire.faults c.loop-over.wire) (came (Ok d) buf))) c.in-Some.is in (
      over ++ (from, bytes) ∷ [],
      passes_more _ _ _ over from bytes inv.1 (c.in-Some-judge.ensures.refuses),
      omega (arith, length_more over (from, bytes), inv.2),
      over_on _ _ _ _ _ over from bytes inv.3 inv.4 now,
      c.in_ok-from.ensures.faults ∙ inv.4,
      c.in-Some-judge.ensures.ruling ∙ inv.5,
    )
