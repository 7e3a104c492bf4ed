use Rattle.std.proofs.Common.{arith, subst}
use Rattle.std.proofs.lemmas.List.{take_all}
use Rattle.enet_captured.specs.Filters.{is_on}
use Rattle.enet_captured.specs.Private.Numbers.{AreOn}
use Rattle.enet_captured.proofs.PassLemmas.{any_more}
use Rattle.enet_captured.proofs.filter.numbers_of.Goals as goal

pub loop-place-preserved : goal.loop-place-preserved
loop-place-preserved c = λ q.
    any_more (is_on c.args.channel q) c.args.marks.now c.loop-place.place _ _ _ c.loop-place-test.true (c.loop-place.invariant q) (c.in_ok-note.ensures q)

pub returns : goal.returns
returns c = subst (λ l. AreOn c.args.channel l c.loop-place.numbers) (take_all c.loop-place.place c.args.marks.now (omega arith)) c.loop-place.invariant
