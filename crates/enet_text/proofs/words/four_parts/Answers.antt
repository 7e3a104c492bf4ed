use Rattle.std.proofs.Common.{length, arith, ap}
use Rattle.enet_text.proofs.WordLemmas.{parts-some}
use Rattle.enet_text.proofs.words.four_parts.Goals as goal

pub returns-in-Some : goal.returns-in-Some
returns-in-Some c = λ four.
    let first = ap length c.in_ok-first.ensures in
    let second = ap length c.in_ok-second.ensures in
    let third = ap length c.in_ok-third.ensures in
    let more = ap length c.in-Some.ensures in
    omega (arith, four, first, second, third, more, parts-some c.in-Some.field-0.1.now)
