use Rattle.std.proofs.Common.{length, arith, ap}
use Rattle.enet_console.proofs.PieceLemmas.{pieces-some}
use Rattle.enet_console.proofs.word.only.Goals as goal

pub returns-in-Some : goal.returns-in-Some
returns-in-Some c = λ one.
    let more = ap length c.in-Some.ensures.pieces in
    omega (arith, one, more, pieces-some c.in-Some.field-0.1.now)
