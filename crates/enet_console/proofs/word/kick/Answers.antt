use Rattle.std.proofs.Common.{sym, ap, ◌∙◌}
use Rattle.enet_console.specs.Words.{pieces, kick_of}
use Rattle.enet_console.proofs.PieceLemmas.{pieces-some}
use Rattle.enet_console.proofs.Givings.{kick-none}
use Rattle.enet_console.proofs.word.kick.Goals as goal

pub returns-in_err-info : goal.returns-in_err-info
returns-in_err-info c =
    c.from_residual-in_err-info.ensures
    ∙ sym (ap kick_of c.in-Some.ensures.pieces ∙ kick-none c.in-Some.name.now (pieces c.in-Some.rest.now) (pieces-some c.in-Some.rest.now) c.in_err-info.ensures)
