use Rattle.std.proofs.Common.{ap, arith, ◌∙◌}
use Rattle.enet_outbox.specs.declared.parts.SendLimit.{SendLimit}
use Rattle.enet_outbox.specs.Outstanding.{reaches}
use Rattle.enet_outbox.proofs.Outstanding.{reaches-capped}
use Rattle.enet_outbox.proofs.readings.meets.Goals as goal

pub returns : goal.returns
returns c = λ full e.
    let limit : SendLimit = record { bytes = c.args.bytes; commands = c.args.commands } in
    c.reaches.ensures ∙ ap (reaches limit) e ∙ reaches-capped limit full (omega (arith, c.ranges.bytes.fits)) (omega (arith, c.ranges.commands.fits))
