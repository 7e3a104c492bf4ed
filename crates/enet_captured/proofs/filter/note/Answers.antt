use Rattle.enet_captured.proofs.PassLemmas.{noted_elsewhere, noted_here}
use Rattle.enet_captured.proofs.filter.note.Goals as goal

pub returns-in_ok-insert : goal.returns-in_ok-insert
returns-in_ok-insert c = λ q. noted_here c.args.numbers.now c.insert.new.self c.args.mark c.args.channel q c.if-mark-channel.true (c.in_ok-insert.ensures.updates.0 q)

pub returns-else-mark-channel : goal.returns-else-mark-channel
returns-else-mark-channel c = λ q. noted_elsewhere c.args.numbers.now c.args.mark c.args.channel q c.if-mark-channel.false
