use Rattle.std.proofs.Common.{◌<◌, length, None, sym, ◌∙◌, arith}
use Rattle.std.proofs.lemmas.List.{get_or_read}
use Rattle.enet_receiver.proofs.Marks.{block_made}
use Rattle.enet_receiver.proofs.marking.make_block.Goals as goal

pub returns-clause-same : goal.returns-clause-same
returns-clause-same c = λ n.
    let blocks = c.args.blocks.now.items in
    let low : c.args.place < length c.args.blocks.now.items = omega arith in
    block_made blocks c.args.place n c.index.result.now c.in-Ok.block low (sym (get_or_read blocks c.args.place c.index.result.now low c.index.ensures None))
    (sym c.is_some.ensures ∙ c.if-is_some.false) c.in-Ok.ensures
