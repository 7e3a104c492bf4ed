use Rattle.std.proofs.Common.{◌≡◌, length, refl, sym, ◌∙◌, arith}
use Rattle.enet_senders.proofs.Sets.{clear-other}
use Rattle.enet_senders.proofs.channel_set.ChannelSet.remove.Goals as goal

pub returns : goal.returns
returns c = λ i other lacks.
    let words = c.args.self.now.words in
    let long : length words ≡ 4 = search in
    sym (clear-other words c.from.result c.args.channel _ c.from.ensures (omega (arith, c.from.ensures, c.ranges.channel.fits)) refl i other) ∙ lacks
