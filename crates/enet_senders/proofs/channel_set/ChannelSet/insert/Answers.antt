use Rattle.std.proofs.Common.{◌≡◌, length, refl, sym, ◌∙◌, arith}
use Rattle.enet_senders.proofs.Sets.{set-this, set-other}
use Rattle.enet_senders.proofs.channel_set.ChannelSet.insert.Goals as goal

pub returns-clause-this : goal.returns-clause-this
returns-clause-this c = λ lacks.
    let words = c.args.self.now.words in
    let long : length words ≡ 4 = search in
    let here = set-this words c.from.result c.args.channel _ c.from.ensures (omega (arith, c.from.ensures, c.ranges.channel.fits)) in
    absurd (let y : 0 ≡ 1 = sym lacks ∙ here in cc)

pub returns-clause-others : goal.returns-clause-others
returns-clause-others c = λ i other lacks.
    let words = c.args.self.now.words in
    let long : length words ≡ 4 = search in
    sym (set-other words c.from.result c.args.channel _ c.from.ensures (omega (arith, c.from.ensures, c.ranges.channel.fits)) refl i other) ∙ lacks
