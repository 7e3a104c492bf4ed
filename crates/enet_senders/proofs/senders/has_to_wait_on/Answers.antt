use Rattle.std.proofs.Common.{◌<◌, length, sym, subst, arith}
use Rattle.std.proofs.lemmas.List.Elements.{All-get_or}
use Rattle.slab.specs.Slab.{get}
use Rattle.enet_sender.specs.declared.outgoing.Outgoing.{Outgoing}
use Rattle.enet_sender.specs.Due.{SendingEnd}
use Rattle.enet_sender.specs.Waiting.{Waits}
use Rattle.enet_sender.specs.Rings.{Keeps, rings_of}
use Rattle.enet_senders.proofs.Sets.{end-is}
use Rattle.enet_senders.proofs.senders.has_to_wait_on.Goals as goal

pub has_to_wait-requires : goal.has_to_wait-requires
has_to_wait-requires c =
    let at = get c.args.pending.now.slab in
    let channels = c.args.channels.now in
    let o = c.index-channels-from.result in
    subst (λ (o : Outgoing). Keeps at (rings_of o)) (sym c.index-channels-from.is)
    (All-get_or (λ (o : Outgoing). Keeps at (rings_of o)) channels c.from.result o (omega (arith, c.from.ensures, c.requires.inside)) c.requires.kept.each)

pub returns : goal.returns
returns c = λ e there waits.
    let s = c.args.pending.now.slab in
    let o = c.index-channels-from.result in
    let inside : c.from.result < length c.args.channels.now = omega (arith, c.from.ensures, c.requires.inside) in
    let is = end-is s c.args.channels.now c.args.channel c.from.result o e c.from.ensures inside (sym c.index-channels-from.is) there in
    subst (λ (x : SendingEnd). Waits c.args.occasion x.sender) is (c.has_to_wait.ensures waits)
