use Rattle.enet_slot.specs.Calls.{submission, unless_full}
use Rattle.enet_host.specs.Calls.{on_named}
use Rattle.enet_sender.specs.CommandChoice as command_choice
use Rattle.enet_codec.specs.declared.event.PeerRef.{PeerRef}
use Rattle.enet_site.proofs.Submits.{place-of, is-open, refused-so, submitted-on, submitted-off, kept-submitted, channel-inside}
use Rattle.enet_site.proofs.submitting.submit.Goals as goal

pub submit_to-requires-clause-channel : goal.submit_to-requires-clause-channel
submit_to-requires-clause-channel c =
    channel-inside c.own.inside.log.items c.own.inside.ends.items c.in-Some-position_of.place c.index_mut-end.result.now c.args.peer c.args.channel c.own.invariant
    (place-of c.own.inside.ends.items c.deref.result.now c.args.peer c.in-Some-position_of.place c.index_mut-end.result.now c.deref.ensures.value c.in-Some-position_of.ensures.first c.index_mut-end.ensures.value)
    c.ranges.channel.fits

pub submit_to-requires-clause-open : goal.submit_to-requires-clause-open
submit_to-requires-clause-open c =
    let p = place-of c.own.inside.ends.items c.deref.result.now c.args.peer c.in-Some-position_of.place c.index_mut-end.result.now c.deref.ensures.value c.in-Some-position_of.ensures.first c.index_mut-end.ensures.value in
    is-open (λ (n : PeerRef) (q : command_choice.Packet). on_named c.args.host.now.slots n (unless_full c.args.host.now.send_limit (submission c.args.channel q))) c.index_mut-end.result.now.name c.args.peer c.args.flags c.args.body.now c.in-Ok.body c.len.result
    p.named c.in-Ok.ensures.cases c.len.ensures.value c.in_default.ensures.agrees

pub invariant_of-own : goal.invariant_of-own
invariant_of-own c =
    kept-submitted c.submit_to.result c.own.inside.log.items c.own.inside.ends.items c.in-Some-position_of.place c.index_mut-end.result.now c.submit_to.new.end c.args.peer c.mtu_of-mtu.result
    (record { channel = c.args.channel; flags = c.args.flags; body = c.in-Ok.body }) c.own.invariant
    (place-of c.own.inside.ends.items c.deref.result.now c.args.peer c.in-Some-position_of.place c.index_mut-end.result.now c.deref.ensures.value c.in-Some-position_of.ensures.first c.index_mut-end.ensures.value)
    c.submit_to.ensures.unchanged c.submit_to.ensures.keeps

pub returns-clause-refused : goal.returns-clause-refused
returns-clause-refused c =
    let p = place-of c.own.inside.ends.items c.deref.result.now c.args.peer c.in-Some-position_of.place c.index_mut-end.result.now c.deref.ensures.value c.in-Some-position_of.ensures.first c.index_mut-end.ensures.value in
    refused-so c.submit_to.result c.args.host.now c.index_mut-end.result.now.name c.args.peer c.args.channel c.args.flags c.args.body.now c.in-Ok.body p.named c.in-Ok.ensures.cases c.submit_to.ensures.refused

pub returns-clause-submits : goal.returns-clause-submits
returns-clause-submits c =
    submitted-on c.submit_to.result c.args.host.now c.submit_to.new.host c.args.own.now c.own.inside.log.items c.own.inside.ends.items c.in-Some-position_of.place c.index_mut-end.result.now c.submit_to.new.end c.args.peer
    c.mtu_of-mtu.result c.args.channel c.args.flags c.args.body.now c.in-Ok.body c.own.view_is c.own.invariant.apart
    (place-of c.own.inside.ends.items c.deref.result.now c.args.peer c.in-Some-position_of.place c.index_mut-end.result.now c.deref.ensures.value c.in-Some-position_of.ensures.first c.index_mut-end.ensures.value)
    c.mtu_of-mtu.ensures c.in-Ok.ensures.cases c.submit_to.ensures.submits c.submit_to.ensures.keeps

pub returns-in_default-position_of-clause-submits : goal.returns-in_default-position_of-clause-submits
returns-in_default-position_of-clause-submits c =
    submitted-off c.submit_apart.result c.args.host.now c.submit_apart.new.host c.args.own.now c.own.inside.log.items c.own.inside.ends.items c.deref.result.now c.args.peer c.args.channel c.args.flags c.args.body.now c.in-Ok.body
    c.own.view_is c.deref.ensures.value c.in_default-position_of.ensures.first c.in-Ok.ensures.cases c.submit_apart.ensures.submits
