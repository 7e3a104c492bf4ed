use Rattle.enet_site.proofs.Submits.{place-of}
use Rattle.enet_site.proofs.Takes.{told-by, kept-told, taken-on, taken-off, refused-of}
use Rattle.enet_site.proofs.taking.take.Goals as goal

pub returns-in_default-position_of-clause-takes : goal.returns-in_default-position_of-clause-takes
returns-in_default-position_of-clause-takes c =
    taken-off c.next_event.result c.args.host.now c.next_event.new.self c.args.own.now c.own.inside.log.items c.own.inside.ends.items c.deref.result.now c.in-Some.name c.own.view_is c.deref.ensures.value
    c.in_default-position_of.ensures.first c.in-Some.ensures.foretells c.next_event.ensures

pub take_of-requires : goal.take_of-requires
take_of-requires c =
    let p = place-of c.own.inside.ends.items c.deref.result.now c.in-Some.name c.in-Some-position_of.place c.index_mut-end.result.now c.deref.ensures.value c.in-Some-position_of.ensures.first c.index_mut-end.ensures.value in
    told-by c.args.host.now c.index_mut-end.result.now.name c.in-Some.name p.named c.in-Some.ensures.foretells

pub invariant_of-own : goal.invariant_of-own
invariant_of-own c =
    kept-told c.take_of.result c.own.inside.log.items c.own.inside.ends.items c.in-Some-position_of.place c.index_mut-end.result.now c.take_of.new.end c.in-Some.name c.own.invariant
    (place-of c.own.inside.ends.items c.deref.result.now c.in-Some.name c.in-Some-position_of.place c.index_mut-end.result.now c.deref.ensures.value c.in-Some-position_of.ensures.first c.index_mut-end.ensures.value)
    c.take_of.ensures.unchanged c.take_of.ensures.keeps

pub returns-clause-takes : goal.returns-clause-takes
returns-clause-takes c =
    taken-on c.take_of.result c.args.host.now c.take_of.new.host c.args.own.now c.own.inside.log.items c.own.inside.ends.items c.in-Some-position_of.place c.index_mut-end.result.now c.take_of.new.end c.in-Some.name
    c.own.view_is c.own.invariant.apart
    (place-of c.own.inside.ends.items c.deref.result.now c.in-Some.name c.in-Some-position_of.place c.index_mut-end.result.now c.deref.ensures.value c.in-Some-position_of.ensures.first c.index_mut-end.ensures.value)
    c.in-Some.ensures.foretells c.take_of.ensures.takes c.take_of.ensures.keeps

pub returns-clause-refused : goal.returns-clause-refused
returns-clause-refused c = refused-of c.take_of.result c.args.host.now c.in-Some.name c.in-Some.ensures.first c.take_of.ensures.memory
