use Rattle.std.proofs.Common.{◌≡◌, refl, ap, subst, ◌∙◌}
use Rattle.enet_outbox.specs.declared.parts.Matched.{Matched}
use Rattle.enet_outbox.specs.Outbox.{Outbox}
use Rattle.enet_peer.specs.contracts.peer.Peer.{the_view}
use Rattle.enet_peer.specs.Peering.{Peering}
use Rattle.enet_peer.specs.Peered.{Peered}
use Rattle.enet_peer.specs.CommandEffect.{acknowledged, accepted, on_match}
use Rattle.enet_peer.proofs.peer.Peer.acknowledge.Goals as goal

pub returns-in-Nothing-clause-peer : goal.returns-in-Nothing-clause-peer
returns-in-Nothing-clause-peer c =
    let p : Peering = (the_view c.self.inside).peer in
    let found = c.in-Nothing.ensures.found in
    let stays : c.acknowledge.new.self.outbox ≡ p.outbox = c.in-Nothing.ensures.outbox in
    let after : record p { outbox = c.acknowledge.new.self.outbox } ≡ p = ap (λ (o : Outbox). record p { outbox = o }) stays in
    let is : p ≡ accepted p c.args.now c.args.channel c.args.number c.args.time =
    subst (λ (m : Matched). p ≡ on_match m p (acknowledged p c.args.now c.args.channel c.args.number c.args.time)) found refl in
    subst (λ (v : Peered). record p { outbox = c.acknowledge.new.self.outbox } ≡ accepted v.peer c.args.now c.args.channel c.args.number c.args.time) c.self.view_is (after ∙ is)
