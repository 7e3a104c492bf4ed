use Rattle.std.proofs.Common.{sym, subst, Result, take, ◌+◌, map}
use Rattle.enet_codec.specs.declared.refusal.Refusal.{Refusal}
use Rattle.enet_codec.specs.Outward.{errands}
use Rattle.enet_host.specs.Broadcast.{SubmitsEach}
use Rattle.enet_c.specs.Shapes.{name_meant}
use Rattle.enet_c.proofs.Naming.{peer-more, same-limit, held-after}
use Rattle.enet_c.proofs.held.Held.submit_each.Goals as goal

pub loop-peer-preserved : goal.loop-peer-preserved
loop-peer-preserved c = (
  subst (λ (told : Result (Unit {0}) Refusal). SubmitsEach c.args.self.now.host.send_limit (errands (map name_meant (take (c.loop-peer.peer-index + 1) c.args.peers.now)) c.args.packets.now) told c.args.self.now.host.slots c.submit_each.new.self.slots)
      (sym c.and-told.ensures)
      (peer-more c.args.self.now.host.send_limit c.args.peers.now c.args.packets.now c.loop-peer.peer-index _ c.into_name.result c.loop-peer.told c.submit_each.result _ _ _ c.loop-peer-test.true c.into_name.ensures
      c.loop-peer.invariant.0 (same-limit c.args.self.now c.loop-peer.self c.loop-peer.invariant.1 c.submit_each.ensures.submits)),
  held-after c.args.self.now c.loop-peer.self c.submit_each.new.self c.loop-peer.invariant.1 c.submit_each.ensures.rest,
)
