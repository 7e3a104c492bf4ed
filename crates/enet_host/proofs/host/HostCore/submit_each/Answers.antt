use Rattle.std.proofs.Common.{sym, subst, Result, take, ◌+◌}
use Rattle.enet_codec.specs.declared.refusal.Refusal.{Refusal}
use Rattle.enet_codec.specs.Outward.{errands}
use Rattle.enet_host.specs.Broadcast.{SubmitsEach}
use Rattle.enet_host.proofs.Broadcasting.{peer-more, rest-after, same-limit}
use Rattle.enet_host.proofs.host.HostCore.submit_each.Goals as goal

pub loop-peer-preserved : goal.loop-peer-preserved
loop-peer-preserved c = (
  subst (λ (told : Result (Unit {0}) Refusal). SubmitsEach c.args.self.now.send_limit (errands (take (c.loop-peer.peer-index + 1) c.args.peers.now) c.args.packets.now) told c.args.self.now.slots c.submit_all.new.self.slots)
      (sym c.and-told.ensures)
      (peer-more c.args.self.now.send_limit c.args.peers.now c.args.packets.now c.loop-peer.peer-index _ c.loop-peer.told c.submit_all.result _ _ _ c.loop-peer-test.true
      c.loop-peer.invariant.0 (same-limit c.args.self.now c.loop-peer.self c.loop-peer.invariant.1 c.submit_all.ensures.submits)),
  rest-after c.args.self.now c.loop-peer.self c.submit_all.new.self c.loop-peer.invariant.1 c.submit_all.ensures.rest,
)
