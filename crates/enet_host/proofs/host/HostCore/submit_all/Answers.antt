use Rattle.std.proofs.Common.{sym, subst, Result}
use Rattle.enet_codec.specs.declared.refusal.Refusal.{Refusal}
use Rattle.enet_codec.specs.Outward.{errands_for}
use Rattle.std.proofs.Common.{take, ◌+◌}
use Rattle.enet_host.specs.Broadcast.{SubmitsEach}
use Rattle.enet_host.proofs.Broadcasting.{packet-more, rest-after, same-limit}
use Rattle.enet_host.proofs.host.HostCore.submit_all.Goals as goal

pub loop-packet-preserved : goal.loop-packet-preserved
loop-packet-preserved c = (
  subst (λ (told : Result (Unit {0}) Refusal). SubmitsEach c.args.self.now.send_limit (errands_for (take (c.loop-packet.packet-index + 1) c.args.packets.now) c.args.peer) told c.args.self.now.slots c.submit_one.new.self.slots)
      (sym c.and-told.ensures)
      (packet-more c.args.self.now.send_limit c.args.peer c.args.packets.now c.loop-packet.packet-index c.packet-item.result c.loop-packet.told c.submit_one.result _ _ _ c.loop-packet-test.true c.packet-item.is
      c.loop-packet.invariant.0 (same-limit c.args.self.now c.loop-packet.self c.loop-packet.invariant.1 c.submit_one.ensures.submits)),
  rest-after c.args.self.now c.loop-packet.self c.submit_one.new.self c.loop-packet.invariant.1 c.submit_one.ensures.rest,
)
