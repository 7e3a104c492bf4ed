use Rattle.std.proofs.Common.{ap, ◌∙◌}
use Rattle.enet_peer.specs.Peering.{Peering}
use Rattle.enet_peer.specs.Calls.{pinged}
use Rattle.enet_peer.proofs.Expiring.{moved-as}
use Rattle.enet_peer.proofs.peer.Peer.tick.Goals as goal

pub returns : goal.returns
returns c = c.ping.ensures ∙ ap (λ (p : Peering). pinged p c.args.now) c.time_out.ensures ∙ moved-as c.args.short c.args.self.now.peer c.args.now
