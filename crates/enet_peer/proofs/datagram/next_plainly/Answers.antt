use Rattle.std.proofs.Common.{subst}
use Rattle.enet_peer.specs.Peering.{Peering}
use Rattle.enet_peer.specs.Private.Handling.{AdvancesPlainly}
use Rattle.enet_peer.proofs.datagram.next_plainly.Goals as goal

pub returns-in-Some : goal.returns-in-Some
returns-in-Some c = c.in-Some.ensures.taken

pub returns : goal.returns
returns c = subst (λ (p : Peering). AdvancesPlainly c.args.now c.args.sent c.args.bytes.now p c.next_of_any.new.peer.peer c.next_of_any.result) c.in_default.ensures.same c.next_of_any.ensures
