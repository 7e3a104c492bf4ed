use Rattle.enet_text.proofs.Packets.{dropped}
use Rattle.enet_text.proofs.pcap.cooked_in.Goals as goal

pub returns-then-branch-eq2048 : goal.returns-then-branch-eq2048
returns-then-branch-eq2048 c = dropped _ _ 20 c.in_ok-header.ensures.cases.2
