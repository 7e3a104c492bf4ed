use Rattle.enet_text.proofs.Packets.{deeper, dropped}
use Rattle.enet_text.proofs.pcap.typed.Goals as goal

pub returns-then-branch-eq2048 : goal.returns-then-branch-eq2048
returns-then-branch-eq2048 c = deeper _ _ _ (dropped _ _ 2 c.in_ok-kind.ensures.cases.2) (dropped _ _ c.args.place c.in_ok-rest.ensures.cases.2)
