use Rattle.enet_text.proofs.Packets.{dropped, itself}
use Rattle.enet_text.proofs.pcap.ipv4_in.Goals as goal

pub returns-in-RawIp : goal.returns-in-RawIp
returns-in-RawIp c = itself c.args.packet.now

pub returns-then-little-eq2 : goal.returns-then-little-eq2
returns-then-little-eq2 c = dropped _ _ 4 c.in_ok-family-in-Loopback.ensures.cases.2
