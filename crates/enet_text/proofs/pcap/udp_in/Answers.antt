use Rattle.std.proofs.Common.{◌*◌}
use Rattle.enet_text.proofs.Packets.{deeper, dropped, fronted}
use Rattle.enet_text.proofs.pcap.udp_in.Goals as goal

pub returns : goal.returns
returns c =
    deeper _ _ _ (deeper _ _ _ (dropped _ _ 8 c.in_ok-payload.ensures.cases.2) (fronted _ _ c.from-2.result c.in_ok-udp.ensures.cases.1))
    (deeper _ _ _ (dropped _ _ (c.from-header.result * 4) c.in_ok-header.ensures.cases.2) (fronted _ _ c.from.result c.in_ok-packet.ensures.cases.1))
