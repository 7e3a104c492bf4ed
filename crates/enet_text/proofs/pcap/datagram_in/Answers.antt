use Rattle.enet_text.proofs.Packets.{deeper, if_some}
use Rattle.enet_text.proofs.pcap.datagram_in.Goals as goal

pub returns : goal.returns
returns c = if_some c.udp_in.result (λ datagram inside. deeper _ _ _ inside c.in_ok-ipv4_in.ensures) c.udp_in.ensures
