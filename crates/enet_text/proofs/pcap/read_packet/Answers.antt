use Rattle.std.proofs.Common.{◌≡◌, ◌∙◌, rules}
use Rattle.enet_text.proofs.Packets.{twice}
use Rattle.enet_text.proofs.pcap.read_packet.Goals as goal

pub returns-clause-packet : goal.returns-clause-packet
returns-clause-packet c =
    let front = c.in_ok-head.ensures.cases in
    let back = c.in_ok-bytes.ensures.cases in
    let same : c.in_ok-kept.kept ≡ c.in_ok-u32_at.field-0 = search rules in
    record {
      head = c.in_ok-head.head.now;
      head_len = front.3;
      bytes_are = twice _ _ _ _ _ 16 c.in_ok-kept.kept front.1 front.2 back.1 back.2;
      seconds_are = c.in_ok-u32_at-2.ensures.1;
      parts_are = c.in_ok-u32_at-3.ensures.1;
      kept = back.3 ∙ same ∙ c.in_ok-u32_at.ensures.1;
    }
