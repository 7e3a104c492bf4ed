use Rattle.std.proofs.Common.{arith}
use Rattle.enet_codec.specs.Frequent.{acknowledgement, whole_packet}
use Rattle.enet_peer.proofs.Steps.{taken-if}
use Rattle.enet_peer.proofs.datagram.next_frequent.Goals as goal

pub returns-in-Some-clause-taken : goal.returns-in-Some-clause-taken
returns-in-Some-clause-taken c =
    rw c.then_some.ensures
    (taken-if c.args.now c.args.sent 8 c.args.bytes.now (acknowledgement c.in-Some.found) _ _ c.takes_acknowledged.result (omega arith) c.in-Some.ensures.length
    c.in-Some.ensures.found (λ taken. c.takes_acknowledged.ensures.done taken c.args.sent))

pub returns-in-Some-read_whole_packet-clause-taken : goal.returns-in-Some-read_whole_packet-clause-taken
returns-in-Some-read_whole_packet-clause-taken c =
    rw c.then_some-in-Some-read_whole_packet.ensures
    (taken-if c.args.now c.args.sent c.in-Some-read_whole_packet.len c.args.bytes.now (whole_packet c.in-Some-read_whole_packet.packet) _ _ c.takes_packet.result
    c.in-Some-read_whole_packet.ensures.length.0 c.in-Some-read_whole_packet.ensures.length.1 c.in-Some-read_whole_packet.ensures.found (λ taken. c.takes_packet.ensures.done taken c.args.now))
