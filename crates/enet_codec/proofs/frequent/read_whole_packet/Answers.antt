use Rattle.std.proofs.Common.{arith}
use Rattle.enet_codec.proofs.KnownKinds.{if_spells}
use Rattle.enet_codec.proofs.frequent.read_whole_packet.Goals as goal

pub returns-in-6-clause-found : goal.returns-in-6-clause-found
returns-in-6-clause-found c =
    if_spells c.args.bytes.now c.reliable_packet.result (λ i. omega (arith, c.type_inv.bytes i)) c.reliable_packet.ensures.length c.reliable_packet.ensures.found

pub returns-in-7-clause-found : goal.returns-in-7-clause-found
returns-in-7-clause-found c =
    if_spells c.args.bytes.now c.unreliable_packet.result (λ i. omega (arith, c.type_inv.bytes i)) c.unreliable_packet.ensures.length c.unreliable_packet.ensures.found
