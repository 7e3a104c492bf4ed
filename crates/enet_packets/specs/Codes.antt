-- How packets are stored in models.
use Rattle.std.specs.Prelude.{ℕ, refl}
use Rattle.std.specs.Coded.{Coded, code_by, coded×, coded_ℕ}
use Rattle.std.specs.Ordering.{nat_cmp}
use Rattle.std.specs.FinMap.{FinMap, code}
use Rattle.enet_fragment.specs.PartialPacket.{PartialPacket, partial_packet_code}
use Rattle.enet_packets.specs.declared.incoming_packet.IncomingPacket.{IncomingPacket}

abbrev pub coming_code : Coded IncomingPacket
coming_code =
    code_by (ℕ × PartialPacket) (coded× coded_ℕ partial_packet_code)
    (λ c. (c.flags, c.making)) (λ p. record { flags = p.0; making = p.1 }) (λ _. refl)

abbrev pub packets_code : Coded (FinMap nat_cmp IncomingPacket)
packets_code = code coded_ℕ coming_code

abbrev pub waiting_code : Coded (FinMap nat_cmp (FinMap nat_cmp IncomingPacket))
waiting_code = code coded_ℕ packets_code
