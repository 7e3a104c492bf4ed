-- How a receiver is stored in models.
use Rattle.std.specs.Prelude.{ℕ, List, refl}
use Rattle.std.specs.Coded.{Coded, code_by, coded×, coded_ℕ, coded_list}
use Rattle.std.specs.Ordering.{nat_cmp}
use Rattle.std.specs.FinMap.{FinMap}
use Rattle.enet_packets.specs.declared.incoming_packet.IncomingPacket.{IncomingPacket}
use Rattle.enet_packets.specs.declared.incoming_packet.Dispatched.{Dispatched}
use Rattle.enet_packets.specs.Packets.{Lines}
use Rattle.enet_packets.specs.Codes.{packets_code, waiting_code}
use Rattle.enet_receiver.specs.Receiver.{Receiver}
use Rattle.enet_receiver.specs.Foresight.{ReceivingEnd}

abbrev pub dispatched_code : Coded Dispatched
dispatched_code =
    code_by (ℕ × List ℕ) (coded× coded_ℕ (coded_list coded_ℕ))
    (λ d. (d.flags, d.body)) (λ p. record { flags = p.0; body = p.1 }) (λ _. refl)

abbrev pub receiver_code : Coded Receiver
receiver_code =
    code_by (ℕ × (ℕ × (FinMap nat_cmp IncomingPacket × (Lines × List Dispatched))))
    (coded× coded_ℕ (coded× coded_ℕ (coded× packets_code (coded× waiting_code (coded_list dispatched_code)))))
    (λ r. (r.front, (r.unreliable, (r.held, (r.waiting, r.dispatched)))))
    (λ p. record { front = p.0; unreliable = p.1.0; held = p.1.1.0; waiting = p.1.1.1.0; dispatched = p.1.1.1.1 }) (λ _. refl)

abbrev pub receiving_code : Coded ReceivingEnd
receiving_code =
    code_by (ℕ × (ℕ × Receiver)) (coded× coded_ℕ (coded× coded_ℕ receiver_code))
    (λ e. (e.channel, (e.max_packet, e.receiver))) (λ p. record { channel = p.0; max_packet = p.1.0; receiver = p.1.1 }) (λ _. refl)
