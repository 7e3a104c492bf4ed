-- How an inbox is stored in models.
use Rattle.std.specs.Prelude.{ℕ, List, refl}
use Rattle.std.specs.Coded.{Coded, code_by, coded×, coded_ℕ, coded_list}
use Rattle.enet_codec.specs.declared.packet.Packet.{Packet}
use Rattle.enet_unsequenced.specs.Groups.{Seen, seen_code}
use Rattle.enet_receiver.specs.Foresight.{ReceivingEnd}
use Rattle.enet_receiver.specs.Codes.{receiving_code}
use Rattle.enet_inbox.specs.Inbox.{Inbox}

abbrev pub packet_code : Coded Packet
packet_code =
    code_by (ℕ × (ℕ × List ℕ)) (coded× coded_ℕ (coded× coded_ℕ (coded_list coded_ℕ)))
    (λ q. (q.channel, (q.flags, q.body))) (λ p. record { channel = p.0; flags = p.1.0; body = p.1.1 }) (λ _. refl)

abbrev pub inbox_code : Coded Inbox
inbox_code =
    code_by (ℕ × (ℕ × (List ReceivingEnd × (Seen × List Packet))))
    (coded× coded_ℕ (coded× coded_ℕ (coded× (coded_list receiving_code) (coded× seen_code (coded_list packet_code)))))
    (λ b. (b.max_packet, (b.max_waiting, (b.receivers, (b.seen, b.untaken)))))
    (λ p. record { max_packet = p.0; max_waiting = p.1.0; receivers = p.1.1.0; seen = p.1.1.1.0; untaken = p.1.1.1.1 }) (λ _. refl)
