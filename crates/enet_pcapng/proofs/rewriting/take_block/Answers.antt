use Rattle.std.proofs.Common.{[], refl, rules}
use Rattle.enet_pcapng.specs.Rewritten.{packet_text, no_packet, section, interface, packet, unreadable, another_packet, passed_over}
use Rattle.enet_pcapng.proofs.Joins.{nothing, on_ok}
use Rattle.enet_pcapng.proofs.rewriting.take_block.Goals as goal

pub returns-in-168627466 : goal.returns-in-168627466
returns-in-168627466 c = ([], section c.in-168627466.is refl c.clear.ensures.items refl, nothing _)

pub returns-in-1 : goal.returns-in-1
returns-in-1 c =
    on_ok c.note_interface.result (λ noted. ([], interface noted.0 c.in-1.is noted.1 noted.2 noted.3 noted.4, nothing _)) c.note_interface.ensures

pub returns-in-Some : goal.returns-in-Some
returns-in-Some c =
    on_ok c.push_packet.result (λ put. (packet_text c.in-Some.packet, packet c.in-Some.packet c.in-6.is c.in-Some.ensures.packet refl, put))
    c.push_packet.ensures

pub returns-in-None : goal.returns-in-None
returns-in-None c =
    on_ok c.push_nothing.result (λ put. (no_packet, unreadable c.in-6.is c.in-None.ensures.unreadable refl, put)) c.push_nothing.ensures

pub returns-in-2 : goal.returns-in-2
returns-in-2 c = on_ok c.push_nothing-in-2.result (λ put. (no_packet, another_packet (search rules) refl, put)) c.push_nothing-in-2.ensures

pub returns-in_default : goal.returns-in_default
returns-in_default c = ([], passed_over (search rules) (search rules) (search rules) (search rules) (search rules) refl, nothing _)

pub returns-in_default-2 : goal.returns-in_default-2
returns-in_default-2 c = ([], passed_over (search rules) (search rules) (search rules) (search rules) (search rules) refl, nothing _)
