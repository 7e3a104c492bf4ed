use Rattle.std.proofs.Common.{◌≡◌, ◌-◌, Some, sym, ap, subst, ◌∙◌, arith}
use Rattle.std.specs.Ordering.{nat_cmp}
use Rattle.std.specs.Map.{lookup}
use Rattle.std.specs.BTreeMap.{is_at}
use Rattle.enet_packets.specs.declared.incoming_packet.IncomingPacket.{IncomingPacket}
use Rattle.enet_packets.specs.Invariant.{KeepsPackets, total_of}
use Rattle.enet_packets.proofs.Maps.{get-from, removed}
use Rattle.enet_packets.proofs.PacketLemmas.{keeps-remove, bytes_removed}
use Rattle.enet_packets.proofs.packets.Packets.remove.Goals as goal

pub returns-in_err-coming-clause-value : goal.returns-in_err-coming-clause-value
returns-in_err-coming-clause-value c = rw (← c.self.view_is) (rw c.from_residual.ensures (c.in_err-coming.ensures.value ∙ sym (get-from c.self.inside.packets.entries c.args.number)))

pub returns-in_err-coming-clause-rest : goal.returns-in_err-coming-clause-rest
returns-in_err-coming-clause-rest c = rw (← c.self.view_is) (removed c.self.inside.packets.entries c.remove.new.self.entries c.args.number c.in_err-coming.ensures.updates.0)

pub overflow_sub-self : goal.overflow_sub-self
overflow_sub-self c =
    let es = c.self.inside.packets.entries in
    let found : lookup (is_at (nat_cmp c.args.number)) es ≡ Some c.in_ok-coming.coming = sym c.in_ok-coming.ensures.value in
    let sum = bytes_removed es c.remove.new.self.entries c.self.inside.bytes c.self.inside.last_whole c.args.number c.in_ok-coming.coming found c.in_ok-coming.ensures.entries c.self.invariant in
    let total : c.from.result ≡ total_of c.in_ok-coming.coming = c.from.ensures ∙ c.total.ensures ∙ ap (λ (p : IncomingPacket). total_of p) c.packet.ensures in
    omega arith

pub invariant_of-self-2 : goal.invariant_of-self-2
invariant_of-self-2 c =
    let es = c.self.inside.packets.entries in
    let found : lookup (is_at (nat_cmp c.args.number)) es ≡ Some c.in_ok-coming.coming = sym c.in_ok-coming.ensures.value in
    let total : c.from.result ≡ total_of c.in_ok-coming.coming = c.from.ensures ∙ c.total.ensures ∙ ap (λ (p : IncomingPacket). total_of p) c.packet.ensures in
    subst (λ n. KeepsPackets c.remove.new.self.entries (c.self.inside.bytes - n) c.self.inside.last_whole) (sym total)
    (keeps-remove es c.remove.new.self.entries c.self.inside.bytes c.self.inside.last_whole c.args.number c.in_ok-coming.coming found c.in_ok-coming.ensures.entries c.in_ok-coming.ensures.ordered c.self.invariant)

pub returns-clause-value : goal.returns-clause-value
returns-clause-value c = rw (← c.self.view_is) (ap (λ (p : IncomingPacket). Some p) c.into_packet.ensures ∙ c.in_ok-coming.ensures.value ∙ sym (get-from c.self.inside.packets.entries c.args.number))

pub returns-clause-rest : goal.returns-clause-rest
returns-clause-rest c = rw (← c.self.view_is) (removed c.self.inside.packets.entries c.remove.new.self.entries c.args.number c.in_ok-coming.ensures.updates.0)
