use Rattle.std.proofs.Common.{◌≡◌, ◌+◌, ◌<◌, ◌≤◌, ◌^◌, None, sym, ap, subst, ◌∙◌, arith}
use Rattle.std.specs.Ordering.{nat_cmp}
use Rattle.std.specs.Map.{lookup}
use Rattle.std.specs.BTreeMap.{is_at}
use Rattle.std.specs.FinMap.{from_entries, len}
use Rattle.enet_packets.specs.Packets.{bytes_of}
use Rattle.enet_packets.specs.Invariant.{KeepsPackets, total_of}
use Rattle.enet_packets.specs.Private.Invariant.{most_if}
use Rattle.enet_fragment.specs.Whole.{is_whole}
use Rattle.enet_packets.proofs.Maps.{get-from, inserted_entry}
use Rattle.enet_packets.proofs.PacketLemmas.{Entries, few_kept, light_kept, keeps-insert, bytes_bounded}
use Rattle.enet_packets.proofs.packets.Packets.insert.Goals as goal

pub overflow_add-self : goal.overflow_add-self
overflow_add-self c =
    let bound = bytes_bounded c.self.inside.packets.entries c.self.inside.bytes c.self.inside.last_whole c.self.invariant in
    omega arith

pub invariant_of-self-2 : goal.invariant_of-self-2
invariant_of-self-2 c =
    let es = c.self.inside.packets.entries in
    let absent : lookup (is_at (nat_cmp c.args.number)) es ≡ None = sym (get-from es c.args.number) ∙ rw (← c.self.view_is) at c.requires.absent in
    let total : c.from-total.result ≡ total_of c.args.coming = c.from-total.ensures ∙ c.total.ensures in
    let next : c.whole_up_to-self-inside.result ≡ most_if (is_whole c.args.coming.making) c.self.inside.last_whole c.args.number = c.whole_up_to-self-inside.ensures ∙ ap (λ w. most_if w c.self.inside.last_whole c.args.number) c.is_whole-is_whole.ensures in
    subst (λ n. KeepsPackets c.put.new.packets.entries (c.self.inside.bytes + n) c.whole_up_to-self-inside.result) (sym total)
    (subst (λ n. KeepsPackets c.put.new.packets.entries (c.self.inside.bytes + total_of c.args.coming) n) (sym next)
    (keeps-insert es c.put.new.packets.entries c.self.inside.bytes c.self.inside.last_whole c.args.number c.args.coming (omega arith) (omega arith) absent (c.put.ensures.added c.if-not-put.false) (c.put.ensures.ordered c.if-not-put.false) c.self.invariant))

pub returns-then-not-put-clause-few : goal.returns-then-not-put-clause-few
returns-then-not-put-clause-few c =
    subst (λ (xs : Entries). len (from_entries {R = nat_cmp} xs) ≤ 65536) (sym (c.put.ensures.refused c.if-not-put.true)) (few_kept c.self.inside.packets.entries c.self.inside.bytes c.self.inside.last_whole c.self.invariant)

pub returns-then-not-put-clause-light : goal.returns-then-not-put-clause-light
returns-then-not-put-clause-light c =
    subst (λ (xs : Entries). bytes_of (from_entries {R = nat_cmp} xs) < 2 ^ 48) (sym (c.put.ensures.refused c.if-not-put.true)) (light_kept c.self.inside.packets.entries c.self.inside.bytes c.self.inside.last_whole c.self.invariant)

pub returns-clause-few : goal.returns-clause-few
returns-clause-few c = few_kept c.put.new.packets.entries _ _ (invariant_of-self-2 c)

pub returns-clause-light : goal.returns-clause-light
returns-clause-light c = light_kept c.put.new.packets.entries _ _ (invariant_of-self-2 c)

pub returns-clause-ok : goal.returns-clause-ok
returns-clause-ok c = rw (← c.self.view_is) (inserted_entry c.self.inside.packets.entries c.put.new.packets.entries c.args.number c.args.coming (c.put.ensures.added c.if-not-put.false))
