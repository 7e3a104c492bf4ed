use Rattle.std.proofs.Common.{◌≡◌, ℕ, cond, sym, ap, subst, ◌∙◌, rules}
use Rattle.std.specs.Ordering.{nat_cmp}
use Rattle.std.specs.FinMap.{FinMap, entries}
use Rattle.enet_packets.specs.declared.incoming_packet.IncomingPacket.{IncomingPacket}
use Rattle.std.specs.List.Sorted.{IsStrictlySortedBy}
use Rattle.std.specs.Map.{keys_of}
use Rattle.enet_packets.specs.Invariant.{AreWholeUpTo}
use Rattle.enet_packets.specs.Packets.{last_fresh}
use Rattle.enet_packets.proofs.PacketLemmas.{Entries, last_step, left_after, none_fresh_after}
use Rattle.enet_packets.proofs.Maps.{entries-sorted}
use Rattle.enet_packets.proofs.packets.Packets.last_fresh.Goals as goal

pub loop-number-init : goal.loop-number-init
loop-number-init c =
    let start : c.into_iter-number-iterator.result ≡ c.self.inside.packets.entries = search rules in
    record {
      so_far = ap (last_fresh c.args.last) (start ∙ sym (entries-sorted c.self.inside.packets.entries c.self.invariant.sorted) ∙ ap (λ (m : FinMap nat_cmp IncomingPacket). entries m) c.self.view_is);
      sorted = subst (λ (xs : Entries). IsStrictlySortedBy nat_cmp (keys_of xs)) (sym start) c.self.invariant.sorted;
      whole = subst (λ (xs : Entries). AreWholeUpTo c.self.inside.last_whole xs) (sym start) c.self.invariant.whole;
    }

pub returns-then-number-self : goal.returns-then-number-self
returns-then-number-self c =
    let l = c.loop-number in
    let none = none_fresh_after c.self.inside.last_whole l.newest 0 l.number-iterator (c.in-Some.number.now, c.in-Some.coming.now) c.next.new.self c.in-Some.ensures.steps l.invariant.sorted l.invariant.whole c.if-number-self.true in
    sym none.0 ∙ l.invariant.so_far

pub loop-number-preserved-then-is_newer : goal.loop-number-preserved-then-is_newer
loop-number-preserved-then-is_newer c =
    let l = c.loop-number in
    let e : ℕ × IncomingPacket = (c.in-Some.number.now, c.in-Some.coming.now) in
    let left = left_after c.self.inside.last_whole l.number-iterator e c.next.new.self c.in-Some.ensures.steps l.invariant.sorted l.invariant.whole in
    record {
      so_far =
          ap (λ b. last_fresh (cond b e.0 l.newest) c.next.new.self) (sym c.if-is_newer.true ∙ c.is_newer.ensures)
          ∙ sym (last_step l.newest e c.next.new.self) ∙ ap (last_fresh l.newest) (sym c.in-Some.ensures.steps) ∙ l.invariant.so_far;
      sorted = left.0;
      whole = left.1;
    }

pub loop-number-preserved : goal.loop-number-preserved
loop-number-preserved c =
    let l = c.loop-number in
    let e : ℕ × IncomingPacket = (c.in-Some.number.now, c.in-Some.coming.now) in
    let left = left_after c.self.inside.last_whole l.number-iterator e c.next.new.self c.in-Some.ensures.steps l.invariant.sorted l.invariant.whole in
    record {
      so_far =
          ap (λ b. last_fresh (cond b e.0 l.newest) c.next.new.self) (sym c.if-is_newer.false ∙ c.is_newer.ensures)
          ∙ sym (last_step l.newest e c.next.new.self) ∙ ap (last_fresh l.newest) (sym c.in-Some.ensures.steps) ∙ l.invariant.so_far;
      sorted = left.0;
      whole = left.1;
    }
