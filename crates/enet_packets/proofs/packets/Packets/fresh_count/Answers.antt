use Rattle.std.proofs.Common.{◌≡◌, ℕ, ◌+◌, ◌≤◌, List, cond, length, sym, ap, subst, ◌∙◌, arith, rules, zero-add}
use Rattle.std.specs.Ordering.{nat_cmp}
use Rattle.std.specs.FinMap.{FinMap, entries}
use Rattle.enet_packets.specs.declared.incoming_packet.IncomingPacket.{IncomingPacket}
use Rattle.enet_packets.specs.Packets.{fresh}
use Rattle.enet_packets.proofs.Maps.{entries-sorted, length_bounded}
use Rattle.enet_packets.proofs.PacketLemmas.{Entries, count_step, left_after, length-fresh, none_fresh_after}
use Rattle.enet_packets.specs.declared.incoming_packet.Dispatched.{Dispatched}
use Rattle.std.specs.List.Sorted.{IsStrictlySortedBy}
use Rattle.std.specs.Map.{keys_of}
use Rattle.enet_packets.specs.Invariant.{AreWholeUpTo}
use Rattle.enet_packets.proofs.packets.Packets.fresh_count.Goals as goal

pub loop-number-init : goal.loop-number-init
loop-number-init c =
    let start : c.into_iter-number-iterator.result ≡ c.self.inside.packets.entries = search rules in
    record {
      so_far =
          zero-add _
          ∙ ap (λ (es : Entries). length (fresh c.args.first es)) (start ∙ sym (entries-sorted c.self.inside.packets.entries c.self.invariant.sorted) ∙ ap (λ (m : FinMap nat_cmp IncomingPacket). entries m) c.self.view_is);
      sorted = subst (λ (xs : Entries). IsStrictlySortedBy nat_cmp (keys_of xs)) (sym start) c.self.invariant.sorted;
      whole = subst (λ (xs : Entries). AreWholeUpTo c.self.inside.last_whole xs) (sym start) c.self.invariant.whole;
    }

pub returns-then-number-self-clause-count : goal.returns-then-number-self-clause-count
returns-then-number-self-clause-count c =
    let l = c.loop-number in
    let none = none_fresh_after c.self.inside.last_whole 0 c.args.first l.number-iterator (c.in-Some.number.now, c.in-Some.coming.now) c.next.new.self c.in-Some.ensures.steps l.invariant.sorted l.invariant.whole c.if-number-self.true in
    let nothing : length (fresh c.args.first l.number-iterator) ≡ 0 = ap (λ (ds : List Dispatched). length ds) none.1 in
    let so_far = l.invariant.so_far in
    omega arith

pub loop-number-preserved-then-is_fresh : goal.loop-number-preserved-then-is_fresh
loop-number-preserved-then-is_fresh c =
    let l = c.loop-number in
    let e : ℕ × IncomingPacket = (c.in-Some.number.now, c.in-Some.coming.now) in
    let left = left_after c.self.inside.last_whole l.number-iterator e c.next.new.self c.in-Some.ensures.steps l.invariant.sorted l.invariant.whole in
    let step : length (fresh c.args.first l.number-iterator) ≡ 1 + length (fresh c.args.first c.next.new.self) =
    ap (λ (es : Entries). length (fresh c.args.first es)) c.in-Some.ensures.steps ∙ count_step c.args.first e c.next.new.self
    ∙ ap (λ b. cond b 1 0 + length (fresh c.args.first c.next.new.self)) (sym c.is_fresh.ensures ∙ c.if-is_fresh.true) in
    let so_far = l.invariant.so_far in
    record { so_far = omega arith; sorted = left.0; whole = left.1 }

pub loop-number-preserved : goal.loop-number-preserved
loop-number-preserved c =
    let l = c.loop-number in
    let e : ℕ × IncomingPacket = (c.in-Some.number.now, c.in-Some.coming.now) in
    let left = left_after c.self.inside.last_whole l.number-iterator e c.next.new.self c.in-Some.ensures.steps l.invariant.sorted l.invariant.whole in
    let step : length (fresh c.args.first l.number-iterator) ≡ 0 + length (fresh c.args.first c.next.new.self) =
    ap (λ (es : Entries). length (fresh c.args.first es)) c.in-Some.ensures.steps ∙ count_step c.args.first e c.next.new.self
    ∙ ap (λ b. cond b 1 0 + length (fresh c.args.first c.next.new.self)) (sym c.is_fresh.ensures ∙ c.if-is_fresh.false) in
    let so_far = l.invariant.so_far in
    record { so_far = omega arith; sorted = left.0; whole = left.1 }

-- what is counted is at most what there is
count_few : (self map : FinMap nat_cmp IncomingPacket) (es rest : Entries) (first count : ℕ) → map ≡ self → entries map ≡ es → length es ≤ 65536
    → count + length (fresh first rest) ≡ length (fresh first (entries self)) → count + length (fresh first rest) ≤ 65536
count_few self map es rest first count same all few so_far =
    let as_many : length (entries self) ≡ length es = ap (λ (m : FinMap nat_cmp IncomingPacket). length (entries m)) (sym same) ∙ ap (λ (xs : Entries). length xs) all in
    let most = length-fresh first (entries self) in
    omega arith

pub overflow_add-count : goal.overflow_add-count
overflow_add-count c =
    let es = c.self.inside.packets.entries in
    let few = count_few c.args.self.now _ es c.loop-number.number-iterator c.args.first c.loop-number.count c.self.view_is (entries-sorted es c.self.invariant.sorted) (length_bounded es c.self.invariant.sorted c.self.invariant.numbers) c.loop-number.invariant.so_far in
    omega arith

pub returns-then-number-self-clause-few : goal.returns-then-number-self-clause-few
returns-then-number-self-clause-few c =
    let es = c.self.inside.packets.entries in
    let few = count_few c.args.self.now _ es c.loop-number.number-iterator c.args.first c.loop-number.count c.self.view_is (entries-sorted es c.self.invariant.sorted) (length_bounded es c.self.invariant.sorted c.self.invariant.numbers) c.loop-number.invariant.so_far in
    omega arith

pub returns-clause-few : goal.returns-clause-few
returns-clause-few c =
    let es = c.self.inside.packets.entries in
    let few = count_few c.args.self.now _ es c.loop-number.number-iterator c.args.first c.loop-number.count c.self.view_is (entries-sorted es c.self.invariant.sorted) (length_bounded es c.self.invariant.sorted c.self.invariant.numbers) c.loop-number.invariant.so_far in
    omega arith
