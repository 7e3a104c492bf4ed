use Rattle.std.proofs.Common.{◌≡◌, ℕ, ◌+◌, ◌-◌, ◌++◌, List, ◌∷◌, length, refl, sym, ap, subst, ◌∙◌, arith}
use Rattle.std.specs.Prelude.{nat_lt}
use Rattle.std.specs.Ordering.{nat_cmp}
use Rattle.std.specs.FinMap.{FinMap, entries, len, from_entries, retain_keys}
use Rattle.std.specs.FinMap.Entries.{where_key}
use Rattle.std.proofs.lemmas.List.{append-nil}
use Rattle.enet_packets.specs.declared.incoming_packet.IncomingPacket.{IncomingPacket}
use Rattle.enet_packets.specs.declared.incoming_packet.Dispatched.{Dispatched}
use Rattle.enet_packets.specs.Invariant.{AreWholeUpTo, KeepsPackets, total_of}
use Rattle.enet_packets.specs.Packets.{fresh, last_fresh}
use Rattle.enet_packets.proofs.Maps.{entries-sorted, len-sorted, retained}
use Rattle.enet_packets.proofs.PacketLemmas.{Entries, keeps-pop, left_after, none_fresh, whole_to_last, items_step, goes, past_stay}
use Rattle.enet_packets.proofs.packets.Packets.dispatch.Goals as goal

abbrev Map : Type 0
Map = FinMap nat_cmp IncomingPacket

pub loop-number-init : goal.loop-number-init
loop-number-init c =
    let es = c.self.inside.packets.entries in
    let all : entries c.args.self.now ≡ es = ap (λ (m : Map). entries m) (sym c.self.view_is) ∙ entries-sorted es c.self.invariant.sorted in
    let n : len c.args.self.now ≡ length es = ap (λ (m : Map). len m) (sym c.self.view_is) ∙ len-sorted es c.self.invariant.sorted in
    let until_is : last_fresh c.args.last.now es ≡ c.last_fresh-until.result = ap (last_fresh c.args.last.now) (sym all) ∙ sym c.last_fresh-until.ensures in
    let room = c.requires.room in
    record {
      keeps = c.self.invariant;
      whole = subst (λ (most : ℕ). AreWholeUpTo most c.self.inside.packets.entries) until_is (whole_to_last c.args.last.now es);
      items = refl;
      stays = refl;
      room = omega arith;
      within = omega arith;
      capacity = refl;
    }

pub loop-number-preserved : goal.loop-number-preserved
loop-number-preserved c =
    let es = c.loop-number.self-inside.packets.entries in
    let fs = c.pop_up_to.new.packets.entries in
    let e : ℕ × IncomingPacket = (c.in-Some.number, c.in-Some.coming) in
    let out = c.loop-number.dispatched.items in
    let first = c.args.first in
    let bytes = c.loop-number.self-inside.bytes in
    let front : es ≡ e ∷ fs = c.in-Some.ensures.some in
    let total : c.from.result ≡ total_of e.1 = c.from.ensures ∙ c.total.ensures ∙ ap (λ (p : IncomingPacket). total_of p) c.packet.ensures in
    let shorter : length es ≡ length fs + 1 = ap (λ (xs : Entries). length xs) front ∙ omega arith in
    let room = c.loop-number.invariant.room in
    let within = c.loop-number.invariant.within in
    let one = c.hand_out.ensures.room in
    let same = c.hand_out.ensures.capacity in
    record {
      keeps = subst (λ n. KeepsPackets fs (bytes - n) c.loop-number.self-inside.last_whole) (sym total) (keeps-pop e fs bytes c.loop-number.self-inside.last_whole (subst (λ (xs : Entries). KeepsPackets xs bytes c.loop-number.self-inside.last_whole) front c.loop-number.invariant.keeps));
      whole = (left_after c.last_fresh-until.result es e fs front c.loop-number.invariant.keeps.sorted c.loop-number.invariant.whole).1;
      items =
          ap (λ (ds : List Dispatched). ds ++ fresh first fs) c.hand_out.ensures.items
          ∙ sym (items_step out first e fs) ∙ ap (λ (xs : Entries). out ++ fresh first xs) (sym front) ∙ c.loop-number.invariant.items;
      stays =
          sym (goes c.last_fresh-until.result e fs c.in-Some.ensures.low)
          ∙ ap (λ (xs : Entries). where_key nat_cmp (nat_lt c.last_fresh-until.result) xs) (sym front) ∙ c.loop-number.invariant.stays;
      room = omega arith;
      within = omega arith;
      capacity = same ∙ c.loop-number.invariant.capacity;
    }

pub returns-clause-items : goal.returns-clause-items
returns-clause-items c =
    let es = c.self.inside.packets.entries in
    let out = c.loop-number.dispatched.items in
    let ends = none_fresh c.last_fresh-until.result 0 c.args.first c.loop-number.self-inside.packets.entries c.loop-number.invariant.whole c.in_default.ensures.past in
    rw (← c.self.view_is)
    (sym (append-nil out) ∙ ap (λ xs. out ++ xs) (sym ends.1) ∙ c.loop-number.invariant.items
    ∙ ap (λ (xs : Entries). c.args.dispatched.now.items ++ fresh c.args.first xs) (sym (entries-sorted es c.self.invariant.sorted)))

pub returns-clause-rest : goal.returns-clause-rest
returns-clause-rest c =
    let es = c.self.inside.packets.entries in
    let fs = c.loop-number.self-inside.packets.entries in
    let until = c.last_fresh-until.result in
    ap (λ (xs : Entries). from_entries {R = nat_cmp} xs) (c.in_default.ensures.none ∙ sym (past_stay until fs c.in_default.ensures.past) ∙ c.loop-number.invariant.stays)
    ∙ retained (nat_lt until) es
    ∙ (λ i. retain_keys (c.self.view_is i) (nat_lt (c.last_fresh-until.ensures i)))

pub returns-clause-room : goal.returns-clause-room
returns-clause-room c =
    let es = c.self.inside.packets.entries in
    let fs = c.loop-number.self-inside.packets.entries in
    let gs = c.pop_up_to.new.packets.entries in
    let n : len c.args.self.now ≡ length es = ap (λ (m : Map). len m) (sym c.self.view_is) ∙ len-sorted es c.self.invariant.sorted in
    let left : len (from_entries {R = nat_cmp} gs) ≡ length fs =
    ap (λ (xs : Entries). len (from_entries {R = nat_cmp} xs)) c.in_default.ensures.none ∙ len-sorted fs c.loop-number.invariant.keeps.sorted in
    let room = c.loop-number.invariant.room in
    omega arith
