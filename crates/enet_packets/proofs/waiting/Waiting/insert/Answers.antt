use Rattle.std.proofs.Common.{◌≡◌, ◌+◌, None, sum_by, sym, ap, ◌∙◌, arith}
use Rattle.std.specs.Map.{values_of}
use Rattle.std.specs.FinMap.{len, get, insert, from_entries}
use Rattle.enet_packets.specs.Invariant.{total_of}
use Rattle.enet_packets.specs.Private.Invariant.{line_in}
use Rattle.enet_packets.specs.Packets.{Lines, packets_in, line_at, with_line}
use Rattle.enet_packets.proofs.Maps.{inserted_entry, values-sorted}
use Rattle.enet_packets.proofs.LineLemmas.{Line, line-is, with_line-some, len-insert_some, grown, packets_bounded, lines_bytes_bounded}
use Rattle.enet_packets.proofs.waiting.Waiting.insert.Goals as goal

pub insert_at-requires : goal.insert_at-requires
insert_at-requires c =
    let at : line_at c.args.self.now c.args.number ≡ line_in c.self.inside.lines.entries c.args.number =
    ap (λ (m : Lines). line_at m c.args.number) (sym c.self.view_is) ∙ line-is c.self.inside.lines.entries c.args.number in
    record { absent = ap (λ (m : Line). get m c.args.count) (sym at) ∙ c.requires.absent }

pub overflow_add-self : goal.overflow_add-self
overflow_add-self c =
    let es = c.self.inside.lines.entries in
    let fs = c.insert_at.new.lines.entries in
    let at : line_at c.args.self.now c.args.number ≡ line_in es c.args.number = ap (λ (m : Lines). line_at m c.args.number) (sym c.self.view_is) ∙ line-is es c.args.number in
    let absent : get (line_in es c.args.number) c.args.count ≡ None = ap (λ (m : Line). get m c.args.count) (sym at) ∙ c.requires.absent in
    let more = grown es fs c.args.number c.args.count c.args.coming (omega arith) absent c.in_ok-insert_at.ensures.kept c.in_ok-insert_at.ensures.ok c.in_ok-insert_at.ensures.ordered c.self.invariant.lines in
    let sum : sum_by len (values_of fs) ≡ sum_by len (values_of es) + 1 = more.1 in
    let bound = packets_bounded fs more.0 in
    let all = c.self.invariant.packets_counted in
    omega arith

pub overflow_add-self-2 : goal.overflow_add-self-2
overflow_add-self-2 c =
    let es = c.self.inside.lines.entries in
    let fs = c.insert_at.new.lines.entries in
    let at : line_at c.args.self.now c.args.number ≡ line_in es c.args.number = ap (λ (m : Lines). line_at m c.args.number) (sym c.self.view_is) ∙ line-is es c.args.number in
    let absent : get (line_in es c.args.number) c.args.count ≡ None = ap (λ (m : Line). get m c.args.count) (sym at) ∙ c.requires.absent in
    let more = grown es fs c.args.number c.args.count c.args.coming (omega arith) absent c.in_ok-insert_at.ensures.kept c.in_ok-insert_at.ensures.ok c.in_ok-insert_at.ensures.ordered c.self.invariant.lines in
    let sum = more.2 in
    let bound = lines_bytes_bounded fs more.0 in
    let all = c.self.invariant.bytes_counted in
    let total : c.from-total.result ≡ total_of c.args.coming = c.from-total.ensures ∙ c.total.ensures in
    omega arith

pub invariant_of-self-2 : goal.invariant_of-self-2
invariant_of-self-2 c =
    let es = c.self.inside.lines.entries in
    let fs = c.insert_at.new.lines.entries in
    let at : line_at c.args.self.now c.args.number ≡ line_in es c.args.number = ap (λ (m : Lines). line_at m c.args.number) (sym c.self.view_is) ∙ line-is es c.args.number in
    let absent : get (line_in es c.args.number) c.args.count ≡ None = ap (λ (m : Line). get m c.args.count) (sym at) ∙ c.requires.absent in
    let more = grown es fs c.args.number c.args.count c.args.coming (omega arith) absent c.in_ok-insert_at.ensures.kept c.in_ok-insert_at.ensures.ok c.in_ok-insert_at.ensures.ordered c.self.invariant.lines in
    let packets_sum = more.1 in
    let bytes_sum = more.2 in
    let all_packets = c.self.invariant.packets_counted in
    let all_bytes = c.self.invariant.bytes_counted in
    let total : c.from-total.result ≡ total_of c.args.coming = c.from-total.ensures ∙ c.total.ensures in
    record { lines = more.0; packets_counted = omega arith; bytes_counted = omega arith }

pub returns-clause-ok : goal.returns-clause-ok
returns-clause-ok c =
    let es = c.self.inside.lines.entries in
    let number = c.args.number in
    let at : line_at c.args.self.now number ≡ line_in es number = ap (λ (m : Lines). line_at m number) (sym c.self.view_is) ∙ line-is es number in
    inserted_entry es c.insert_at.new.lines.entries number _ c.in_ok-insert_at.ensures.ok
    ∙ sym (with_line-some (from_entries es) number _ (len-insert_some (line_in es number) c.args.count c.args.coming))
    ∙ ap (λ (m : Line). with_line (from_entries es) number (insert m c.args.count c.args.coming)) (sym at)
    ∙ ap (λ (m : Lines). with_line m number (insert (line_at c.args.self.now number) c.args.count c.args.coming)) c.self.view_is

pub returns-clause-one_more : goal.returns-clause-one_more
returns-clause-one_more c =
    let es = c.self.inside.lines.entries in
    let fs = c.insert_at.new.lines.entries in
    let keeps = invariant_of-self-2 c in
    let old : packets_in c.args.self.now ≡ sum_by len (values_of es) = ap (λ (m : Lines). packets_in m) (sym c.self.view_is) ∙ values-sorted es c.self.invariant.lines.sorted len in
    let new : packets_in (from_entries fs) ≡ sum_by len (values_of fs) = values-sorted fs keeps.lines.sorted len in
    let counted = keeps.packets_counted in
    let was = c.self.invariant.packets_counted in
    omega arith
