use Rattle.std.proofs.Common.{◌≡◌, ◌++◌, None, sum_by, sym, ap, ◌∙◌, arith}
use Rattle.std.specs.Ordering.{nat_cmp}
use Rattle.std.specs.Map.{lookup, values_of}
use Rattle.std.specs.BTreeMap.{is_at}
use Rattle.std.specs.FinMap.{len, get, entries, empty, from_entries}
use Rattle.std.proofs.lemmas.List.{append-nil}
use Rattle.enet_packets.specs.Private.Invariant.{line_in}
use Rattle.enet_packets.specs.Packets.{Lines, bytes_of, packets_in, line_at, with_line, fresh, last_fresh, still_ahead}
use Rattle.enet_packets.proofs.Maps.{get-from, values-sorted}
use Rattle.enet_packets.proofs.LineLemmas.{Line, line-is, line_absent, line_le, len_nothing, bytes_nothing, lines_bytes_bounded, none_from, fresh_nothing, last_nothing, nothing_settles}
use Rattle.enet_packets.proofs.waiting.Waiting.flush.Goals as goal

pub returns-then-not-contains_key-clause-items : goal.returns-then-not-contains_key-clause-items
returns-then-not-contains_key-clause-items c =
    let es = c.self.inside.lines.entries in
    let absent : lookup (is_at (nat_cmp c.args.number)) es ≡ None = none_from _ (sym c.contains_key.ensures ∙ c.if-not-contains_key.true) in
    let at : line_at c.args.self.now c.args.number ≡ empty =
    ap (λ (m : Lines). line_at m c.args.number) (sym c.self.view_is) ∙ line-is es c.args.number ∙ line_absent es c.args.number absent in
    sym (append-nil c.args.dispatched.now.items)
    ∙ ap (λ xs. c.args.dispatched.now.items ++ xs) (sym (fresh_nothing c.args.first))
    ∙ ap (λ (m : Line). c.args.dispatched.now.items ++ fresh c.args.first (entries m)) (sym at)

pub returns-then-not-contains_key-clause-last : goal.returns-then-not-contains_key-clause-last
returns-then-not-contains_key-clause-last c =
    let es = c.self.inside.lines.entries in
    let absent : lookup (is_at (nat_cmp c.args.number)) es ≡ None = none_from _ (sym c.contains_key.ensures ∙ c.if-not-contains_key.true) in
    let at : line_at c.args.self.now c.args.number ≡ empty =
    ap (λ (m : Lines). line_at m c.args.number) (sym c.self.view_is) ∙ line-is es c.args.number ∙ line_absent es c.args.number absent in
    sym (last_nothing c.args.last.now) ∙ ap (λ (m : Line). last_fresh c.args.last.now (entries m)) (sym at)

pub returns-then-not-contains_key-clause-rest : goal.returns-then-not-contains_key-clause-rest
returns-then-not-contains_key-clause-rest c =
    let es = c.self.inside.lines.entries in
    let absent : lookup (is_at (nat_cmp c.args.number)) es ≡ None = none_from _ (sym c.contains_key.ensures ∙ c.if-not-contains_key.true) in
    let gone : get c.args.self.now c.args.number ≡ None = ap (λ (m : Lines). get m c.args.number) (sym c.self.view_is) ∙ get-from es c.args.number ∙ absent in
    let at : line_at c.args.self.now c.args.number ≡ empty =
    ap (λ (m : Lines). line_at m c.args.number) (sym c.self.view_is) ∙ line-is es c.args.number ∙ line_absent es c.args.number absent in
    sym (nothing_settles c.args.self.now c.args.number c.args.last.now gone)
    ∙ ap (λ (m : Line). with_line c.args.self.now c.args.number (still_ahead m c.args.last.now)) (sym at)

pub flush_line-left-requires-clause-room : goal.flush_line-left-requires-clause-room
flush_line-left-requires-clause-room c =
    let es = c.self.inside.lines.entries in
    let this = line_le len len_nothing es c.args.number in
    let all : packets_in c.args.self.now ≡ sum_by len (values_of es) = ap (λ (m : Lines). packets_in m) (sym c.self.view_is) ∙ values-sorted es c.self.invariant.lines.sorted len in
    let room = c.requires.room in
    omega arith

pub overflow_sub-self : goal.overflow_sub-self
overflow_sub-self c =
    let this = line_le len len_nothing c.self.inside.lines.entries c.args.number in
    let all = c.self.invariant.packets_counted in
    let was = c.size_at-was.ensures.packets in
    omega arith

pub overflow_sub-self-2 : goal.overflow_sub-self-2
overflow_sub-self-2 c =
    let this = line_le bytes_of bytes_nothing c.self.inside.lines.entries c.args.number in
    let all = c.self.invariant.bytes_counted in
    let was = c.size_at-was.ensures.bytes in
    omega arith

pub overflow_add-self-2 : goal.overflow_add-self-2
overflow_add-self-2 c =
    let settled = c.flush_line-left.ensures.rest c.self.invariant.lines in
    let sum = settled.bytes in
    let bound = lines_bytes_bounded c.flush_line-left.new.lines.entries settled.lines in
    let all = c.self.invariant.bytes_counted in
    let was = c.size_at-was.ensures.bytes in
    let left = c.flush_line-left.ensures.bytes in
    omega arith

pub invariant_of-self : goal.invariant_of-self
invariant_of-self c =
    let settled = c.flush_line-left.ensures.rest c.self.invariant.lines in
    let packets_within = line_le len len_nothing c.self.inside.lines.entries c.args.number in
    let bytes_within = line_le bytes_of bytes_nothing c.self.inside.lines.entries c.args.number in
    let packets_sum = settled.packets in
    let bytes_sum = settled.bytes in
    let all_packets = c.self.invariant.packets_counted in
    let all_bytes = c.self.invariant.bytes_counted in
    let was_packets = c.size_at-was.ensures.packets in
    let was_bytes = c.size_at-was.ensures.bytes in
    let left_packets = c.flush_line-left.ensures.packets in
    let left_bytes = c.flush_line-left.ensures.bytes in
    record { lines = settled.lines; packets_counted = omega arith; bytes_counted = omega arith }

pub returns-clause-items : goal.returns-clause-items
returns-clause-items c =
    let at : line_at c.args.self.now c.args.number ≡ line_in c.self.inside.lines.entries c.args.number =
    ap (λ (m : Lines). line_at m c.args.number) (sym c.self.view_is) ∙ line-is c.self.inside.lines.entries c.args.number in
    c.flush_line-left.ensures.items ∙ ap (λ (m : Line). c.args.dispatched.now.items ++ fresh c.args.first (entries m)) (sym at)

pub returns-clause-last : goal.returns-clause-last
returns-clause-last c =
    let at : line_at c.args.self.now c.args.number ≡ line_in c.self.inside.lines.entries c.args.number =
    ap (λ (m : Lines). line_at m c.args.number) (sym c.self.view_is) ∙ line-is c.self.inside.lines.entries c.args.number in
    c.flush_line-left.ensures.last ∙ ap (λ (m : Line). last_fresh c.args.last.now (entries m)) (sym at)

pub returns-clause-rest : goal.returns-clause-rest
returns-clause-rest c =
    let at : line_at c.args.self.now c.args.number ≡ line_in c.self.inside.lines.entries c.args.number =
    ap (λ (m : Lines). line_at m c.args.number) (sym c.self.view_is) ∙ line-is c.self.inside.lines.entries c.args.number in
    let settled = c.flush_line-left.ensures.rest c.self.invariant.lines in
    settled.is
    ∙ ap (λ (m : Line). with_line (from_entries c.self.inside.lines.entries) c.args.number (still_ahead m c.flush_line-left.new.last)) (sym at)
    ∙ ap (λ (m : Lines). with_line m c.args.number (still_ahead (line_at c.args.self.now c.args.number) c.flush_line-left.new.last)) c.self.view_is

pub returns-clause-room : goal.returns-clause-room
returns-clause-room c =
    let es = c.self.inside.lines.entries in
    let fs = c.flush_line-left.new.lines.entries in
    let settled = c.flush_line-left.ensures.rest c.self.invariant.lines in
    let sum = settled.packets in
    let old : packets_in c.args.self.now ≡ sum_by len (values_of es) = ap (λ (m : Lines). packets_in m) (sym c.self.view_is) ∙ values-sorted es c.self.invariant.lines.sorted len in
    let new : packets_in (from_entries fs) ≡ sum_by len (values_of fs) = values-sorted fs settled.lines.sorted len in
    let left = c.flush_line-left.ensures.packets in
    let room = c.flush_line-left.ensures.room in
    omega arith
