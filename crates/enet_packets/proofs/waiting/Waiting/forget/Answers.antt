use Rattle.std.proofs.Common.{◌≡◌, sum_by, sym, ap, ◌∙◌, arith}
use Rattle.std.specs.Map.{values_of}
use Rattle.std.specs.FinMap.{len, from_entries}
use Rattle.enet_packets.specs.Private.Invariant.{line_in}
use Rattle.enet_packets.specs.Packets.{Lines, bytes_of, packets_in}
use Rattle.enet_packets.proofs.Maps.{removed, values-sorted}
use Rattle.enet_packets.proofs.LineLemmas.{Line, line_there, sum_without, len_nothing, bytes_nothing, keeps-without}
use Rattle.enet_packets.proofs.waiting.Waiting.forget.Goals as goal

pub overflow_sub-self : goal.overflow_sub-self
overflow_sub-self c =
    let es = c.self.inside.lines.entries in
    let sum = sum_without len len_nothing es c.remove.new.self.entries c.args.number c.in-Some.ensures.entries in
    let size : len (line_in es c.args.number) ≡ len c.in-Some.line = ap (λ (m : Line). len m) (line_there es c.args.number c.in-Some.line (sym c.in-Some.ensures.value)) in
    let all = c.self.invariant.packets_counted in
    let this = c.len.ensures.len in
    omega arith

pub overflow_sub-self-in-Some : goal.overflow_sub-self-in-Some
overflow_sub-self-in-Some c =
    let es = c.self.inside.lines.entries in
    let sum = sum_without bytes_of bytes_nothing es c.remove.new.self.entries c.args.number c.in-Some.ensures.entries in
    let size : bytes_of (line_in es c.args.number) ≡ bytes_of c.in-Some.line = ap bytes_of (line_there es c.args.number c.in-Some.line (sym c.in-Some.ensures.value)) in
    let all = c.self.invariant.bytes_counted in
    let this = c.bytes.ensures.bytes in
    omega arith

pub invariant_of-self : goal.invariant_of-self
invariant_of-self c =
    let es = c.self.inside.lines.entries in
    let fs = c.remove.new.self.entries in
    let number = c.args.number in
    let there = line_there es number c.in-Some.line (sym c.in-Some.ensures.value) in
    let packets_sum = sum_without len len_nothing es fs number c.in-Some.ensures.entries in
    let packets_size : len (line_in es number) ≡ len c.in-Some.line = ap (λ (m : Line). len m) there in
    let bytes_sum = sum_without bytes_of bytes_nothing es fs number c.in-Some.ensures.entries in
    let bytes_size : bytes_of (line_in es number) ≡ bytes_of c.in-Some.line = ap bytes_of there in
    let all_packets = c.self.invariant.packets_counted in
    let all_bytes = c.self.invariant.bytes_counted in
    let these_packets = c.len.ensures.len in
    let these_bytes = c.bytes.ensures.bytes in
    record {
      lines = keeps-without es fs number c.in-Some.ensures.entries c.in-Some.ensures.ordered c.self.invariant.lines;
      packets_counted = omega arith;
      bytes_counted = omega arith;
    }

pub returns-in-Some-clause-rest : goal.returns-in-Some-clause-rest
returns-in-Some-clause-rest c = rw (← c.self.view_is) (removed c.self.inside.lines.entries c.remove.new.self.entries c.args.number c.in-Some.ensures.updates.0)

pub returns-in-Some-clause-fewer : goal.returns-in-Some-clause-fewer
returns-in-Some-clause-fewer c =
    let es = c.self.inside.lines.entries in
    let fs = c.remove.new.self.entries in
    let sum = sum_without len len_nothing es fs c.args.number c.in-Some.ensures.entries in
    let new : packets_in (from_entries fs) ≡ sum_by len (values_of fs) = values-sorted fs c.in-Some.ensures.ordered len in
    let old : packets_in c.args.self.now ≡ sum_by len (values_of es) = ap (λ (m : Lines). packets_in m) (sym c.self.view_is) ∙ values-sorted es c.self.invariant.lines.sorted len in
    omega arith

pub returns-in_default-clause-rest : goal.returns-in_default-clause-rest
returns-in_default-clause-rest c = rw (← c.self.view_is) (removed c.self.inside.lines.entries c.remove.new.self.entries c.args.number c.in_default.ensures.updates.0)
