use Rattle.std.proofs.Common.{◌<◌, ◌/◌, Bool, List, length, set, false, ap, ◌∙◌, arith}
use Rattle.std.proofs.lemmas.List.{get_or_read}
use Rattle.enet_fragment.proofs.Marked.{Writes-clear, length-marks_in, marks-written, kept-written}
use Rattle.enet_fragment.proofs.marks.Marks.unmark.Goals as goal

pub index_mut-requires : goal.index_mut-requires
index_mut-requires c =
    let len = length-marks_in c.self.inside.count c.self.inside.words.items in
    let now = ap (λ (marks : List Bool). length marks) c.self.view_is in
    omega (arith, c.self.invariant.enough, c.self.inside.words.ok.0)

pub invariant_of-self : goal.invariant_of-self
invariant_of-self c =
    let words = c.self.inside.words.items in
    let len = length-marks_in c.self.inside.count words in
    let now = ap (λ (marks : List Bool). length marks) c.self.view_is in
    let inside : c.args.i / 32 < length words = omega (arith, c.self.invariant.enough) in
    kept-written c.self.inside.count words c.args.i _ _ (Writes-clear words c.args.i c.index_mut.result.now inside (get_or_read words (c.args.i / 32) c.index_mut.result.now inside c.index_mut.ensures.value 0)) (omega arith) c.self.invariant

pub returns : goal.returns
returns c =
    let words = c.self.inside.words.items in
    let len = length-marks_in c.self.inside.count words in
    let now = ap (λ (marks : List Bool). length marks) c.self.view_is in
    let inside : c.args.i / 32 < length words = omega (arith, c.self.invariant.enough) in
    marks-written c.self.inside.count words c.args.i _ _ (Writes-clear words c.args.i c.index_mut.result.now inside (get_or_read words (c.args.i / 32) c.index_mut.result.now inside c.index_mut.ensures.value 0))
    ∙ ap (λ (marks : List Bool). set marks c.args.i false) c.self.view_is
