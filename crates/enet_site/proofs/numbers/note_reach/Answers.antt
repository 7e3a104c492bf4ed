use Rattle.std.proofs.Common.{length, ◌<◌, arith, get_or}
use Rattle.std.proofs.lemmas.List.{get_or_default}
use Rattle.std.proofs.lemmas.List.Edits.{map_over_more}
use Rattle.law_network.specs.declared.mark.Mark.{Mark}
use Rattle.law_network.specs.declared.mark.MarkKind.TheVariants.{Data}
use Rattle.law_network.specs.Log.{reached}
use Rattle.enet_site.proofs.numbers.note_reach.Goals as goal

blank : Mark
blank = record { kind = Data; channel = 0; number = 0; sent_then = 0 }

pub loop-mark-preserved : goal.loop-mark-preserved
unfolding blank
loop-mark-preserved c =
    let inside : c.loop-mark.mark-index < length c.args.marks.now = omega arith in
    let within : c.loop-mark.mark-index < length c.loop-mark.marks = omega arith in
    let x = get_or c.loop-mark.marks c.loop-mark.mark-index blank in
    rw c.reached.ensures (map_over_more (reached c.args.own.now c.args.other.now) c.args.marks.now c.loop-mark.marks c.loop-mark.mark-index x inside c.loop-mark.invariant
    (get_or_default c.loop-mark.marks c.loop-mark.mark-index blank x within))
