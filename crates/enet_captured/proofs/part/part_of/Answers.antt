use Rattle.std.proofs.Common.{◌≡◌, ◌∙◌, List, Some, ap, filter, length, map, refl, sym}
use Rattle.std.proofs.lemmas.Option.{slice_get-get_or}
use Rattle.enet_captured.specs.declared.timeline.Mark.{Mark}
use Rattle.enet_captured.specs.declared.timeline.Seen.{Seen}
use Rattle.enet_captured.specs.declared.timeline.Way.TheVariants.{Right, Left}
use Rattle.enet_captured.specs.Delays.{delays_to}
use Rattle.enet_captured.specs.Fates.{marked_as}
use Rattle.enet_captured.specs.Filters.{mark_passes, seen_passes}
use Rattle.enet_captured.specs.Parts.{mark_in, marks_of, seen_in}
use Rattle.enet_captured.proofs.part.part_of.Goals as goal

pub returns : goal.returns
returns c =
    let t = c.args.timeline.now in
    let asked = c.args.asked in
    let here : List Seen = filter (seen_in c.args.index) t.seen.items in
    let all : c.in_ok-all.all.items ≡ marks_of t c.args.index = c.in_ok-all.ensures ∙ ap (filter (mark_in c.args.index)) c.as_slice.ensures.value in
    record {
      index_is = refl;
      connection_is = slice_get-get_or t.connections.items c.args.index _ c.requires ∙ ap Some (sym c.index-connection.ensures);
      seen_are = c.in_ok-seen.ensures ∙ ap (λ (l : List Mark). filter (seen_passes asked t.begun l) here) (c.as_slice-2.ensures.value ∙ all);
      marks_are = c.in_ok-marks.ensures ∙ ap (filter (mark_passes asked t.begun)) (c.as_slice-3.ensures.value ∙ all);
      marked_are = c.in_ok-marked.ensures ∙ ap (λ (l : List Mark). map (marked_as l) c.as_slice-5.result.now) (c.as_slice-6.ensures.value ∙ all)
          ∙ ap (map (marked_as (marks_of t c.args.index))) c.as_slice-5.ensures.value;
      right_is = c.delays_to-right.ensures ∙ ap (λ (l : List Mark). delays_to l Right (length l)) (c.as_slice-7.ensures.value ∙ all);
      left_is = c.delays_to-left.ensures ∙ ap (λ (l : List Mark). delays_to l Left (length l)) (c.as_slice-8.ensures.value ∙ all);
    }
