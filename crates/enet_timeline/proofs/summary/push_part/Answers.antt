use Rattle.std.proofs.Common.{◌++◌, refl, subst}
use Rattle.std.specs.Prelude.{vec_len}
use Rattle.enet_captured.specs.Gaps.{IsLongest}
use Rattle.enet_timeline.specs.Summaries.{ends_text, going_text, stops_text, commands_text, fates_text, guess_text, gap_text, first_datagrams_text}
use Rattle.enet_timeline.proofs.Joins.{join8}
use Rattle.enet_timeline.proofs.summary.push_part.Goals as goal

pub returns : goal.returns
returns c =
    let p = c.args.part.now in
    let gap = c.longest_gap.result in
    let datagrams = rw c.as_slice.ensures.value at c.in_ok-push_datagrams.ensures in
    let stops = rw c.as_slice-2.ensures.value at c.in_ok-push_stops.ensures in
    let commands = rw c.as_slice-3.ensures.value at c.in_ok-push_commands.ensures in
    let fates = rw c.as_slice-4.ensures.value at c.in_ok-push_fates.ensures in
    let drawn = rw c.len.ensures at c.in_ok-push_first_datagrams.ensures in (
      ends_text p ++ going_text p.seen.items ++ stops_text p.seen.items ++ commands_text p.marks.items ++ fates_text c.args.at p.marked.items
          ++ guess_text c.args.source c.args.at p ++ gap_text gap ++ first_datagrams_text (vec_len p.seen),
      join8 _ _ _ _ _ _ _ _ _ _ _ _ _ _ _ _ _ _ c.in_ok-push_ends.ensures datagrams stops commands fates c.in_ok-push_guess.ensures c.in_ok-push_gap.ensures drawn refl,
      record {
        gap = gap;
        is_longest = subst (λ l. IsLongest l gap) c.as_slice-5.ensures.value c.longest_gap.ensures;
        told = refl;
      },
    )
