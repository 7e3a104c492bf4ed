use Rattle.std.proofs.Common.{◌++◌, ap, sym}
use Rattle.std.specs.Prelude.{codes}
use Rattle.enet_timeline.specs.Summaries.{going_text, seconds_text, ways_text}
use Rattle.enet_timeline.proofs.Joins.{join3}
use Rattle.enet_timeline.proofs.summary.push_datagrams.Goals as goal

pub returns : goal.returns
unfolding going_text
returns c =
    join3 _ _ _ _ _ _ _ _
    c.in_ok-push_ways.ensures c.in_ok-push_seconds.ensures c.in_ok-push_str.ensures.bytes
    (ap (λ n. ways_text c.args.seen.now ++ seconds_text n ++ codes " s\n") (sym c.lasting.ensures))
