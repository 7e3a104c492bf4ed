use Rattle.std.proofs.Common.{sym, ◌∙◌, ap, append-nil}
use Rattle.enet_range_coder.specs.declared.interval.Interval.{Interval}
use Rattle.enet_range_coder.specs.Private.Meant.{said}
use Rattle.enet_range_coder.proofs.Putting.{ending_none, said_end}
use Rattle.enet_range_coder.proofs.interval.Coded.+end.Goals as goal

pub returns-then-left-eq0-clause-said : goal.returns-then-left-eq0-clause-said
returns-then-left-eq0-clause-said t c = rw (ending_none c.args.left c.args.self.interval.low c.then-left-eq0.either) (sym (append-nil (said c.args.self)))

pub returns-clause-said : goal.returns-clause-said
returns-clause-said t c =
    c.end.ensures.said ∙ said_end (said c.args.self) (said c.with_top-next.result) c.args.left c.args.self.interval.low 0 c.with_top-next.result.interval.low c.if-left-eq0.false c.if-self-eq0.false c.with_top-next.ensures.said
    (ap (λ (i : Interval). i.low) c.with_top-next.ensures.interval ∙ c.without_top-low.ensures)
