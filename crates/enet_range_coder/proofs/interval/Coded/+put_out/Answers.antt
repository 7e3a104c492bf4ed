use Rattle.std.proofs.Common.{sym, ◌∙◌, ap}
use Rattle.enet_range_coder.specs.Private.Meant.{span_meant}
use Rattle.enet_range_coder.proofs.Putting.{puts_rest, puts_none, puts_more}
use Rattle.enet_range_coder.proofs.interval.Coded.+put_out.Goals as goal

pub returns-then-is_settled-clause-puts : goal.returns-then-is_settled-clause-puts
returns-then-is_settled-clause-puts t c = puts_rest c.args.left c.args.self (sym c.is_settled.ensures ∙ c.if-is_settled.true)

pub returns-then-left-eq0-clause-puts : goal.returns-then-left-eq0-clause-puts
returns-then-left-eq0-clause-puts t c = puts_none c.args.left c.args.self (sym c.is_settled.ensures ∙ c.if-is_settled.false) c.if-left-eq0.true

pub returns-clause-puts : goal.returns-clause-puts
returns-clause-puts t c =
    puts_more c.args.left c.args.self c.with_top-next.result c.put_out.result c.if-left-eq0.false (sym c.is_settled.ensures ∙ c.if-is_settled.false)
    (ap span_meant c.with_top-next.ensures.interval ∙ c.shifted.ensures) c.with_top-next.ensures.count c.with_top-next.ensures.said c.put_out.ensures.puts
