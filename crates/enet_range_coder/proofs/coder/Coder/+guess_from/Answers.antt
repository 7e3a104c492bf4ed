use Rattle.std.proofs.Common.{drop, refl}
use Rattle.enet_range_coder.specs.Memory.{context_at, contexts_from}
use Rattle.enet_range_coder.specs.Private.Meant.{span_meant, cut_meant}
use Rattle.enet_range_coder.proofs.Sharing.{contexts_goes, contexts_none, cut_leave, guess_hit, guess_pass, guess_stop, guess_leave}
use Rattle.enet_range_coder.proofs.coder.Coder.+guess_from.Goals as goal

pub returns-then-left-eq0 : goal.returns-then-left-eq0
returns-then-left-eq0 t c = rw (contexts_none c.args.left c.args.self.now c.args.context c.if-left-eq0.true) refl

pub take-requires-clause-part : goal.take-requires-clause-part
take-requires-clause-part t c = cut_leave (context_at c.args.self.now c.args.context) _ (cut_meant c.in-Leave.part) c.in-Leave.ensures

pub returns-in-At : goal.returns-in-At
returns-in-At t c =
    rw (contexts_goes c.args.left c.further-rest.result c.args.self.now c.args.context c.at-shorter.result c.if-left-eq0.false c.further-rest.ensures.rest c.at-shorter.ensures)
    (guess_hit (span_meant c.args.coded.interval) (context_at c.args.self.now c.args.context) (contexts_from c.further-rest.result c.args.self.now c.at-shorter.result.shorter) (drop c.args.coded.count c.args.bytes.now) c.in-At.byte c.in-At.ensures)

pub returns-in-None : goal.returns-in-None
returns-in-None t c =
    rw (contexts_goes c.args.left c.further-rest.result c.args.self.now c.args.context c.at-shorter.result c.if-left-eq0.false c.further-rest.ensures.rest c.at-shorter.ensures)
    (guess_stop c.args.coded (context_at c.args.self.now c.args.context) (contexts_from c.further-rest.result c.args.self.now c.at-shorter.result.shorter) (drop c.args.coded.count c.args.bytes.now) (cut_meant c.in-Leave.part) c.in-Leave.ensures c.in-None.ensures.puts)

pub returns-in-Some : goal.returns-in-Some
returns-in-Some t c =
    rw (contexts_goes c.args.left c.further-rest.result c.args.self.now c.args.context c.at-shorter.result c.if-left-eq0.false c.further-rest.ensures.rest c.at-shorter.ensures)
    (guess_leave c.args.coded c.in-Some.next (context_at c.args.self.now c.args.context) (contexts_from c.further-rest.result c.args.self.now c.at-shorter.result.shorter) c.args.bytes.now (cut_meant c.in-Leave.part) c.guess_from.result c.in-Leave.ensures c.in-Some.ensures.puts c.guess_from.ensures)

pub returns-in-Pass : goal.returns-in-Pass
returns-in-Pass t c =
    rw (contexts_goes c.args.left c.further-rest.result c.args.self.now c.args.context c.at-shorter.result c.if-left-eq0.false c.further-rest.ensures.rest c.at-shorter.ensures)
    (guess_pass (span_meant c.args.coded.interval) (context_at c.args.self.now c.args.context) (contexts_from c.further-rest.result c.args.self.now c.at-shorter.result.shorter) (drop c.args.coded.count c.args.bytes.now) c.guess_from-in-Pass.result c.in-Pass.ensures c.guess_from-in-Pass.ensures)
