use Rattle.enet_range_coder.specs.Memory.{context_at, contexts_from}
use Rattle.enet_range_coder.specs.Private.Meant.{cut_meant}
use Rattle.enet_range_coder.proofs.Sharing.{contexts_goes, cut_found, cut_escape, code_nothing, code_found, code_pass, code_stop, code_escape}
use Rattle.enet_range_coder.proofs.coder.Coder.+code_from.Goals as goal

pub returns-then-left-eq0-clause-puts : goal.returns-then-left-eq0-clause-puts
returns-then-left-eq0-clause-puts t c = code_nothing c.args.coded c.args.left c.args.self.now c.args.context c.args.byte c.if-left-eq0.true

pub take-requires-clause-part : goal.take-requires-clause-part
take-requires-clause-part t c = cut_found (context_at c.args.self.now c.args.context) c.args.byte (cut_meant c.in-Found.part) c.in-Found.ensures

pub take-requires-in-Escape-clause-part : goal.take-requires-in-Escape-clause-part
take-requires-in-Escape-clause-part t c = cut_escape (context_at c.args.self.now c.args.context) c.args.byte (cut_meant c.in-Escape.part) c.in-Escape.ensures

pub returns-in-Found-clause-puts : goal.returns-in-Found-clause-puts
returns-in-Found-clause-puts t c =
    rw (contexts_goes c.args.left c.further-rest.result c.args.self.now c.args.context c.at-shorter.result c.if-left-eq0.false c.further-rest.ensures.rest c.at-shorter.ensures)
    (code_found c.args.coded c.take.result (context_at c.args.self.now c.args.context) (contexts_from c.further-rest.result c.args.self.now c.at-shorter.result.shorter) c.args.byte (cut_meant c.in-Found.part) c.in-Found.ensures c.take.ensures.puts)

pub returns-in-None-clause-puts : goal.returns-in-None-clause-puts
returns-in-None-clause-puts t c =
    rw (contexts_goes c.args.left c.further-rest.result c.args.self.now c.args.context c.at-shorter.result c.if-left-eq0.false c.further-rest.ensures.rest c.at-shorter.ensures)
    (code_stop c.args.coded (context_at c.args.self.now c.args.context) (contexts_from c.further-rest.result c.args.self.now c.at-shorter.result.shorter) c.args.byte (cut_meant c.in-Escape.part) c.in-Escape.ensures c.in-None.ensures.puts)

pub returns-in-Some-clause-puts : goal.returns-in-Some-clause-puts
returns-in-Some-clause-puts t c =
    rw (contexts_goes c.args.left c.further-rest.result c.args.self.now c.args.context c.at-shorter.result c.if-left-eq0.false c.further-rest.ensures.rest c.at-shorter.ensures)
    (code_escape c.args.coded c.in-Some.next c.code_from.result (context_at c.args.self.now c.args.context) (contexts_from c.further-rest.result c.args.self.now c.at-shorter.result.shorter) c.args.byte (cut_meant c.in-Escape.part) c.in-Escape.ensures c.in-Some.ensures.puts c.code_from.ensures.puts)

pub returns-in-Nothing-clause-puts : goal.returns-in-Nothing-clause-puts
returns-in-Nothing-clause-puts t c =
    rw (contexts_goes c.args.left c.further-rest.result c.args.self.now c.args.context c.at-shorter.result c.if-left-eq0.false c.further-rest.ensures.rest c.at-shorter.ensures)
    (code_pass c.args.coded c.code_from-in-Nothing.result (context_at c.args.self.now c.args.context) (contexts_from c.further-rest.result c.args.self.now c.at-shorter.result.shorter) c.args.byte c.in-Nothing.ensures c.code_from-in-Nothing.ensures.puts)
