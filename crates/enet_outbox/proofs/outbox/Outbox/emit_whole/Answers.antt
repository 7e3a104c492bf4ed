use Rattle.std.proofs.Common.{sym}
use Rattle.enet_outbox.proofs.Emissions.{emits-none, emits-some}
use Rattle.enet_outbox.proofs.outbox.Outbox.emit_whole.Goals as goal

pub returns-then-progress-eq4-clause-emits : goal.returns-then-progress-eq4-clause-emits
returns-then-progress-eq4-clause-emits c =
    emits-none c.args.pace c.args.to c.args.self.now.outbox c.pack-progress.new.self.outbox c.pack-progress.result c.pack-progress.new.buf c.pack-progress.ensures.leads c.if-progress-eq4.true

pub returns-then-progress-eq4-clause-left : goal.returns-then-progress-eq4-clause-left
returns-then-progress-eq4-clause-left c = sym c.pack-progress.ensures.leads.outbox

pub returns-clause-emits : goal.returns-clause-emits
returns-clause-emits c =
    emits-some c.args.pace c.args.to c.args.self.now.outbox c.pack-progress.new.self.outbox c.pack-progress.result c.pack-progress.new.buf c.finish.new.buf c.finish.result c.header_of-header.result
    c.pack-progress.ensures.leads c.if-progress-eq4.false c.header_of-header.ensures c.finish.ensures.text c.finish.ensures.ends

pub returns-clause-left : goal.returns-clause-left
returns-clause-left c = sym c.pack-progress.ensures.leads.outbox
