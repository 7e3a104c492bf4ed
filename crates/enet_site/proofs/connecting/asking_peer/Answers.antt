use Rattle.std.proofs.Common.{sym}
use Rattle.enet_site.proofs.Beginning.{none-asked, none-wanting, none-left}
use Rattle.enet_site.proofs.connecting.asking_peer.Goals as goal

pub returns-then-channels-eq0-clause-refused : goal.returns-then-channels-eq0-clause-refused
returns-then-channels-eq0-clause-refused c = λ address info word. none-asked c.args.host.now address c.args.channels info word c.if-channels-eq0.true

pub returns-in-Some-clause-memory : goal.returns-in-Some-clause-memory
returns-in-Some-clause-memory c = λ address info word. none-wanting c.args.host.now address c.args.channels info word c.in-Some.name c.if-channels-eq0.false (sym c.in-Some.ensures)

pub returns-in-None-clause-refused : goal.returns-in-None-clause-refused
returns-in-None-clause-refused c = λ address info word. none-left c.args.host.now address c.args.channels info word c.if-channels-eq0.false (sym c.in-None.ensures)
