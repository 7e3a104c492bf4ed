use Rattle.enet_site.proofs.Beginning.{begun-nothing}
use Rattle.enet_site.proofs.Hears.{other-peer, none-answers}
use Rattle.enet_site.proofs.arriving.answering_peer.Goals as goal

pub returns-then-not-names_nobody-clause-none : goal.returns-then-not-names_nobody-clause-none
returns-then-not-names_nobody-clause-none c =
    λ x answer after acts. begun-nothing x c.args.host.now after c.args.from c.args.text.now answer c.requires acts (other-peer c.names_nobody.result c.args.text.now c.if-not-names_nobody.true c.names_nobody.ensures)

pub returns-clause-none : goal.returns-clause-none
returns-clause-none c = none-answers c.next_guest.result c.args.host.now c.args.from c.args.text.now c.next_guest.ensures.guest
