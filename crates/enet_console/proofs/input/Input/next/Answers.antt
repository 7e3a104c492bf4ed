use Rattle.enet_console.proofs.Givings.{gives-fresh}
use Rattle.enet_console.proofs.input.Input.next.Goals as goal

pub returns : goal.returns
returns c = gives-fresh c.args.self.now c.fill.new.self c.take-2.new.self c.take-2.result c.if-self.false c.take-2.ensures
