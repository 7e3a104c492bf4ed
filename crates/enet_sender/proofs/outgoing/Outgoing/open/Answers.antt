use Rattle.slab.specs.Slab.{get}
use Rattle.enet_sender.specs.Rings.{sender_of}
use Rattle.enet_sender.proofs.outgoing.Outgoing.open.Goals as goal

pub returns-clause-end : goal.returns-clause-end
returns-clause-end c = λ p i. record { channel = c.new.ensures.channel i; sender = sender_of (get p.slab) (c.new.ensures.rings i) }
