use Rattle.enet_codec.proofs.write.put_fields.Goals as goal

pub returns-in-Connect-clause-puts : goal.returns-in-Connect-clause-puts
returns-in-Connect-clause-puts c = rw c.in-Connect.is c.put_offer.ensures.puts
