use Rattle.enet_text.proofs.texts.push_fields.Goals as goal

pub returns-in-Connect : goal.returns-in-Connect
returns-in-Connect c = rw c.in-Connect.is c.push_offer.ensures
