use Rattle.enet_inbox.proofs.taking.take_in.Goals as goal

pub take_in-requires : goal.take_in-requires
take_in-requires c = (c.args.full, c.requires.held)
