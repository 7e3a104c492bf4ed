use Rattle.enet_peer.proofs.Sampling.{again-has, begun-has, control-no-longer, data-no-longer, held-back-has, marked-has}
use Rattle.enet_peer.proofs.laws.sample_is_no_longer.Goals as goal

pub returns-clause-data : goal.returns-clause-data
returns-clause-data c = data-no-longer

pub returns-clause-control : goal.returns-clause-control
returns-clause-control c = control-no-longer

pub returns-clause-begun : goal.returns-clause-begun
returns-clause-begun c = begun-has

pub returns-clause-again : goal.returns-clause-again
returns-clause-again c = again-has

pub returns-clause-marked : goal.returns-clause-marked
returns-clause-marked c = marked-has

pub returns-clause-held_back : goal.returns-clause-held_back
returns-clause-held_back c = held-back-has
