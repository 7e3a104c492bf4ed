use Rattle.enet_receiver.proofs.Released.{does_the_same}
use Rattle.enet_receiver.proofs.laws.earlier_dispatches_do_not_matter.Goals as goal

pub returns : goal.returns
returns c = λ g most r d full earlier. does_the_same g most r d full earlier
