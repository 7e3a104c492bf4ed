use Rattle.std.proofs.Common.{rules}
use Rattle.enet_receiver.proofs.arriving_data.ArrivingData.of.Goals as goal

pub returns-in-SendUnreliableFragment-clause-data : goal.returns-in-SendUnreliableFragment-clause-data
returns-in-SendUnreliableFragment-clause-data c = search rules
