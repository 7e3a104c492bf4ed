use Rattle.law_network.proofs.Alone.{each-alone, alone-among}
use Rattle.law_network.proofs.each_host_by_its_calls.Goals as goal

pub returns-clause-events : goal.returns-clause-events
returns-clause-events c = each-alone

pub returns-clause-calls : goal.returns-clause-calls
returns-clause-calls c = alone-among
