use Rattle.law_connection.proofs.LinkRuns.{Sound-runs, Sound-fresh}
use Rattle.law_connection.specs.LinkSteps.{fresh_link}
use Rattle.law_progress.proofs.RoundHappens.{has-round}
use Rattle.law_progress.proofs.Rounds.{progress, all-through}
use Rattle.law_progress.proofs.rounds_get_through.Goals as goal

pub returns-clause-progresses : goal.returns-clause-progresses
returns-clause-progresses c = λ mtu most tick es v w big r up short round. progress mtu most tick v w big (Sound-runs mtu es fresh_link v big (Sound-fresh mtu) r) up short round

pub returns-clause-through : goal.returns-clause-through
returns-clause-through c = all-through

pub returns-clause-happens : goal.returns-clause-happens
returns-clause-happens c = has-round
