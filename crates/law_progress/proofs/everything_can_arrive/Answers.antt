use Rattle.law_connection.proofs.LinkRuns.{Sound-runs, Sound-fresh}
use Rattle.law_connection.specs.LinkSteps.{fresh_link}
use Rattle.law_progress.proofs.Answered as answering
use Rattle.law_progress.proofs.Delivered.{all-dispatched}
use Rattle.law_progress.proofs.Handled as handling
use Rattle.law_progress.proofs.NoDeadEnd.{through}
use Rattle.law_progress.proofs.everything_can_arrive.Goals as goal

pub returns-clause-answered : goal.returns-clause-answered
returns-clause-answered c = λ mtu most es v big r sending up short e w. answering.answered mtu most v (Sound-runs mtu es fresh_link v big (Sound-fresh mtu) r) sending up short e w

pub returns-clause-complete : goal.returns-clause-complete
returns-clause-complete c = λ mtu es v big r sending up none. all-dispatched mtu v (Sound-runs mtu es fresh_link v big (Sound-fresh mtu) r) sending up none

pub returns-clause-no_dead_end : goal.returns-clause-no_dead_end
returns-clause-no_dead_end c = through

pub returns-clause-handled : goal.returns-clause-handled
returns-clause-handled c = λ mtu most es v big r up short e logged in_time. handling.handled mtu most v (Sound-runs mtu es fresh_link v big (Sound-fresh mtu) r) up short e logged in_time
