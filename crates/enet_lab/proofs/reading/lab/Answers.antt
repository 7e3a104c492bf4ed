use Rattle.enet_lab.proofs.Ends.{still_short, still_stopped}
use Rattle.enet_lab.proofs.reading.lab.Goals as goal

pub returns-clause-stopped : goal.returns-clause-stopped
returns-clause-stopped g c = still_stopped _ _ _ _ _ c.run_script-outcome.ensures.stopped c.flush.ensures.bytes

pub returns-clause-short : goal.returns-clause-short
returns-clause-short g c = still_short _ _ _ _ _ c.run_script-outcome.ensures.short c.flush.ensures.bytes
