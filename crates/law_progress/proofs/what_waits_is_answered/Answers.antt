use Rattle.law_progress.proofs.PeerAnswers.{answers-forth, answers-back}
use Rattle.law_progress.proofs.Removed as removing
use Rattle.law_progress.proofs.Unstopped.{unstopped-forth, unstopped-back}
use Rattle.law_progress.proofs.TakenAway.{taken-away}
use Rattle.law_progress.proofs.Others.{control-heard, unsequenced-taken}
use Rattle.law_progress.proofs.what_waits_is_answered.Goals as goal

pub returns-clause-forth : goal.returns-clause-forth
returns-clause-forth c = answers-forth

pub returns-clause-back : goal.returns-clause-back
returns-clause-back c = answers-back

pub returns-clause-removed : goal.returns-clause-removed
returns-clause-removed c = removing.removed

pub returns-clause-controls : goal.returns-clause-controls
returns-clause-controls c = control-heard

pub returns-clause-unsequenced : goal.returns-clause-unsequenced
returns-clause-unsequenced c = unsequenced-taken

pub returns-clause-unreliable_forth : goal.returns-clause-unreliable_forth
returns-clause-unreliable_forth c = unstopped-forth

pub returns-clause-unreliable_back : goal.returns-clause-unreliable_back
returns-clause-unreliable_back c = unstopped-back

pub returns-clause-controls_removed : goal.returns-clause-controls_removed
returns-clause-controls_removed c = taken-away
