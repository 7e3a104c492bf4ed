use Rattle.std.proofs.Common.{refl}
use Rattle.enet_codec.specs.declared.stop.Stop.TheVariants as stop
use Rattle.enet_inbox.proofs.Stops.{quiet_stays, arrival_stays, arrival_tells, passed_tells}
use Rattle.enet_inbox.proofs.laws.a_stop_changes_nothing.Goals as goal

pub returns-clause-unchanged : goal.returns-clause-unchanged
returns-clause-unchanged c = λ b m why e. arrival_stays b m why e

pub returns-clause-arrived : goal.returns-clause-arrived
returns-clause-arrived c = λ b m e. arrival_tells b m stop.Memory e refl

pub returns-clause-passed : goal.returns-clause-passed
returns-clause-passed c = λ b m e. passed_tells b m stop.Memory e refl

pub returns-clause-kept : goal.returns-clause-kept
returns-clause-kept c = λ b m n. quiet_stays b m n
