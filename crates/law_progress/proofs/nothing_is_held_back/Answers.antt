use Rattle.law_progress.proofs.AcknowledgementsGo as acknowledging
use Rattle.law_progress.proofs.PutsOut.{less-ready}
use Rattle.law_progress.proofs.NothingLeft.{nothing-left}
use Rattle.law_progress.proofs.Spent.{nothing-may-go}
use Rattle.law_progress.proofs.Blocked.{done-or-waits, something-goes}
use Rattle.law_progress.proofs.Kept.{go-or-stay}
use Rattle.law_progress.proofs.AllOut.{puts-out-all}
use Rattle.law_progress.proofs.nothing_is_held_back.Goals as goal

pub returns-clause-data : goal.returns-clause-data
returns-clause-data c = something-goes

pub returns-clause-acknowledgements : goal.returns-clause-acknowledgements
returns-clause-acknowledgements c = acknowledging.acknowledgement-goes

pub returns-clause-ends : goal.returns-clause-ends
returns-clause-ends c = less-ready

pub returns-clause-spent : goal.returns-clause-spent
returns-clause-spent c = λ pace o big none. record { acknowledgements = acknowledging.none-waits pace o big none; controls = nothing-left pace o big none }

pub returns-clause-rests : goal.returns-clause-rests
returns-clause-rests c = nothing-may-go

pub returns-clause-left : goal.returns-clause-left
returns-clause-left c = done-or-waits

pub returns-clause-kept : goal.returns-clause-kept
returns-clause-kept c = go-or-stay

pub returns-clause-all : goal.returns-clause-all
returns-clause-all c = puts-out-all
