use Rattle.law_progress.proofs.Later.{joined-later, asking-later, answering-later}
use Rattle.law_progress.proofs.Parted.{leaves-or-tells}
use Rattle.law_progress.proofs.no_leave_is_put_off.Goals as goal

pub returns-clause-joined : goal.returns-clause-joined
returns-clause-joined c = joined-later

pub returns-clause-connecting : goal.returns-clause-connecting
returns-clause-connecting c = asking-later

pub returns-clause-answering : goal.returns-clause-answering
returns-clause-answering c = answering-later

pub returns-clause-told : goal.returns-clause-told
returns-clause-told c = leaves-or-tells
