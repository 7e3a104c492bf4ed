use Rattle.law_one_end.proofs.Refuting.{elsewhere, twice, gap, swapped, altered, passed-by, hurried}
use Rattle.law_one_end.proofs.Foreign.{foreign-refused, misdirected-refused, hasty-refused, packet-first-refused, two-ends-refused}
use Rattle.law_one_end.proofs.Confirming.{guess-refused}
use Rattle.law_one_end.proofs.false_takes_are_refuted.Goals as goal

pub returns-clause-elsewhere : goal.returns-clause-elsewhere
returns-clause-elsewhere c = elsewhere

pub returns-clause-twice : goal.returns-clause-twice
returns-clause-twice c = twice

pub returns-clause-gap : goal.returns-clause-gap
returns-clause-gap c = gap

pub returns-clause-swapped : goal.returns-clause-swapped
returns-clause-swapped c = swapped

pub returns-clause-altered : goal.returns-clause-altered
returns-clause-altered c = altered

pub returns-clause-passed_by : goal.returns-clause-passed_by
returns-clause-passed_by c = passed-by

pub returns-clause-hurried : goal.returns-clause-hurried
returns-clause-hurried c = hurried

pub returns-clause-foreign : goal.returns-clause-foreign
returns-clause-foreign c = foreign-refused

pub returns-clause-misdirected : goal.returns-clause-misdirected
returns-clause-misdirected c = misdirected-refused

pub returns-clause-hasty : goal.returns-clause-hasty
returns-clause-hasty c = hasty-refused

pub returns-clause-packet_first : goal.returns-clause-packet_first
returns-clause-packet_first c = packet-first-refused

pub returns-clause-two_ends : goal.returns-clause-two_ends
returns-clause-two_ends c = two-ends-refused

pub returns-clause-guessed : goal.returns-clause-guessed
returns-clause-guessed c = guess-refused
