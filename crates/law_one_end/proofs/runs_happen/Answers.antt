use Rattle.law_one_end.proofs.ExampleRuns.{a-packet-is-taken}
use Rattle.law_one_end.proofs.runs_happen.Goals as goal

pub returns : goal.returns
returns c = a-packet-is-taken
