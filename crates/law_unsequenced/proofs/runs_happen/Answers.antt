use Rattle.law_unsequenced.proofs.ExampleRuns.{a-packet-is-taken}
use Rattle.law_unsequenced.proofs.runs_happen.Goals as goal

pub returns : goal.returns
returns c = a-packet-is-taken
