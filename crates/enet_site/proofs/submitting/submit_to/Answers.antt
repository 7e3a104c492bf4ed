use Rattle.std.proofs.Common.{rules}
use Rattle.enet_site.proofs.submitting.submit_to.Goals as goal

pub returns-clause-submits : goal.returns-clause-submits
returns-clause-submits c = search rules

pub returns-in-Err-clause-refused : goal.returns-in-Err-clause-refused
returns-in-Err-clause-refused c = search rules
