use Rattle.std.proofs.Common.{rules}
use Rattle.enet_inbox.proofs.inbox.Inbox.is_new.Goals as goal

pub returns : goal.returns
returns c = search rules

pub returns-then-is_full : goal.returns-then-is_full
returns-then-is_full c = search rules

pub returns-then-not-check : goal.returns-then-not-check
returns-then-not-check c = search rules

pub returns-then-payload-self : goal.returns-then-payload-self
returns-then-payload-self c = search rules
