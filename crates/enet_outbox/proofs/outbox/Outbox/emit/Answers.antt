use Rattle.std.proofs.Common.{rules, ap, ◌∙◌}
use Rattle.enet_outbox.specs.Outbox.{Sending}
use Rattle.enet_outbox.proofs.Idle.{nothing-goes, rest-goes}
use Rattle.enet_outbox.proofs.outbox.Outbox.emit.Goals as goal

pub returns-then-has_nothing-clause-emits : goal.returns-then-has_nothing-clause-emits
returns-then-has_nothing-clause-emits c = (nothing-goes c.args.pace c.args.self.now.outbox (c.has_nothing.ensures c.if-has_nothing.true)).0

pub returns-then-has_nothing-clause-left : goal.returns-then-has_nothing-clause-left
returns-then-has_nothing-clause-left c = (nothing-goes c.args.pace c.args.self.now.outbox (c.has_nothing.ensures c.if-has_nothing.true)).1

pub returns-then-is_none-clause-emits : goal.returns-then-is_none-clause-emits
returns-then-is_none-clause-emits c = search rules

pub returns-then-is_at_rest-clause-emits : goal.returns-then-is_at_rest-clause-emits
returns-then-is_at_rest-clause-emits c = (rest-goes c.args.pace c.args.self.now.outbox (c.is_at_rest.ensures c.if-is_at_rest.true)).0

pub returns-then-is_at_rest-clause-left : goal.returns-then-is_at_rest-clause-left
returns-then-is_at_rest-clause-left c = ap (λ (s : Sending). s.outbox) c.look_for_idle.ensures ∙ (rest-goes c.args.pace c.args.self.now.outbox (c.is_at_rest.ensures c.if-is_at_rest.true)).1
