use Rattle.std.proofs.Common.{◌∙◌, sym, ap}
use Rattle.enet_range_coder.specs.Context.{Context, find}
use Rattle.enet_range_coder.specs.Memory.{context_at}
use Rattle.enet_range_coder.proofs.Sharing.{context_other, place_within}
use Rattle.enet_range_coder.proofs.coder.Coder.place_of.Goals as goal

pub returns-clause-place : goal.returns-clause-place
returns-clause-place c = c.find.ensures ∙ sym (ap (λ (x : Context). find x.bytes c.args.byte 0) (context_other c.args.self.now c.args.context c.at.result c.if-context-eq0.false c.at.ensures))

pub returns-clause-bound : goal.returns-clause-bound
returns-clause-bound c = place_within c.find.result (context_at c.args.self.now c.args.context).bytes c.args.byte
    (c.find.ensures ∙ sym (ap (λ (x : Context). find x.bytes c.args.byte 0) (context_other c.args.self.now c.args.context c.at.result c.if-context-eq0.false c.at.ensures)))

pub returns-then-context-eq0-clause-bound : goal.returns-then-context-eq0-clause-bound
returns-then-context-eq0-clause-bound c = place_within c.find_root.result (context_at c.args.self.now c.args.context).bytes c.args.byte (rw c.if-context-eq0.true c.find_root.ensures)
