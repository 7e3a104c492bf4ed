use Rattle.std.proofs.Common.{List, length, ap, ◌∙◌, arith}
use Rattle.enet_sender.specs.Due.{SendingEnd}
use Rattle.enet_senders.specs.Made.{all_ends}
use Rattle.enet_senders.proofs.Made.{all_none}
use Rattle.enet_senders.proofs.channels.Senders.open.Goals as goal

pub invariant_of-result : goal.invariant_of-result
invariant_of-result c =
    let none = ap (λ (es : List SendingEnd). length es) c.in_ok-open.ensures.senders in
    omega arith

pub returns-clause-senders : goal.returns-clause-senders
returns-clause-senders c = (λ j. all_ends (c.from.ensures j) (c.in_ok-open.ensures.senders j)) ∙ all_none c.args.channels
