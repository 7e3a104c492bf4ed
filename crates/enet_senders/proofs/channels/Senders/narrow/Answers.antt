use Rattle.std.proofs.Common.{◌≡◌, List, length, take, length-take, sym, ap, ◌∙◌, arith}
use Rattle.std.proofs.lemmas.List.{take_all}
use Rattle.enet_sender.specs.Due.{SendingEnd}
use Rattle.enet_senders.specs.Made.{all_ends}
use Rattle.enet_senders.proofs.Made.{all_length, all_taken}
use Rattle.enet_senders.proofs.channels.Senders.narrow.Goals as goal

pub invariant_of-self : goal.invariant_of-self
invariant_of-self c =
    let long = ap (λ (es : List SendingEnd). length es) c.narrow.ensures in
    let fewer = length-take c.args.count c.self.inside.made in
    omega arith

pub returns-then-count-self : goal.returns-then-count-self
returns-then-count-self c =
    let i = c.self.inside in
    ap (all_ends c.args.count) c.narrow.ensures ∙ all_taken c.args.count i.count i.made (omega arith) c.self.invariant ∙ ap (take c.args.count) c.self.view_is

pub returns-else-count-self : goal.returns-else-count-self
returns-else-count-self c =
    let i = c.self.inside in
    let long : length c.args.self.now ≡ i.count = ap (λ (es : List SendingEnd). length es) (sym c.self.view_is) ∙ all_length i.count i.made c.self.invariant in
    sym (take_all c.args.count c.args.self.now (omega arith))
