use Rattle.std.proofs.Common.{List, length, map, refl, ap, ◌∙◌, arith}
use Rattle.std.proofs.lemmas.List.{length-map}
use Rattle.enet_sender.specs.Due.{SendingEnd}
use Rattle.enet_senders.specs.Senders.{cleared_end}
use Rattle.enet_senders.specs.Made.{all_ends}
use Rattle.enet_senders.proofs.Made.{all_map}
use Rattle.enet_senders.proofs.channels.Senders.clear.Goals as goal

pub invariant_of-self : goal.invariant_of-self
invariant_of-self c =
    let long = ap (λ (es : List SendingEnd). length es) c.clear.ensures in
    let same = length-map c.self.inside.made cleared_end in
    let few = c.self.invariant in
    omega arith

pub returns : goal.returns
returns c = ap (all_ends c.self.inside.count) c.clear.ensures ∙ all_map c.self.inside.count c.self.inside.made cleared_end (λ n. refl) ∙ ap (map cleared_end) c.self.view_is
