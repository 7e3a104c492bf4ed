use Rattle.std.proofs.Common.{List, length, map, refl, ap, subst, ◌∙◌, arith}
use Rattle.std.proofs.lemmas.List.{length-map}
use Rattle.enet_sender.specs.Due.{SendingEnd}
use Rattle.enet_senders.specs.Senders.{IsLateOver, marked_end}
use Rattle.enet_senders.specs.Made.{all_ends}
use Rattle.enet_senders.proofs.Made.{all_map, late_of_all}
use Rattle.enet_senders.proofs.channels.Senders.mark.Goals as goal

pub invariant_of-self : goal.invariant_of-self
invariant_of-self c =
    let long = ap (λ (es : List SendingEnd). length es) c.mark.ensures.marked in
    let same = length-map c.self.inside.made (marked_end c.args.tick) in
    let few = c.self.invariant in
    omega arith

pub returns-clause-marked : goal.returns-clause-marked
returns-clause-marked c =
    ap (all_ends c.self.inside.count) c.mark.ensures.marked ∙ all_map c.self.inside.count c.self.inside.made (marked_end c.args.tick) (λ n. refl) ∙ ap (map (marked_end c.args.tick)) c.self.view_is

pub returns-clause-late : goal.returns-clause-late
returns-clause-late c = subst (λ (es : List SendingEnd). IsLateOver c.args.tick es c.mark.result) c.self.view_is (late_of_all c.self.inside.count c.args.tick c.self.inside.made c.mark.result c.mark.ensures.late)
