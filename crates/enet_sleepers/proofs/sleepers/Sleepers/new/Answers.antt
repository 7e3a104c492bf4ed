use Rattle.std.proofs.Common.{◌≡◌, ℕ, Bool, false, None, Option, List, length, replicate, ap, ◌∙◌, arith}
use Rattle.std.proofs.lemmas.List.{length-replicate}
use Rattle.enet_sleepers.specs.contracts.sleepers.Sleepers.{the_view}
use Rattle.enet_sleepers.proofs.Keeping.{keeps-fresh}
use Rattle.enet_sleepers.proofs.sleepers.Sleepers.new.Goals as goal

pub returns-clause-kept : goal.returns-clause-kept
returns-clause-kept c = λ slots count.
    let v = the_view (record { awake = c.insert_all.new.set; free = c.in-Ok-new.free; due = c.in-Ok-new-2.due; clock = c.from-4.result; naps = 0 }) in
    let size : length v.awake ≡ c.args.peers =
    c.insert_all.ensures.count ∙ ap (λ (bits : List Bool). length bits) c.in-Ok.ensures ∙ length-replicate {A = Bool} c.from.result false ∙ c.from.ensures in
    keeps-fresh c.args.now c.args.peers v slots size (c.in-Ok-new.ensures ∙ ap (λ (n : ℕ). replicate n false) c.from-2.ensures)
    (c.in-Ok-new-2.ensures ∙ ap (λ (n : ℕ). replicate {A = Option ℕ} n None) c.from-3.ensures) (omega (arith, c.from-4.ensures)) c.insert_all.ensures.all count
