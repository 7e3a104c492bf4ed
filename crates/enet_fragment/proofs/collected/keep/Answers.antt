use Rattle.std.proofs.Common.{refl, ap, ◌++◌, [], ◌∷◌, ◌∙◌}
use Rattle.enet_fragment.specs.declared.collected.EarlyPiece.{EarlyPiece}
use Rattle.enet_fragment.proofs.collected.keep.Goals as goal

pub returns-clause-kept : goal.returns-clause-kept
returns-clause-kept c = λ _.
    let piece : EarlyPiece = record { offset = c.args.offset; body = c.in-Ok.body } in
    (piece, c.push_reserved.ensures.items ∙ ap (λ e. e ++ piece ∷ []) c.make_place.ensures.items, refl, c.in-Ok.ensures.items)
