use Rattle.std.proofs.Common.{◌≡◌, [], ◌∷◌, Bool, Some, refl, arith}
use Rattle.enet_turn.specs.Counts.{count_of}
use Rattle.enet_turn.proofs.Tellings.{count_small}
use Rattle.enet_turn.proofs.orders.apply_submission.Goals as goal

pub returns-in-Err : goal.returns-in-Err
returns-in-Err g c =
    let taken : Bool = c.offer.ensures.0 in
    let counted : c.offer.result ≡ count_of taken = c.offer.ensures.3 in (
      (_, taken) ∷ [],
      (c.offer.new.sink, c.offer.ensures.1, refl),
      record { why = Some c.in-Err.why; applied = c.in-Err.ensures; told = (taken, refl, c.offer.ensures.2); stays = refl },
      omega (arith, counted),
      omega (arith, counted, count_small taken),
    )
