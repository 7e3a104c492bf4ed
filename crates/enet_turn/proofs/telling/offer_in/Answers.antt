use Rattle.std.proofs.Common.{◌≡◌, [], ◌∷◌, Bool, Option, refl, subst, ◌∙◌, sym, arith}
use Rattle.enet_codec.specs.declared.event.Event.{Event}
use Rattle.enet_turn.specs.Counts.{count_of}
use Rattle.enet_turn.specs.Phases.{Offers}
use Rattle.enet_turn.proofs.telling.offer_in.Goals as goal

pub returns-in-Some-clause-offers : goal.returns-in-Some-clause-offers
returns-in-Some-clause-offers g c =
    let taken : Bool = c.offer.ensures.0 in
    let counted : c.offer.result ≡ count_of taken = c.offer.ensures.3 in (
      (c.in-Some.event, taken) ∷ [],
      (c.offer.new.sink, c.offer.ensures.1, refl),
      subst (λ (w : Option Event). Offers w ((c.in-Some.event, taken) ∷ []) c.offer.new.place) (sym c.in-Some.is ∙ c.take.ensures.value) (taken, refl, c.offer.ensures.2),
      omega (arith, counted),
    )
