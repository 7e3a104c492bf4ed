use Rattle.std.proofs.Common.{◌≡◌, List, ◌++◌, Bool, refl, arith}
use Rattle.enet_codec.specs.declared.event.Event.{Event}
use Rattle.enet_turn.specs.Counts.{taken_in}
use Rattle.enet_turn.proofs.PhaseSteps.{chain_more}
use Rattle.enet_turn.proofs.Tellings.{taken_more}
use Rattle.enet_turn.proofs.telling.offer_again.Goals as goal

pub returns : goal.returns
returns g c =
    let first : List (Event × Bool) = c.offer_in-refusals.ensures.offers.0 in
    let second : List (Event × Bool) = c.offer_in-events.ensures.offers.0 in
    let refusals : c.offer_in-refusals.result ≡ taken_in first = c.offer_in-refusals.ensures.offers.3 in
    let events : c.offer_in-events.result ≡ taken_in second = c.offer_in-events.ensures.offers.3 in (
      first ++ second,
      chain_more _ _ _ _ _ _ c.offer_in-refusals.ensures.offers.1 c.offer_in-events.ensures.offers.1,
      (first, second, c.offer_in-refusals.ensures.offers.2, c.offer_in-events.ensures.offers.2, refl),
      omega (arith, taken_more first second, refusals, events),
    )
