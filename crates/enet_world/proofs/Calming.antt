-- Rounds in which the network loses nothing, one thing after another.
use Rattle.std.proofs.Common.{◌≡◌, ℕ, suc, ◌+◌, Some, Result, arith, refl, subst}
use Rattle.enet_codec.specs.declared.refusal.Refusal.{Refusal}
use Rattle.law_network.specs.declared.event.Answer.{Answer}
use Rattle.law_network.specs.declared.event.Side.{Side}
use Rattle.law_network.specs.declared.event.WorldEvent.TheVariants as happen
use Rattle.law_network.specs.World.{World, Steps, other}
use Rattle.enet_world.specs.declared.calm.Calm.{Calm}
use Rattle.enet_world.specs.Calm.{CarriesMany, Round, Rounds, both, datagram_in, refusals_in, stops_in}

-- one more datagram
pub carries-more : (side far : Side) (n before before_stopped now stopped k : ℕ) (first old between new : World) (told answer : Result Answer Refusal) → far ≡ other side → CarriesMany side n before before_stopped first old
    → Steps old (happen.Turn side) told between → datagram_in told ≡ Some k → Steps between (happen.Deliver far k) answer new → now ≡ refusals_in answer → stopped ≡ stops_in answer
    → CarriesMany side (n + 1) (before + now) (before_stopped + stopped) first new
carries-more side far n before before_stopped now stopped k first old between new told answer is many goes sent comes refusals stops =
    let one : suc n ≡ n + 1 = omega arith in
    subst (λ m. CarriesMany side m (before + now) (before_stopped + stopped) first new) one (
      before,
      before_stopped,
      now,
      stopped,
      old,
      many,
      record { k = k; between = between; told = told; goes = goes; is_sent = sent; answer = answer; comes = subst (λ s. Steps between (happen.Deliver s k) answer new) is comes; refusals = refusals; stops = stops },
      refl,
      refl,
    )

-- one more round
pub rounds-more : (ms n : ℕ) (before now told : Calm) (old between new : World) → Rounds ms n before old between → Round ms now between new
    → told ≡ (record { a = both before.a now.a; b = both before.b now.b }) → Rounds ms (n + 1) told old new
rounds-more ms n before now told old between new many one is =
    let more : suc n ≡ n + 1 = omega arith in
    subst (λ m. Rounds ms m told old new) more (before, now, between, many, one, is)
