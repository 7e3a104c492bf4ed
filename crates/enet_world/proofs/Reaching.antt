-- The worlds that are reached.
use Rattle.std.proofs.Common.{◌≡◌, ℕ, ◌+◌, min, Bool, true, false, List, [], ◌∷◌, ◌++◌, refl, ap, subst, ◌∙◌, arith, Result, add-one, sym}
use Rattle.enet_codec.specs.declared.refusal.Refusal.{Refusal}
use Rattle.law_network.specs.declared.event.Answer.{Answer}
use Rattle.law_network.specs.declared.event.WorldEvent.{WorldEvent}
use Rattle.law_network.specs.declared.event.WorldEvent.TheVariants as happen
use Rattle.law_network.specs.Headline.{HasHeadline}
use Rattle.law_network.specs.Law.{OfEachList, OfEachJoinedList}
use Rattle.law_network.specs.World.{World, Steps}
use Rattle.law_network.proofs.Running.{runs-push}
use Rattle.enet_world.specs.Worlds.{first, passed_by, passed_in, passed_by_rounds}
use Rattle.enet_world.specs.Private.Worlds.{IsReached, IsReachedIn, passes, all_pass}

pub reached-step : (joined : Bool) (w v : World) (e : WorldEvent) (x : Result Answer Refusal) → IsReached joined w → Steps w e x v → IsReached joined v
reached-step joined w v e x r step = record {
  a = r.a;
  b = r.b;
  in_range = r.in_range;
  events = r.events ++ e ∷ [];
  answers = r.answers ++ x ∷ [];
  runs = runs-push Steps (first joined r.a r.b) r.events r.answers w v e x r.runs step;
}

-- and the time that passed is counted
pass-more : (es : List WorldEvent) (e : WorldEvent) → all_pass (es ++ e ∷ []) ≡ all_pass es + passes e
pass-more [] e = omega arith
pass-more (d ∷ es) e = let rest = pass-more es e in omega arith

count-on : (e : WorldEvent) (a s p n : ℕ) → p ≡ min a 4294967295 → n ≡ passed_by e p → s ≡ a + passes e → n ≡ min s 4294967295
count-on (happen.Tick side ms) a s p n one two three = more (min ms 60000) two three
  where
    more : (d : ℕ) → n ≡ min (p + d) 4294967295 → s ≡ a + d → n ≡ min s 4294967295
    more d two three = omega arith
count-on e a s p n one two three = omega arith

pub reached-on : (passed next : ℕ) (joined : Bool) (w v : World) (e : WorldEvent) (x : Result Answer Refusal) → IsReachedIn passed joined w → Steps w e x v → next ≡ passed_by e passed → IsReachedIn next joined v
unfolding reached-step
reached-on passed next joined w v e x r step is_next = record {
  reached = reached-step joined w v e x r.reached step;
  counted = count-on e (all_pass r.reached.events) (all_pass (r.reached.events ++ e ∷ [])) passed next r.counted is_next (pass-more r.reached.events e);
  clock_a = r.clock_a;
  clock_b = r.clock_b;
}

-- one more event
pub passed-push : (es : List WorldEvent) (e : WorldEvent) (n : ℕ) → passed_in (es ++ e ∷ []) n ≡ passed_by e (passed_in es n)
passed-push [] e n = refl
passed-push (d ∷ es) e n = passed-push es e (passed_by d n)

-- and one more round
pub passed-more : (n ms first before after : ℕ) → before ≡ passed_by_rounds n ms first → after ≡ passed_by_rounds 1 ms before → after ≡ passed_by_rounds (n + 1) ms first
passed-more n ms first before after so_far one = subst (λ m. after ≡ passed_by_rounds m ms first) (sym (add-one n)) (one ∙ ap (λ (p : ℕ). passed_by_rounds 1 ms p) so_far)

pub headline : (joined : Bool) (w : World) → OfEachList (HasHeadline false) → OfEachJoinedList (HasHeadline true) → IsReached joined w → HasHeadline joined w
headline true w opened joined r = joined r.a r.b r.in_range r.events r.answers w r.runs
headline false w opened joined r = opened r.a r.b r.in_range r.events r.answers w r.runs
