-- Texts that are told where there is something to tell, and those of connections, one behind another.
use Rattle.std.proofs.Common.{◌≡◌, ◌≢◌, ◌<◌, ◌≤◌, ◌==◌, ◌+◌, nat_lt, ℕ, suc, Bool, true, false, List, Option, Some, [], ◌++◌, length, get_or, slice_get, refl, sym, ap, ◌∙◌, subst, arith, add-one}
use Rattle.std.proofs.lemmas.Bool.{ltb-true, ne_eqb}
use Rattle.std.proofs.lemmas.Option.{slice_get-get_or}
use Rattle.enet_captured.specs.declared.timeline.Source.{Source}
use Rattle.enet_captured.specs.declared.timeline.Way.{Way}
use Rattle.enet_captured.specs.declared.part.Part.{Part}
use Rattle.enet_timeline.specs.Summaries.{TellsPart, TellsParts}

pub some_is : (n : ℕ) → n ≢ 0 → (n == 0) ≡ false
some_is n some = ne_eqb n 0 some

not_above_by : (a b : ℕ) (r : Bool) → nat_lt a b ≡ r → b ≤ a → r ≡ false
not_above_by a b true e h = absurd (let over : a < b = ltb-true _ _ e in omega (arith, over, h))
not_above_by a b false e h = refl

pub not_above : (a b : ℕ) → b ≤ a → nat_lt a b ≡ false
not_above a b h = not_above_by a b (nat_lt a b) refl h

pub no_parts : (parts : List Part) (source : Source) (at : Option Way) → TellsParts parts source at 0 []
unfolding TellsParts
no_parts parts source at = refl

parts_suc : (parts : List Part) (source : Source) (at : Option Way) (n : ℕ) (told last : List ℕ) (part : Part) → TellsParts parts source at n told
    → slice_get parts n ≡ Some part → TellsPart part source at last → TellsParts parts source at (suc n) (told ++ last)
unfolding TellsParts
parts_suc parts source at n told last part h is says = (told, last, part, refl, h, is, says)

pub parts_more : (parts : List Part) (source : Source) (at : Option Way) (n : ℕ) (told last : List ℕ) (part : Part) → n < length parts
    → part ≡ get_or parts n part → TellsParts parts source at n told → TellsPart part source at last → TellsParts parts source at (n + 1) (told ++ last)
parts_more parts source at n told last part within is h says =
    subst (λ (k : ℕ). TellsParts parts source at k (told ++ last)) (sym (add-one n))
    (parts_suc parts source at n told last part h (slice_get-get_or parts n part within ∙ ap Some (sym is)) says)
