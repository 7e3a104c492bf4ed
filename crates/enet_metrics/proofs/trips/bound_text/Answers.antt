use Rattle.std.proofs.Common.{◌≤◌, refl, sym, arith, codes, rules}
use Rattle.std.proofs.lemmas.Grind.{common_steps}
use Rattle.std.proofs.lemmas.List.{get_or_past}
use Rattle.enet_metrics.specs.Trips.{bound_text, bound_texts}
use Rattle.enet_metrics.proofs.trips.bound_text.Goals as goal

pub returns-in-0 : goal.returns-in-0
unfolding bound_text
returns-in-0 c = rw c.in-0.is refl

pub returns-in-1 : goal.returns-in-1
unfolding bound_text
returns-in-1 c = rw c.in-1.is refl

pub returns-in-2 : goal.returns-in-2
unfolding bound_text
returns-in-2 c = rw c.in-2.is refl

pub returns-in-3 : goal.returns-in-3
unfolding bound_text
returns-in-3 c = rw c.in-3.is refl

pub returns-in-4 : goal.returns-in-4
unfolding bound_text
returns-in-4 c = rw c.in-4.is refl

pub returns-in-5 : goal.returns-in-5
unfolding bound_text
returns-in-5 c = rw c.in-5.is refl

pub returns-in-6 : goal.returns-in-6
unfolding bound_text
returns-in-6 c = rw c.in-6.is refl

pub returns-in-7 : goal.returns-in-7
unfolding bound_text
returns-in-7 c = rw c.in-7.is refl

pub returns-in-8 : goal.returns-in-8
unfolding bound_text
returns-in-8 c = rw c.in-8.is refl

pub returns-in-9 : goal.returns-in-9
unfolding bound_text
returns-in-9 c = rw c.in-9.is refl

pub returns-in-10 : goal.returns-in-10
unfolding bound_text
returns-in-10 c = rw c.in-10.is refl

pub returns-in-11 : goal.returns-in-11
unfolding bound_text
returns-in-11 c = rw c.in-11.is refl

pub returns-in_default : goal.returns-in_default
unfolding bound_text
returns-in_default c =
    let past : 12 ≤ c.args.bucket = first_of (grind (arith, common_steps), search rules) in
    sym (get_or_past bound_texts c.args.bucket (codes "+Inf") past)
