-- A run goes on by a turn.
use Rattle.std.proofs.Common.{◌≡◌, ◌⊎◌, inl, inr, ℕ, ◌+◌, List, [], ◌∷◌, ◌++◌, Option, ap, sym, ◌∙◌, append_assoc, arith}
use Rattle.std.specs.List.{All, flat_map, sum_by}
use Rattle.std.proofs.lemmas.List.{append-nil}
use Rattle.std.proofs.lemmas.List.Elements.{All-append}
use Rattle.std.proofs.lemmas.List.Sums.{sum_by-append}
use Rattle.std.proofs.lemmas.Grind.{flat_map-append}
use Rattle.enet_wire.specs.declared.told.Told.{Told}
use Rattle.enet_wire.specs.declared.told.Told.TheVariants.{Waited}
use Rattle.enet_wire.specs.Wires.{also, unless_spent}
use Rattle.enet_turn.specs.declared.report.Fault.{Fault}
use Rattle.enet_turn.specs.declared.report.Report.{Report}
use Rattle.enet_turn.specs.Counts.{stopped}
use Rattle.enet_turn.specs.Turn.{Round}
use Rattle.enet_turn.specs.Run.{IsSound, AreCut, EndsInTurn, EndsInWait, total, all_told}
use Rattle.enet_turn.proofs.Reporting.{same_report}
use Rattle.enet_turn.proofs.Tellings.{told_on}

-- what the last turn adds to a list of all
pub all_more : {A : Type 0} (f : Round → List A) (rounds : List Round) (r : Round) → flat_map f (rounds ++ r ∷ []) ≡ flat_map f rounds ++ f r
all_more f rounds r = flat_map-append f rounds (r ∷ []) ∙ ap (λ xs. flat_map f rounds ++ xs) (append-nil (f r))

-- what it adds to a sum
sum_more : (f : Round → ℕ) (rounds : List Round) (r : Round) (a b : ℕ) → a ≡ stopped (sum_by f rounds) → b ≡ f r → stopped (a + b) ≡ stopped (sum_by f (rounds ++ r ∷ []))
sum_more f rounds r a b ea eb = omega (arith, sum_by-append f rounds (r ∷ []), ea, eb)

pub total_more : (t d u : Report) (rounds : List Round) (r : Round) → t ≡ total rounds → d ≡ r.report
    → u ≡ record { orders = stopped (t.orders + d.orders); received = stopped (t.received + d.received); sent = stopped (t.sent + d.sent); lost = stopped (t.lost + d.lost); events = stopped (t.events + d.events) }
    → u ≡ total (rounds ++ r ∷ [])
total_more t d u rounds r et ed eu =
    same_report u _ _ _ _ _ _ _ _ _ _ eu
    (sum_more (λ r. r.report.orders) rounds r _ _ (ap (λ (t : Report). t.orders) et) (ap (λ (d : Report). d.orders) ed))
    (sum_more (λ r. r.report.received) rounds r _ _ (ap (λ (t : Report). t.received) et) (ap (λ (d : Report). d.received) ed))
    (sum_more (λ r. r.report.sent) rounds r _ _ (ap (λ (t : Report). t.sent) et) (ap (λ (d : Report). d.sent) ed))
    (sum_more (λ r. r.report.lost) rounds r _ _ (ap (λ (t : Report). t.lost) et) (ap (λ (d : Report). d.lost) ed))
    (sum_more (λ r. r.report.events) rounds r _ _ (ap (λ (t : Report). t.events) et) (ap (λ (d : Report). d.events) ed))

-- what the wire told goes on by a wait and a turn
pub told_more : (o o_1 o_2 o_3 : Option (List Told)) (f f_1 f_2 ms : ℕ) (rounds : List Round) (r : Round)
    → o_1 ≡ also o (unless_spent f (all_told rounds)) → f_1 ≡ f → o_2 ≡ also o_1 (unless_spent f_1 (Waited ms ∷ [])) → r.ms ≡ ms
    → f_2 ≡ f → o_3 ≡ also o_2 (unless_spent f_2 r.told) → o_3 ≡ also o (unless_spent f (all_told (rounds ++ r ∷ [])))
told_more o o_1 o_2 o_3 f f_1 f_2 ms rounds r before same wait is same_2 turn =
    let waited = told_on o o_1 o_2 f f_1 (all_told rounds) (Waited r.ms ∷ []) before same (wait ∙ ap (λ (n : ℕ). also o_1 (unless_spent f_1 (Waited n ∷ []))) (sym is)) in
    told_on o o_2 o_3 f f_2 (all_told rounds ++ Waited r.ms ∷ []) r.told waited same_2 turn
    ∙ ap (λ (xs : List Told). also o (unless_spent f xs)) (append_assoc (all_told rounds) (Waited r.ms ∷ []) r.told ∙ sym (all_more (λ r. Waited r.ms ∷ r.told) rounds r))

-- a run that ended early was cut off
pub cut_of_ends : (turns : ℕ) (rounds : List Round) (fault : Fault) → EndsInTurn turns rounds fault ⊎ EndsInWait turns rounds fault → AreCut rounds
cut_of_ends turns rounds fault (inl e) = inr (e.before, e.last, e.in_order, e.sound, e.failed)
cut_of_ends turns rounds fault (inr e) = inl e.sound

-- turns before those that were cut off
pub cut_later : (xs ys : List Round) → All IsSound xs → AreCut ys → AreCut (xs ++ ys)
cut_later xs ys sound (inl all) = inl (All-append IsSound xs ys sound all)
cut_later xs ys sound (inr c) = inr (xs ++ c.0, c.1, ap (λ (rs : List Round). xs ++ rs) c.2 ∙ sym (append_assoc xs c.0 (c.1 ∷ [])), All-append IsSound xs c.0 sound c.3, c.4)
