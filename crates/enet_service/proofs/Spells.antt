-- Turns in which the wire did not fail, one run of them after another.
use Rattle.std.proofs.Common.{◌≡◌, ◌⊎◌, inl, inr, ℕ, ◌+◌, Bool, List, [], ◌∷◌, ◌++◌, Option, refl, sym, ap, ◌∙◌, subst, append_assoc, arith}
use Rattle.std.specs.Prelude.{map, length, ◌*◌, ◌≤◌}
use Rattle.std.specs.List.{sum_by}
use Rattle.std.specs.declared.time.Duration.{Duration}
use Rattle.std.proofs.lemmas.List.{append-nil, length-append, map-append}
use Rattle.std.proofs.lemmas.List.Elements.{All-nil, All-append, filter-append, filter_map-append}
use Rattle.std.proofs.lemmas.List.Sums.{sum_by-append}
use Rattle.std.proofs.lemmas.Grind.{flat_map-append}
use Rattle.enet_codec.specs.declared.event.Event.{Event}
use Rattle.enet_submit.specs.declared.order.Submission.{Submission}
use Rattle.enet_submit.specs.declared.queue.SubmitQueue.{SubmitQueue}
use Rattle.enet_submit.specs.Words.{taken}
use Rattle.enet_events.specs.declared.numbered.Numbered.{Numbered}
use Rattle.enet_codec.specs.declared.refusal.Refusal.TheVariants.{WireFault}
use Rattle.enet_wire.specs.declared.told.Told.{Told}
use Rattle.enet_wire.specs.declared.told.Told.TheVariants.{Waited}
use Rattle.enet_wire.specs.Wires.{also, unless_spent}
use Rattle.enet_turn.specs.declared.report.Fault.{Fault}
use Rattle.enet_turn.specs.declared.report.Report.{Report}
use Rattle.enet_turn.specs.Counts.{stopped}
use Rattle.enet_service.specs.Queues.{given, accepted, DrainsOn}
use Rattle.enet_turn.specs.Turn.{Round}
use Rattle.enet_turn.specs.Run.{IsSound, EndsInTurn, EndsInWait, all_gave, all_told, all_puts, total}
use Rattle.enet_service.proofs.ManyCalls.{drains_none, drains_more}
use Rattle.enet_turn.proofs.PhaseSteps.{chain_more}
use Rattle.enet_turn.proofs.Runs.{cut_later}
use Rattle.enet_turn.proofs.Tellings.{told_on, also_nothing}
use Rattle.enet_turn.proofs.Reporting.{same_report}
use Rattle.enet_service.specs.ServiceRuns.{Standing, Advances, AreFew, Spell, IsCut}
use Rattle.enet_service.specs.declared.run_length.RunLength.TheVariants.{Turns, Time}

-- events without their numbers
abbrev events : List Numbered → List Event
events numbered = map (λ x. x.event) numbered

-- a run ends early where the wire failed, in a turn or in a wait
pub fault_of_wire : (turns : ℕ) (rounds : List Round) (fault : Fault) → EndsInTurn turns rounds fault ⊎ EndsInWait turns rounds fault → fault.why ≡ WireFault
fault_of_wire turns rounds fault (inl e) = ap (λ (f : Fault). f.why) e.told
fault_of_wire turns rounds fault (inr e) = ap (λ (f : Fault). f.why) e.told

-- and then it has no more turns than it was to have
pub within_ends : (turns : ℕ) (rounds : List Round) (fault : Fault) → EndsInTurn turns rounds fault ⊎ EndsInWait turns rounds fault → length rounds ≤ turns
within_ends turns rounds fault (inl e) = omega (arith, ap length e.in_order, length-append e.before (e.last ∷ []), e.within)
within_ends turns rounds fault (inr e) = omega (arith, e.within)

sum_of_both : (f : Round → ℕ) (xs ys : List Round) (a b : ℕ) → a ≡ stopped (sum_by f xs) → b ≡ stopped (sum_by f ys) → stopped (a + b) ≡ stopped (sum_by f (xs ++ ys))
sum_of_both f xs ys a b ea eb = omega (arith, sum_by-append f xs ys, ea, eb)

pub total_of_both : (t d u : Report) (xs ys : List Round) → t ≡ total xs → d ≡ total ys
    → u ≡ record { orders = stopped (t.orders + d.orders); received = stopped (t.received + d.received); sent = stopped (t.sent + d.sent); lost = stopped (t.lost + d.lost); events = stopped (t.events + d.events) }
    → u ≡ total (xs ++ ys)
total_of_both t d u xs ys et ed eu =
    same_report u _ _ _ _ _ _ _ _ _ _ eu
    (sum_of_both (λ r. r.report.orders) xs ys _ _ (ap (λ (t : Report). t.orders) et) (ap (λ (d : Report). d.orders) ed))
    (sum_of_both (λ r. r.report.received) xs ys _ _ (ap (λ (t : Report). t.received) et) (ap (λ (d : Report). d.received) ed))
    (sum_of_both (λ r. r.report.sent) xs ys _ _ (ap (λ (t : Report). t.sent) et) (ap (λ (d : Report). d.sent) ed))
    (sum_of_both (λ r. r.report.lost) xs ys _ _ (ap (λ (t : Report). t.lost) et) (ap (λ (d : Report). d.lost) ed))
    (sum_of_both (λ r. r.report.events) xs ys _ _ (ap (λ (t : Report). t.events) et) (ap (λ (d : Report). d.events) ed))

pub given_both : (xs ys : List Round) → given (all_gave (xs ++ ys)) ≡ given (all_gave xs) ++ given (all_gave ys)
given_both xs ys = ap given (flat_map-append (λ (r : Round). r.gave) xs ys) ∙ filter_map-append (λ (x : Option Submission). x) (all_gave xs) (all_gave ys)

pub accepted_both : (xs ys : List Round) → accepted (all_puts (xs ++ ys)) ≡ accepted (all_puts xs) ++ accepted (all_puts ys)
accepted_both xs ys =
    ap accepted (flat_map-append (λ (r : Round). r.puts) xs ys)
    ∙ ap (map (λ (x : Event × Bool). x.0)) (filter-append (λ (x : Event × Bool). x.1) (all_puts xs) (all_puts ys))
    ∙ map-append (λ (x : Event × Bool). x.0) _ _

-- turns after turns
advances_on : (a b c : Standing) (xs ys : List Round) → Advances a xs b → b.faults ≡ a.faults → Advances b ys c → Advances a (xs ++ ys) c
advances_on a b c xs ys one same two = record {
  turns = chain_more _ a.service xs b.service ys c.service one.turns two.turns;
  gave = two.gave ∙ (ap (λ (zs : List Submission). zs ++ given (all_gave ys)) one.gave ∙ (append_assoc (taken a.drain) (given (all_gave xs)) (given (all_gave ys)) ∙ ap (λ (zs : List Submission). taken a.drain ++ zs) (sym (given_both xs ys))));
  queue = two.queue ∙ one.queue;
  drains = subst (λ (zs : List Submission). DrainsOn a.queue a.drain zs c.drain) (sym (given_both xs ys))
      (drains_more a.queue a.drain b.drain c.drain (given (all_gave xs)) (given (all_gave ys)) one.drains (subst (λ (q : SubmitQueue). DrainsOn q b.drain (given (all_gave ys)) c.drain) one.queue two.drains));
  put = record {
    same = two.put.same ∙ one.put.same;
    grown = two.put.grown ∙ (ap (λ (zs : List Event). zs ++ accepted (all_puts ys)) one.put.grown ∙ (append_assoc (events a.poster.posted) (accepted (all_puts xs)) (accepted (all_puts ys)) ∙ ap (λ (zs : List Event). events a.poster.posted ++ zs) (sym (accepted_both xs ys))));
  };
  told = told_on a.told b.told c.told a.faults b.faults (all_told xs) (all_told ys) one.told same two.told
      ∙ ap (λ (zs : List Told). also a.told (unless_spent a.faults zs)) (sym (flat_map-append (λ (r : Round). Waited r.ms ∷ r.told) xs ys));
}

pub no_turn : (s : Standing) (r : Report) → r ≡ total [] → Spell s [] s r
no_turn s r e = record {
  advances = record {
    turns = refl;
    gave = sym (append-nil (taken s.drain));
    queue = refl;
    drains = drains_none s.queue s.drain s.drain refl;
    put = record { same = refl; grown = sym (append-nil _) };
    told = also_nothing s.faults s.told;
  };
  sound = All-nil IsSound;
  totals = e;
  faults = refl;
}

pub further : (a b c : Standing) (xs ys : List Round) (t u w : Report) → Spell a xs b t → Spell b ys c u
    → w ≡ record { orders = stopped (t.orders + u.orders); received = stopped (t.received + u.received); sent = stopped (t.sent + u.sent); lost = stopped (t.lost + u.lost); events = stopped (t.events + u.events) }
    → Spell a (xs ++ ys) c w
further a b c xs ys t u w one two sum = record {
  advances = advances_on a b c xs ys one.advances one.faults two.advances;
  sound = All-append IsSound xs ys one.sound two.sound;
  totals = total_of_both t u w xs ys one.totals two.totals sum;
  faults = two.faults ∙ one.faults;
}

-- turns of a run for a time, and then those that the wire cut off
pub cut_after : (a b c : Standing) (time : Duration) (turns : ℕ) (xs : List Round) (t : Report) → turns ≤ 64 → AreFew t → Spell a xs b t → IsCut (Turns turns) b c → IsCut (Time time) a c
cut_after a b c time turns xs t low few one two = record {
  rounds = xs ++ two.rounds;
  within = record { before = xs; last = two.rounds; all = refl; most = let z = two.within in omega arith; few = subst AreFew one.totals few };
  advances = advances_on a b c xs two.rounds one.advances one.faults two.advances;
  cut = cut_later xs two.rounds one.sound two.cut;
  faults = two.faults ∙ ap (λ (n : ℕ). n + 1) one.faults;
}
