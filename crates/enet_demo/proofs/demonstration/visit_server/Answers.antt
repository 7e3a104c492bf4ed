use Rattle.std.proofs.Common.{List, Result, Vec, sym, subst}
use Rattle.std.proofs.lemmas.Result.{IfOk-at_ok}
use Rattle.std.specs.declared.alloc.Global.{Global}
use Rattle.enet_codec.specs.declared.refusal.Refusal.{Refusal}
use Rattle.enet_demo.specs.declared.player.Visit.{Visit}
use Rattle.enet_demo.specs.Private.Visits.{AreOutcomes}
use Rattle.enet_demo.proofs.More.{all_or_fault, fault_of_client}
use Rattle.enet_demo.proofs.demonstration.visit_server.Goals as goal

pub returns-clause-visits : goal.returns-clause-visits
returns-clause-visits g c = all_or_fault c.args.shown _ _ c.first_fault_or_all.ensures.all
    (subst (λ (os : List (Result Visit Refusal)). AreOutcomes c.args.shown os) (sym c.as_slice.ensures.value)
    (IfOk-at_ok (λ (v : Vec (Result Visit Refusal) Global). AreOutcomes c.args.shown v.items) c.in_ok-outcomes.was c.visit_all.ensures.outcomes))

pub returns-clause-refused : goal.returns-clause-refused
returns-clause-refused g c = fault_of_client c.args.shown _ _ c.first_fault_or_all.ensures.fault
    (subst (λ (os : List (Result Visit Refusal)). AreOutcomes c.args.shown os) (sym c.as_slice.ensures.value)
    (IfOk-at_ok (λ (v : Vec (Result Visit Refusal) Global). AreOutcomes c.args.shown v.items) c.in_ok-outcomes.was c.visit_all.ensures.outcomes))
