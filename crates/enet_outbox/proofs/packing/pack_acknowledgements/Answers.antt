use Rattle.std.proofs.Common.{◌≡◌, List, Option, arith, ap, ◌∙◌, sym, refl, subst}
use Rattle.enet_outbox.specs.declared.parts.Acknowledgement.{Acknowledgement}
use Rattle.enet_outbox.specs.declared.packing.Progress.{Progress}
use Rattle.enet_outbox.specs.Outbox.{Outbox}
use Rattle.enet_outbox.specs.Emission.{acknowledgement_of, with_command}
use Rattle.enet_outbox.specs.Private.Packing.{GoesIn}
use Rattle.enet_outbox.proofs.Fillings.{leads-by, holds-shut}
use Rattle.enet_outbox.proofs.Stages.{more_acknowledgements, acknowledgements-go, acknowledgements-stop, acknowledgements-end}
use Rattle.enet_outbox.proofs.packing.pack_acknowledgements.Goals as goal

waits : {o p : Outbox} → o ≡ p → o.acknowledgements ≡ p.acknowledgements
waits e = ap (λ (o : Outbox). o.acknowledgements) e

pub acknowledgements-init : goal.acknowledgements-init
acknowledgements-init c = record {
  stage = λ f h opened e. (f, h, opened, ap (λ (xs : List Acknowledgement). record f.outbox { acknowledgements = xs }) e, ap (λ (xs : List Acknowledgement). more_acknowledgements xs f) e);
  room = omega arith;
  fewer = omega arith;
}

pub acknowledgements-preserved : goal.acknowledgements-preserved
acknowledgements-preserved c = record {
  room = grind arith;
  fewer = grind arith;
  stage = λ f h opened e.
      let i = c.acknowledgements.invariant.stage f h opened e in
      let g = i.0 in
      let a = c.in-Some.acknowledgement in
      let m = acknowledgement_of a in
      let ys = c.pop_front.new.self.items in
      let is = sym c.first.ensures ∙ c.in-Some.is in
      let t = subst (λ (r : Option Progress). GoesIn m c.acknowledgements.progress r c.acknowledgements.buf c.put_acknowledgement.new.buf) c.in-Some-put_acknowledgement.is c.put_acknowledgement.ensures in
      let u = t g i.1 in
      let o : Outbox = record g.outbox { acknowledgements = ys } in
      (with_command g m o, u.1 o, refl, ap (λ (o : Outbox). record o { acknowledgements = ys }) i.3, i.4 ∙ acknowledgements-go _ ys a g i.2 (waits i.3) is c.pop_front.ensures.rest u.0);
}

pub returns-in_default-put_acknowledgement-clause-packs : goal.returns-in_default-put_acknowledgement-clause-packs
returns-in_default-put_acknowledgement-clause-packs c = λ f h opened e.
    let i = c.acknowledgements.invariant.stage f h opened e in
    let g = i.0 in
    let a = c.in-Some.acknowledgement in
    let m = acknowledgement_of a in
    let is = sym c.first.ensures ∙ c.in-Some.is in
    let t = subst (λ (r : Option Progress). GoesIn m c.acknowledgements.progress r c.acknowledgements.buf c.put_acknowledgement.new.buf) c.in_default-put_acknowledgement.is c.put_acknowledgement.ensures in
    let u = t.1 g i.1 in
    rw (c.shut.ensures, t.0) (leads-by (i.4 ∙ acknowledgements-stop _ a g i.2 (waits i.3) is u) (holds-shut i.1) i.3)

pub returns-clause-packs : goal.returns-clause-packs
returns-clause-packs c = λ f h opened e.
    let i = c.acknowledgements.invariant.stage f h opened e in
    let is = sym c.first.ensures ∙ c.in_default.is in
    leads-by (i.4 ∙ acknowledgements-end _ i.0 is) i.1 i.3
