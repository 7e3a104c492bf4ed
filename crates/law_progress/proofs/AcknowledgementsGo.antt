-- The oldest acknowledgement that waits goes with the next datagram, whatever else waits.
use Rattle.std.proofs.Common.{◌≡◌, ℕ, suc, ◌-◌, ◌≤◌, leb, true, cond, List, [], ◌∷◌, length, refl, sym, ap, subst, ◌∙◌, arith}
use Rattle.std.proofs.lemmas.Bool.Decides.{nat_tests}
use Rattle.enet_codec.specs.Message.{Message}
use Rattle.enet_outbox.specs.declared.parts.Acknowledgement.{Acknowledgement}
use Rattle.enet_outbox.specs.declared.parts.Pace.{Pace}
use Rattle.enet_outbox.specs.Outbox.{Outbox}
use Rattle.enet_outbox.specs.Emission.{Filling, empty_datagram, size_of, fits, with_command, shut, repeated, acknowledgement_of, acknowledgement_step, with_one_acknowledgement, with_acknowledgements, filled}
use Rattle.enet_outbox.proofs.Filled.{Keeps, by-acknowledgements, by-later}
use Rattle.law_connection.specs.LinkSteps.{Has}
use Rattle.law_connection.proofs.Lists.{Has-push, Has-push_left}

-- a message is in the datagram, and so many acknowledgements at most still wait
abbrev Gone : Message → ℕ → Filling → Type 0
Gone m most f = Has f.messages m × (length f.outbox.acknowledgements ≤ most)

gone-kept : (pace : Pace) (m : Message) (most : ℕ) → Keeps pace (Gone m most)
gone-kept pace m most = record {
  closes = λ f g. g;
  acknowledges = λ f a rest e g. (Has-push_left f.messages (acknowledgement_of a) m g.0, (let k : length f.outbox.acknowledgements ≡ suc (length rest) = ap (λ (l : List Acknowledgement). length l) e in let h = g.1 in omega arith));
  controls = λ f n e g. (Has-push_left f.messages _ m g.0, g.1);
  puts_unsequenced = λ f u rest t e g. (Has-push_left f.messages _ m g.0, g.1);
  drops_unsequenced = λ f u rest t e g. g;
  puts_data = λ f k s n t there due g. (Has-push_left f.messages _ m g.0, g.1);
  drops_data = λ f k s n t there due kind g. g;
  keeps_room = λ f i x there wants g. g;
  gives_room = λ f i x n there due g. g;
}

pub acknowledgement-goes : (pace : Pace) (o : Outbox) (a : Acknowledgement) (rest : List Acknowledgement) → 576 ≤ pace.mtu → o.acknowledgements ≡ a ∷ rest
    → Has (filled pace o).messages (acknowledgement_of a) × (length (filled pace o).outbox.acknowledgements ≤ length rest)
acknowledgement-goes pace o a rest big e =
    by-later pace o (Gone m most) k (with_acknowledgements f0) first
  where
    m : Message
    m = acknowledgement_of a

    most : ℕ
    most = length rest

    k : Keeps pace (Gone m most)
    k = gone-kept pace m most

    f0 : Filling
    f0 = empty_datagram pace o

    f1 : Filling
    f1 = with_command f0 m (record o { acknowledgements = rest })

    room : fits f0 m ≡ true
    room = le-leb (size_of m) (pace.mtu - 4) (let z : size_of m ≤ 8 = omega arith in omega arith)
      where
        le-leb : (n j : ℕ) → n ≤ j → leb n j ≡ true
        le-leb n j h = grind (arith, nat_tests)

    begun : Gone m most f1
    begun = (Has-push [] m, omega arith)

    step : with_one_acknowledgement f0 ≡ f1
    step = ap (acknowledgement_step f0) e ∙ ap (λ b. cond b f1 (shut f0)) room

    first : Gone m most (with_acknowledgements f0)
    first =
        let times : repeated (length o.acknowledgements) with_one_acknowledgement f0 ≡ repeated (suc (length rest)) with_one_acknowledgement f0 = ap (λ (l : List Acknowledgement). repeated (length l) with_one_acknowledgement f0) e in
        let rest_of : repeated (suc (length rest)) with_one_acknowledgement f0 ≡ repeated (length rest) with_one_acknowledgement f1 = ap (repeated (length rest) with_one_acknowledgement) step in
        subst (λ (f : Filling). Gone m most f) (sym (times ∙ rest_of)) (by-acknowledgements pace (Gone m most) k (length rest) f1 begun)

-- so where a datagram would have nothing in it, none waits
pub none-waits : (pace : Pace) (o : Outbox) → 576 ≤ pace.mtu → (filled pace o).messages ≡ [] → o.acknowledgements ≡ []
none-waits pace o big none = by o.acknowledgements refl
  where
    by : (xs : List Acknowledgement) → o.acknowledgements ≡ xs → o.acknowledgements ≡ []
    by [] e = e
    by (a ∷ rest) e = (let h = acknowledgement-goes pace o a rest big e in absurd (subst (λ (l : List Message). Has l (acknowledgement_of a)) none h.0))
