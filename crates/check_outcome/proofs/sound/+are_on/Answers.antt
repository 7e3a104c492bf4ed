use Rattle.std.proofs.Common.{◌≡◌, ◌∷◌, sym, subst, arith}
use Rattle.std.proofs.lemmas.Grind.{common_steps}
use Rattle.law_network.specs.Headline.{AreOn}
use Rattle.check_outcome.proofs.OnChannel.{on-cons, on-first, on-rest}
use Rattle.check_outcome.proofs.sound.+are_on.Goals as goal

pub returns-then-first-channel : goal.returns-then-first-channel
returns-then-first-channel t c =
    let is : c.args.packets.now ≡ c.in-Some.first.now ∷ c.in-Some.rest.now = grind (arith, common_steps) in
    let on : c.in-Some.first.now.channel ≡ c.args.channel = grind (arith, common_steps) in (
      λ h. subst (AreOn c.args.channel) (sym is) (on-cons _ _ _ on (c.are_on.ensures.0 h)),
      λ h. c.are_on.ensures.1 (on-rest _ _ _ (subst (AreOn c.args.channel) is h)),
    )

pub returns-else-first-channel : goal.returns-else-first-channel
returns-else-first-channel t c =
    let is : c.args.packets.now ≡ c.in-Some.first.now ∷ c.in-Some.rest.now = grind (arith, common_steps) in
    (λ h. absurd (let off = c.if-first-channel.false in grind (arith, common_steps)), λ h. let on = on-first _ _ _ (subst (AreOn c.args.channel) is h) in grind (arith, common_steps))
