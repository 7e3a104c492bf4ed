use Rattle.std.proofs.Common.{◌≡◌, IfOk, subst}
use Rattle.std.specs.String.{string_bytes}
use Rattle.enet_text.proofs.TextLemmas.{received_text-stopped}
use Rattle.enet_text.proofs.answers.received_text.Goals as goal

pub returns-in-Some : goal.returns-in-Some
returns-in-Some c = subst (λ bs. IfOk c.format-in-Some.result (λ text. string_bytes text ≡ bs))
    (received_text-stopped c.args.received c.in-Some.stop c.number-number.result c.in-Some.is c.number-number.ensures) c.format-in-Some.ensures.ok
