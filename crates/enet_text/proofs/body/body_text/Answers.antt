use Rattle.std.proofs.Common.{◌≡◌, ap, ◌∙◌, arith, rules}
use Rattle.std.specs.String.{string_bytes}
use Rattle.enet_text.specs.Bodies.{body_text}
use Rattle.enet_text.specs.Words.{bytes_of}
use Rattle.enet_text.proofs.ReadBack.{body-back}
use Rattle.enet_text.proofs.body.body_text.Goals as goal

pub returns-clause-read_back : goal.returns-clause-read_back
returns-clause-read_back c = λ whole.
    let said : string_bytes c.push_body.new.text ≡ body_text c.args.bodies c.args.body.now = search rules in
    ap bytes_of (said ∙ ap (λ b. body_text b c.args.body.now) whole) ∙ body-back c.args.body.now (λ i. omega (arith, c.type_inv.body i))
