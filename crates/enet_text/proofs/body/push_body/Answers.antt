use Rattle.std.proofs.Common.{List, ℕ}
use Rattle.std.specs.String.{string_bytes}
use Rattle.enet_text.specs.Bodies.{body_text, is_text, more_text, told_in, told_text}
use Rattle.std.specs.Prelude.{length}
use Rattle.enet_text.proofs.Joins.{behind}
use Rattle.enet_text.proofs.body.push_body.Goals as goal

pub returns : goal.returns
unfolding body_text
returns c =
    let body = c.args.body.now in
    let told : List ℕ = told_in c.args.bodies body in
    behind (string_bytes c.args.text.now) (told_text (is_text body) told) (more_text (length told) (length body)) (string_bytes c.push_told.new.text)
    (string_bytes c.push_more.new.text) (rw (c.is_text.ensures, c.told_in-told.ensures) at c.in_ok-push_told.ensures)
    (rw c.told_in-told.ensures at c.in_ok-push_more.ensures)
