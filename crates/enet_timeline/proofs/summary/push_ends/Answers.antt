use Rattle.std.proofs.Common.{◌≡◌, ◌++◌, sym, ap, ◌∙◌}
use Rattle.enet_text.specs.Texts.{address_text}
use Rattle.enet_timeline.specs.Summaries.{ends_text, names_text, began_text}
use Rattle.enet_timeline.proofs.Joins.{join2}
use Rattle.enet_timeline.proofs.summary.push_ends.Goals as goal

pub returns : goal.returns
unfolding ends_text
returns c =
    let p = c.args.part.now in
    let left : address_text p.connection.left ≡ c.as_str.result.now = sym (c.as_str.ensures.value ∙ c.in_ok-left.ensures) in
    let right : address_text p.connection.right ≡ c.as_str-2.result.now = sym (c.as_str-2.ensures.value ∙ c.in_ok-right.ensures) in
    join2 _ _ _ _ _ _
    c.in_ok-push_names.ensures c.in_ok-push_began.ensures
    (ap (λ l. names_text p.index l (address_text p.connection.right) ++ began_text p.connection.id) left
    ∙ ap (λ r. names_text p.index c.as_str.result.now r ++ began_text p.connection.id) right)
