use Rattle.std.proofs.Common.{◌++◌, [], refl, ap, ◌∙◌, append_assoc}
use Rattle.std.specs.Prelude.{codes}
use Rattle.enet_timeline.specs.Pictures.{opening_text, ground_text}
use Rattle.enet_timeline.proofs.Joins.{join4}
use Rattle.enet_timeline.proofs.drawing.picture.Goals as goal

pub returns : goal.returns
returns c =
    let height = c.saturating_add.result in
    let style = c.in_ok-push_head.ensures.0 in
    let head = opening_text height ++ style ++ ground_text height in (
      height,
      style,
      c.as_str.result.now,
      join4 [] head c.args.top.now c.as_str.result.now (codes "</svg>\n") _ _ _ _ _
          (c.in_ok-push_head.ensures.1 ∙ ap (λ l. l ++ head) c.new-text.ensures.bytes) c.in_ok-push_str.ensures.bytes c.in_ok-push_str-2.ensures.bytes c.in_ok-push_str-3.ensures.bytes
          (simp append_assoc refl),
    )
