use Rattle.std.proofs.Common.{◌≡◌, ◌++◌, ap, ◌∙◌}
use Rattle.std.proofs.lemmas.Result.{IfOk-weaker}
use Rattle.std.specs.Prelude.{codes, length}
use Rattle.std.specs.Str.Lines.{lines}
use Rattle.enet_timeline.specs.Pictures.{opening_text, ground_text, lines_text}
use Rattle.enet_timeline.specs.Summaries.{whole_text}
use Rattle.enet_timeline.proofs.drawing.draw.Goals as goal

pub returns : goal.returns
returns c =
    let said = whole_text c.args.timeline.now c.args.asked (length c.args.parts.now) in
    let told : c.as_str.result.now ≡ said =
    c.as_str.ensures.value ∙ c.in_ok-push_whole.ensures ∙ ap (λ l. l ++ said) c.new-summary.ensures.bytes in
    let top : c.as_str-2.result.now ≡ lines_text 24 (lines said) =
    c.as_str-2.ensures.value ∙ c.in_ok-y.ensures ∙ ap (λ l. l ++ lines_text 24 (lines c.as_str.result.now)) c.new-top.ensures.bytes
    ∙ ap (λ l. lines_text 24 (lines l)) told in
    IfOk-weaker c.picture.result _ _
    (λ text p. record {
      height = p.0;
      style = p.1;
      drawn = p.2;
      whole = p.3 ∙ ap (λ l. opening_text p.0 ++ p.1 ++ ground_text p.0 ++ l ++ p.2 ++ codes "</svg>\n") top;
    })
    c.picture.ensures
