use Rattle.std.proofs.Common.{◌≡◌, ◌++◌, drop, subst, sym, arith}
use Rattle.std.specs.Str.Lines.{lines}
use Rattle.std.specs.String.{string_bytes}
use Rattle.std.proofs.lemmas.Iterator.Consumers.{YieldsList-turn, YieldsList-end}
use Rattle.std.proofs.lemmas.Iterator.Splits.{YieldsList-from_lines}
use Rattle.std.proofs.lemmas.List.{length_push}
use Rattle.enet_timeline.specs.Pictures.{lines_text}
use Rattle.enet_timeline.proofs.Lines.{line-more, lines-done}
use Rattle.enet_timeline.proofs.drawing.push_lines.Goals as goal

pub loop-line-preserved : goal.loop-line-preserved
loop-line-preserved c =
    let all = lines c.args.words.now in
    let t = YieldsList-turn (YieldsList-from_lines c.args.words.now cc) c.loop-line.yielded _ c.loop-line.yielded_by _ _ c.in-Some.line c.in-Some.is c.next.ensures.steps in
    subst (λ k. string_bytes c.push_words.new.text ++ lines_text c.saturating_add-y.result (drop k all) ≡ string_bytes c.args.text.now ++ lines_text c.args.top all)
    (sym (length_push c.loop-line.yielded c.in-Some.line))
    (line-more all _ _ _ _ _ _ c.saturating_add-y.result t.0 t.1 c.saturating_add-y.ensures c.in_ok-push_words.ensures c.loop-line.invariant)

pub returns : goal.returns
returns c =
    let t = YieldsList-end (YieldsList-from_lines c.args.words.now cc) c.loop-line.yielded _ c.loop-line.yielded_by _ _ c.in-None.is c.next.ensures.steps in
    lines-done (lines c.args.words.now) _ _ _ _ (omega (arith, t.1)) c.loop-line.invariant
