use Rattle.std.proofs.Common.{◌≡◌, ◌-◌, ◌==◌, not, length, take, drop, Some, sym, ◌∙◌, arith, length-drop}
use Rattle.std.specs.Prelude.{position}
use Rattle.std.proofs.lemmas.List.{take_all}
use Rattle.enet_text.proofs.PieceLemmas.{spaced-spaces, spaced-read}
use Rattle.enet_text.proofs.words.piece.Goals as goal

pub returns-in_err-text : goal.returns-in_err-text
returns-in_err-text c = rw c.from_residual.ensures (spaced-spaces c.args.text.now (sym c.word_start.ensures ∙ c.in_err-text.was))

pub returns : goal.returns
returns c =
    let start : position (λ b. not (b == 32)) c.args.text.now ≡ Some c.in_ok-text.field-0 = sym c.word_start.ensures ∙ c.in_ok-text.was in
    let rest : take (length c.args.text.now - c.in_ok-text.field-0) (drop c.in_ok-text.field-0 c.args.text.now) ≡ drop c.in_ok-text.field-0 c.args.text.now =
    take_all _ _ (omega (arith, length-drop c.in_ok-text.field-0 c.args.text.now)) in
    spaced-read c.args.text.now _ _ _ c.in_ok-text.field-0 c.word_end.result start rest
    c.word_end.ensures.end c.split_at.ensures.front c.split_at.ensures.back
