use Rattle.std.proofs.Common.{sym}
use Rattle.enet_text.proofs.PieceLemmas.{words-none, words-comment, words-word}
use Rattle.enet_text.proofs.words.word.Goals as goal

pub returns-in_err-first : goal.returns-in_err-first
returns-in_err-first c = rw c.from_residual.ensures (words-none c.args.text.now c.in_err-first.ensures)

pub returns-then-starts_with : goal.returns-then-starts_with
returns-then-starts_with c = words-comment c.args.text.now _ _ c.in_ok-first.ensures (sym c.if-starts_with.ensures.value)

pub returns : goal.returns
returns c = words-word c.args.text.now _ _ c.in_ok-first.ensures (sym c.if-starts_with.ensures.value)
