use Rattle.std.proofs.Common.{◌≡◌, ◌∙◌, ◌++◌, Bool, OnOk, ap, subst, sym, append-nil}
use Rattle.std.specs.String.{string_bytes}
use Rattle.enet_timeline.specs.Summaries.{asked_if}
use Rattle.enet_timeline.proofs.summary.push_asked.Goals as goal

pub returns-then-is_all : goal.returns-then-is_all
returns-then-is_all c =
    sym (append-nil _) ∙ ap (λ (b : Bool). string_bytes c.args.text.now ++ asked_if b c.args.asked) (sym c.if-is_all.true ∙ c.is_all.ensures)

pub returns : goal.returns
returns c =
    subst (λ (b : Bool). OnOk c.push_words_asked.result (string_bytes c.push_words_asked.new.text ≡ string_bytes c.args.text.now ++ asked_if b c.args.asked))
    (sym c.if-is_all.false ∙ c.is_all.ensures) c.push_words_asked.ensures
