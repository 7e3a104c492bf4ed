use Rattle.std.proofs.Common.{◌≡◌, ◌∙◌, ◌++◌, Bool, Option, OnOk, ap, subst, sym, append-nil}
use Rattle.std.specs.String.{string_bytes}
use Rattle.enet_captured.specs.declared.timeline.Way.{Way}
use Rattle.enet_timeline.specs.Summaries.{guessed_text, seems_text}
use Rattle.enet_timeline.proofs.summary.push_guess.Goals as goal

pub returns-then-not-is_guessed : goal.returns-then-not-is_guessed
returns-then-not-is_guessed c =
    sym (append-nil _) ∙ ap (λ (b : Bool). string_bytes c.args.text.now ++ guessed_text b c.args.part.now) (sym c.if-not-is_guessed.true ∙ c.is_guessed.ensures)

pub returns : goal.returns
returns c =
    let p = c.args.part.now in
    subst (λ (b : Bool). OnOk c.push_seems.result (string_bytes c.push_seems.new.text ≡ string_bytes c.args.text.now ++ guessed_text b p))
    (sym c.if-not-is_guessed.false ∙ c.is_guessed.ensures)
    (subst (λ (end : Option Way). OnOk c.push_seems.result (string_bytes c.push_seems.new.text ≡ string_bytes c.args.text.now ++ seems_text end p.right p.left))
    c.made_at.ensures c.push_seems.ensures)
