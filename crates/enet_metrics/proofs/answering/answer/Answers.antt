use Rattle.std.proofs.Common.{◌≡◌, ℕ, List, IfOk, codes, sym, subst, ◌∙◌}
use Rattle.std.specs.String.{string_bytes}
use Rattle.enet_metrics.specs.Answers.{answer_text, page_text}
use Rattle.enet_metrics.proofs.answering.answer.Goals as goal

pub returns-in_ok-text-in-Figures : goal.returns-in_ok-text-in-Figures
unfolding answer_text
returns-in_ok-text-in-Figures c =
    rw c.in-Figures.is
    (subst (λ (body : List ℕ). IfOk c.page.result (λ text. string_bytes text ≡ page_text (codes "200 OK") body)) (c.as_str.ensures.value ∙ c.in_ok-text-in-Figures.ensures) c.page.ensures)

pub returns-in-Health : goal.returns-in-Health
unfolding answer_text
returns-in-Health c = rw (c.in-Health.is, sym c.is_alive.ensures ∙ c.if-is_alive.true) c.page-in-Health.ensures

pub returns-in-Health-2 : goal.returns-in-Health-2
unfolding answer_text
returns-in-Health-2 c = rw (c.in-Health-2.is, sym c.is_alive.ensures ∙ c.if-is_alive.false) c.page-in-Health-2.ensures

pub returns-in-Other : goal.returns-in-Other
unfolding answer_text
returns-in-Other c = rw c.in-Other.is c.page-in-Other.ensures

pub returns-in-OtherMethod : goal.returns-in-OtherMethod
unfolding answer_text
returns-in-OtherMethod c = rw c.in-OtherMethod.is c.page-in-OtherMethod.ensures

pub returns-in-Unreadable : goal.returns-in-Unreadable
unfolding answer_text
returns-in-Unreadable c = rw c.in-Unreadable.is c.page-in-Unreadable.ensures
