use Rattle.std.proofs.Common.{◌≡◌, ◌++◌, sym, refl, append-nil}
use Rattle.std.proofs.lemmas.Result.{on_ok_weaker}
use Rattle.std.specs.String.{string_bytes}
use Rattle.enet_timeline.specs.Summaries.{seconds_text, time_asked_text}
use Rattle.enet_timeline.proofs.Joins.{join2}
use Rattle.enet_timeline.proofs.summary.push_time_asked.Goals as goal

pub returns-in-None : goal.returns-in-None
unfolding time_asked_text
returns-in-None c = rw c.in-None.is (sym (append-nil _))

pub returns-in_ok-push_str-in-Some : goal.returns-in_ok-push_str-in-Some
unfolding time_asked_text
returns-in_ok-push_str-in-Some c =
    rw c.in-Some.is
    (on_ok_weaker c.push_seconds.result
    (λ (e : string_bytes c.push_seconds.new.text ≡ _ ++ seconds_text c.in-Some.time). join2 _ _ _ _ _ _ c.in_ok-push_str-in-Some.ensures.bytes e refl)
    c.push_seconds.ensures)
