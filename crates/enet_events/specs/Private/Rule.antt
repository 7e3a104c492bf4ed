-- How many takers a pass knows to be made.
use Rattle.std.specs.Prelude.{ℕ}
use Rattle.enet_events.specs.declared.rule.View.{View}
use Rattle.enet_events.specs.declared.rule.View.TheVariants.{Posting, Taking, Spent}

abbrev pub made_of : View → ℕ
made_of (Posting takers made posted known) = made
made_of (Taking takers index taken) = 0
made_of Spent = 0
