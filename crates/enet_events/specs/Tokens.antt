-- What a contract sees of each token, and what is true of its fields.
use Rattle.std.specs.Prelude.{◌≡◌, ℕ, ◌<◌, ◌≤◌, [], length}
use Rattle.crossbeam_queue.specs.Passes.{Pass, view}
use Rattle.enet_events.specs.declared.numbered.Numbered.{Numbered}
use Rattle.enet_events.specs.declared.rule.View.{View}
use Rattle.enet_events.specs.Rule.{posting, taking, takers_of, posted_of, index_of, taken_of}
use Rattle.enet_events.specs.Words.{PosterState, TakerState}

abbrev pub poster_state : Pass Numbered View → PosterState
poster_state pass = record { queue = record { table = pass.table_id; takers = takers_of (view pass) }; posted = posted_of (view pass) }

abbrev pub taker_state : Pass Numbered View → TakerState
taker_state pass = record { queue = record { table = pass.table_id; takers = takers_of (view pass) }; index = index_of (view pass); taken = taken_of (view pass) }

pub record IsPoster (takers count : ℕ) (pass : Pass Numbered View) : Type 0 where
  pub sees : view pass ≡ posting takers takers (posted_of (view pass)) []
  pub counted : length (posted_of (view pass)) ≡ count
  pub few : takers ≤ 16
  pub at_rest : pass.me.1 ≡ []

pub record IsTaker (takers index count : ℕ) (pass : Pass Numbered View) : Type 0 where
  pub sees : view pass ≡ taking takers index (taken_of (view pass))
  pub counted : length (taken_of (view pass)) ≡ count
  pub limited : count ≤ 4294967295
  pub within : index < takers
  pub few : takers ≤ 16
  pub at_rest : pass.me.1 ≡ []
