use Rattle.enet_captured.specs.Sends.{last_of, near}
use Rattle.enet_captured.specs.Private.Tables.{IsTable, item, turn_at}
use Rattle.enet_captured.proofs.sends.near_places.Given as goal

-- the places so far
abbrev pub invariant-loop-place : goal.invariant-loop-place
invariant-loop-place l = IsTable (λ place. near (turn_at l.turns) place (last_of (item l.keys) (item l.keys place) place)) l.place l.found.items
