use Rattle.enet_captured.specs.Sends.{unless_seen}
use Rattle.enet_captured.specs.Private.Tables.{IsTable, item}
use Rattle.enet_captured.proofs.sends.new_keys.Given as goal

-- the keys so far
abbrev pub invariant-loop-place : goal.invariant-loop-place
invariant-loop-place l = IsTable (λ place. unless_seen (item l.seen place) (item l.keys place)) l.place l.found.items
