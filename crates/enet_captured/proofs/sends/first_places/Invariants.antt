use Rattle.std.proofs.Common.{length}
use Rattle.enet_captured.specs.Sends.{first_to}
use Rattle.enet_captured.specs.Private.Tables.{IsTable, item}
use Rattle.enet_captured.proofs.sends.first_places.Given as goal

-- the first of the places so far from which links lead to each
abbrev pub invariant-loop-place : goal.invariant-loop-place
invariant-loop-place l = IsTable (λ target. first_to (item l.links) target l.place) (length l.links) l.found.items
