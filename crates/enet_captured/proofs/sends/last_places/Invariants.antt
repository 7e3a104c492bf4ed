use Rattle.std.proofs.Common.{◌≡◌}
use Rattle.std.specs.BTreeMap as tree
use Rattle.enet_captured.specs.Sends.{Key, last_of, last_with}
use Rattle.enet_captured.specs.Private.Tables.{IsTable, item, key_cmp}
use Rattle.enet_captured.proofs.sends.last_places.Given as goal

-- the places so far; the map has the last place of each key
abbrev pub invariant-loop-place : goal.invariant-loop-place
invariant-loop-place l = record {
  table : IsTable (λ place. last_of (item l.keys) (item l.asked place) place) l.place l.found.items;
  known : (q : Key) → tree.get key_cmp l.last q ≡ last_with (item l.keys) q l.place;
}
