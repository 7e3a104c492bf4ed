use Rattle.std.proofs.Common.{length, ◌-◌, ◌≡◌, ◌≤◌, ◌++◌, drop, List, ℕ}
use Rattle.std.specs.String.{string_bytes}
use Rattle.enet_text.specs.Described.{Tells}
use Rattle.enet_text.proofs.datagram.push_commands.Given as goal

-- what is told of the bytes that are left, behind what was told, is what is told of all
abbrev pub invariant-loop-place : goal.invariant-loop-place
invariant-loop-place l =
    (l.place ≤ length l.datagram) × ((told : List ℕ) × (string_bytes l.text ≡ string_bytes l.fn.text ++ told)
    × ((more : List ℕ) → Tells l.bodies l.place (drop l.place l.datagram) more → Tells l.bodies l.header (drop l.header l.datagram) (told ++ more)))

abbrev pub decreases-loop-place : goal.decreases-loop-place
decreases-loop-place l = length l.datagram - l.place
