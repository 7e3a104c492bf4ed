use Rattle.std.proofs.Common.{◌≤◌, ◌+◌, length}
use Rattle.enet_guard.specs.declared.loads.Load.{Load}
use Rattle.enet_guard.specs.Loads.{both, Brings}
use Rattle.enet_guard.proofs.loads.brought.Given as goal

-- what is left brings the rest
abbrev pub invariant-loop-command : goal.invariant-loop-command
invariant-loop-command l =
    ((later : Load) → Brings l.rest later → Brings l.bytes (both l.load later))
    × (l.load.packets + length l.rest ≤ length l.bytes)
    × (l.load.bytes + length l.rest ≤ length l.bytes)
    × (l.load.reliable + length l.rest ≤ length l.bytes)

abbrev pub decreases-loop-command : goal.decreases-loop-command
decreases-loop-command l = length l.rest
