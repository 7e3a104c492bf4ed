use Rattle.std.proofs.Common.{take, map}
use Rattle.enet_c.specs.Shapes.{name_meant}
use Rattle.enet_c.proofs.InTurn.{Wrote}
use Rattle.enet_c.proofs.held.Held.submit_in_turn.Given as goal

abbrev pub invariant-loop-place : goal.invariant-loop-place
invariant-loop-place l =
    Wrote l.channel (record { flags = l.flags; body = l.body }) (map name_meant (take l.place l.peers)) l.fn.answers l.answers l.fn.self l.self
