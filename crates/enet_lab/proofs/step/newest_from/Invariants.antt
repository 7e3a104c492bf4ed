use Rattle.std.specs.Prelude.{◌≡◌, ◌⊎◌, true}
use Rattle.enet_lab.specs.Lines.{has_sent_from}
use Rattle.enet_lab.proofs.step.newest_from.Given as goal

-- a datagram has this number, or it is the first
abbrev pub invariant-loop-k : goal.invariant-loop-k
invariant-loop-k l = (has_sent_from l.fleet l.from l.k ≡ true) ⊎ (l.k ≡ 0)
