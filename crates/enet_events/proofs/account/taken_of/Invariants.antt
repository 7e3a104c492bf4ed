use Rattle.std.proofs.Common.{◌≡◌, ◌==◌, drop}
use Rattle.std.specs.List.{find}
use Rattle.enet_events.proofs.account.taken_of.Given as goal

abbrev pub invariant-loop-taker : goal.invariant-loop-taker
invariant-loop-taker l = find (λ t. t.index == l.index) l.all ≡ find (λ t. t.index == l.index) (drop l.taker-index l.all)
