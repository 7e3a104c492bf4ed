use Rattle.std.proofs.Common.{ℕ, ◌<◌, length}
use Rattle.enet_submit.specs.History.{of}
use Rattle.enet_submit.specs.Words.{HasSent, taken}
use Rattle.enet_submit.proofs.settling.all_back.Given as goal

abbrev pub invariant-loop-seat : goal.invariant-loop-seat
invariant-loop-seat l = (s : ℕ) → s < l.seat → HasSent s (length (of s (taken l.drain))) l.finished
