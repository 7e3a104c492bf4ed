use Rattle.std.proofs.Common.{◌≡◌, take}
use Rattle.std.specs.List.{fold}
use Rattle.law_network.specs.Log.{counted}
use Rattle.enet_site.proofs.numbers.count_all.Given as goal

abbrev pub invariant-loop-mark : goal.invariant-loop-mark
invariant-loop-mark l = l.greatest ≡ fold counted l.initial.greatest (take l.mark-index l.marks)
