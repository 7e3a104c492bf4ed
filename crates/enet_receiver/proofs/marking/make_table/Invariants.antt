use Rattle.std.proofs.Common.{◌≡◌, ℕ, ◌-◌, length}
use Rattle.enet_receiver.specs.Blocks.{marked_in}
use Rattle.enet_receiver.proofs.marking.make_table.Given as goal

abbrev pub invariant-loop-blocks : goal.invariant-loop-blocks
invariant-loop-blocks l = (n : ℕ) → marked_in l.blocks.items n ≡ marked_in l.initial.blocks.items n

abbrev pub decreases-loop-blocks : goal.decreases-loop-blocks
decreases-loop-blocks l = 16 - length l.blocks.items
