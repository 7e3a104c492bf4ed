use Rattle.enet_captured.specs.Parts.{AreParts}
use Rattle.enet_captured.proofs.part.parts_of.Given as goal

-- what is told of the connections so far
abbrev pub invariant-loop-index : goal.invariant-loop-index
invariant-loop-index l = AreParts l.timeline l.asked l.index l.parts.items
