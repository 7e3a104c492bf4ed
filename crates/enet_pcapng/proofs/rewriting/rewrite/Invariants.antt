use Rattle.std.proofs.Common.{length}
use Rattle.enet_pcapng.specs.Rewritten.{Rewrites}
use Rattle.enet_pcapng.proofs.rewriting.rewrite.Given as goal

abbrev pub invariant-blocks-2 : goal.invariant-blocks-2
invariant-blocks-2 l = Rewrites l.input l.section l.rest l.packets.items

abbrev pub decreases-blocks-2 : goal.decreases-blocks-2
decreases-blocks-2 l = length l.rest
