use Rattle.std.proofs.Common.{refl, arith}
use Rattle.enet_host.proofs.Turning.{early-turn, late-turn}
use Rattle.enet_host.proofs.turns.slot_of_turn.Goals as goal

pub returns-then-turn-until_the_end-clause-place : goal.returns-then-turn-until_the_end-clause-place
returns-then-turn-until_the_end-clause-place c = early-turn c.args.peers c.args.from _ c.args.turn refl

pub returns-else-turn-until_the_end-clause-place : goal.returns-else-turn-until_the_end-clause-place
returns-else-turn-until_the_end-clause-place c = late-turn c.args.peers c.args.from _ c.args.turn c.requires.0 c.requires.1 (omega arith) refl
