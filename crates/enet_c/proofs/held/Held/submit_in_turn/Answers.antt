use Rattle.std.proofs.Common.{refl}
use Rattle.enet_c.proofs.InTurn.{wrote-more}
use Rattle.enet_c.proofs.held.Held.submit_in_turn.Goals as goal

pub loop-place-preserved : goal.loop-place-preserved
loop-place-preserved c =
    wrote-more c.args.channel (record { flags = c.args.flags; body = c.args.body.now }) c.args.peers.now c.loop-place.place c.submit_shared.result _ c.into_name.result c.args.answers.now c.loop-place.answers _
    c.args.self.now c.loop-place.self c.submit_shared.new.self c.loop-place-test.true c.requires c.into_name.ensures c.loop-place.invariant c.submit_shared.ensures refl
