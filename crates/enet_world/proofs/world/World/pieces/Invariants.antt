use Rattle.std.proofs.Common.{◌≡◌, ◌≤◌, ◌-◌, min}
use Rattle.enet_world.specs.Needed.{pieces_below}
use Rattle.enet_world.proofs.world.World.pieces.Given as goal

abbrev pub invariant-channels : goal.invariant-channels
invariant-channels l = record {
  counted : l.pieces ≡ min (pieces_below l.self.world l.conn l.side l.channel) 18446744073709551615;
  end : l.channel ≤ 255;
}

abbrev pub decreases-channels : goal.decreases-channels
decreases-channels l = 255 - l.channel
