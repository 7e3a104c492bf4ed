use Rattle.std.proofs.Common.{ℕ, ◌+◌, arith}
use Rattle.enet_codec.specs.Config.{is_in_range}
use Rattle.enet_site.proofs.Opens.{all-at, opened-more}
use Rattle.enet_site.proofs.places.open_clients.Goals as goal

pub loop-i-preserved : goal.loop-i-preserved
loop-i-preserved c = record {
  items =
      opened-more (λ (i : ℕ). record { ip = c.args.ip; port = c.args.first_port + i }) c.args.configs.now c.loop-i.i _ c.in-Ok-open.place c.loop-i.places.items c.push_reserved.new.self.items c.loop-i-test.true c.loop-i.invariant.items
      c.in-Ok-open.ensures.fresh c.push_reserved.ensures.items;
  len = omega arith;
  capacity = omega arith;
}

pub returns-in-Err-clause-memory : goal.returns-in-Err-clause-memory
returns-in-Err-clause-memory c = c.in-Err.ensures.in_range (all-at is_in_range c.args.configs.now c.loop-i.i _ c.requires.in_range c.loop-i-test.true)
