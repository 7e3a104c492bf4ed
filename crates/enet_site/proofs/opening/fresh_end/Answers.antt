use Rattle.std.proofs.Common.{◌∙◌}
use Rattle.enet_site.proofs.RecordsFresh.{fresh-numbers}
use Rattle.enet_site.proofs.opening.fresh_end.Goals as goal

pub returns-clause-fresh : goal.returns-clause-fresh
returns-clause-fresh c =
    λ i. record {
      connection = c.args.connection;
      name = c.args.name;
      mtu = 0;
      greatest = (c.in_ok-first_numbers.ensures.first ∙ fresh-numbers) i;
      channels = c.in_ok-fresh_channels.ensures.fresh i;
      events = c.new.ensures.items i;
    }
