use Rattle.std.proofs.Common.{◌∙◌}
use Rattle.enet_site.proofs.RecordsFresh.{joined-numbers}
use Rattle.enet_site.proofs.opening.joined_end.Goals as goal

pub returns-clause-fresh : goal.returns-clause-fresh
returns-clause-fresh c =
    λ i. record {
      connection = 0;
      name = record { slot = 0; generation = 0 };
      mtu = 0;
      greatest = (c.in_ok-first_numbers.ensures.first ∙ joined-numbers) i;
      channels = c.in_ok-fresh_channels.ensures.fresh i;
      events = c.new.ensures.items i;
    }
