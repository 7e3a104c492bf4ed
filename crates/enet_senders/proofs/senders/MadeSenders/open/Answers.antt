use Rattle.std.proofs.Common.{ap}
use Rattle.enet_senders.specs.Senders.{ends_in}
use Rattle.enet_senders.proofs.Each.{keeps-nil}
use Rattle.enet_senders.proofs.Sets.{keeps-new}
use Rattle.enet_senders.proofs.senders.MadeSenders.open.Goals as goal

pub invariant_of-result : goal.invariant_of-result
invariant_of-result c =
    let p = c.in_ok-open.field-0 in record {
      kept = rw c.new.ensures.items (keeps-nil p.slab c.in_ok-open.ensures.empty);
      sets = keeps-new _ _ 0 0 _ (ap (ends_in p) c.new.ensures.items);
    }

pub returns-clause-senders : goal.returns-clause-senders
returns-clause-senders c = ap (ends_in c.in_ok-open.field-0) c.new.ensures.items
