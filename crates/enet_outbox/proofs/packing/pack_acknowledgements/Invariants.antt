use Rattle.std.proofs.Common.{◌≡◌, ◌≤◌, ◌-◌, false, length}
use Rattle.std.specs.VecDeque.{deque_len, deque_capacity}
use Rattle.enet_outbox.specs.Emission.{Filling, with_acknowledgements}
use Rattle.enet_outbox.specs.Private.Packing.{Holds}
use Rattle.enet_outbox.proofs.Stages.{more_acknowledgements}
use Rattle.enet_outbox.proofs.packing.pack_acknowledgements.Given as goal

abbrev pub invariant-acknowledgements : goal.invariant-acknowledgements
invariant-acknowledgements l = record {
  stage : (f : Filling) → Holds f l.initial.progress l.initial.buf → f.closed ≡ false → f.outbox.acknowledgements ≡ l.initial.acknowledgements.items →
      (g : Filling) × Holds g l.progress l.buf × (g.closed ≡ false) × (g.outbox ≡ record f.outbox { acknowledgements = l.acknowledgements.items })
      × (with_acknowledgements f ≡ more_acknowledgements l.acknowledgements.items g);
  room : deque_capacity l.initial.acknowledgements - deque_len l.initial.acknowledgements ≤ deque_capacity l.acknowledgements - deque_len l.acknowledgements;
  fewer : length l.acknowledgements.items ≤ length l.initial.acknowledgements.items;
}

abbrev pub decreases-acknowledgements : goal.decreases-acknowledgements
decreases-acknowledgements l = deque_len l.acknowledgements
