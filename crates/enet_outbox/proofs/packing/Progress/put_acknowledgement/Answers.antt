use Rattle.std.proofs.Common.{arith}
use Rattle.enet_outbox.specs.Emission.{acknowledgement_of}
use Rattle.enet_outbox.proofs.Fillings.{fits-written, holds-written, holds-back}
use Rattle.enet_outbox.proofs.packing.Progress.put_acknowledgement.Goals as goal

pub returns : goal.returns
returns c = λ f h.
    let m = acknowledgement_of c.args.what in
    (fits-written m h (omega arith) c.in_ok-past.ensures.written, λ o. rw c.with.ensures (holds-written m h (omega arith) c.in_ok-past.ensures.written c.in_ok-past.ensures.spells.message o), holds-back h c.in_ok-past.ensures.written)
