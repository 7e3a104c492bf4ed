use Rattle.std.proofs.Common.{◌≡◌, ◌-◌, ℕ, List, length, drop, ◌*◌, ap, ◌∙◌, arith}
use Rattle.std.proofs.lemmas.List.{length-take}
use Rattle.std.proofs.lemmas.List.FromFn.{length-map-range_with_len}
use Rattle.slab.specs.Slab.{get}
use Rattle.enet_fragment.specs.Cutting.{piece_length}
use Rattle.enet_fragment.specs.declared.data.DataCommand.{DataCommand}
use Rattle.enet_sender.specs.Sender.{piece_of_body}
use Rattle.enet_sender.specs.Course.{command_of}
use Rattle.enet_sender.proofs.Piecing.{pieces-next, queues-more}
use Rattle.enet_sender.proofs.outgoing.Outgoing.queue_pieces.Goals as goal

pub unreachable-requires : goal.unreachable-requires
unreachable-requires c =
    let piece = piece_of_body (piece_length c.args.course.mtu) c.args._body.now in
    let many = ap (λ (xs : List (List ℕ)). length xs) c.loop-i.invariant.pieces ∙ length-map-range_with_len piece c.loop-i.i (c.args.course.pieces - c.loop-i.i) in
    omega (arith, c.in_default.ensures.cases.0, c.loop-i.pieces.ok.0, c.loop-i-test.true)

pub queue-requires-clause-short : goal.queue-requires-clause-short
queue-requires-clause-short c =
    let body = c.args._body.now in
    let size = piece_length c.args.course.mtu in
    let next = pieces-next (piece_of_body size body) c.loop-i.i c.args.course.pieces _ _ c.in-Some.piece c.loop-i-test.true c.in-Some.ensures.items c.loop-i.invariant.pieces in
    let is : length c.command.result.body ≡ length (piece_of_body size body c.loop-i.i) = ap (λ (d : DataCommand). length d.body) c.command.ensures ∙ ap (λ (x : List ℕ). length x) next.0 in
    let most = length-take size (drop (c.loop-i.i * size) body) in
    omega (arith, c.requires.course.high)

pub loop-i-preserved : goal.loop-i-preserved
loop-i-preserved c =
    let body = c.args._body.now in
    let size = piece_length c.args.course.mtu in
    let next = pieces-next (piece_of_body size body) c.loop-i.i c.args.course.pieces _ _ c.in-Some.piece c.loop-i-test.true c.in-Some.ensures.items c.loop-i.invariant.pieces in
    record {
      queues = queues-more c.args.course body c.loop-i.i (get c.args.pending.now.slab) c.args.self.now c.loop-i.pending.slab c.queue.new.pending.slab c.loop-i.self c.queue.new.self c.command.result
          c.loop-i.invariant.queues (c.command.ensures ∙ ap (command_of c.args.course c.loop-i.i) next.0) c.requires.number c.queue.ensures.kept c.queue.ensures.passes c.queue.ensures.queued;
      pieces = next.1;
      slab_len = omega (arith, c.queue.ensures.slab_room, c.loop-i.invariant.slab_len);
      slab_capacity = c.queue.ensures.slab_capacity ∙ c.loop-i.invariant.slab_capacity;
      len = omega (arith, c.queue.ensures.places, c.loop-i.invariant.len);
      capacity = c.queue.ensures.capacity ∙ c.loop-i.invariant.capacity;
      sent = c.queue.ensures.sent ∙ c.loop-i.invariant.sent;
    }
