use Rattle.std.proofs.Common.{◌≡◌, ℕ, ◌+◌, ◌++◌, List, Option, None, cond, slice_index_or, ap, ◌∙◌}
use Rattle.slab.specs.Slab.{get}
use Rattle.enet_seq.specs.Windows.{after}
use Rattle.enet_sender.specs.declared.course.Course.{Course}
use Rattle.enet_sender.specs.declared.sent.Sent.{Sent}
use Rattle.enet_sender.specs.Private.Course.{course_commands}
use Rattle.enet_sender.specs.Due.{SendingEnd}
use Rattle.enet_sender.specs.Pending.{named}
use Rattle.enet_sender.specs.Rings.{Rings, rings_of, commands_at}
use Rattle.enet_sender.proofs.outgoing.Outgoing.submit_long.Goals as goal

-- the end with all commands of a course
abbrev with_course : ℕ → List (Option Sent) → Rings → Course → List ℕ → SendingEnd
with_course channel slots r course body = record {
  channel = channel;
  sender = record {
    number = cond course.reliable (after r.number course.pieces) r.number;
    unreliable = cond course.reliable 0 (course.unreliable + 1);
    queued = commands_at (λ (key : ℕ). slice_index_or slots key None) r.queued ++ course_commands course body;
    sent = named (λ (key : ℕ). slice_index_or slots key None) r.sent;
  };
}

pub returns-clause-queued : goal.returns-clause-queued
returns-clause-queued c =
    let course = c.in-Some.course in
    let queues = c.queue_pieces.ensures.queues in
    let channel = queues.channel in
    let number = queues.last c.in-Some.ensures.limits.some_piece in
    let unreliable = c.unreliable_number-self.ensures in
    let queued = queues.queued in
    let sent = queues.sent in
    let channel_is = c.make_room.ensures.channel in
    let slots_is = c.make_room.ensures.slots in
    let rings_is = c.make_room.ensures.rings in
    let after_all : SendingEnd = with_course c.make_room.new.self.channel c.make_room.new.pending.slab.slots (rings_of c.make_room.new.self) course c.args.body.now in
    let all : SendingEnd = with_course c.args.self.now.channel c.args.pending.now.slab.slots (rings_of c.args.self.now) course c.args.body.now in
    let made : record {
      channel = c.queue_pieces.new.self.channel;
      sender = record {
        number = c.queue_pieces.new.self.number;
        unreliable = c.unreliable_number-self.result;
        queued = commands_at (get c.queue_pieces.new.pending.slab) c.queue_pieces.new.self.queued.items;
        sent = named (get c.queue_pieces.new.pending.slab) c.queue_pieces.new.self.sent.items;
      };
    } ≡ after_all = λ i. record { channel = channel i; sender = record { number = number i; unreliable = unreliable i; queued = queued i; sent = sent i } } in
    let moved : after_all ≡ all = λ i. with_course (channel_is i) (slots_is i) (rings_is i) course c.args.body.now in
    made ∙ moved ∙ ap (λ (k : Course). with_course c.args.self.now.channel c.args.pending.now.slab.slots (rings_of c.args.self.now) k c.args.body.now) c.in-Some.ensures.course
