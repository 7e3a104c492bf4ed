use Rattle.std.proofs.Common.{ℕ, ◌++◌, ◌∷◌, [], List, Option, None, cond, slice_index_or, ap, ◌∙◌}
use Rattle.slab.specs.Slab.{get}
use Rattle.enet_fragment.specs.declared.data.DataCommand.{DataCommand}
use Rattle.enet_sender.specs.declared.sent.Sent.{Sent}
use Rattle.enet_sender.specs.Sender.{Sender}
use Rattle.enet_sender.specs.Course.{command_of}
use Rattle.enet_sender.specs.Due.{SendingEnd}
use Rattle.enet_sender.specs.Pending.{named}
use Rattle.enet_sender.specs.Rings.{Rings, rings_of, sender_of, commands_at}
use Rattle.enet_sender.proofs.Submitting.{submitted-short}
use Rattle.enet_sender.proofs.outgoing.Outgoing.submit_short.Goals as goal

-- the end with one command more
abbrev one_more : ℕ → List (Option Sent) → Rings → DataCommand → ℕ → SendingEnd
one_more channel slots r c unreliable = record {
  channel = channel;
  sender = record {
    number = cond c.reliable c.number r.number;
    unreliable = unreliable;
    queued = commands_at (λ (key : ℕ). slice_index_or slots key None) r.queued ++ c ∷ [];
    sent = named (λ (key : ℕ). slice_index_or slots key None) r.sent;
  };
}

pub returns-clause-queued : goal.returns-clause-queued
returns-clause-queued c =
    let unreliable = c.unreliable_number-self.result in
    let s : Sender = sender_of (get c.args.pending.now.slab) (rings_of c.args.self.now) in
    let channel_is = c.make_room.ensures.channel in
    let slots_is = c.make_room.ensures.slots in
    let rings_is = c.make_room.ensures.rings in
    let command_is = c.command.ensures ∙ ap (λ (b : List ℕ). command_of c.whole-course.result 0 b) c.replace-body.ensures.value in
    let unreliable_is = c.unreliable_number-self.ensures in
    ap (λ (e : SendingEnd). record e { sender = record e.sender { unreliable = unreliable } }) c.queue.ensures.queued
    ∙ (λ i. one_more (channel_is i) (slots_is i) (rings_is i) (command_is i) (unreliable_is i))
    ∙ ap (λ (x : Sender). record { channel = c.args.self.now.channel; sender = x }) (submitted-short c.args.mtu c.args.flags s c.args.body.now c.whole-course.result c.whole-course.ensures.course c.requires.low c.requires.short)
