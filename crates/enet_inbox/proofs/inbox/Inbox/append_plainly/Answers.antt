use Rattle.std.proofs.Common.{◌<◌, ◌≤◌, ◌^◌, length, sym, ap, subst, ◌∙◌, arith}
use Rattle.enet_inbox.specs.Inbox.{Inbox, is_full}
use Rattle.enet_inbox.specs.InboxParts.{inbox_of}
use Rattle.enet_inbox.proofs.Keeping.{keeps_pushed, push_fits}
use Rattle.enet_inbox.proofs.Limits.{bounded_unsequenced}
use Rattle.enet_inbox.proofs.Made.{all_full}
use Rattle.enet_inbox.proofs.inbox.Inbox.append_plainly.Goals as goal

pub overflow_add-self : goal.overflow_add-self
overflow_add-self c =
    let i = c.self.inside in
    let b = inbox_of i.max_packet i.max_waiting i.receivers.items i.groups i.untaken.items in
    let few : length i.untaken.items < 2 ^ 63 = omega (arith, i.untaken.ok.0, i.untaken.small.0, i.untaken.small.1) in
    let short : length c.args.payload.now < 2 ^ 63 = omega arith in
    let fits = push_fits b i.waiting (length c.args.payload.now) c.self.invariant.inbox few short in
    omega arith

pub invariant_of-self-2 : goal.invariant_of-self-2
invariant_of-self-2 c =
    let i = c.self.inside in
    let b = inbox_of i.max_packet i.max_waiting i.receivers.items i.groups i.untaken.items in
    let short : length c.args.payload.now < 2 ^ 63 = omega arith in
    record {
      inbox = keeps_pushed b i.waiting c.mark.new.self (record { channel = c.args.channel; flags = 2; body = c.args.payload.now }) c.append.new.untaken.items c.self.invariant.inbox short (c.append.ensures.added c.if-not-append.false);
      places = c.self.invariant.places;
      bounded = bounded_unsequenced b c.mark.new.self (record { channel = c.args.channel; flags = 2; body = c.args.payload.now }) c.append.new.untaken.items c.self.invariant.bounded (sym (all_full i.channels b) ∙ ap (λ (x : Inbox). is_full x) c.self.view_is ∙ c.requires.room) (subst (λ (x : Inbox). length c.args.payload.now ≤ x.max_packet) (sym c.self.view_is) c.requires.short) (c.append.ensures.added c.if-not-append.false);
      within = c.self.invariant.within;
    }
