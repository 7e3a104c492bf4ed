use Rattle.std.proofs.Common.{◌≡◌, ◌<◌, List, length, sym, ap, subst, ◌∙◌}
use Rattle.std.specs.List.{slice_get}
use Rattle.enet_sender.specs.declared.outgoing.Outgoing.{Outgoing}
use Rattle.enet_sender.specs.Due.{SendingEnd}
use Rattle.enet_sender.specs.declared.outgoing.Due.TheVariants as due
use Rattle.enet_senders.specs.Senders.{ends_in}
use Rattle.enet_senders.specs.Sets.{KeepsSets}
use Rattle.enet_senders.proofs.Sets.{keeps-sent, keeps-still, same-unsent, inside-due}
use Rattle.enet_senders.proofs.senders.MadeSenders.next_due.Goals as goal

pub invariant_of-self : goal.invariant_of-self
invariant_of-self c =
    let inside = subst (λ (es : List SendingEnd). c.args.channel < length es) (sym c.self.view_is) c.requires in record {
      kept = c.next_due_on-due.ensures.kept;
      sets = keeps-sent c.self.inside.ready c.self.inside.flying _ c.args.occasion (ends_in c.self.inside.pending c.self.inside.channels.items) _
          c.args.channel c.next_due_on-due.result c.args.buf.now c.args.at c.next_due_on-due.new.buf inside c.next_due_on-due.ensures.did c.note_sent.ensures.others
          (λ e lacks there. c.note_sent.ensures.this e lacks (ap (λ (os : List Outgoing). slice_get (ends_in c.next_due_on-due.new.pending os) c.args.channel) c.deref.ensures.value ∙ there)) c.self.invariant.sets;
    }

pub note_sent-requires-clause-inside : goal.note_sent-requires-clause-inside
note_sent-requires-clause-inside c =
    let inside = subst (λ (es : List SendingEnd). c.args.channel < length es) (sym c.self.view_is) c.requires in
    subst (λ (os : List Outgoing). c.args.channel < length os) (sym c.deref.ensures.value)
    (inside-due c.args.occasion (ends_in c.self.inside.pending c.self.inside.channels.items) c.next_due_on-due.new.pending.slab c.next_due_on-due.new.channels.items
    c.args.channel c.next_due_on-due.result c.args.buf.now c.args.at c.next_due_on-due.new.buf inside c.next_due_on-due.ensures.did)

pub note_still-requires-clause-inside : goal.note_still-requires-clause-inside
note_still-requires-clause-inside c =
    let inside = subst (λ (es : List SendingEnd). c.args.channel < length es) (sym c.self.view_is) c.requires in
    subst (λ (os : List Outgoing). c.args.channel < length os) (sym c.deref-in-Nothing.ensures.value)
    (inside-due c.args.occasion (ends_in c.self.inside.pending c.self.inside.channels.items) c.next_due_on-due.new.pending.slab c.next_due_on-due.new.channels.items
    c.args.channel c.next_due_on-due.result c.args.buf.now c.args.at c.next_due_on-due.new.buf inside c.next_due_on-due.ensures.did)

pub invariant_of-self-in-Nothing : goal.invariant_of-self-in-Nothing
invariant_of-self-in-Nothing c =
    let inside = subst (λ (es : List SendingEnd). c.args.channel < length es) (sym c.self.view_is) c.requires in
    let es = ends_in c.self.inside.pending c.self.inside.channels.items in
    let new = ends_in c.next_due_on-due.new.pending c.next_due_on-due.new.channels.items in
    let same : new ≡ es = same-unsent c.args.occasion es new c.args.channel due.Nothing c.args.buf.now c.args.at c.next_due_on-due.new.buf inside
    (λ past added price kind again is. absurd (cc)) c.in-Nothing.ensures.did in
    record {
      kept = c.next_due_on-due.ensures.kept;
      sets = keeps-still c.self.inside.ready c.self.inside.flying _ new c.args.channel c.note_still.ensures.others
          (λ e lacks there. c.note_still.ensures.this e lacks (ap (λ (os : List Outgoing). slice_get (ends_in c.next_due_on-due.new.pending os) c.args.channel) c.deref-in-Nothing.ensures.value ∙ there))
          (subst (λ (xs : List SendingEnd). KeepsSets c.self.inside.ready c.self.inside.flying xs) (sym same) c.self.invariant.sets);
    }

pub invariant_of-self-in-NoRoom : goal.invariant_of-self-in-NoRoom
invariant_of-self-in-NoRoom c =
    let inside = subst (λ (es : List SendingEnd). c.args.channel < length es) (sym c.self.view_is) c.requires in
    let es = ends_in c.self.inside.pending c.self.inside.channels.items in
    let new = ends_in c.next_due_on-due.new.pending c.next_due_on-due.new.channels.items in
    let same : new ≡ es = same-unsent c.args.occasion es new c.args.channel due.NoRoom c.args.buf.now c.args.at c.next_due_on-due.new.buf inside
    (λ past added price kind again is. absurd (cc)) c.in-NoRoom.ensures.did in
    record {
      kept = c.next_due_on-due.ensures.kept;
      sets = subst (λ (xs : List SendingEnd). KeepsSets c.self.inside.ready c.self.inside.flying xs) (sym same) c.self.invariant.sets;
    }

pub invariant_of-self-in-Full : goal.invariant_of-self-in-Full
invariant_of-self-in-Full c =
    let inside = subst (λ (es : List SendingEnd). c.args.channel < length es) (sym c.self.view_is) c.requires in
    let es = ends_in c.self.inside.pending c.self.inside.channels.items in
    let new = ends_in c.next_due_on-due.new.pending c.next_due_on-due.new.channels.items in
    let same : new ≡ es = same-unsent c.args.occasion es new c.args.channel due.Full c.args.buf.now c.args.at c.next_due_on-due.new.buf inside
    (λ past added price kind again is. absurd (cc)) c.in-Full.ensures.did in
    record {
      kept = c.next_due_on-due.ensures.kept;
      sets = subst (λ (xs : List SendingEnd). KeepsSets c.self.inside.ready c.self.inside.flying xs) (sym same) c.self.invariant.sets;
    }
