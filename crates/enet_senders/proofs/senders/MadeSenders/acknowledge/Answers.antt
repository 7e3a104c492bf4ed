use Rattle.std.proofs.Common.{◌<◌, List, length, sym, ap, subst, ◌∙◌}
use Rattle.std.specs.List.{slice_get}
use Rattle.enet_sender.specs.Sender.{Sender, after_match}
use Rattle.enet_sender.specs.declared.outgoing.Outgoing.{Outgoing}
use Rattle.enet_sender.specs.Due.{SendingEnd}
use Rattle.enet_senders.specs.Senders.{ends_in}
use Rattle.enet_senders.proofs.Sets.{slice_get-some}
use Rattle.enet_senders.proofs.Sets.{keeps-changed, still-matched, inside-changed}
use Rattle.enet_senders.proofs.senders.MadeSenders.acknowledge.Goals as goal

pub note_sent-requires-clause-inside : goal.note_sent-requires-clause-inside
note_sent-requires-clause-inside c =
    let es = ends_in c.self.inside.pending c.self.inside.channels.items in
    let inside = subst (λ (es : List SendingEnd). c.args.channel < length es) (sym c.self.view_is) c.requires in
    let one = slice_get-some es c.args.channel inside in
    subst (λ (os : List Outgoing). c.args.channel < length os) (sym c.deref.ensures.value)
    (inside-changed es c.acknowledge_on-told.new.pending.slab c.acknowledge_on-told.new.channels.items c.args.channel _ inside (c.acknowledge_on-told.ensures.ends one.0 one.1))

pub invariant_of-self : goal.invariant_of-self
invariant_of-self c =
    let inside = subst (λ (es : List SendingEnd). c.args.channel < length es) (sym c.self.view_is) c.requires in record {
      kept = c.acknowledge_on-told.ensures.kept;
      sets = keeps-changed c.self.inside.ready c.self.inside.flying _ (ends_in c.self.inside.pending c.self.inside.channels.items) _ c.args.channel (λ (s : Sender). after_match s c.args.number c.acknowledge_on-told.result) inside
          c.acknowledge_on-told.ensures.ends (λ s h. still-matched s c.args.number c.acknowledge_on-told.result h) c.note_sent.ensures.others
          (λ e lacks there. c.note_sent.ensures.this e lacks (ap (λ (os : List Outgoing). slice_get (ends_in c.acknowledge_on-told.new.pending os) c.args.channel) c.deref.ensures.value ∙ there)) c.self.invariant.sets;
    }
