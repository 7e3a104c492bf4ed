use Rattle.std.proofs.Common.{◌<◌, List, length, sym, subst}
use Rattle.enet_sender.specs.Due.{SendingEnd}
use Rattle.enet_senders.specs.Senders.{ends_in}
use Rattle.enet_senders.specs.Sets.{KeepsSets}
use Rattle.enet_senders.proofs.Sets.{keeps-submitted}
use Rattle.enet_senders.proofs.senders.MadeSenders.submit.Goals as goal

pub invariant_of-self : goal.invariant_of-self
invariant_of-self c =
    let inside = subst (λ (es : List SendingEnd). c.args.channel < length es) (sym c.self.view_is) c.requires.channel in record {
      kept = c.submit_on.ensures.kept;
      sets = subst (λ (es : List SendingEnd). KeepsSets c.self.inside.ready c.self.inside.flying es) (sym c.in_err-submit_on.ensures.refused.0) c.self.invariant.sets;
    }

pub invariant_of-self-2 : goal.invariant_of-self-2
invariant_of-self-2 c =
    let inside = subst (λ (es : List SendingEnd). c.args.channel < length es) (sym c.self.view_is) c.requires.channel in record {
      kept = c.submit_on.ensures.kept;
      sets = keeps-submitted c.self.inside.ready c.self.inside.flying _ c.args.mtu c.args.flags c.args.body.now (ends_in c.self.inside.pending c.self.inside.channels.items) _ c.args.channel inside
          c.in_ok-submit_on.ensures.queued c.insert.ensures.others c.insert.ensures.this c.self.invariant.sets;
    }
