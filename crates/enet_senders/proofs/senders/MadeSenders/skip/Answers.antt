use Rattle.std.proofs.Common.{◌<◌, List, length, sym, subst}
use Rattle.enet_sender.specs.Sender.{with_skipped}
use Rattle.enet_sender.specs.Due.{SendingEnd}
use Rattle.enet_senders.specs.Senders.{ends_in}
use Rattle.enet_senders.proofs.Sets.{keeps-fewer, still-skipped}
use Rattle.enet_senders.proofs.senders.MadeSenders.skip.Goals as goal

pub invariant_of-self : goal.invariant_of-self
invariant_of-self c =
    let inside = subst (λ (es : List SendingEnd). c.args.channel < length es) (sym c.self.view_is) c.requires in record {
      kept = c.skip_on.ensures.kept;
      sets = keeps-fewer c.self.inside.ready c.self.inside.flying (ends_in c.self.inside.pending c.self.inside.channels.items) _ c.args.channel with_skipped inside
          c.skip_on.ensures.ends still-skipped (λ s none. none) c.self.invariant.sets;
    }
