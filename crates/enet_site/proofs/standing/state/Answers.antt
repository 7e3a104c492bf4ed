use Rattle.std.proofs.Common.{sym, ◌∙◌}
use Rattle.enet_site.proofs.Ended.{none-ended, one-ended}
use Rattle.enet_site.proofs.standing.state.Goals as goal

pub returns-in_err-peer : goal.returns-in_err-peer
returns-in_err-peer c = rw c.from_residual.ensures (sym (none-ended c.args.host.now.slots c.args.ends.now c.args.connection (sym c.peer_of.ensures ∙ c.in_err-peer.was)))

pub returns : goal.returns
returns c = c.state.ensures ∙ sym (one-ended c.args.host.now.slots c.args.ends.now c.args.connection c.in_ok-peer.peer (sym c.peer_of.ensures ∙ c.in_ok-peer.was))
