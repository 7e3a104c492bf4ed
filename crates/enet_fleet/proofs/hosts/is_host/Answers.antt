use Rattle.std.proofs.Common.{sym, ◌∙◌}
use Rattle.enet_fleet.proofs.Places.{is-host}
use Rattle.enet_fleet.proofs.hosts.is_host.Goals as goal

pub returns : goal.returns
returns c = c.is_host_by.ensures ∙ sym (is-host c.args.clients c.args.address)
