use Rattle.std.proofs.Common.{rules, None, sym, subst, ◌∙◌}
use Rattle.enet_peer.specs.contracts.peer.Peer.{the_view}
use Rattle.enet_peer.specs.Peered.{Peered}
use Rattle.enet_peer.specs.Peering.{Peering}
use Rattle.enet_peer.specs.Calls.{Takes, next_event}
use Rattle.enet_peer.proofs.Taking.{nothing-taken}
use Rattle.enet_peer.proofs.peer.Peer.next_event.Goals as goal

pub returns-in-Ended : goal.returns-in-Ended
returns-in-Ended c = search rules

pub returns : goal.returns
returns c =
    let p : Peering = (the_view c.self.inside).peer in
    subst (λ (v : Peered). Takes None (next_event v.peer) v.peer (record p { inbox = c.take.new.self })) c.self.view_is
    (nothing-taken p c.take.new.self c.in_default.is (sym c.in_default-take.is ∙ c.take.ensures.first) c.in_default-state.not-Ended c.take.ensures.rest)
