use Rattle.std.proofs.Common.{[], ◌∷◌, ◌++◌, Some, ap, ◌∙◌}
use Rattle.law_network.specs.Network.{HostEnd}
use Rattle.law_network.specs.Steps.{with_event}
use Rattle.enet_site.proofs.Takes.{word-keeps}
use Rattle.enet_site.proofs.taking.take_word.Goals as goal

pub returns-clause-keeps : goal.returns-clause-keeps
returns-clause-keeps c =
    let inside = c.end.inside in
    let e : HostEnd = record { connection = inside.connection; name = inside.name; mtu = inside.mtu; greatest = inside.greatest.items; channels = inside.channels.items; events = inside.events.items } in
    word-keeps c.in-Some.event e c.push_reserved.new.self.items (c.requires (Some c.in-Some.event) c.next_word.new.host c.in-Some.ensures.word)
    (c.push_reserved.ensures.items ∙ (λ i. c.reserve.ensures.items i ++ c.in-Some.ensures.same i ∷ []))
    ∙ ap (with_event c.in-Some.event) c.end.view_is
