use Rattle.std.proofs.Common.{◌≡◌, ℕ, ◌+◌, ◌*◌, ap, ap₂, subst, sym, ◌∙◌}
use Rattle.enet_codec.specs.declared.config.Config.{Config}
use Rattle.enet_peer.specs.declared.held.Held.{Held}
use Rattle.enet_peer.specs.Held.{most_of}
use Rattle.enet_host.specs.Held.{most_held}
use Rattle.enet_host.specs.Host.{Host}
use Rattle.enet_host.specs.Memory.{memory_of_held, memory_with}
use Rattle.enet_host.proofs.Weighing.{slots-weigh}
use Rattle.enet_host.proofs.host.HostCore.most_memory_held.Goals as goal

pub returns : goal.returns
returns c =
    let config : Config = c.self.inside.start.config in
    let one : c.memory_of_held.result ≡ memory_of_held (most_of config.max_packet config.max_waiting) =
    c.memory_of_held.ensures.value ∙ ap (λ (h : Held). memory_of_held h) c.most_of-most.ensures.value in
    subst (λ (h : Host). 4096 + c.from.result * (9216 + c.memory_of_held.result) ≡ memory_with h.config.peers (most_held h.config)) c.self.view_is
    (ap₂ (λ (n m : ℕ). 4096 + n * (9216 + m)) c.from.ensures one ∙ sym (slots-weigh config.peers (most_of config.max_packet config.max_waiting)))
