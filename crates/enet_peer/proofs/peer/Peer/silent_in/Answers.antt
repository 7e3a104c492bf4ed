use Rattle.std.proofs.Common.{ℕ, ◌-◌, leb, sym, ap, subst, ◌∙◌, arith}
use Rattle.enet_rtt.specs.Clock.{elapsed_time, HappensIn}
use Rattle.enet_rtt.proofs.Waits.{passes-in}
use Rattle.enet_peer.specs.Peered.{Peered}
use Rattle.enet_peer.proofs.peer.Peer.silent_in.Goals as goal

pub returns : goal.returns
returns c =
    let s = c.self.inside in
    let now = c.args.now in
    subst (λ (v : Peered). HappensIn (λ (later : ℕ). leb v.peer.ping_interval (elapsed_time later v.peer.heard)) now c.saturating_sub.result) c.self.view_is
    (subst (λ (n : ℕ). HappensIn (λ (later : ℕ). leb s.ping_interval (elapsed_time later s.heard)) now n) (sym (c.saturating_sub.ensures ∙ ap (λ (n : ℕ). s.ping_interval - n) c.elapsed.ensures))
    (passes-in now s.heard s.ping_interval (omega arith) (omega arith) (omega arith)))
