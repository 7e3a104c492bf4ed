use Rattle.std.proofs.Common.{ℕ, ◌-◌, leb, sym, ap, subst, ◌∙◌, arith}
use Rattle.enet_rtt.specs.Clock.{elapsed_time, HappensIn}
use Rattle.enet_rtt.proofs.Waits.{passes-in}
use Rattle.enet_peer.specs.Peered.{Peered}
use Rattle.enet_peer.proofs.peer.Peer.aged_in.Goals as goal

pub returns : goal.returns
returns c =
    let s = c.self.inside in
    let now = c.args.now in
    subst (λ (v : Peered). HappensIn (λ (later : ℕ). leb 7500 (elapsed_time later v.peer.made)) now c.saturating_sub.result) c.self.view_is
    (subst (λ (n : ℕ). HappensIn (λ (later : ℕ). leb 7500 (elapsed_time later s.made)) now n) (sym (c.saturating_sub.ensures ∙ ap (λ (n : ℕ). n - c.elapsed.result) c.answering_time.ensures ∙ ap (λ (n : ℕ). 7500 - n) c.elapsed.ensures))
    (passes-in now s.made 7500 (omega arith) (omega arith) (omega arith)))
