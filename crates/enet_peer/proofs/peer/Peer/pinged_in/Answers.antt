use Rattle.std.proofs.Common.{ℕ, false, leb, sym, ◌∙◌}
use Rattle.enet_rtt.specs.Clock.{elapsed_time}
use Rattle.enet_rtt.proofs.Waits.{never, same-in}
use Rattle.enet_outbox.specs.Outbox.{has_nothing_reliable}
use Rattle.enet_peer.specs.Calls.{is_connected, is_pinged}
use Rattle.enet_peer.proofs.Calm.{none-pinged, some-pinged}
use Rattle.enet_peer.proofs.peer.Peer.pinged_in.Goals as goal

pub returns-then-awaits_ping : goal.returns-then-awaits_ping
returns-then-awaits_ping c =
    let p = c.args.self.now.peer in
    same-in (λ (later : ℕ). leb p.ping_interval (elapsed_time later p.heard)) (is_pinged p) c.args.now c.silent_in.result
    (λ later. some-pinged (is_connected p.state) (has_nothing_reliable p.outbox) (leb p.ping_interval (elapsed_time later p.heard)) (sym c.awaits_ping.ensures.awaits ∙ c.if-awaits_ping.true)) c.silent_in.ensures

pub returns : goal.returns
returns c =
    let p = c.args.self.now.peer in
    same-in (λ (later : ℕ). false) (is_pinged p) c.args.now 4294967295
    (λ later. sym (none-pinged (is_connected p.state) (has_nothing_reliable p.outbox) (leb p.ping_interval (elapsed_time later p.heard)) (sym c.awaits_ping.ensures.awaits ∙ c.if-awaits_ping.false))) (never c.args.now)
