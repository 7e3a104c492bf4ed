use Rattle.std.proofs.Common.{ℕ, leb, sym, subst, ◌||◌}
use Rattle.enet_rtt.specs.Clock.{elapsed_time, HappensIn}
use Rattle.enet_rtt.proofs.Waits.{either-in}
use Rattle.enet_outbox.specs.Outbox.{has_late, has_nothing_reliable}
use Rattle.enet_peer.specs.Peered.{Peered}
use Rattle.enet_peer.specs.Calls.{is_connected, is_due, is_over, is_pinged}
use Rattle.enet_peer.proofs.Calm.{late-first, nothing-moved}
use Rattle.enet_peer.proofs.peer.Peer.due_in.Goals as goal

pub returns-then-late-silent_in-clause-calm : goal.returns-then-late-silent_in-clause-calm
returns-then-late-silent_in-clause-calm c =
    let p = c.args.self.now.peer in
    let now = c.args.now in
    let late = c.min-late.result in
    let first : HappensIn (λ (later : ℕ). is_over p later || has_late p.outbox later) now late =
    subst (λ (n : ℕ). HappensIn (λ (later : ℕ). is_over p later || has_late p.outbox later) now n) (sym c.min-late.ensures)
    (either-in (is_over p) (λ (later : ℕ). has_late p.outbox later) now c.over_in.result c.next_late.result c.over_in.ensures
    (subst (λ (v : Peered). HappensIn (λ (later : ℕ). has_late v.peer.outbox later) now c.next_late.result) c.self.view_is c.next_late.ensures)) in
    let happens : HappensIn (is_due p) now late =
    late-first (λ (later : ℕ). is_over p later || has_late p.outbox later) (λ (later : ℕ). leb p.ping_interval (elapsed_time later p.heard)) (is_connected p.state) (has_nothing_reliable p.outbox) now late c.silent_in.result
    first c.silent_in.ensures c.if-late-silent_in.true in
    λ later short low less. nothing-moved short p later (happens.before later low less)

pub returns-clause-calm : goal.returns-clause-calm
returns-clause-calm c =
    let p = c.args.self.now.peer in
    let now = c.args.now in
    let late = c.min-late.result in
    let first : HappensIn (λ (later : ℕ). is_over p later || has_late p.outbox later) now late =
    subst (λ (n : ℕ). HappensIn (λ (later : ℕ). is_over p later || has_late p.outbox later) now n) (sym c.min-late.ensures)
    (either-in (is_over p) (λ (later : ℕ). has_late p.outbox later) now c.over_in.result c.next_late.result c.over_in.ensures
    (subst (λ (v : Peered). HappensIn (λ (later : ℕ). has_late v.peer.outbox later) now c.next_late.result) c.self.view_is c.next_late.ensures)) in
    let happens : HappensIn (is_due p) now c.min.result = subst (λ (n : ℕ). HappensIn (is_due p) now n) (sym c.min.ensures)
    (either-in (λ (later : ℕ). is_over p later || has_late p.outbox later) (is_pinged p) now late c.pinged_in.result first c.pinged_in.ensures) in
    λ later short low less. nothing-moved short p later (happens.before later low less)
