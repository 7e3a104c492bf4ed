-- A peer that has to acknowledge the other end's DISCONNECT does so at once, and has ended.
use Rattle.std.proofs.Common.{◌≡◌, ℕ, ◌%◌, ◌^◌, Bool, List, [], ◌∷◌, refl, sym, ap, subst, ◌∙◌, arith}
use Rattle.enet_rtt.specs.declared.expiry.Expiry.{Expiry}
use Rattle.enet_rtt.specs.declared.expiry.Expiry.TheVariants.{No, Resend, End}
use Rattle.enet_outbox.specs.Emission.{filled}
use Rattle.enet_peer.specs.declared.parts.PeerState.TheVariants as state
use Rattle.enet_peer.specs.Peering.{Peering}
use Rattle.enet_peer.specs.Calls.{pace_of, expiry_of, gone_on_in, moved, pinged, after_timeouts_by}
use Rattle.law_progress.specs.Attempts.{Step, Stays, Turn, Turns, LastsAtMost}
use Rattle.law_progress.proofs.Moving.{moved-elsewhere}

at-end : (moment : ℕ) (steps : List Step) (p q : Peering) → Stays state.AckDisconnect moment steps p q → q.state ≡ state.AckDisconnect
at-end moment [] p q h = ap (λ (x : Peering). x.state) (sym h.1) ∙ h.0
at-end moment (step ∷ steps) p q h = at-end moment steps _ q h.1

at-first : (moment : ℕ) (steps : List Step) (p q : Peering) → Stays state.AckDisconnect moment steps p q → p.state ≡ state.AckDisconnect
at-first moment [] p q h = h.0
at-first moment (step ∷ steps) p q h = h.0

-- after its turn it has ended, and stays so
turn-ends : (now : ℕ) (p q : Peering) → Turn state.AckDisconnect now p q → q.state ≡ state.Ended
turn-ends now p q turn =
    let last = turn.last in
    let r : Peering = record last { outbox = (filled (pace_of last (now % 2 ^ 32)) last.outbox).outbox } in
    ap (λ (x : Peering). x.state) turn.after ∙ ap (λ s. (gone_on_in s r).state) (at-end (now % 2 ^ 32) turn.steps (moved turn.short p (now % 2 ^ 32)) last turn.stays)

ended-stays : (short : Bool) (p : Peering) (n : ℕ) → p.state ≡ state.Ended → (moved short p n).state ≡ state.Ended
ended-stays short p n e = subst (λ (x : Peering). (moved short x n).state ≡ state.Ended) at (subst (λ (x : Peering). x.state ≡ state.Ended) (sym (moved-elsewhere short old n refl)) (by (expiry_of old n)))
  where
    old : Peering
    old = record p { state = state.Ended }

    at : old ≡ p
    at = ap (λ s. record p { state = s }) (sym e)

    by : (x : Expiry) → (pinged (after_timeouts_by x old n) n).state ≡ state.Ended
    by End = refl
    by Resend = refl
    by No = refl

no-turn : (now : ℕ) (p q : Peering) → p.state ≡ state.Ended → Turn state.AckDisconnect now p q → ⊥
no-turn now p q e turn =
    let f : state.Ended ≡ state.AckDisconnect = sym (ended-stays turn.short p (now % 2 ^ 32) e) ∙ at-first (now % 2 ^ 32) turn.steps (moved turn.short p (now % 2 ^ 32)) turn.last turn.stays in
    cc

no-turns : (gap now : ℕ) (later : List ℕ) (p q : Peering) → p.state ≡ state.Ended → Turns state.AckDisconnect gap now p later q → ⊥
no-turns gap now [] p q e turn = no-turn now p q e turn
no-turns gap now (next ∷ later) p q e (r, turn, up, down, rest) = no-turn now p r e turn

pub acknowledging-ends : (p : Peering) → LastsAtMost state.AckDisconnect p 0
acknowledging-ends p gap now [] q near turn = omega arith
acknowledging-ends p gap now (next ∷ later) q near (r, turn, up, down, rest) = absurd (no-turns gap next later r q (turn-ends now p r turn) rest)
