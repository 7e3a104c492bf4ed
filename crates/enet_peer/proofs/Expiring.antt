-- What a moment makes of what a peer has sent, by what it brings.
use Rattle.std.proofs.Common.{◌≡◌, ℕ, Bool, true, false, cond, leb, ◌&&◌, refl, ap, sym, ◌∙◌}
use Rattle.enet_rtt.specs.Clock.{elapsed_time}
use Rattle.enet_rtt.specs.declared.expiry.Expiry.{Expiry}
use Rattle.enet_rtt.specs.declared.expiry.Expiry.TheVariants.{No, Resend, End}
use Rattle.enet_senders.specs.declared.control.Control.TheVariants as control
use Rattle.enet_outbox.specs.Outbox.{after_lateness, has_nothing_reliable, with_control}
use Rattle.enet_peer.specs.declared.parts.PeerState.{PeerState}
use Rattle.enet_peer.specs.declared.parts.PeerState.TheVariants as state
use Rattle.enet_peer.specs.Peering.{Peering}
use Rattle.enet_peer.specs.Calls.{after_timeouts, expiry_of, held_back, is_answering, is_connected, is_resend, moved, pinged, tick_of, ticked}
use Rattle.enet_peer.specs.Private.Time.{expired, marked_by, timed_out}

marks-by : (p : Peering) (now : ℕ) (b : Bool) (e : Expiry) → b ≡ false
    → record p { outbox = after_lateness e p.outbox (tick_of p now) } ≡ cond (b && is_resend e) (held_back p now) (marked_by e p now)
marks-by p now true e goes = absurd (let y : true ≡ false = goes in cc)
marks-by p now false No goes = refl
marks-by p now false Resend goes = refl
marks-by p now false End goes = refl

-- where an answer may go, what waited out its timeout is marked
pub marks-so : (short : Bool) (p : Peering) (now : ℕ) (e : Expiry) → (short && is_answering p.state) ≡ false → expiry_of p now ≡ e
    → record p { outbox = after_lateness e p.outbox (tick_of p now) } ≡ expired short p now
marks-so short p now e goes is =
    marks-by p now (short && is_answering p.state) e goes
    ∙ ap (λ (x : Expiry). cond (short && is_answering p.state && is_resend x) (held_back p now) (marked_by x p now)) (sym is)

-- ---- what is held back isn't pinged

unpinged : (q : Peering) (now : ℕ) → q.state ≡ state.Answering → pinged q now ≡ q
unpinged q now e =
    ap (λ (s : PeerState). cond (is_connected s && has_nothing_reliable q.outbox && leb q.ping_interval (elapsed_time now q.heard)) (record q { outbox = with_control q.outbox control.Ping }) q) e

pub moved-as : (short : Bool) (p : Peering) (now : ℕ) → pinged (timed_out short p now) now ≡ moved short p now
moved-as short p now = by short p.state (is_resend (expiry_of p now)) refl
  where
    by : (b : Bool) (s : PeerState) (r : Bool) → p.state ≡ s
        → pinged (cond (b && is_answering s && r) (held_back p now) (after_timeouts p now)) now ≡ cond (b && is_answering s && r) (held_back p now) (ticked p now)
    by true state.Answering true e = unpinged (held_back p now) now e
    by true state.Answering false e = refl
    by true s r e = refl
    by false s r e = refl
