-- A peer of which nothing is set has ENet's patience and pings when it wasn't heard for 500 ms, by a clock of 32 bits, whatever happens.
use Rattle.std.proofs.Common.{◌≡◌, ◌<◌, ◌%◌, ◌^◌, ℕ, ◌&&◌, Bool, true, false, cond, length, Option, Some, None, is_some, nat_lt}
use Rattle.enet_codec.specs.declared.command.Verify.{Verify}
use Rattle.enet_codec.specs.Message.{Message}
use Rattle.enet_rtt.specs.Clock.{meant_time}
use Rattle.enet_rtt.specs.Expiry.{standard_patience}
use Rattle.enet_rtt.specs.declared.expiry.Expiry.{Expiry}
use Rattle.enet_rtt.specs.declared.expiry.Expiry.TheVariants.{No, Resend, End}
use Rattle.enet_connect.specs.declared.terms.Terms.{Terms}
use Rattle.enet_connect.specs.Verification.{confirmed}
use Rattle.enet_senders.specs.declared.control.Control.{Control}
use Rattle.enet_senders.specs.declared.control.Control.TheVariants as control
use Rattle.enet_outbox.specs.declared.parts.Matched.{Matched}
use Rattle.enet_outbox.specs.declared.parts.Matched.TheVariants as matched
use Rattle.enet_outbox.specs.Outbox.{matched_by, told_by, with_growth, after_acknowledgement}
use Rattle.enet_outbox.specs.Outbox as outbox
use Rattle.enet_peer.specs.declared.parts.PeerState.{PeerState}
use Rattle.enet_peer.specs.declared.parts.PeerState.TheVariants as state
use Rattle.enet_peer.specs.Peering.{Peering}
use Rattle.enet_peer.specs.Endings.{settled, disconnecting, is_later, freed, cut_off_in}
use Rattle.enet_peer.specs.CommandEffect.{obeyed, is_connecting, on_acknowledge, on_match, sampled, with_answer, on_verify_in, welcomed, on_disconnect_in, on_last_disconnect}
use Rattle.enet_peer.specs.Calls.{Leave, AtOnce, TellsOnce, Asks, AsksLater, Refused, left, expiry_of, gone_on_in, moved, ticked, pinged, is_pinged, after_timeouts_by, tick_of}
use Rattle.law_progress.specs.Waits.{after_leave}
use Rattle.law_progress.proofs.Moving.{by-moved}
use Rattle.enet_world.proofs.Pings.{answered-holds, obeys-each}
use Rattle.enet_peer.proofs.Obeying.{unwelcomed-holds}

abbrev pub IsUnset : Peering → Type 0
IsUnset p = (p.patience ≡ standard_patience) × (p.ping_interval ≡ 500) × (p.heard < 2 ^ 32)

unset-settled : (p : Peering) → IsUnset p → IsUnset (settled p)
unset-settled p h = by (is_later p.state && outbox.is_done p.outbox)
  where
    by : (b : Bool) → IsUnset (cond b (disconnecting p p.info) p)
    by true = h
    by false = h

unset-answer : (p : Peering) (s : PeerState) (what : Control) → IsUnset p → IsUnset (with_answer s what p)
unset-answer p state.Answering (control.VerifyConnect verify) h = h
unset-answer p state.Disconnecting (control.Disconnect info) h = h
unset-answer p s what h = h

unset-acknowledge : (p : Peering) (now channel number told : ℕ) → now < 2 ^ 32 → IsUnset p → IsUnset (on_acknowledge p now channel number told)
unset-acknowledge p now channel number told low h = by-state (is_connecting p.state)
  where
    time : ℕ
    time = meant_time told (p.offset % 2 ^ 16)

    q : Peering
    q = sampled (record p { outbox = with_growth (after_acknowledgement p.outbox channel number) (told_by p.outbox channel number time) }) now time

    by : (x : Matched) → IsUnset (on_match x p q)
    by matched.Nothing = h
    by matched.Data = unset-settled q (h.0, h.1, low)
    by (matched.Control what) = unset-settled (with_answer p.state what q) (unset-answer q p.state what (h.0, h.1, low))

    by-state : (b : Bool) → IsUnset (cond b p (on_match (matched_by p.outbox channel number time) p q))
    by-state true = h
    by-state false = by (matched_by p.outbox channel number time)

unset-verify : (p : Peering) (v : Verify) (s : PeerState) → IsUnset p → IsUnset (on_verify_in s p v)
unset-verify p v state.Connecting h = by (confirmed p.offer v)
  where
    by : (o : Option Terms) → IsUnset (welcomed p v o)
    by None = unwelcomed-holds IsUnset p v h h
    by (Some terms) = h
unset-verify p v s h = h

unset-last : (p : Peering) (b : Bool) (info : ℕ) → IsUnset p → IsUnset (on_last_disconnect p b info)
unset-last p true info h = h
unset-last p false info h = h

unset-disconnect : (p : Peering) (s : PeerState) (b : Bool) (info : ℕ) → IsUnset p → IsUnset (on_disconnect_in s p b info)
unset-disconnect p state.Connected b info h = unset-last p b info h
unset-disconnect p state.DisconnectLater b info h = unset-last p b info h
unset-disconnect p s b info h = h

pub unset-obeyed : (p : Peering) (now : ℕ) (sent : Option ℕ) (m : Message) → now < 2 ^ 32 → IsUnset p → IsUnset (obeyed p now sent m).after
unset-obeyed p now sent m low h = obeys-each IsUnset p now sent m (record {
  same = h;
  holds = λ b. h;
  acknowledges = λ number time. unset-acknowledge p now m.head.channel number time low h;
  verifies = λ v. unset-verify p v p.state h;
  ends = λ info e. unset-disconnect p p.state (m.head.acknowledge && is_some sent) info h;
  hears = λ n. h;
  paces = λ interval acceleration deceleration. h;
  answers = λ q may k. answered-holds IsUnset q m sent may (λ a. k) k;
})

pub unset-went : (p : Peering) (s : PeerState) → IsUnset p → IsUnset (gone_on_in s p)
unset-went p state.AckDisconnect h = h
unset-went p state.Parting h = by (nat_lt 0 (length p.outbox.control.queued))
  where
    by : (b : Bool) → IsUnset (cond b p (freed p))
    by true = h
    by false = h
unset-went p s h = unset-settled p h

pub unset-left : (p : Peering) (leave : Leave) (info : ℕ) → IsUnset p → IsUnset (after_leave p (left leave p info))
unset-left p AtOnce info h = h
unset-left p TellsOnce info h = h
unset-left p Asks info h = h
unset-left p AsksLater info h = unset-settled (record p { state = state.DisconnectLater; info = info }) h
unset-left p Refused info h = h

unset-ticked : (p : Peering) (n : ℕ) → IsUnset p → IsUnset (ticked p n)
unset-ticked p n h = by (expiry_of p n)
  where
    cut : (s : PeerState) → IsUnset (cut_off_in s p)
    cut state.Answering = h
    cut s = h

    pings : (q : Peering) → IsUnset q → IsUnset (pinged q n)
    pings q g = go (is_pinged q n)
      where
        go : (b : Bool) → IsUnset (cond b (record q { outbox = outbox.with_control q.outbox control.Ping }) q)
        go true = g
        go false = g

    by : (e : Expiry) → IsUnset (pinged (after_timeouts_by e p n) n)
    by End = pings (cut_off_in p.state p) (cut p.state)
    by Resend = pings (record p { outbox = outbox.marked p.outbox (tick_of p n) }) h
    by No = pings p h

pub unset-moved : (short : Bool) (p : Peering) (n : ℕ) → IsUnset p → IsUnset (moved short p n)
unset-moved short p n h = by-moved IsUnset short p n (unset-ticked p n h) (λ at lasts. h)
