-- A datagram of a peer has room for 576 bytes, whatever happens.
use Rattle.std.proofs.Common.{ℕ, ◌%◌, ◌^◌, ◌≤◌, ◌&&◌, max, min, Bool, true, false, cond, List, [], ◌∷◌, length, arith, Option, Some, None, Result, Ok, Err, is_some, nat_lt}
use Rattle.enet_codec.specs.declared.packet.Packet as codec
use Rattle.enet_codec.specs.declared.command.Verify.{Verify}
use Rattle.enet_codec.specs.declared.stop.Stop.{Stop}
use Rattle.enet_codec.specs.declared.stop.Stop.TheVariants as stop
use Rattle.enet_codec.specs.Message.{Message, Body, acknowledge, connect, verify_connect, disconnect, ping, send_reliable, send_unreliable, send_fragment, send_unsequenced, send_unreliable_fragment, bandwidth_limit, throttle_configure}
use Rattle.enet_rtt.specs.Clock.{meant_time}
use Rattle.enet_rtt.specs.declared.expiry.Expiry.{Expiry}
use Rattle.enet_rtt.specs.declared.expiry.Expiry.TheVariants.{No, Resend, End}
use Rattle.enet_connect.specs.Sizes.{mtu_of}
use Rattle.enet_connect.specs.Verification.{agreed, is_accepted}
use Rattle.enet_senders.specs.declared.control.Control.{Control}
use Rattle.enet_senders.specs.declared.control.Control.TheVariants as control
use Rattle.enet_inbox.specs.DataEffect.{DataEffect, arrival, passed_over}
use Rattle.enet_outbox.specs.declared.parts.Matched.{Matched}
use Rattle.enet_outbox.specs.declared.parts.Matched.TheVariants as matched
use Rattle.enet_outbox.specs.Outbox.{matched_by}
use Rattle.enet_outbox.specs.Outbox as outbox
use Rattle.enet_peer.specs.declared.parts.PeerState.{PeerState}
use Rattle.enet_peer.specs.declared.parts.PeerState.TheVariants as state
use Rattle.enet_peer.specs.Peering.{Peering}
use Rattle.enet_peer.specs.Endings.{settled, disconnecting, is_later, freed, cut_off_in}
use Rattle.enet_peer.proofs.Obeying.{unless-holds, unwelcomed-holds}
use Rattle.enet_peer.specs.CommandEffect.{obeyed, unless_refused, stopped, is_allowed, is_connect, by_body, by_answer, by_arrival, on_data, answered, answered_at, is_answered_in, is_connecting, on_acknowledge, on_match, acknowledged, with_answer, on_verify_in, welcomed, on_disconnect_in, on_last_disconnect, on_bandwidth, on_throttle}
use Rattle.enet_peer.specs.Calls.{Leave, AtOnce, TellsOnce, Asks, AsksLater, Refused, left, gone_on_in, expiry_of, moved, ticked, pinged, is_pinged, after_timeouts_by, tick_of, next_event, event_after, packet_event, last_event}
use Rattle.law_progress.specs.Attempts.{after_take}
use Rattle.law_progress.specs.Waits.{after_leave}
use Rattle.law_progress.proofs.Moving.{by-moved}

abbrev pub IsWide : Peering → Type 0
IsWide p = 576 ≤ p.terms.mtu

wide-settled : (p : Peering) → IsWide p → IsWide (settled p)
wide-settled p h = by (is_later p.state && outbox.is_done p.outbox)
  where
    by : (b : Bool) → IsWide (cond b (disconnecting p p.info) p)
    by true = h
    by false = h

wide-answer : (p : Peering) (s : PeerState) (what : Control) → IsWide p → IsWide (with_answer s what p)
wide-answer p state.Answering (control.VerifyConnect verify) h = h
wide-answer p state.Disconnecting (control.Disconnect info) h = h
wide-answer p s what h = h

wide-acknowledge : (p : Peering) (now channel number told : ℕ) → IsWide p → IsWide (on_acknowledge p now channel number told)
wide-acknowledge p now channel number told h = by-state (is_connecting p.state)
  where
    time : ℕ
    time = meant_time told (p.offset % 2 ^ 16)

    q : Peering
    q = acknowledged p now channel number time

    by : (x : Matched) → IsWide (on_match x p q)
    by matched.Nothing = h
    by matched.Data = wide-settled q h
    by (matched.Control what) = wide-settled (with_answer p.state what q) (wide-answer q p.state what h)

    by-state : (b : Bool) → IsWide (cond b p (on_match (matched_by p.outbox channel number time) p q))
    by-state true = h
    by-state false = by (matched_by p.outbox channel number time)

pub at-least : (a b : ℕ) → 576 ≤ mtu_of a b
at-least a b = more (min (min a b) 4096)
  where
    more : (n : ℕ) → 576 ≤ max 576 n
    more n = grind arith

wide-verify : (p : Peering) (v : Verify) (s : PeerState) → IsWide p → IsWide (on_verify_in s p v)
wide-verify p v state.Connecting h = by (is_accepted p.offer v)
  where
    by : (b : Bool) → IsWide (welcomed p v (cond b (Some (agreed p.offer v)) None))
    by false = unwelcomed-holds IsWide p v h h
    by true = at-least p.offer.mtu v.mtu
wide-verify p v s h = h

wide-last : (p : Peering) (b : Bool) (info : ℕ) → IsWide p → IsWide (on_last_disconnect p b info)
wide-last p true info h = h
wide-last p false info h = h

wide-disconnect : (p : Peering) (s : PeerState) (b : Bool) (info : ℕ) → IsWide p → IsWide (on_disconnect_in s p b info)
wide-disconnect p state.Connected b info h = wide-last p b info h
wide-disconnect p state.DisconnectLater b info h = wide-last p b info h
wide-disconnect p state.Connecting b info h = h
wide-disconnect p state.Disconnecting b info h = h
wide-disconnect p state.Answering b info h = h
wide-disconnect p s b info h = h

wide-answered : (p : Peering) (m : Message) (sent : Option ℕ) (may : Bool) → IsWide p → IsWide (answered p m sent may).after
wide-answered p m sent may h = by (m.head.acknowledge && may && is_answered_in p.state m.body) sent
  where
    by : (b : Bool) (o : Option ℕ) → IsWide (cond b (answered_at p m.head o) (record { stop = None; after = p })).after
    by false o = h
    by true None = h
    by true (Some time) = h

wide-result : (p : Peering) (m : Message) (sent : Option ℕ) (r : Result Bool Stop) → IsWide p → IsWide (by_answer p m sent r).after
wide-result p m sent (Err why) h = h
wide-result p m sent (Ok may) h = wide-answered p m sent may h

wide-data : (p : Peering) (m : Message) (sent : Option ℕ) → IsWide p → IsWide (on_data p m sent).after
wide-data p m sent h = by (is_later p.state)
  where
    a : DataEffect
    a = arrival p.inbox m

    by : (b : Bool) → IsWide (cond b (by_answer p m sent (passed_over p.inbox m)) (by_arrival p m sent a)).after
    by true = wide-result p m sent (passed_over p.inbox m) h
    by false = wide-result (record p { inbox = a.after }) m sent a.answer h

pub wide-obeyed : (p : Peering) (now : ℕ) (sent : Option ℕ) (m : Message) → IsWide p → IsWide (obeyed p now sent m).after
wide-obeyed p now sent m h = by (is_connect m.body) (is_allowed p.state m.body)
  where
    body : (b : Body) → IsWide (by_body p now sent m b).after
    body (acknowledge number time) = wide-answered (on_acknowledge p now m.head.channel number time) m sent true (wide-acknowledge p now m.head.channel number time h)
    body (connect offer) = h
    body (verify_connect v) = wide-answered (on_verify_in p.state p v) m sent true (wide-verify p v p.state h)
    body (disconnect info) = wide-answered (on_disconnect_in p.state p (m.head.acknowledge && is_some sent) info) m sent true (wide-disconnect p p.state (m.head.acknowledge && is_some sent) info h)
    body ping = wide-answered p m sent true h
    body (bandwidth_limit incoming outgoing) = wide-answered (on_bandwidth p incoming) m sent true h
    body (throttle_configure interval acceleration deceleration) = wide-answered (on_throttle p interval acceleration deceleration) m sent true h
    body (send_reliable payload) = wide-data p m sent h
    body (send_unreliable number payload) = wide-data p m sent h
    body (send_fragment fragment payload) = wide-data p m sent h
    body (send_unsequenced group payload) = wide-data p m sent h
    body (send_unreliable_fragment fragment payload) = wide-data p m sent h

    by : (a b : Bool) → IsWide (cond a (stopped p stop.BadCommand) (cond b (unless_refused p m (by_body p now sent m m.body)) (stopped p stop.NotConnected))).after
    by true b = h
    by false true = unless-holds IsWide p m (by_body p now sent m m.body) h (body m.body)
    by false false = h

pub wide-takes : (p : Peering) → IsWide p → IsWide (after_take p (next_event p))
wide-takes p h = by p.greeting
  where
    last : (s : PeerState) → IsWide (after_take p (last_event s p))
    last state.Ended = h
    last s = h

    packets : (untaken : List codec.Packet) → IsWide (after_take p (packet_event p untaken))
    packets [] = last p.state
    packets (q ∷ rest) = h

    by : (greeting : Option ℕ) → IsWide (after_take p (event_after p greeting))
    by (Some info) = h
    by None = packets p.inbox.untaken

pub wide-went : (p : Peering) (s : PeerState) → IsWide p → IsWide (gone_on_in s p)
wide-went p state.AckDisconnect h = h
wide-went p state.Parting h = by (nat_lt 0 (length p.outbox.control.queued))
  where
    by : (b : Bool) → IsWide (cond b p (freed p))
    by true = h
    by false = h
wide-went p s h = wide-settled p h

pub wide-left : (p : Peering) (leave : Leave) (info : ℕ) → IsWide p → IsWide (after_leave p (left leave p info))
wide-left p AtOnce info h = h
wide-left p TellsOnce info h = h
wide-left p Asks info h = h
wide-left p AsksLater info h = wide-settled (record p { state = state.DisconnectLater; info = info }) h
wide-left p Refused info h = h

pub wide-ticked : (p : Peering) (n : ℕ) → IsWide p → IsWide (ticked p n)
wide-ticked p n h = by (expiry_of p n)
  where
    cut : (s : PeerState) → IsWide (cut_off_in s p)
    cut state.Answering = h
    cut s = h

    pings : (q : Peering) → IsWide q → IsWide (pinged q n)
    pings q g = go (is_pinged q n)
      where
        go : (b : Bool) → IsWide (cond b (record q { outbox = outbox.with_control q.outbox control.Ping }) q)
        go true = g
        go false = g

    by : (e : Expiry) → IsWide (pinged (after_timeouts_by e p n) n)
    by End = pings (cut_off_in p.state p) (cut p.state)
    by Resend = pings (record p { outbox = outbox.marked p.outbox (tick_of p n) }) h
    by No = pings p h

pub wide-moved : (short : Bool) (p : Peering) (n : ℕ) → IsWide p → IsWide (moved short p n)
wide-moved short p n h = by-moved IsWide short p n (wide-ticked p n h) (λ answers lasts. h)
