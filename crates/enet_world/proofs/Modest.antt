-- What a peer of which nothing is set has to send on channel 0xFF, whatever happens: while the connection stands at most one PING, and while a
-- server awaits the client at most one command.
use Rattle.std.proofs.Common.{◌≡◌, ℕ, ◌%◌, ◌^◌, ◌&&◌, leb, Bool, true, false, cond, length, refl, ap, subst, Option, Some, None, nat_lt}
use Rattle.std.specs.List.{slice_get, list_all}
use Rattle.enet_codec.specs.Message.{Message}
use Rattle.enet_codec.specs.declared.command.Verify.{Verify}
use Rattle.enet_connect.specs.declared.terms.Terms.{Terms}
use Rattle.enet_connect.specs.Verification.{confirmed}
use Rattle.enet_rtt.specs.Clock.{elapsed_time, meant_time}
use Rattle.enet_rtt.specs.declared.expiry.Expiry.{Expiry}
use Rattle.enet_rtt.specs.declared.expiry.Expiry.TheVariants.{No, Resend, End as Ends}
use Rattle.enet_senders.specs.declared.control.Control.TheVariants as control
use Rattle.enet_senders.specs.Controlling.{Commands}
use Rattle.enet_senders.specs.Controlling as controlling
use Rattle.enet_sender.specs.CommandChoice.{Packet}
use Rattle.enet_sender.specs.Due.{SendingEnd}
use Rattle.enet_outbox.specs.declared.parts.Matched.{Matched}
use Rattle.enet_outbox.specs.declared.parts.Matched.TheVariants as matched
use Rattle.enet_outbox.specs.Outbox.{matched_by, with_control, has_nothing_reliable, has_no_reliable}
use Rattle.enet_outbox.specs.Outbox as outbox
use Rattle.enet_outbox.specs.Emission.{filled}
use Rattle.enet_peer.specs.declared.parts.PeerState.{PeerState}
use Rattle.enet_peer.specs.declared.parts.PeerState.TheVariants as state
use Rattle.enet_peer.specs.Peering.{Peering}
use Rattle.enet_peer.specs.Endings.{settled, disconnecting, freed, cut_off_in, is_later}
use Rattle.enet_peer.specs.CommandEffect.{obeyed, answered, on_acknowledge, on_match, acknowledged, welcomed, on_last_disconnect}
use Rattle.enet_peer.specs.Refusing.{full_word, told_full}
use Rattle.enet_peer.specs.Calls.{Leave, AtOnce, TellsOnce, Asks, AsksLater, Refused, left, expiry_of, is_answering, is_connected, moved, pace_of, pinged, is_pinged, after_timeouts_by, tick_of, ticked, submitted, gone_on, gone_on_in}
use Rattle.law_progress.specs.Waits.{after_leave}
use Rattle.law_progress.proofs.Moving.{by-moved}
use Rattle.law_network.proofs.Runs.{both}
use Rattle.enet_world.proofs.Lasting.{is_past, past-lasts}
use Rattle.enet_world.proofs.Pings.{IsLone, Idle, is_ping, is_any, idle-lists, queued-lone, held_back-lone, marked-lone, acknowledged-lone, answered-lone, filled-lone, connected, meets-connected, answered-holds, obeys-each, in_state, was-in}
use Rattle.enet_peer.proofs.Obeying.{unwelcomed-holds}

abbrev pub Controlled : PeerState → Commands → Type 0
Controlled state.Connected c = IsLone is_ping c
Controlled state.Answering c = IsLone is_any c
Controlled s c = Unit {0}

abbrev pub IsModest : Peering → Type 0
IsModest p = Controlled p.state p.outbox.control

-- nothing is asked of a peer that is past its connection
past-modest : (p : Peering) → is_past p.state ≡ true → IsModest p
past-modest p h = by p.state h
  where
    by : (s : PeerState) → is_past s ≡ true → Controlled s p.outbox.control
    by state.Connected e = absurd (let z : false ≡ true = e in cc)
    by state.Answering e = absurd (let z : false ≡ true = e in cc)
    by s e = tt

controlled-by : (s : PeerState) (c d : Commands) → ((f : _) → IsLone f c → IsLone f d) → Controlled s c → Controlled s d
controlled-by state.Connected c d g h = g is_ping h
controlled-by state.Answering c d g h = g is_any h
controlled-by s c d g h = tt

answered-modest : (q : Peering) (m : Message) (sent : Option ℕ) (may : Bool) → IsModest q → IsModest (answered q m sent may).after
answered-modest q m sent may h = answered-holds IsModest q m sent may (λ a. h) h

-- ---- a command comes
meets-stands : (p : Peering) (now : ℕ) (sent : Option ℕ) (m : Message) → IsLone is_ping p.outbox.control → IsModest (obeyed (connected p) now sent m).after
meets-stands p now sent m h = meets-connected IsModest p now sent m (record {
  same = h;
  holds = λ b. h;
  acknowledges = λ channel number time. acknowledged-lone is_ping p.outbox channel number h;
  hears = λ n. h;
  paces = λ interval acceleration deceleration. h;
  ends = λ b info e. ends b info;
  answers = λ q a k. k;
})
  where
    ends : (b : Bool) (info : ℕ) → IsModest (on_last_disconnect (connected p) b info)
    ends true info = tt
    ends false info = tt

meets-answering : (p : Peering) (now : ℕ) (sent : Option ℕ) (m : Message) → IsLone is_any p.outbox.control → IsModest (obeyed (in_state state.Answering p) now sent m).after
meets-answering p now sent m h = obeys-each IsModest old now sent m (record {
  same = h;
  holds = λ b. h;
  acknowledges = λ number time. gone m.head.channel number time;
  verifies = λ v. h;
  ends = λ info e. tt;
  hears = λ n. h;
  paces = λ interval acceleration deceleration. h;
  answers = λ q may k. answered-modest q m sent may k;
})
  where
    old : Peering
    old = record p { state = state.Answering }

    gone : (channel number told : ℕ) → IsModest (on_acknowledge old now channel number told)
    gone channel number told = go (matched_by p.outbox channel number time) refl
      where
        time : ℕ
        time = meant_time told (p.offset % 2 ^ 16)

        less : IsLone is_any (outbox.after_acknowledgement p.outbox channel number).control
        less = acknowledged-lone is_any p.outbox channel number h

        go : (x : Matched) → matched_by p.outbox channel number time ≡ x → IsModest (on_match x old (acknowledged old now channel number time))
        go matched.Nothing e = h
        go matched.Data e = less
        go (matched.Control (control.VerifyConnect verify)) e = answered-lone is_any is_ping p.outbox channel number time (control.VerifyConnect verify) e h
        go (matched.Control what) e = less

meets-asking : (p : Peering) (now : ℕ) (sent : Option ℕ) (m : Message) → IsModest (obeyed (in_state state.Connecting p) now sent m).after
meets-asking p now sent m = obeys-each IsModest old now sent m (record {
  same = tt;
  holds = λ b. tt;
  acknowledges = λ number time. tt;
  verifies = λ v. greets v (confirmed old.offer v);
  ends = λ info e. tt;
  hears = λ n. tt;
  paces = λ interval acceleration deceleration. tt;
  answers = λ q may k. answered-modest q m sent may k;
})
  where
    old : Peering
    old = record p { state = state.Connecting }

    greets : (v : Verify) (o : Option Terms) → IsModest (welcomed old v o)
    greets v None = unwelcomed-holds IsModest old v tt tt
    greets v (Some terms) = Idle refl refl

pub modest-obeyed : (p : Peering) (now : ℕ) (sent : Option ℕ) (m : Message) → IsModest p → IsModest (obeyed p now sent m).after
modest-obeyed p now sent m h = by p.state refl
  where
    by : (s : PeerState) → p.state ≡ s → IsModest (obeyed p now sent m).after
    by state.Connected e = subst (λ (x : Peering). IsModest (obeyed x now sent m).after) (was-in p state.Connected e) (meets-stands p now sent m (subst (λ (s : PeerState). Controlled s p.outbox.control) e h))
    by state.Answering e = subst (λ (x : Peering). IsModest (obeyed x now sent m).after) (was-in p state.Answering e) (meets-answering p now sent m (subst (λ (s : PeerState). Controlled s p.outbox.control) e h))
    by state.Connecting e = subst (λ (x : Peering). IsModest (obeyed x now sent m).after) (was-in p state.Connecting e) (meets-asking p now sent m)
    by s e = past-modest (obeyed p now sent m).after (past-lasts.comes false p now sent m (ap is_past e))

-- one who was refused is told so alone
told-alone : (s : PeerState) (c : Commands) → is_answering s ≡ true → Controlled s (controlling.with_queued (controlling.cleared c) (control.DisconnectNow full_word))
told-alone state.Answering c e = queued-lone is_any (controlling.cleared c) (control.DisconnectNow full_word) refl refl refl
told-alone s c e = absurd (cc)

pub modest-told : (p : Peering) → is_answering p.state ≡ true → IsModest (told_full p)
modest-told p answers = told-alone p.state p.outbox.control answers

-- ---- time goes on
pinged-modest : (q : Peering) (now : ℕ) → IsModest q → IsModest (pinged q now)
pinged-modest q now h = by (is_pinged q now) refl
  where
    one : (s : PeerState) → is_connected s ≡ true → controlling.is_idle q.outbox.control ≡ true → Controlled s (controlling.with_queued q.outbox.control control.Ping)
    one state.Connected on idle = (let z = idle-lists q.outbox.control idle in queued-lone is_ping q.outbox.control control.Ping refl z.0 z.1)
    one s on idle = absurd (let z : false ≡ true = on in cc)

    by : (b : Bool) → is_pinged q now ≡ b → IsModest (cond b (record q { outbox = with_control q.outbox control.Ping }) q)
    by false e = h
    by true e =
        let first = both (is_connected q.state && has_nothing_reliable q.outbox) (leb q.ping_interval (elapsed_time now q.heard)) e in
        let second = both (is_connected q.state) (has_nothing_reliable q.outbox) first.0 in
        let third = both (controlling.is_idle q.outbox.control) (list_all has_no_reliable q.outbox.senders) second.1 in
        one q.state second.0 third.0

pub modest-ticked : (p : Peering) (now : ℕ) → IsModest p → IsModest (ticked p now)
modest-ticked p now h = pinged-modest (after_timeouts_by (expiry_of p now) p now) now (by (expiry_of p now))
  where
    cut : (s : PeerState) → IsModest (cut_off_in s p)
    cut state.Answering = tt
    cut s = tt

    by : (x : Expiry) → IsModest (after_timeouts_by x p now)
    by Ends = cut p.state
    by Resend = controlled-by p.state p.outbox.control (controlling.with_marked (tick_of p now) p.outbox.control) (λ f. marked-lone f (tick_of p now) p.outbox.control) h
    by No = h

pub modest-moved : (short : Bool) (p : Peering) (now : ℕ) → IsModest p → IsModest (moved short p now)
modest-moved short p now h = by-moved IsModest short p now (modest-ticked p now h)
    (λ at lasts. controlled-by p.state p.outbox.control (controlling.with_held_back (tick_of p now) p.outbox.control) (λ f. held_back-lone f (tick_of p now) p.outbox.control) h)

-- ---- a datagram goes, or none
settled-modest : (p : Peering) → IsModest p → IsModest (settled p)
settled-modest p h = by (is_later p.state && outbox.is_done p.outbox)
  where
    by : (b : Bool) → IsModest (cond b (disconnecting p p.info) p)
    by true = tt
    by false = h

pub modest-went : (p : Peering) (s : PeerState) → IsModest p → IsModest (gone_on_in s p)
modest-went p state.AckDisconnect h = tt
modest-went p state.Parting h = by (nat_lt 0 (length p.outbox.control.queued))
  where
    by : (b : Bool) → IsModest (cond b p (freed p))
    by true = h
    by false = tt
modest-went p s h = settled-modest p h

pub modest-emitted : (p : Peering) (now : ℕ) → IsModest p → IsModest (gone_on (record p { outbox = (filled (pace_of p now) p.outbox).outbox }))
modest-emitted p now h =
    modest-went (record p { outbox = (filled (pace_of p now) p.outbox).outbox }) p.state (controlled-by p.state p.outbox.control (filled (pace_of p now) p.outbox).outbox.control (λ f. filled-lone f (pace_of p now) p.outbox) h)

-- ---- the user's calls
pub modest-submitted : (p : Peering) (channel : ℕ) (q : Packet) → IsModest p → IsModest (submitted p channel q)
modest-submitted p channel q h = by (outbox.is_unsequenced p.terms.mtu q)
  where
    on : (x : Option SendingEnd) → IsModest (record p { outbox = outbox.with_sequenced p.outbox p.terms.mtu channel q x })
    on None = h
    on (Some s) = h

    by : (b : Bool) → IsModest (record p { outbox = cond b (outbox.with_unsequenced p.outbox channel q) (outbox.with_sequenced p.outbox p.terms.mtu channel q (slice_get p.outbox.senders channel)) })
    by true = h
    by false = on (slice_get p.outbox.senders channel)

pub modest-left : (p : Peering) (leave : Leave) (info : ℕ) → IsModest p → IsModest (after_leave p (left leave p info))
modest-left p AtOnce info h = tt
modest-left p TellsOnce info h = tt
modest-left p Asks info h = tt
modest-left p AsksLater info h = settled-modest (record p { state = state.DisconnectLater; info = info }) tt
modest-left p Refused info h = h

pub modest-pings : (p : Peering) → p.state ≡ state.Connected → IsModest p → IsLone is_ping p.outbox.control
modest-pings p on h = subst (λ (s : PeerState). Controlled s p.outbox.control) on h
