-- A peer that has ended has nothing to put out, whatever happens.
use Rattle.std.proofs.Common.{◌≡◌, ◌≢◌, ℕ, zero, suc, ◌%◌, ◌^◌, ◌&&◌, Bool, true, false, cond, List, [], ◌∷◌, length, map, refl, sym, ap, subst, ◌∙◌, Option, Some, None, is_some, nat_lt, leb, not}
use Rattle.std.specs.List.{position, slice_get}
use Rattle.enet_codec.specs.declared.command.Verify.{Verify}
use Rattle.enet_codec.specs.declared.event.PeerRef.{PeerRef}
use Rattle.enet_codec.specs.declared.refusal.Refusal.{Refusal}
use Rattle.enet_codec.specs.declared.refusal.Refusal.TheVariants.{NotConnected}
use Rattle.enet_codec.specs.declared.stop.Stop.TheVariants as stop
use Rattle.enet_codec.specs.Message.{Message}
use Rattle.enet_rtt.specs.Clock.{elapsed_time, meant_time}
use Rattle.enet_rtt.specs.declared.transmission.Tick.{Tick}
use Rattle.enet_rtt.specs.declared.expiry.Expiry.{Expiry}
use Rattle.enet_rtt.specs.declared.expiry.Expiry.TheVariants.{No, Resend, End}
use Rattle.enet_connect.specs.declared.terms.Terms.{Terms}
use Rattle.enet_connect.specs.Verification.{confirmed}
use Rattle.enet_senders.specs.Controlling as controlling
use Rattle.enet_senders.specs.declared.control.Control.{Control}
use Rattle.enet_senders.specs.declared.control.Control.TheVariants as control
use Rattle.enet_senders.specs.declared.control.Numbered.{Numbered}
use Rattle.enet_senders.specs.declared.control.SentControl.{SentControl}
use Rattle.enet_sender.specs.CommandChoice.{Packet}
use Rattle.enet_sender.specs.Due.{SendingEnd}
use Rattle.enet_sender.specs.Sender as sender
use Rattle.enet_sender.specs.Sender.{next}
use Rattle.enet_outbox.specs.declared.parts.Matched.{Matched}
use Rattle.enet_outbox.specs.declared.parts.Matched.TheVariants as matched
use Rattle.enet_outbox.specs.declared.parts.Pace.{Pace}
use Rattle.enet_outbox.specs.Outbox.{Outbox, matched_by, told_by, with_growth, after_acknowledgement, cleared_sender, marked_sender, has_nothing_reliable}
use Rattle.enet_outbox.specs.Outbox as outbox
use Rattle.enet_outbox.specs.Emission.{filled}
use Rattle.enet_outbox.proofs.Filled.{by-filling}
use Rattle.enet_peer.specs.declared.parts.Ending.{Ending}
use Rattle.enet_peer.specs.declared.parts.Ending.TheVariants.{AskedHere, AskedThere, BadAnswer}
use Rattle.enet_peer.specs.declared.parts.PeerState.{PeerState}
use Rattle.enet_peer.specs.declared.parts.PeerState.TheVariants as state
use Rattle.enet_peer.specs.Peering.{Peering}
use Rattle.enet_peer.specs.Endings.{settled, disconnecting, ended, is_later, freed, silence_ending, cut_off_in}
use Rattle.enet_peer.specs.Refusing.{told_full}
use Rattle.enet_peer.proofs.Refusals.{heeded-holds}
use Rattle.enet_peer.specs.CommandEffect.{Outcome, obeyed, unless_refused, stopped, is_allowed, is_connect, by_body, answered, answered_at, is_answered_in, is_connecting, on_acknowledge, on_match, sampled, with_answer, on_verify_in, welcomed, on_disconnect_in, on_last_disconnect}
use Rattle.enet_peer.specs.Calls.{Leave, AtOnce, TellsOnce, Asks, AsksLater, Refused, expiry_of, is_answering, is_connected, left, moved, pace_of, gone_on_in, submission_refusal, submitted, ticked, pinged, is_pinged, after_timeouts_by, tick_of}
use Rattle.enet_host.specs.Host.{named}
use Rattle.law_connection.specs.Steps.{leave_by}
use Rattle.law_connection.specs.Steps as event
use Rattle.law_connection.proofs.Runs.{and-left}
use Rattle.law_connection.proofs.Events.{took}
use Rattle.law_network.specs.declared.event.Side.{Side}
use Rattle.law_network.specs.World.{World, site_of}
use Rattle.law_progress.specs.Waits.{after_leave}
use Rattle.law_progress.proofs.Attempts.{AreEmpty}
use Rattle.law_progress.proofs.Moving.{by-moved}
use Rattle.law_progress.proofs.SomethingGoes.{none-due}
use Rattle.enet_world.specs.Private.Worlds.{IsReached}
use Rattle.enet_world.proofs.Lasting.{Lasts}
use Rattle.enet_world.proofs.Living.{named-has}
use Rattle.enet_world.proofs.Pings.{obeys-each}
use Rattle.enet_peer.proofs.Obeying.{unwelcomed-holds}

-- ---- nothing is to go, and nothing waits
pub record IsEmpty (o : Outbox) : Type 0 where
  acknowledgements : o.acknowledgements ≡ []
  unsequenced : o.unsequenced ≡ []
  queued : o.control.queued ≡ []
  sent : o.control.sent ≡ []
  senders : AreEmpty o.senders

empty-senders : (xs : List SendingEnd) → AreEmpty (map cleared_sender xs)
empty-senders [] = tt
empty-senders (x ∷ xs) = (refl, refl, empty-senders xs)

cleared-empty : (o : Outbox) → IsEmpty (outbox.cleared o)
cleared-empty o = record { acknowledgements = refl; unsequenced = refl; queued = refl; sent = refl; senders = empty-senders o.senders }

marked-senders : (tick : Tick) (xs : List SendingEnd) → AreEmpty xs → AreEmpty (map (marked_sender tick) xs)
marked-senders tick [] h = h
marked-senders tick (x ∷ xs) h = (h.0, ap (map (sender.marked tick)) h.1, marked-senders tick xs h.2)

marked-empty : (tick : Tick) (o : Outbox) → IsEmpty o → IsEmpty (outbox.marked o tick)
marked-empty tick o h = record { acknowledgements = h.acknowledgements; unsequenced = h.unsequenced; queued = h.queued; sent = ap (map (controlling.marked tick)) h.sent; senders = marked-senders tick o.senders h.senders }

empty-at : (xs : List SendingEnd) (i : ℕ) (s : SendingEnd) → AreEmpty xs → slice_get xs i ≡ Some s → (s.sender.queued ≡ []) × (s.sender.sent ≡ [])
empty-at [] i s h e = absurd (cc)
empty-at (x ∷ xs) zero s h e = let it : x ≡ s = cc in subst (λ (y : SendingEnd). (y.sender.queued ≡ []) × (y.sender.sent ≡ [])) it (h.0, h.1)
empty-at (x ∷ xs) (suc i) s h e = empty-at xs i s h.2 e

none-next : (now wait : ℕ) (c : controlling.Commands) (n : controlling.Next) → c.queued ≡ [] → c.sent ≡ [] → controlling.next now wait c ≡ Some n → ⊥
none-next now wait c n queued sent e =
    let none : controlling.next now wait c ≡ None =
    ap (λ (l : List SentControl). controlling.next_of now wait c (position (λ (p : SentControl). p.transmission.due) l)) sent ∙ ap (λ (l : List Numbered). controlling.next_queued now wait c l) queued in
    let z : ◌≡◌ {A = Option controlling.Next} None (Some n) = sym none ∙ e in
    cc

-- a datagram that is filled from it has nothing
record FillsNone (messages : List Message) (o : Outbox) : Type 0 where
  none : messages ≡ []
  left : IsEmpty o

fills-none : (pace : Pace) (o : Outbox) → IsEmpty o → FillsNone (filled pace o).messages (filled pace o).outbox
fills-none pace o h = by-filling pace o (λ f. FillsNone f.messages f.outbox) (record {
  closes = λ f k. record { none = k.none; left = k.left };
  acknowledges = λ f a rest e k. absurd (let z : a ∷ rest ≡ [] = sym e ∙ k.left.acknowledgements in cc);
  controls = λ f n e k. absurd (none-next pace.now pace.timeout f.outbox.control n k.left.queued k.left.sent e);
  puts_unsequenced = λ f u rest t e k. absurd (let z : u ∷ rest ≡ [] = sym e ∙ k.left.unsequenced in cc);
  drops_unsequenced = λ f u rest t e k. absurd (let z : u ∷ rest ≡ [] = sym e ∙ k.left.unsequenced in cc);
  puts_data = λ f i s n t there due k. absurd (let x = empty-at f.outbox.senders i s k.left.senders there in let y = none-due _ s.sender x.1 x.0 in let z : Some n ≡ None = sym due ∙ y in cc);
  drops_data = λ f i s n t there due kind k. absurd (let x = empty-at f.outbox.senders i s k.left.senders there in let y = none-due _ s.sender x.1 x.0 in let z : Some n ≡ None = sym due ∙ y in cc);
  keeps_room = λ f i x there wants k. record { none = k.none; left = record { acknowledgements = k.left.acknowledgements; unsequenced = k.left.unsequenced; queued = k.left.queued; sent = k.left.sent; senders = k.left.senders } };
  gives_room = λ f i x n there due k. record { none = k.none; left = record { acknowledgements = k.left.acknowledgements; unsequenced = k.left.unsequenced; queued = k.left.queued; sent = k.left.sent; senders = k.left.senders } };
}) (record { none = refl; left = h })

-- ---- so it is of a peer, where it has ended
abbrev pub IsSilent : Peering → Type 0
IsSilent p = p.state ≡ state.Ended → IsEmpty p.outbox

not-it : (s : PeerState) (p : Peering) → p.state ≡ s → s ≢ state.Ended → IsSilent p
not-it s p is n e = absurd (n (sym is ∙ e))

silent-ended : (p : Peering) (why : Ending) (info : ℕ) → IsSilent (ended p why info)
silent-ended p why info e = cleared-empty p.outbox

silent-settled : (p : Peering) → IsSilent p → IsSilent (settled p)
silent-settled p h = by (is_later p.state && outbox.is_done p.outbox)
  where
    by : (b : Bool) → IsSilent (cond b (disconnecting p p.info) p)
    by true = λ e. absurd (cc)
    by false = h

silent-answer : (p : Peering) (s : PeerState) (what : Control) → IsSilent p → IsSilent (with_answer s what p)
silent-answer p state.Answering (control.VerifyConnect verify) h = λ e. absurd (cc)
silent-answer p state.Disconnecting (control.Disconnect info) h = silent-ended p AskedHere 0
silent-answer p s what h = h

-- a command comes to a peer that hasn't ended
silent-acknowledge : (p : Peering) (now channel number told : ℕ) → p.state ≢ state.Ended → IsSilent (on_acknowledge p now channel number told)
silent-acknowledge p now channel number told n = by-state (is_connecting p.state)
  where
    time : ℕ
    time = meant_time told (p.offset % 2 ^ 16)

    q : Peering
    q = sampled (record p { outbox = with_growth (after_acknowledgement p.outbox channel number) (told_by p.outbox channel number time) }) now time

    h : IsSilent p
    h e = absurd (n e)

    k : IsSilent q
    k e = absurd (n e)

    by : (x : Matched) → IsSilent (on_match x p q)
    by matched.Nothing = h
    by matched.Data = silent-settled q k
    by (matched.Control what) = silent-settled (with_answer p.state what q) (silent-answer q p.state what k)

    by-state : (b : Bool) → IsSilent (cond b p (on_match (matched_by p.outbox channel number time) p q))
    by-state true = h
    by-state false = by (matched_by p.outbox channel number time)

silent-verify : (p : Peering) (v : Verify) (s : PeerState) → IsSilent p → IsSilent (on_verify_in s p v)
silent-verify p v state.Connecting h = by (confirmed p.offer v)
  where
    by : (o : Option Terms) → IsSilent (welcomed p v o)
    by None = unwelcomed-holds IsSilent p v h (silent-ended p BadAnswer 0)
    by (Some terms) = λ e. absurd (cc)
silent-verify p v s h = h

silent-last : (p : Peering) (b : Bool) (info : ℕ) → IsSilent (on_last_disconnect p b info)
silent-last p true info = λ e. absurd (cc)
silent-last p false info = silent-ended p AskedThere info

silent-disconnect : (p : Peering) (s : PeerState) (b : Bool) (info : ℕ) → IsSilent p → IsSilent (on_disconnect_in s p b info)
silent-disconnect p state.Connected b info h = silent-last p b info
silent-disconnect p state.DisconnectLater b info h = silent-last p b info
silent-disconnect p state.Connecting b info h = silent-ended p AskedThere info
silent-disconnect p state.Disconnecting b info h = silent-ended p AskedThere info
silent-disconnect p state.Answering b info h = λ e. absurd (cc)
silent-disconnect p s b info h = h

silent-answered : (p : Peering) (m : Message) (sent : Option ℕ) (may : Bool) → IsSilent p → IsSilent (answered p m sent may).after
silent-answered p m sent may h = by (m.head.acknowledge && may) (is_answered_in p.state m.body) refl sent
  where
    no : (s : PeerState) → s ≡ state.Ended → is_answered_in s m.body ≡ true → ⊥
    no s e t = (let z : false ≡ true = ap (λ (u : PeerState). is_answered_in u m.body) (sym e) ∙ t in cc)

    by : (a b : Bool) → is_answered_in p.state m.body ≡ b → (o : Option ℕ) → IsSilent (cond (a && b) (answered_at p m.head o) (record { stop = None; after = p })).after
    by true true t None = h
    by true true t (Some time) = λ e. absurd (no p.state e t)
    by true false t o = h
    by false b t o = h

silent-heard : (p : Peering) (now : ℕ) (sent : Option ℕ) (m : Message) → p.state ≢ state.Ended → IsSilent (obeyed p now sent m).after
silent-heard p now sent m n = obeys-each IsSilent p now sent m (record {
  same = h;
  holds = λ b. h;
  acknowledges = λ number time. silent-acknowledge p now m.head.channel number time n;
  verifies = λ v. silent-verify p v p.state h;
  ends = λ info e. silent-disconnect p p.state (m.head.acknowledge && is_some sent) info h;
  hears = λ incoming e. absurd (n e);
  paces = λ interval acceleration deceleration e. absurd (n e);
  answers = λ q may k. silent-answered q m sent may k;
})
  where
    h : IsSilent p
    h e = absurd (n e)

-- none has an effect at one that has
deaf : (p : Peering) (now : ℕ) (sent : Option ℕ) (m : Message) → p.state ≡ state.Ended → (obeyed p now sent m).after ≡ p
deaf p now sent m e = by (is_connect m.body) (is_allowed p.state m.body) (ap (λ (s : PeerState). is_allowed s m.body) e)
  where
    by : (a b : Bool) → b ≡ false → (cond a (stopped p stop.BadCommand) (cond b (unless_refused p m (by_body p now sent m m.body)) (stopped p stop.NotConnected))).after ≡ p
    by true b k = refl
    by false true k = absurd (cc)
    by false false k = refl

silent-obeyed : (p : Peering) (now : ℕ) (sent : Option ℕ) (m : Message) → IsSilent p → IsSilent (obeyed p now sent m).after
silent-obeyed p now sent m h = by p.state refl
  where
    other-state : (s : PeerState) → p.state ≡ s → s ≢ state.Ended → IsSilent (obeyed p now sent m).after
    other-state s is n = silent-heard p now sent m (λ e. n (sym is ∙ e))

    by : (s : PeerState) → p.state ≡ s → IsSilent (obeyed p now sent m).after
    by state.Ended is = subst IsSilent (sym (deaf p now sent m is)) h
    by s is = other-state s is (λ e. absurd (cc))

-- what else happens at it
silent-went : (p : Peering) (s : PeerState) → IsSilent p → IsSilent (gone_on_in s p)
silent-went p state.AckDisconnect h = silent-ended p AskedThere p.info
silent-went p state.Parting h = by (nat_lt 0 (length p.outbox.control.queued))
  where
    by : (b : Bool) → IsSilent (cond b p (freed p))
    by true = h
    by false = λ e. absurd (cc)
silent-went p s h = silent-settled p h

silent-left : (p : Peering) (leave : Leave) (info : ℕ) → IsSilent p → IsSilent (after_leave p (left leave p info))
silent-left p AtOnce info h = λ e. absurd (cc)
silent-left p TellsOnce info h = λ e. absurd (cc)
silent-left p Asks info h = λ e. absurd (cc)
silent-left p AsksLater info h = silent-settled (record p { state = state.DisconnectLater; info = info }) (λ e. absurd (cc))
silent-left p Refused info h = h

silent-ticked : (p : Peering) (n : ℕ) → IsSilent p → IsSilent (ticked p n)
silent-ticked p n h = by (expiry_of p n)
  where
    cut : (s : PeerState) → IsSilent (cut_off_in s p)
    cut state.Answering = λ e. absurd (cc)
    cut s = silent-ended p (silence_ending s) 0

    pings : (q : Peering) → IsSilent q → IsSilent (pinged q n)
    pings q g = go (is_pinged q n) refl
      where
        no : is_pinged q n ≡ true → q.state ≡ state.Ended → ⊥
        no t e = (let z : is_connected q.state ≡ true = and-left (is_connected q.state) (has_nothing_reliable q.outbox) (and-left (is_connected q.state && has_nothing_reliable q.outbox) (leb q.ping_interval (elapsed_time n q.heard)) t) in
            let y : false ≡ true = ap is_connected (sym e) ∙ z in cc)

        go : (b : Bool) → is_pinged q n ≡ b → IsSilent (cond b (record q { outbox = outbox.with_control q.outbox control.Ping }) q)
        go true t = λ e. absurd (no t e)
        go false t = g

    by : (e : Expiry) → IsSilent (pinged (after_timeouts_by e p n) n)
    by End = pings (cut_off_in p.state p) (cut p.state)
    by Resend = pings (record p { outbox = outbox.marked p.outbox (tick_of p n) }) (λ e. marked-empty (tick_of p n) p.outbox (h e))
    by No = pings p h

silent-moved : (short : Bool) (p : Peering) (n : ℕ) → IsSilent p → IsSilent (moved short p n)
silent-moved short p n h = by-moved IsSilent short p n (silent-ticked p n h) (λ at lasts e. absurd (let z : state.Answering ≡ state.Ended = sym at ∙ e in cc))

not-connected : (p : Peering) (channel len : ℕ) → submission_refusal p channel len ≡ None → p.state ≢ state.Ended
not-connected p channel len free e = by (is_connected p.state) _ (ap is_connected e) free
  where
    by : (b : Bool) (rest : Option Refusal) → b ≡ false → cond (not b) (Some NotConnected) rest ≡ None → ⊥
    by true rest k f = (let z : true ≡ false = k in cc)
    by false rest k f = (let z : ◌≡◌ {A = Option Refusal} (Some NotConnected) None = f in cc)

silent-set : (p : Peering) (s : event.Setting) → event.MaySet s p → IsSilent p → IsSilent (event.with_setting s p)
silent-set p (event.Bandwidth incoming outgoing) may h = told (is_connected p.state) refl
  where
    no : is_connected p.state ≡ true → p.state ≡ state.Ended → ⊥
    no t e = (let y : false ≡ true = ap is_connected (sym e) ∙ t in cc)

    told : (b : Bool) → is_connected p.state ≡ b
        → IsSilent (record p { limits = record p.limits { incoming = incoming; outgoing = outgoing }; outbox = cond b (outbox.with_control p.outbox (control.BandwidthLimit incoming outgoing)) p.outbox })
    told true t = λ e. absurd (no t e)
    told false t = h
silent-set p (event.Throttle interval acceleration deceleration) may h = λ e. absurd (let y : false ≡ true = ap is_connected (sym e) ∙ may in cc)
silent-set p (event.ThrottleLimit limit) may h = λ e. (let k = h e in record { acknowledgements = k.acknowledgements; unsequenced = k.unsequenced; queued = k.queued; sent = k.sent; senders = k.senders })
silent-set p (event.PingInterval ms) may h = h
silent-set p (event.Timeout limit minimum maximum) may h = h

silent-lasts : Lasts IsSilent
silent-lasts = record {
  submits = λ p channel q free h e. absurd (not-connected p channel (length q.body) free (same-state p channel q e));
  emits = λ p now h. silent-went (record p { outbox = (filled (pace_of p now) p.outbox).outbox }) p.state (λ e. (let k = fills-none (pace_of p now) p.outbox (h e) in k.left));
  comes = λ full p now sent m h. heeded-holds (λ (o : Outcome). IsSilent o.after) full p now sent m (silent-obeyed p now sent m h) (λ answers e. absurd (let y : false ≡ true = ap is_answering (sym e) ∙ answers in cc));
  yields = λ p answers h e. absurd (cc);
  tells = λ p away h. again p (and-left (is_answering p.state) p.refused away) h (nat_lt 0 (length p.outbox.control.queued));
  ticks = λ short p now h. silent-moved short p now h;
  takes = λ p q e next h. took (λ y t. IsSilent y) p q e next (λ info g. h) (λ x rest g u. h) (λ g u at s. absurd (cc));
  leaves = λ p q way info e h. subst (λ (o : Option Peering). IsSilent (after_leave p o)) e (silent-left p (leave_by way p.state) info h);
  sets = λ p s may h. silent-set p s may h;
}
  where
    same-state : (p : Peering) (channel : ℕ) (q : Packet) → (submitted p channel q).state ≡ state.Ended → p.state ≡ state.Ended
    same-state p channel q e = e

    again : (p : Peering) → is_answering p.state ≡ true → IsSilent p → (b : Bool) → IsSilent (cond b p (told_full p))
    again p answers h true = h
    again p answers h false = λ e. absurd (let y : false ≡ true = ap is_answering (sym e) ∙ answers in cc)

named-silent : (joined : Bool) (w : World) → IsReached joined w → (side : Side) (name : PeerRef) (p : Peering) → named (site_of w side).host.slots name ≡ Some p → IsSilent p
named-silent = named-has IsSilent silent-lasts (record {
  joined = λ c low e. absurd (cc);
  asks = λ c now i s question low e. absurd (cc);
  answers = λ c now i s o e. absurd (cc);
})

-- so it puts out nothing
pub ended-puts-none : (joined : Bool) (w : World) → IsReached joined w → (side : Side) (name : PeerRef) (p : Peering) → named (site_of w side).host.slots name ≡ Some p → p.state ≡ state.Ended → (now : ℕ) → (filled (pace_of p now) p.outbox).messages ≡ []
ended-puts-none joined w r side name p is e now = (let k = fills-none (pace_of p now) p.outbox (named-silent joined w r side name p is e) in k.none)
