-- Where a command is answered, fewer acknowledgements wait than may.
use Rattle.std.proofs.Common.{◌≡◌, ℕ, ◌≤◌, ◌%◌, ◌^◌, Bool, true, false, cond, ◌&&◌, not, List, length, Option, Some, None, Result, Ok, Err, refl, sym, ap, subst, ◌∙◌, arith}
use Rattle.std.specs.Prelude.{is_some, nat_le}
use Rattle.std.proofs.lemmas.Bool.Decides.{nat_tests}
use Rattle.enet_codec.specs.declared.command.Verify.{Verify}
use Rattle.enet_codec.specs.declared.stop.Stop.{Stop}
use Rattle.enet_codec.specs.declared.stop.Stop.TheVariants as stop
use Rattle.enet_codec.specs.Message.{Message, Body, acknowledge, connect, verify_connect, disconnect, ping, send_reliable, send_unreliable, send_fragment, send_unsequenced, bandwidth_limit, throttle_configure, send_unreliable_fragment}
use Rattle.enet_connect.specs.declared.terms.Terms.{Terms}
use Rattle.enet_connect.specs.Verification.{confirmed}
use Rattle.enet_senders.specs.declared.control.Control.{Control}
use Rattle.enet_senders.specs.declared.control.Control.TheVariants as control
use Rattle.enet_rtt.specs.Clock.{meant_time}
use Rattle.enet_outbox.specs.declared.parts.Acknowledgement.{Acknowledgement}
use Rattle.enet_outbox.specs.declared.parts.Matched.{Matched}
use Rattle.enet_outbox.specs.declared.parts.Matched.TheVariants as matched
use Rattle.enet_outbox.specs.Outbox.{is_crowded, is_done, matched_by}
use Rattle.enet_peer.specs.declared.parts.Ending.TheVariants.{BadAnswer}
use Rattle.enet_peer.specs.declared.parts.PeerState.{PeerState}
use Rattle.enet_peer.specs.declared.parts.PeerState.TheVariants as state
use Rattle.enet_peer.specs.Peering.{Peering}
use Rattle.enet_peer.specs.Endings.{disconnecting, ended, is_later, settled}
use Rattle.enet_peer.specs.CommandEffect.{acknowledged, drops_acknowledgements, is_allowed, is_answered_in, is_connect, is_connecting, is_crowded_out, is_disconnect, is_unasked, on_acknowledge, on_disconnect_in, on_last_disconnect, on_match, on_verify_in, welcomed, with_answer}
use Rattle.enet_peer.specs.Acting.{foreseen, foreseen_body}
use Rattle.enet_peer.specs.Private.Acting.{acted, acted_body, may_be_answered}
use Rattle.enet_peer.proofs.Answered.{matched-stays}
use Rattle.enet_peer.proofs.Obeying.{unwelcomed-holds}

abbrev waiting : Peering → ℕ
waiting p = length p.outbox.acknowledgements

-- a command that nothing stops isn't crowded out
clear-of : (is_bad may_come unasked crowded : Bool) (r : Result Bool Stop) (may : Bool)
    → cond is_bad (Err stop.BadCommand) (cond may_come (cond unasked (Err stop.NotConnected) (cond crowded (Err stop.Waiting) r)) (Err stop.NotConnected)) ≡ Ok may → crowded ≡ false
clear-of true may_come unasked crowded r may e = absurd (cc)
clear-of false false unasked crowded r may e = absurd (cc)
clear-of false true true crowded r may e = absurd (cc)
clear-of false true false true r may e = absurd (cc)
clear-of false true false false r may e = refl

not-out : (p : Peering) (m : Message) (may : Bool) → foreseen p m ≡ Ok may → is_crowded_out p m ≡ false
not-out p m may e = clear-of (is_connect m.body) (is_allowed p.state m.body) (is_unasked p m.body) (is_crowded_out p m) (foreseen_body p m m.body) may e

-- nothing that a command does has more acknowledgements wait
settled-fewer : (q : Peering) → waiting (settled q) ≤ waiting q
settled-fewer q = by (is_later q.state && is_done q.outbox)
  where
    by : (b : Bool) → waiting (cond b (disconnecting q q.info) q) ≤ waiting q
    by true = omega arith
    by false = omega arith

answer-fewer : (s : PeerState) (what : Control) (q : Peering) → waiting (with_answer s what q) ≤ waiting q
answer-fewer state.Answering (control.VerifyConnect v) q = omega arith
answer-fewer state.Disconnecting (control.Disconnect info) q = omega arith
answer-fewer s what q = omega arith

gone-same : (p : Peering) (now channel number time : ℕ) → waiting (acknowledged p now channel number time) ≡ waiting p
gone-same p now channel number time = ap (λ (xs : List Acknowledgement). length xs) (matched-stays p.outbox channel number)

match-fewer : (what : Matched) (p q : Peering) → waiting q ≡ waiting p → waiting (on_match what p q) ≤ waiting p
match-fewer matched.Nothing p q e = omega arith
match-fewer matched.Data p q e = let s : waiting (settled q) ≤ waiting q = settled-fewer q in omega arith
match-fewer (matched.Control what) p q e =
    let s : waiting (settled (with_answer p.state what q)) ≤ waiting (with_answer p.state what q) = settled-fewer (with_answer p.state what q) in
    let a : waiting (with_answer p.state what q) ≤ waiting q = answer-fewer p.state what q in
    omega arith

acknowledge-fewer : (p : Peering) (now channel number told : ℕ) → waiting (on_acknowledge p now channel number told) ≤ waiting p
acknowledge-fewer p now channel number told = by (is_connecting p.state)
  where
    meant : ℕ
    meant = meant_time told (p.offset % 2 ^ 16)

    by : (b : Bool) → waiting (cond b p (on_match (matched_by p.outbox channel number meant) p (acknowledged p now channel number meant))) ≤ waiting p
    by true = omega arith
    by false = match-fewer (matched_by p.outbox channel number meant) p (acknowledged p now channel number meant) (gone-same p now channel number meant)

welcome-fewer : (p : Peering) (v : Verify) (o : Option Terms) → waiting (welcomed p v o) ≤ waiting p
welcome-fewer p v None =
    let same : waiting p ≤ waiting p = omega arith in
    let none : waiting (ended p BadAnswer 0) ≤ waiting p = omega arith in
    unwelcomed-holds (λ (q : Peering). waiting q ≤ waiting p) p v same none
welcome-fewer p v (Some terms) = omega arith

verify-fewer : (s : PeerState) (p : Peering) (v : Verify) → waiting (on_verify_in s p v) ≤ waiting p
verify-fewer state.Connecting p v = welcome-fewer p v (confirmed p.offer v)
verify-fewer s p v = omega arith

last-none : (p : Peering) (b : Bool) (info : ℕ) → waiting (on_last_disconnect p b info) ≡ 0
last-none p true info = refl
last-none p false info = refl

disconnect-fewer : (s : PeerState) (p : Peering) (b : Bool) (info : ℕ) → waiting (on_disconnect_in s p b info) ≤ waiting p
disconnect-fewer state.Connected p b info = let n : waiting (on_last_disconnect p b info) ≡ 0 = last-none p b info in omega arith
disconnect-fewer state.DisconnectLater p b info = let n : waiting (on_last_disconnect p b info) ≡ 0 = last-none p b info in omega arith
disconnect-fewer state.Connecting p b info = omega arith
disconnect-fewer state.Disconnecting p b info = omega arith
disconnect-fewer state.Answering p b info = omega arith
disconnect-fewer s p b info = omega arith

acted-fewer : (p : Peering) (now : ℕ) (tells : Bool) (m : Message) (body : Body) → waiting (acted_body p now tells m body) ≤ waiting p
acted-fewer p now tells m (acknowledge number time) = acknowledge-fewer p now m.head.channel number time
acted-fewer p now tells m (verify_connect v) = verify-fewer p.state p v
acted-fewer p now tells m (disconnect info) = disconnect-fewer p.state p (m.head.acknowledge && tells) info
acted-fewer p now tells m (connect offer) = omega arith
acted-fewer p now tells m ping = omega arith
acted-fewer p now tells m (bandwidth_limit incoming outgoing) = omega arith
acted-fewer p now tells m (throttle_configure interval acceleration deceleration) = omega arith
acted-fewer p now tells m (send_reliable payload) = omega arith
acted-fewer p now tells m (send_unreliable n payload) = omega arith
acted-fewer p now tells m (send_fragment f payload) = omega arith
acted-fewer p now tells m (send_unsequenced group payload) = omega arith
acted-fewer p now tells m (send_unreliable_fragment f payload) = omega arith

-- one that drops them leaves none
only-disconnect : (s : PeerState) (body : Body) → drops_acknowledgements s body ≡ true → is_disconnect body ≡ true
only-disconnect state.Connected body e = e
only-disconnect state.DisconnectLater body e = e
only-disconnect s body e = absurd (let x : false ≡ true = e in cc)

disconnect-none : (s : PeerState) (p : Peering) (b : Bool) (info : ℕ) → drops_acknowledgements s (disconnect info) ≡ true → waiting (on_disconnect_in s p b info) ≡ 0
disconnect-none state.Connected p b info e = last-none p b info
disconnect-none state.DisconnectLater p b info e = last-none p b info
disconnect-none s p b info e = absurd (let x : false ≡ true = e in cc)

acted-none : (p : Peering) (now : ℕ) (tells : Bool) (m : Message) (body : Body) → drops_acknowledgements p.state body ≡ true → waiting (acted_body p now tells m body) ≡ 0
acted-none p now tells m (disconnect info) e = disconnect-none p.state p (m.head.acknowledge && tells) info e
acted-none p now tells m body e = absurd (let d : false ≡ true = only-disconnect p.state body e in cc)

first-of : (a b : Bool) → (a && b) ≡ true → a ≡ true
first-of true b h = refl
first-of false b h = absurd (cc)

fewer-than : (n k : ℕ) → k ≤ n → nat_le 8192 n ≡ false → nat_le 8192 k ≡ false
fewer-than n k le e = grind (arith, nat_tests)

-- the acknowledgement of a command that took effect is one of those that may wait
pub has_few : (p q : Peering) (now : ℕ) (sent : Option ℕ) (m : Message) (may : Bool) → foreseen p m ≡ Ok may → q ≡ acted p now (is_some sent) m
    → (may_be_answered sent m may && is_answered_in q.state m.body) ≡ true → is_crowded q.outbox ≡ false
has_few p q now sent m may f is h = subst (λ (x : Peering). is_crowded x.outbox ≡ false) (sym is) (by (drops_acknowledgements p.state m.body) refl)
  where
    asks : m.head.acknowledge ≡ true
    asks = first-of m.head.acknowledge (is_some sent) (first-of (m.head.acknowledge && is_some sent) may (first-of (may_be_answered sent m may) (is_answered_in q.state m.body) h))

    after : Peering
    after = acted p now (is_some sent) m

    by : (b : Bool) → drops_acknowledgements p.state m.body ≡ b → is_crowded after.outbox ≡ false
    by true e = ap (λ n. nat_le 8192 n) (acted-none p now (is_some sent) m m.body e)
    by false e =
        let out : (true && not false && is_crowded p.outbox) ≡ false =
        ap (λ a. a && not false && is_crowded p.outbox) (sym asks) ∙ ap (λ d. m.head.acknowledge && not d && is_crowded p.outbox) (sym e) ∙ not-out p m may f in
        fewer-than (waiting p) (waiting after) (acted-fewer p now (is_some sent) m m.body) out
