-- The places of acknowledgements: where one may be queued there is one, and where one was wanted one more waits.
use Rattle.std.proofs.Common.{◌≡◌, ℕ, ◌+◌, ◌≤◌, ◌%◌, ◌^◌, ◌⊎◌, inl, inr, Bool, true, false, cond, Option, Some, None, Result, Ok, Err, [], ◌∷◌, length, refl, sym, ap, subst, ◌∙◌, arith}
use Rattle.std.specs.Prelude.{◌&&◌, ◌||◌, not, nat_lt, is_some, IsTrue}
use Rattle.std.proofs.lemmas.Bool.Decides.{nat_tests}
use Rattle.std.proofs.lemmas.List.{length-append}
use Rattle.enet_codec.specs.declared.stop.Stop.{Stop}
use Rattle.enet_codec.specs.declared.command.Verify.{Verify}
use Rattle.enet_codec.specs.Message.{Message, Body, acknowledge, connect, verify_connect, disconnect, ping, send_reliable, send_unreliable, send_fragment, send_unsequenced, bandwidth_limit, throttle_configure, send_unreliable_fragment}
use Rattle.enet_connect.specs.declared.terms.Terms.{Terms}
use Rattle.enet_connect.specs.Verification.{confirmed}
use Rattle.enet_senders.specs.declared.control.Control.{Control}
use Rattle.enet_senders.specs.declared.control.Control.TheVariants as control
use Rattle.enet_rtt.specs.Clock.{meant_time}
use Rattle.enet_outbox.specs.declared.parts.Matched.{Matched}
use Rattle.enet_outbox.specs.declared.parts.Matched.TheVariants as matched
use Rattle.enet_outbox.specs.Outbox.{matched_by}
use Rattle.enet_peer.specs.declared.parts.PeerState.{PeerState}
use Rattle.enet_peer.specs.declared.parts.PeerState.TheVariants as state
use Rattle.enet_peer.specs.Peering.{Peering}
use Rattle.enet_peer.specs.CommandEffect.{Outcome, answered, answered_at, is_acknowledge, is_answered_in, is_disconnect, is_kept, Obeys, Stops, obeyed, on_acknowledge, is_connecting, on_disconnect_in, acknowledged, on_match, on_verify_in, waits_longer, wants_memory, welcomed}
use Rattle.enet_peer.specs.Acting.{foreseen}
use Rattle.enet_peer.specs.Private.Acting.{acted, by_foresight, is_welcomed_by, may_be_answered, may_clear, none_waits, Replies, wants_place, wants_place_in}
use Rattle.enet_peer.proofs.Arriving.{obeyed_is}
use Rattle.enet_peer.proofs.Obeying.{unwelcomed-holds}

waiting : Peering → ℕ
waiting p = length p.outbox.acknowledgements

-- a command leaves a state in which it is answered, and all that waited or nothing did
abbrev IsReady : Peering → Peering → Body → Type 0
IsReady p q body = (is_answered_in q.state body ≡ true) × (length p.outbox.acknowledgements ≤ length q.outbox.acknowledgements)

same_ready : (p q : Peering) (body : Body) → q.outbox ≡ p.outbox → is_answered_in q.state body ≡ true → IsReady p q body
same_ready p q body same answered' = (answered', (let n : length q.outbox.acknowledgements ≡ length p.outbox.acknowledgements = ap (λ o. length o.acknowledgements) same in omega arith))

no_other : (n : ℕ) → not (nat_lt 0 n) ≡ true → n ≡ 0
no_other n h = grind (arith, nat_tests)

some_other : (n : ℕ) → not (nat_lt 0 n) ≡ false → 1 ≤ n
some_other n h = grind (arith, nat_tests)

and_left : (a b : Bool) → (a && b) ≡ true → a ≡ true
and_left true b h = refl
and_left false b h = absurd (cc)

and_right : (a b : Bool) → (a && b) ≡ true → b ≡ true
and_right true b h = h
and_right false b h = absurd (cc)

-- a command that changes neither state nor lists
plain_ready : (s : PeerState) (p : Peering) (body : Body) → is_disconnect body ≡ false → is_acknowledge body ≡ false → is_welcomed_by p body ≡ false → wants_place_in s p body ≡ true → is_answered_in s body ≡ true
plain_ready state.Connected p body d a v w = refl
plain_ready state.DisconnectLater p body d a v w = refl
plain_ready state.Connecting p body d a v w = absurd (let t = and_left (is_welcomed_by p body) (none_waits p) w in cc)
plain_ready state.Answering p body d a v w = absurd (cc)
plain_ready state.AckDisconnect p body d a v w = absurd (cc)
plain_ready state.Disconnecting p body d a v w = absurd (cc)
plain_ready state.Free p body d a v w = absurd (cc)
plain_ready state.Ended p body d a v w = absurd (cc)
plain_ready state.Parting p body d a v w = absurd (cc)

disconnect_ready : (s : PeerState) (p : Peering) (info : ℕ) → p.state ≡ s → wants_place_in s p (disconnect info) ≡ true → IsReady p (on_disconnect_in s p true info) (disconnect info)
disconnect_ready state.Connected p info e w = (refl, (let n = no_other (length p.outbox.acknowledgements) w in omega arith))
disconnect_ready state.DisconnectLater p info e w = (refl, (let n = no_other (length p.outbox.acknowledgements) w in omega arith))
disconnect_ready state.AckDisconnect p info e w = same_ready p p (disconnect info) refl (ap (λ (s : PeerState). is_answered_in s (disconnect info)) e)
disconnect_ready state.Connecting p info e w = absurd (cc)
disconnect_ready state.Answering p info e w = absurd (cc)
disconnect_ready state.Disconnecting p info e w = absurd (cc)
disconnect_ready state.Free p info e w = absurd (cc)
disconnect_ready state.Ended p info e w = absurd (cc)
disconnect_ready state.Parting p info e w = absurd (cc)

welcome_ready : (p : Peering) (v : Verify) (o : Option Terms) → (is_some o && none_waits p) ≡ true → IsReady p (welcomed p v o) (verify_connect v)
welcome_ready p v None w = absurd (cc)
welcome_ready p v (Some terms) w = (refl, (let n = no_other (length p.outbox.acknowledgements) w in omega arith))

verify_ready : (s : PeerState) (p : Peering) (v : Verify) → p.state ≡ s → wants_place_in s p (verify_connect v) ≡ true → IsReady p (on_verify_in s p v) (verify_connect v)
verify_ready state.Connecting p v e w = welcome_ready p v (confirmed p.offer v) w
verify_ready state.Connected p v e w = same_ready p p (verify_connect v) refl (ap (λ (s : PeerState). is_answered_in s (verify_connect v)) e)
verify_ready state.DisconnectLater p v e w = same_ready p p (verify_connect v) refl (ap (λ (s : PeerState). is_answered_in s (verify_connect v)) e)
verify_ready state.AckDisconnect p v e w = absurd (cc)
verify_ready state.Answering p v e w = absurd (cc)
verify_ready state.Disconnecting p v e w = absurd (cc)
verify_ready state.Free p v e w = absurd (cc)
verify_ready state.Ended p v e w = absurd (cc)
verify_ready state.Parting p v e w = absurd (cc)

asks_of : (sent : Option ℕ) (m : Message) (may : Bool) → may_be_answered sent m may ≡ true → m.head.acknowledge ≡ true
asks_of sent m may h = and_left m.head.acknowledge (is_some sent) (and_left (m.head.acknowledge && is_some sent) may h)

-- one acknowledgement more waits
more : (p q : Peering) (m : Message) (sent : Option ℕ) (may : Bool) → may_be_answered sent m may ≡ true → IsReady p q m.body → waits_longer p (answered q m sent may).after ≡ true
more p q m None may h r = absurd (let t = and_right m.head.acknowledge (is_some {T = ℕ} None) (and_left (m.head.acknowledge && is_some {T = ℕ} None) may h) in cc)
more p q m (Some time) may h r =
    let asks = asks_of (Some time) m may h in
    let may' = and_right (m.head.acknowledge && true) may h in
    let test : (m.head.acknowledge && may && is_answered_in q.state m.body) ≡ true = ap (λ b. b && may && is_answered_in q.state m.body) asks ∙ ap (λ b. b && is_answered_in q.state m.body) may' ∙ r.0 in
    let o : Outcome = answered_at q m.head (Some time) in
    let longer = length-append q.outbox.acknowledgements ((record { channel = m.head.channel; number = m.head.number; time = time }) ∷ []) in
    let bound = r.1 in
    let more' : nat_lt (length p.outbox.acknowledgements) (length o.after.outbox.acknowledgements) ≡ true = grind (arith, nat_tests) in
    ap (λ b. waits_longer p (cond b o (record { stop = None; after = q })).after) test ∙ more'

or_first : (a b c : Bool) → a ≡ true → (a || b || c) ≡ true
or_first true b c e = refl
or_first false b c e = absurd (cc)

or_second : (a b c : Bool) → b ≡ true → (a || b || c) ≡ true
or_second true b c e = refl
or_second false true c e = refl
or_second false false c e = absurd (cc)

or_third : (a b c : Bool) → c ≡ true → (a || b || c) ≡ true
or_third true b c e = refl
or_third false true c e = refl
or_third false false c e = e

longer_wanted : (p : Peering) (now : ℕ) (sent : Option ℕ) (m : Message) (may : Bool) → foreseen p m ≡ Ok may → may_be_answered sent m may ≡ true → IsReady p (acted p now (is_some sent) m) m.body → wants_memory p now sent m ≡ true
longer_wanted p now sent m may f h r =
    let is : obeyed p now sent m ≡ answered (acted p now (is_some sent) m) m sent may = obeyed_is p now sent m ∙ ap (by_foresight p (acted p now (is_some sent) m) m sent) f in
    or_second (is_kept p m) (waits_longer p (obeyed p now sent m).after) (m.head.acknowledge && is_acknowledge m.body)
    (ap (λ (o : Outcome). waits_longer p o.after) is ∙ more p (acted p now (is_some sent) m) m sent may h r)

answerable : (sent : Option ℕ) (m : Message) (may : Bool) → may_be_answered sent m may ≡ true → (m.head.acknowledge && is_some sent) ≡ true
answerable sent m may h = and_left (m.head.acknowledge && is_some sent) may h

ready : (p : Peering) (now : ℕ) (sent : Option ℕ) (h : Rattle.enet_codec.specs.declared.command.Head.Head) (may : Bool) (body : Body) → is_acknowledge body ≡ false → may_be_answered sent (record { head = h; body = body }) may ≡ true
    → wants_place p body ≡ true → IsReady p (acted p now (is_some sent) (record { head = h; body = body })) body
ready p now sent h may (acknowledge n t) k a w = absurd (cc)
ready p now sent h may (connect o) k a w = same_ready p p (connect o) refl (plain_ready p.state p (connect o) refl refl refl w)
ready p now sent h may (verify_connect v) k a w = verify_ready p.state p v refl w
ready p now sent h may (disconnect i) k a w =
    subst (λ b. IsReady p (on_disconnect_in p.state p b i) (disconnect i)) (sym (answerable sent (record { head = h; body = disconnect i }) may a)) (disconnect_ready p.state p i refl w)
ready p now sent h may ping k a w = same_ready p p ping refl (plain_ready p.state p ping refl refl refl w)
ready p now sent h may (bandwidth_limit i o) k a w = (plain_ready p.state p (bandwidth_limit i o) refl refl refl w, omega arith)
ready p now sent h may (throttle_configure i x d) k a w = (plain_ready p.state p (throttle_configure i x d) refl refl refl w, omega arith)
ready p now sent h may (send_reliable b) k a w = (plain_ready p.state p (send_reliable b) refl refl refl w, omega arith)
ready p now sent h may (send_unreliable n b) k a w = (plain_ready p.state p (send_unreliable n b) refl refl refl w, omega arith)
ready p now sent h may (send_fragment f b) k a w = (plain_ready p.state p (send_fragment f b) refl refl refl w, omega arith)
ready p now sent h may (send_unsequenced g b) k a w = (plain_ready p.state p (send_unsequenced g b) refl refl refl w, omega arith)
ready p now sent h may (send_unreliable_fragment f b) k a w = (plain_ready p.state p (send_unreliable_fragment f b) refl refl refl w, omega arith)

acknowledge_or_not : (b : Bool) → (b ≡ true) ⊎ (b ≡ false)
acknowledge_or_not true = inl refl
acknowledge_or_not false = inr refl

-- where the acknowledgement of a command is to have a place, memory may be wanted
pub place_wanted : (p : Peering) (now : ℕ) (sent : Option ℕ) (m : Message) (may : Bool) → foreseen p m ≡ Ok may → (may_be_answered sent m may && wants_place p m.body) ≡ true → wants_memory p now sent m ≡ true
place_wanted p now sent m may f h =
    let a = and_left (may_be_answered sent m may) (wants_place p m.body) h in
    let w = and_right (may_be_answered sent m may) (wants_place p m.body) h in
    elim (acknowledge_or_not (is_acknowledge m.body)) [
      | inl is ↦ or_third (is_kept p m) (waits_longer p (obeyed p now sent m).after) (m.head.acknowledge && is_acknowledge m.body)
          (ap (λ b. b && is_acknowledge m.body) (asks_of sent m may a) ∙ is)
      | inr other ↦ longer_wanted p now sent m may f a (ready p now sent m.head may m.body other a w)
    ]

pub kept_wanted : (p : Peering) (now : ℕ) (sent : Option ℕ) (m : Message) → is_kept p m ≡ true → wants_memory p now sent m ≡ true
kept_wanted p now sent m k = or_first (is_kept p m) (waits_longer p (obeyed p now sent m).after) (m.head.acknowledge && is_acknowledge m.body) k

-- where a command is answered in the state that it leaves, its acknowledgement was to have a place, or all that waited is gone
abbrev HasPlace : Peering → Peering → Body → Type 0
HasPlace p q body = (wants_place p body ≡ true) ⊎ ((may_clear body ≡ true) × (length q.outbox.acknowledgements ≡ 0) × (1 ≤ length p.outbox.acknowledgements))

not_or : (b c : Bool) → b ≡ false → (not b || c) ≡ true
not_or true c e = absurd (cc)
not_or false c e = refl

plain_place : (s : PeerState) (p : Peering) (body : Body) → is_disconnect body ≡ false → is_answered_in s body ≡ true → wants_place_in s p body ≡ true
plain_place state.Connected p body d a = not_or (is_disconnect body) (none_waits p) d
plain_place state.DisconnectLater p body d a = not_or (is_disconnect body) (none_waits p) d
plain_place state.AckDisconnect p body d a = absurd (cc)
plain_place state.Connecting p body d a = absurd (cc)
plain_place state.Answering p body d a = absurd (cc)
plain_place state.Disconnecting p body d a = absurd (cc)
plain_place state.Free p body d a = absurd (cc)
plain_place state.Ended p body d a = absurd (cc)
plain_place state.Parting p body d a = absurd (cc)

none_or_some : (p q : Peering) (body : Body) → may_clear body ≡ true → length q.outbox.acknowledgements ≡ 0 → (none_waits p ≡ true → wants_place p body ≡ true) → HasPlace p q body
none_or_some p q body clears gone wants =
    elim (acknowledge_or_not (none_waits p)) [
      | inl none ↦ inl (wants none)
      | inr some ↦ inr (clears, gone, some_other (length p.outbox.acknowledgements) some)
    ]

disconnect_place : (s : PeerState) (p : Peering) (info : ℕ) → p.state ≡ s → is_answered_in (on_disconnect_in s p true info).state (disconnect info) ≡ true → HasPlace p (on_disconnect_in s p true info) (disconnect info)
disconnect_place state.Connected p info e a = none_or_some p (on_disconnect_in state.Connected p true info) (disconnect info) refl refl (λ n. ap (λ (s : PeerState). wants_place_in s p (disconnect info)) e ∙ n)
disconnect_place state.DisconnectLater p info e a = none_or_some p (on_disconnect_in state.DisconnectLater p true info) (disconnect info) refl refl (λ n. ap (λ (s : PeerState). wants_place_in s p (disconnect info)) e ∙ n)
disconnect_place state.AckDisconnect p info e a = inl (ap (λ (s : PeerState). wants_place_in s p (disconnect info)) e)
disconnect_place state.Connecting p info e a = absurd (cc)
disconnect_place state.Answering p info e a = absurd (cc)
disconnect_place state.Disconnecting p info e a = absurd (cc)
disconnect_place state.Free p info e a = absurd (let t = ap (λ (s : PeerState). is_answered_in s (disconnect info)) e in cc)
disconnect_place state.Ended p info e a = absurd (let t = ap (λ (s : PeerState). is_answered_in s (disconnect info)) e in cc)
disconnect_place state.Parting p info e a = absurd (let t = ap (λ (s : PeerState). is_answered_in s (disconnect info)) e in cc)

welcome_place : (p : Peering) (v : Verify) (o : Option Terms) → p.state ≡ state.Connecting → confirmed p.offer v ≡ o → is_answered_in (welcomed p v o).state (verify_connect v) ≡ true → HasPlace p (welcomed p v o) (verify_connect v)
welcome_place p v None e c a =
    let none : is_answered_in (welcomed p v None).state (verify_connect v) ≡ false =
    unwelcomed-holds (λ (q : Peering). is_answered_in q.state (verify_connect v) ≡ false) p v (ap (λ (s : PeerState). is_answered_in s (verify_connect v)) e) refl in
    absurd (let x : false ≡ true = sym none ∙ a in cc)
welcome_place p v (Some terms) e c a =
    none_or_some p (welcomed p v (Some terms)) (verify_connect v) refl refl (λ n. ap (λ (s : PeerState). wants_place_in s p (verify_connect v)) e ∙ ap (λ (o : Option Terms). is_some o && none_waits p) c ∙ n)

verify_place : (s : PeerState) (p : Peering) (v : Verify) → p.state ≡ s → is_answered_in (on_verify_in s p v).state (verify_connect v) ≡ true → HasPlace p (on_verify_in s p v) (verify_connect v)
verify_place state.Connecting p v e a = welcome_place p v (confirmed p.offer v) e refl a
verify_place state.Connected p v e a = inl (plain_place p.state p (verify_connect v) refl a)
verify_place state.DisconnectLater p v e a = inl (plain_place p.state p (verify_connect v) refl a)
verify_place state.AckDisconnect p v e a = inl (plain_place p.state p (verify_connect v) refl a)
verify_place state.Answering p v e a = inl (plain_place p.state p (verify_connect v) refl a)
verify_place state.Disconnecting p v e a = inl (plain_place p.state p (verify_connect v) refl a)
verify_place state.Free p v e a = inl (plain_place p.state p (verify_connect v) refl a)
verify_place state.Ended p v e a = inl (plain_place p.state p (verify_connect v) refl a)
verify_place state.Parting p v e a = inl (plain_place p.state p (verify_connect v) refl a)

-- no acknowledgement of a command is an end's own answer
unanswered : (s : PeerState) (p : Peering) (what : Matched) (now channel number time n t : ℕ) → p.state ≡ s → wants_place_in s p (acknowledge n t) ≡ false → is_answered_in (cond (is_connecting p.state) p (on_match what p (acknowledged p now channel number time))).state (acknowledge n t) ≡ true → ⊥
unanswered s p what now channel number time n t e w a = by-state s e w
  where
    at : PeerState → Peering
    at s = record p { state = s }

    left : PeerState → Matched → Peering
    left s what = cond (is_connecting s) (at s) (on_match what (at s) (acknowledged (at s) now channel number time))

    quiet : (s : PeerState) → p.state ≡ s → is_answered_in (left s what).state (acknowledge n t) ≡ false → ⊥
    quiet s e f = let same : is_answered_in (left p.state what).state (acknowledge n t) ≡ true = a in
        let there : is_answered_in (left s what).state (acknowledge n t) ≡ true = subst (λ (x : PeerState). is_answered_in (left x what).state (acknowledge n t) ≡ true) e same in cc

    by-control : (c : Control) → is_answered_in (left state.Disconnecting (matched.Control c)).state (acknowledge n t) ≡ false
    by-control (control.Connect o) = refl
    by-control (control.VerifyConnect v) = refl
    by-control (control.Disconnect i) = refl
    by-control (control.DisconnectNow i) = refl
    by-control control.Ping = refl
    by-control (control.BandwidthLimit i o) = refl
    by-control (control.ThrottleConfigure i x d) = refl

    disconnecting : (what : Matched) → is_answered_in (left state.Disconnecting what).state (acknowledge n t) ≡ false
    disconnecting matched.Nothing = refl
    disconnecting matched.Data = refl
    disconnecting (matched.Control c) = by-control c

    ending : (what : Matched) → is_answered_in (left state.AckDisconnect what).state (acknowledge n t) ≡ false
    ending matched.Nothing = refl
    ending matched.Data = refl
    ending (matched.Control c) = refl

    free : (what : Matched) → is_answered_in (left state.Free what).state (acknowledge n t) ≡ false
    free matched.Nothing = refl
    free matched.Data = refl
    free (matched.Control c) = refl

    ended : (what : Matched) → is_answered_in (left state.Ended what).state (acknowledge n t) ≡ false
    ended matched.Nothing = refl
    ended matched.Data = refl
    ended (matched.Control c) = refl

    parting : (what : Matched) → is_answered_in (left state.Parting what).state (acknowledge n t) ≡ false
    parting matched.Nothing = refl
    parting matched.Data = refl
    parting (matched.Control c) = refl

    by-state : (s : PeerState) → p.state ≡ s → wants_place_in s p (acknowledge n t) ≡ false → ⊥
    by-state state.Connected e w = absurd (cc)
    by-state state.DisconnectLater e w = absurd (cc)
    by-state state.Answering e w = absurd (cc)
    by-state state.Connecting e w = quiet state.Connecting e refl
    by-state state.Disconnecting e w = quiet state.Disconnecting e (disconnecting what)
    by-state state.AckDisconnect e w = quiet state.AckDisconnect e (ending what)
    by-state state.Free e w = quiet state.Free e (free what)
    by-state state.Ended e w = quiet state.Ended e (ended what)
    by-state state.Parting e w = quiet state.Parting e (parting what)

acknowledge_place : (p : Peering) (now channel number told n t : ℕ) → is_answered_in (on_acknowledge p now channel number told).state (acknowledge n t) ≡ true → wants_place p (acknowledge n t) ≡ true
acknowledge_place p now channel number told n t a =
    elim (acknowledge_or_not (wants_place p (acknowledge n t))) [
      | inl yes' ↦ yes'
      | inr no' ↦ absurd (unanswered p.state p (matched_by p.outbox channel number (meant_time told (p.offset % 2 ^ 16))) now channel number (meant_time told (p.offset % 2 ^ 16)) n t refl no' a)
    ]

place_for : (p : Peering) (now : ℕ) (sent : Option ℕ) (h : Rattle.enet_codec.specs.declared.command.Head.Head) (may : Bool) (body : Body) → may_be_answered sent (record { head = h; body = body }) may ≡ true
    → is_answered_in (acted p now (is_some sent) (record { head = h; body = body })).state body ≡ true → HasPlace p (acted p now (is_some sent) (record { head = h; body = body })) body
place_for p now sent h may (acknowledge n t) a s = inl (acknowledge_place p now h.channel n t n t s)
place_for p now sent h may (connect o) a s = inl (plain_place p.state p (connect o) refl s)
place_for p now sent h may (verify_connect v) a s = verify_place p.state p v refl s
place_for p now sent h may (disconnect i) a s =
    let is = answerable sent (record { head = h; body = disconnect i }) may a in
    subst (λ b. HasPlace p (on_disconnect_in p.state p b i) (disconnect i)) (sym is)
    (disconnect_place p.state p i refl (subst (λ b. is_answered_in (on_disconnect_in p.state p b i).state (disconnect i) ≡ true) is s))
place_for p now sent h may ping a s = inl (plain_place p.state p ping refl s)
place_for p now sent h may (bandwidth_limit i o) a s = inl (plain_place p.state p (bandwidth_limit i o) refl s)
place_for p now sent h may (throttle_configure i x d) a s = inl (plain_place p.state p (throttle_configure i x d) refl s)
place_for p now sent h may (send_reliable b) a s = inl (plain_place p.state p (send_reliable b) refl s)
place_for p now sent h may (send_unreliable n b) a s = inl (plain_place p.state p (send_unreliable n b) refl s)
place_for p now sent h may (send_fragment f b) a s = inl (plain_place p.state p (send_fragment f b) refl s)
place_for p now sent h may (send_unsequenced g b) a s = inl (plain_place p.state p (send_unsequenced g b) refl s)
place_for p now sent h may (send_unreliable_fragment f b) a s = inl (plain_place p.state p (send_unreliable_fragment f b) refl s)

-- the acknowledgement of a command that took effect has a place
pub has_place : (p q : Peering) (now : ℕ) (sent : Option ℕ) (m : Message) (may : Bool) (made left : ℕ) → q ≡ acted p now (is_some sent) m
    → (IsTrue (may_be_answered sent m may && wants_place p m.body) → 1 ≤ made) → made ≤ left → (IsTrue (may_clear m.body) → length p.outbox.acknowledgements + made ≤ length q.outbox.acknowledgements + left)
    → (may_be_answered sent m may && is_answered_in q.state m.body) ≡ true → 1 ≤ left
has_place p q now sent m may made left is room grows places h =
    let a = and_left (may_be_answered sent m may) (is_answered_in q.state m.body) h in
    let s = and_right (may_be_answered sent m may) (is_answered_in q.state m.body) h in
    elim (place_for p now sent m.head may m.body a (subst (λ (x : Peering). is_answered_in x.state m.body ≡ true) is s)) [
      | inl wants ↦ (let some = room (ap (λ b. b && wants_place p m.body) a ∙ wants) in omega arith)
      | inr gone ↦ (let clear = places gone.0 in
          let none : length q.outbox.acknowledgements ≡ 0 = ap (λ (x : Peering). length x.outbox.acknowledgements) is ∙ gone.1 in
          let some = gone.2 in
          omega arith)
    ]

-- what was done where memory can't be wanted is what a command does
pub replied : {T : Type 0} (r : Result T Stop) (wants : Bool) (o : Outcome) (old new : Peering) → Replies r o new → Obeys r wants o old new
replied (Ok done) wants o old new h = h
replied (Err why) wants o old new h = subst (λ (w : Stop). Stops w wants o old new) (sym h.1) (subst (λ (w : Stop). o.stop ≡ Some w) h.1 h.0, h.2)
