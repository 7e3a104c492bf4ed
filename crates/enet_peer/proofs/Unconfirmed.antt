-- Commands by which no client confirms come to a peer alike, whether or not the host is full.
use Rattle.std.proofs.Common.{◌≡◌, ℕ, ◌%◌, ◌^◌, ◌==◌, ◌&&◌, inl, inr, ◌⊎◌, Bool, true, false, cond, if◌then◌else◌, List, ◌++◌, take, drop, Option, Some, None, Result, Ok, Err, slice_get, refl, sym, ap, subst, ◌∙◌}
use Rattle.std.specs.Prelude.{is_some}
use Rattle.std.proofs.lemmas.List.{take-append-drop}
use Rattle.enet_codec.specs.declared.command.Head.{Head}
use Rattle.enet_codec.specs.declared.command.Verify.{Verify}
use Rattle.enet_codec.specs.declared.event.Received.{Received}
use Rattle.enet_codec.specs.declared.stop.Stop.{Stop}
use Rattle.enet_codec.specs.declared.stop.Stop.TheVariants as stop
use Rattle.enet_codec.specs.Message.{Message, Body, Spells, acknowledge, connect, verify_connect, disconnect}
use Rattle.enet_rtt.specs.Clock.{meant_time}
use Rattle.enet_sender.specs.declared.outgoing.Acknowledged.{Acknowledged}
use Rattle.enet_senders.specs.declared.control.Control.{Control}
use Rattle.enet_senders.specs.Controlling.{acknowledged_control}
use Rattle.enet_senders.specs.Controlling as controlling
use Rattle.enet_sender.specs.Due.{SendingEnd}
use Rattle.enet_outbox.specs.declared.parts.Matched.{Matched}
use Rattle.enet_outbox.specs.declared.parts.Matched.TheVariants as matched
use Rattle.enet_outbox.specs.Outbox.{Outbox, acknowledged_on, as_control, as_data, is_answer, is_control, is_done, matched_by, matched_on, told_on}
use Rattle.enet_peer.specs.declared.parts.PeerState.{PeerState}
use Rattle.enet_peer.specs.declared.parts.PeerState.TheVariants as state
use Rattle.enet_peer.specs.Peering.{Peering}
use Rattle.enet_peer.specs.Calls.{is_answering}
use Rattle.enet_peer.specs.Endings.{disconnecting, is_later, settled}
use Rattle.enet_peer.specs.CommandEffect.{Outcome, Obeys, accepted, acknowledged, answered, answered_at, by_body, is_allowed, is_answered_in, is_connect, is_connecting, is_crowded_out, is_of_handshake, is_unasked, obeyed, on_acknowledge, on_disconnect_in, on_match, on_verify_in, stopped, unless_refused, wants_memory}
use Rattle.enet_peer.specs.Refusing.{confirms, confirms_by, heeded, is_turned_away, turned_away}
use Rattle.enet_peer.specs.Handling.{Arrival, SoFar, Handles, HearsIf, IsHeardAlike, SpellsNone, nothing_left, no_command, stops, goes_on, one_more}
use Rattle.enet_peer.specs.Private.Handling.{is_passed, matches_by, matches_control}
use Rattle.enet_peer.proofs.Each.{split-once}
use Rattle.enet_peer.proofs.Limited.{Lasts, Mark, untold, obeyed-lasts}
use Rattle.enet_peer.proofs.Refusals.{heeded-obeyed}

-- ---- a peer that waits for its client goes on waiting, with the same commands of channel 0xFF

abbrev pub StillWaits : Peering → Peering → Type 0
StillWaits p r = (r.outbox.control ≡ p.outbox.control) × (r.offset ≡ p.offset) × (is_answering r.state ≡ true)

if-outcome : (P : Outcome → Type 0) (b : Bool) (t e : Outcome) → P t → P e → P (cond b t e)
if-outcome P true t e f g = f
if-outcome P false t e f g = g

answered-at-waits : (p q : Peering) (head : Head) (sent : Option ℕ) → StillWaits p q → StillWaits p (answered_at q head sent).after
answered-at-waits p q head None h = h
answered-at-waits p q head (Some time) h = h

answered-waits : (p q : Peering) (m : Message) (sent : Option ℕ) (may : Bool) → StillWaits p q → StillWaits p (answered q m sent may).after
answered-waits p q m sent may h =
    if-outcome (λ (o : Outcome). StillWaits p o.after) (m.head.acknowledge && may && is_answered_in q.state m.body) (answered_at q m.head sent) (record { stop = None; after = q })
    (answered-at-waits p q m.head sent h) h

answered-at-away : (q : Peering) (head : Head) (sent : Option ℕ) → is_answering q.state ≡ false → is_answering (answered_at q head sent).after.state ≡ false
answered-at-away q head None h = h
answered-at-away q head (Some time) h = h

answered-away : (q : Peering) (m : Message) (sent : Option ℕ) (may : Bool) → is_answering q.state ≡ false → is_answering (answered q m sent may).after.state ≡ false
answered-away q m sent may h =
    if-outcome (λ (o : Outcome). is_answering o.after.state ≡ false) (m.head.acknowledge && may && is_answered_in q.state m.body) (answered_at q m.head sent) (record { stop = None; after = q })
    (answered-at-away q m.head sent h) h

-- an acknowledgement that matches nothing of channel 0xFF
not-later : (s : PeerState) → is_answering s ≡ true → is_later s ≡ false
not-later state.Answering e = refl
not-later s e = absurd (let y : false ≡ true = e in cc)

settled-same : (r : Peering) → is_answering r.state ≡ true → settled r ≡ r
settled-same r e = ap (λ (b : Bool). if b && is_done r.outbox then disconnecting r r.info else r) (not-later r.state e)

match-waits : (what : Matched) (p old gone : Peering) → is_control what ≡ false → StillWaits p old → (what ≡ matched.Data → StillWaits p gone) → StillWaits p (on_match what old gone)
match-waits matched.Nothing p old gone none h g = h
match-waits matched.Data p old gone none h g = let waits : StillWaits p gone = g refl in subst (StillWaits p) (sym (settled-same gone waits.2)) waits
match-waits (matched.Control what) p old gone none h g = absurd (let y : true ≡ false = none in cc)

on-control : (o : Outbox) (channel number : ℕ) (s : Option SendingEnd) → (acknowledged_on o channel number s).control ≡ o.control
on-control o channel number None = refl
on-control o channel number (Some s) = refl

left-control : (b : Bool) (o : Outbox) (channel number time : ℕ) (c : Option Control)
    → (if b then as_control c else matched_on (slice_get o.senders channel) number time) ≡ matched.Data
    → (if b then record o { control = controlling.after_acknowledgement o.control number } else acknowledged_on o channel number (slice_get o.senders channel)).control ≡ o.control
left-control true o channel number time None e = absurd (let y : matched.Nothing ≡ matched.Data = e in cc)
left-control true o channel number time (Some what) e = absurd (let y : matched.Control what ≡ matched.Data = e in cc)
left-control false o channel number time c e = on-control o channel number (slice_get o.senders channel)

accepted-waits : (p r : Peering) (now channel number time : ℕ) → StillWaits p r → is_control (matched_by r.outbox channel number time) ≡ false → StillWaits p (accepted r now channel number time)
accepted-waits p r now channel number time h none =
    match-waits (matched_by r.outbox channel number time) p r (acknowledged r now channel number time) none h
    (λ data'. (left-control (channel == 0xFF) r.outbox channel number time (acknowledged_control r.outbox.control number time) data' ∙ h.0, h.1, h.2))

if-peer : (p : Peering) (b : Bool) (t e : Peering) → StillWaits p t → StillWaits p e → StillWaits p (cond b t e)
if-peer p true t e f g = f
if-peer p false t e f g = g

acknowledge-waits : (p r : Peering) (now channel number told : ℕ) → StillWaits p r → is_control (matched_by r.outbox channel number (meant_time told (r.offset % 2 ^ 16))) ≡ false
    → StillWaits p (on_acknowledge r now channel number told)
acknowledge-waits p r now channel number told h none =
    let time : ℕ = meant_time told (r.offset % 2 ^ 16) in
    if-peer p (is_connecting r.state) r (accepted r now channel number time) h (accepted-waits p r now channel number time h none)

-- what it matches there depends on channel 0xFF and the offset alone
no-data : (o : Option Acknowledged) → is_control (as_data o) ≡ false
no-data None = refl
no-data (Some told) = refl

control-alone : (b : Bool) (s t : Option Acknowledged) (c d : Option Control) → c ≡ d
    → is_control (if b then as_control c else as_data s) ≡ is_control (if b then as_control d else as_data t)
control-alone true s t c d e = ap (λ (x : Option Control). is_control (as_control x)) e
control-alone false s t c d e = no-data s ∙ sym (no-data t)

matches-alike : (p r : Peering) (h : Head) (body : Body) → StillWaits p r → matches_by p h body ≡ false → matches_by r h body ≡ false
matches-alike p r h (acknowledge number told) w none =
    let at_p : ℕ = meant_time told (p.offset % 2 ^ 16) in
    let at_r : ℕ = meant_time told (r.offset % 2 ^ 16) in
    let moved : is_control (matched_by r.outbox h.channel number at_r) ≡ is_control (matched_by r.outbox h.channel number at_p) =
    ap (λ (o : ℕ). is_control (matched_by r.outbox h.channel number (meant_time told (o % 2 ^ 16)))) w.1 in
    moved ∙ control-alone (h.channel == 0xFF) (told_on (slice_get r.outbox.senders h.channel) number at_p) (told_on (slice_get p.outbox.senders h.channel) number at_p)
    (acknowledged_control r.outbox.control number at_p) (acknowledged_control p.outbox.control number at_p) (ap (λ c. acknowledged_control c number at_p) w.0) ∙ none
matches-alike p r h body w none = none

-- one that matches nothing there confirms nothing
not-answer : (what : Matched) → is_control what ≡ false → is_answer what ≡ false
not-answer matched.Nothing none = refl
not-answer matched.Data none = refl
not-answer (matched.Control what) none = absurd (let y : true ≡ false = none in cc)

and-false : (a b : Bool) → b ≡ false → (a && b) ≡ false
and-false true b e = e
and-false false b e = refl

unconfirmed-by : (r : Peering) (h : Head) (body : Body) → matches_by r h body ≡ false → confirms_by r h body ≡ false
unconfirmed-by r h (acknowledge number told) none =
    let what : Matched = matched_by r.outbox h.channel number (meant_time told (r.offset % 2 ^ 16)) in
    and-false (is_answering r.state) (is_answer what) (not-answer what none)
unconfirmed-by r h body none = refl

-- ---- any command that matches nothing of channel 0xFF

verify-waits : (s : PeerState) (p r : Peering) (v : Verify) → is_answering s ≡ true → StillWaits p r → StillWaits p (on_verify_in s r v)
verify-waits state.Answering p r v e h = h
verify-waits s p r v e h = absurd (let y : false ≡ true = e in cc)

disconnect-away : (s : PeerState) (r : Peering) (answerable : Bool) (info : ℕ) → is_answering s ≡ true → is_answering (on_disconnect_in s r answerable info).state ≡ false
disconnect-away state.Answering r answerable info e = refl
disconnect-away s r answerable info e = absurd (let y : false ≡ true = e in cc)

allowed-there : (s : PeerState) (body : Body) → is_answering s ≡ true → is_allowed s body ≡ is_of_handshake body
allowed-there state.Answering body e = refl
allowed-there s body e = absurd (let y : false ≡ true = e in cc)

-- where no stop comes of it, the peer waits no longer, or goes on waiting behind a command that it may do so behind
abbrev Passes : Peering → Body → Outcome → Type 0
Passes p body o = o.stop ≡ None → (is_answering o.after.state ≡ false) ⊎ (StillWaits p o.after × (is_passed body ≡ true))

stops-there : (p r : Peering) (body : Body) (why : Stop) → Passes p body (stopped r why)
stops-there p r body why = λ done. absurd (let y : Some why ≡ None = done in cc)

body-passes : (p r : Peering) (now : ℕ) (sent : Option ℕ) (m : Message) (body : Body) → StillWaits p r → matches_by r m.head body ≡ false → is_allowed r.state body ≡ true
    → Passes p body (by_body r now sent m body)
body-passes p r now sent m (acknowledge number told) h none allowed =
    λ done. inr (answered-waits p (on_acknowledge r now m.head.channel number told) m sent true (acknowledge-waits p r now m.head.channel number told h none), refl)
body-passes p r now sent m (connect offer) h none allowed = stops-there p r (connect offer) stop.BadCommand
body-passes p r now sent m (verify_connect v) h none allowed = λ done. inr (answered-waits p (on_verify_in r.state r v) m sent true (verify-waits r.state p r v h.2 h), refl)
body-passes p r now sent m (disconnect info) h none allowed =
    λ done. inl (answered-away (on_disconnect_in r.state r (m.head.acknowledge && is_some sent) info) m sent true (disconnect-away r.state r (m.head.acknowledge && is_some sent) info h.2))
body-passes p r now sent m body h none allowed = absurd (let y : false ≡ true = sym (allowed-there r.state body h.2) ∙ allowed in cc)

unless-passes : (p r : Peering) (m : Message) (body : Body) (o : Outcome) → Passes p body o → Passes p body (unless_refused r m o)
unless-passes p r m body o is = by (is_unasked r m.body) (is_crowded_out r m)
  where
    by : (a b : Bool) → Passes p body (cond a (stopped r stop.NotConnected) (cond b (stopped r stop.Waiting) o))
    by true b = stops-there p r body stop.NotConnected
    by false true = stops-there p r body stop.Waiting
    by false false = is

obeyed-passes : (p r : Peering) (now : ℕ) (sent : Option ℕ) (m : Message) → StillWaits p r → matches_control r m ≡ false → Passes p m.body (obeyed r now sent m)
obeyed-passes p r now sent m h none = by (is_connect m.body) (is_allowed r.state m.body) refl
  where
    by : (a b : Bool) → is_allowed r.state m.body ≡ b
        → Passes p m.body (if a then stopped r stop.BadCommand else (if b then unless_refused r m (by_body r now sent m m.body) else stopped r stop.NotConnected))
    by true b e = stops-there p r m.body stop.BadCommand
    by false false e = stops-there p r m.body stop.NotConnected
    by false true e = unless-passes p r m m.body (by_body r now sent m m.body) (body-passes p r now sent m m.body h none e)

-- ---- all commands, at a peer that waits for no client

not-true : (b : Bool) → (b ≡ true → false ≡ true) → b ≡ false
not-true true f = sym (f refl)
not-true false f = refl

away-stays : (p : Peering) (now : ℕ) (sent : Option ℕ) (m : Message) → is_answering p.state ≡ false → is_answering (obeyed p now sent m).after.state ≡ false
away-stays p now sent m away =
    let k : Mark = record { packet = p.inbox.max_packet; waiting = p.inbox.max_waiting; answers = false; made = p.made; word = None } in
    let lasts : Lasts k (obeyed p now sent m).after = obeyed-lasts k p now sent m ((refl, refl), (λ e. absurd (let y : false ≡ true = sym away ∙ e in cc)), untold p) in
    not-true (is_answering (obeyed p now sent m).after.state) (λ e. (lasts.1 e).0)

abbrev with-room : ℕ → Option ℕ → Arrival
with-room now sent = record { now = now; sent = sent; full = false }

abbrev when-full : ℕ → Option ℕ → Arrival
when-full now sent = record { now = now; sent = sent; full = true }

heeds-alike : (r : Result (Unit {0}) Stop) (p q : Peering) (now : ℕ) (sent : Option ℕ) (m : Message) → heeded true p now sent m ≡ obeyed p now sent m
    → Obeys r (wants_memory p now sent m) (heeded false p now sent m) p q → Obeys r (wants_memory p now sent m) (heeded true p now sent m) p q
heeds-alike r p q now sent m e obeys = subst (λ (o : Outcome). Obeys r (wants_memory p now sent m) o p q) (sym e) obeys

away-heard : (now : ℕ) (sent : Option ℕ) {old : SoFar} {bytes : List ℕ} {answer : Received} {q : Peering} → Handles (with-room now sent) old bytes answer q
    → is_answering old.peer.state ≡ false → Handles (when-full now sent) old bytes answer q
away-heard now sent (nothing_left old) away = nothing_left old
away-heard now sent (no_command old bytes some none) away = no_command old bytes some none
away-heard now sent (stops old text rest m why q spelled obeys) away = stops old text rest m why q spelled (heeds-alike (Err why) old.peer q now sent m (heeded-obeyed true old.peer now sent m away) obeys)
away-heard now sent (goes_on old text rest m answer q r spelled obeys later) away =
    goes_on old text rest m answer q r spelled (heeds-alike (Ok tt) old.peer q now sent m (heeded-obeyed true old.peer now sent m away) obeys)
    (away-heard now sent later (subst (λ (x : Peering). is_answering x.state ≡ false) (sym obeys.1) (away-stays old.peer now sent m away)))

-- ---- all commands, at one that waits

-- these bytes come alike to whatever still waits as a peer does
abbrev pub ComesAlike : Peering → List ℕ → Type 0
ComesAlike p bytes = (now : ℕ) (sent : Option ℕ) (old : SoFar) (answer : Received) (q : Peering) → StillWaits p old.peer → Handles (with-room now sent) old bytes answer q → Handles (when-full now sent) old bytes answer q

plain : (p : Peering) (now : ℕ) (sent : Option ℕ) (m : Message) → confirms p m ≡ false → heeded true p now sent m ≡ obeyed p now sent m
plain p now sent m none = ap (λ (b : Bool). if b then record { stop = None; after = turned_away p } else obeyed p now sent m) none

behind : (p q r : Peering) (rest : List ℕ) (now : ℕ) (sent : Option ℕ) (handled : ℕ) (answer : Received) (body : Body) → (is_passed body ≡ true → ComesAlike p rest)
    → (is_answering q.state ≡ false) ⊎ (StillWaits p q × (is_passed body ≡ true)) → Handles (with-room now sent) (record { handled = handled; peer = q }) rest answer r
    → Handles (when-full now sent) (record { handled = handled; peer = q }) rest answer r
behind p q r rest now sent handled answer body on (inl away) later = away-heard now sent later away
behind p q r rest now sent handled answer body on (inr waits) later = on waits.1 now sent (record { handled = handled; peer = q }) answer r waits.0 later

front : (p : Peering) (text rest : List ℕ) (m : Message) (now : ℕ) (sent : Option ℕ) → Spells text m → matches_control p m ≡ false → (is_passed m.body ≡ true → ComesAlike p rest)
    → {old : SoFar} {bytes : List ℕ} {answer : Received} {q : Peering} → Handles (with-room now sent) old bytes answer q → bytes ≡ text ++ rest → StillWaits p old.peer
    → Handles (when-full now sent) old bytes answer q
front p text rest m now sent spelled none on (nothing_left old) split waits = nothing_left old
front p text rest m now sent spelled none on (no_command old bytes some nothing) split waits = no_command old bytes some nothing
front p text rest m now sent spelled none on (stops old front' rest' n why q spells obeys) split waits =
    let one = split-once front' rest' text rest n m spells spelled split in
    let there : matches_control old.peer n ≡ false =
    matches-alike p old.peer n.head n.body waits (subst (λ (k : Message). matches_control p k ≡ false) (sym one.0) none) in
    stops old front' rest' n why q spells (heeds-alike (Err why) old.peer q now sent n (plain old.peer now sent n (unconfirmed-by old.peer n.head n.body there)) obeys)
front p text rest m now sent spelled none on (goes_on old front' rest' n answer q r spells obeys later) split waits =
    let one = split-once front' rest' text rest n m spells spelled split in
    let there : matches_control old.peer n ≡ false =
    matches-alike p old.peer n.head n.body waits (subst (λ (k : Message). matches_control p k ≡ false) (sym one.0) none) in
    let comes = subst (λ (x : Peering). (is_answering x.state ≡ false) ⊎ (StillWaits p x × (is_passed n.body ≡ true))) (sym obeys.1) (obeyed-passes p old.peer now sent n waits there obeys.0) in
    goes_on old front' rest' n answer q r spells (heeds-alike (Ok tt) old.peer q now sent n (plain old.peer now sent n (unconfirmed-by old.peer n.head n.body there)) obeys)
    (behind p q r rest' now sent (one_more old.handled) answer n.body
    (λ is. subst (ComesAlike p) (sym one.1) (on (subst (λ (k : Message). is_passed k.body ≡ true) one.0 is))) comes later)

-- a command at the front that matches nothing of channel 0xFF
pub front-alike : (p : Peering) (len : ℕ) (bytes : List ℕ) (m : Message) → Spells (take len bytes) m → matches_control p m ≡ false → (is_passed m.body ≡ true → ComesAlike p (drop len bytes))
    → ComesAlike p bytes
front-alike p len bytes m spelled none on = λ now sent old answer q waits h.
    front p (take len bytes) (drop len bytes) m now sent spelled none on h (sym (take-append-drop len bytes)) waits

-- or none
pub none-alike : (p : Peering) (bytes : List ℕ) → SpellsNone bytes → ComesAlike p bytes
none-alike p bytes none = λ now sent old answer q waits h. by now sent h none
  where
    by : (now : ℕ) (sent : Option ℕ) {old : SoFar} {bytes : List ℕ} {answer : Received} {q : Peering} → Handles (with-room now sent) old bytes answer q → SpellsNone bytes → Handles (when-full now sent) old bytes answer q
    by now sent (nothing_left old) none = nothing_left old
    by now sent (no_command old bytes some nothing) none = no_command old bytes some nothing
    by now sent (stops old text rest m why q spells obeys) none = absurd (none m text rest refl spells)
    by now sent (goes_on old text rest m answer q r spells obeys later) none = absurd (none m text rest refl spells)

-- ---- what a datagram brings

heard-if : (b : Bool) (p : Peering) (commands : List ℕ) (now : ℕ) (sent : Option ℕ) (answer : Received) (q : Peering)
    → (Handles (with-room now sent) (record { handled = 0; peer = p }) commands answer q → Handles (when-full now sent) (record { handled = 0; peer = p }) commands answer q)
    → HearsIf b (with-room now sent) commands p answer q → HearsIf b (when-full now sent) commands p answer q
heard-if true p commands now sent answer q f h = h
heard-if false p commands now sent answer q f h = f h

pub waits-alike : (p : Peering) (commands : List ℕ) → is_answering p.state ≡ true → ComesAlike p commands → IsHeardAlike commands p
waits-alike p commands at comes now sent answer q h = heard-if (is_turned_away p) p commands now sent answer q (comes now sent (record { handled = 0; peer = p }) answer q (refl, refl, at)) h

pub away-alike : (p : Peering) (commands : List ℕ) → is_answering p.state ≡ false → IsHeardAlike commands p
away-alike p commands away now sent answer q h = heard-if (is_turned_away p) p commands now sent answer q (λ handles. away-heard now sent handles away) h

pub refused-alike : (p : Peering) (commands : List ℕ) → is_turned_away p ≡ true → IsHeardAlike commands p
refused-alike p commands is now sent answer q h =
    subst (λ (b : Bool). HearsIf b (when-full now sent) commands p answer q) (sym is) (subst (λ (b : Bool). HearsIf b (with-room now sent) commands p answer q) is h)
