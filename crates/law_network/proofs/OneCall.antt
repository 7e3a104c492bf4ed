-- Each call, slot by slot.
use Rattle.std.proofs.Common.{◌≡◌, ℕ, Bool, true, false, cond, List, length, refl, sym, ap, subst, ◌∙◌, Option, Some, None, Result, Ok, Err}
use Rattle.enet_codec.specs.declared.event.DisconnectMode.{DisconnectMode}
use Rattle.enet_codec.specs.declared.event.DisconnectMode.TheVariants as mode
use Rattle.enet_codec.specs.declared.refusal.Refusal.{Refusal}
use Rattle.enet_codec.specs.declared.refusal.Refusal.TheVariants as refusal
use Rattle.enet_sender.specs.CommandChoice.{Packet}
use Rattle.enet_outbox.specs.declared.parts.SendLimit.{SendLimit}
use Rattle.enet_outbox.specs.Outstanding.{is_full}
use Rattle.enet_peer.specs.Peering.{Peering}
use Rattle.enet_peer.specs.Calls.{Refuses, submission_refusal, submitted, left}
use Rattle.enet_peer.specs.Calls as peers
use Rattle.enet_host.specs.Host.{Host, peer_in}
use Rattle.enet_slot.specs.Calls.{IsRefusedBy, submission, submitted_unless, or_full, or_else_full, unless_full, leaving, left_by, or_not_connected, throttling, pinging, waiting}
use Rattle.enet_slot.specs.Sharing.{wants_room_in}
use Rattle.law_connection.specs.Steps.{leave_by}
use Rattle.law_connection.specs.Steps as setting
use Rattle.law_network.specs.Calls.{Call, Acts}
use Rattle.law_network.specs.Calls as call
use Rattle.law_network.specs.Common.{common_of}
use Rattle.law_network.specs.Deeds.{Deed, Alone, Submit, Disconnect, Set}
use Rattle.law_network.specs.Falling.{way_of}
use Rattle.law_network.specs.IsolationLaw.{OneCall}
use Rattle.law_network.proofs.Single.{Each, idle, begins-not, each-none, each-named, each-refused, peer-refused, peer-refused_memory}
use Rattle.law_network.proofs.Receiving.{each-connects, each-arrives}
use Rattle.law_network.proofs.IsolationServing.{each-passed, each-given, each-gave, each-mute}
use Rattle.law_network.proofs.Ticking.{each-changed, each-ticked}

ok-same : (a b : Peering) → ◌≡◌ {A = Result Peering Refusal} (Ok a) (Ok b) → b ≡ a
ok-same a b e = cc

-- what a call on a peer answers, as its own relation has it

abbrev submitting : Option SendLimit → ℕ → Packet → Result (Unit {0}) (Refusal × List ℕ) → Deed
submitting limit channel q answer = Submit (record { channel = channel; flags = q.flags; body = q.body }) limit answer

-- a submission that these refuse, if there is one, where the peer may be full
abbrev outcome : Peering → ℕ → Packet → Bool → Option Refusal → Result Peering Refusal
outcome p channel q full o = cond full (or_full (submitted_unless p channel q o)) (submitted_unless p channel q o)

accepts : (p r : Peering) (channel : ℕ) (q : Packet) (full : Bool) (o : Option Refusal) → outcome p channel q full o ≡ Ok r → (or_else_full full o ≡ None) × (r ≡ submitted p channel q)
accepts p r channel q true None e = absurd (cc)
accepts p r channel q false None e = (refl, ok-same (submitted p channel q) r e)
accepts p r channel q true (Some why) e = absurd (cc)
accepts p r channel q false (Some why) e = absurd (cc)

alone-submission : (limit : Option SendLimit) (channel : ℕ) (q : Packet) (p r : Peering) → unless_full limit (submission channel q) p ≡ Ok r → Alone (submitting limit channel q (Ok tt)) p r
alone-submission limit channel q p r e = accepts p r channel q (is_full limit p.outbox) (submission_refusal p channel (length q.body)) e

refuses : (channel : ℕ) (q : Packet) (p : Peering) (full : Bool) (o : Option Refusal) (why : Refusal) → IsRefusedBy why (outcome p channel q full o) → Refuses why (or_else_full full o)
refuses channel q p false None refusal.Memory e = refl
refuses channel q p false None why e = absurd (cc)
refuses channel q p true None refusal.Memory e = absurd (cc)
refuses channel q p true None why e = let same : ◌≡◌ {A = Result Peering Refusal} (Err refusal.Full) (Err why) = e in cc
refuses channel q p false (Some first) refusal.Memory e = absurd (cc)
refuses channel q p false (Some first) why e = let same : ◌≡◌ {A = Result Peering Refusal} (Err first) (Err why) = e in cc
refuses channel q p true (Some first) refusal.Memory e = absurd (cc)
refuses channel q p true (Some first) why e = let same : ◌≡◌ {A = Result Peering Refusal} (Err first) (Err why) = e in cc

was-left : (o : Option Peering) (r : Peering) → or_not_connected o ≡ Ok r → o ≡ Some r
was-left None r e = absurd (cc)
was-left (Some p) r e = ap (λ (x : Peering). Some x) (sym (ok-same p r e))

not-left : (o : Option Peering) (why : Refusal) → or_not_connected o ≡ Err why → (o ≡ None) × (why ≡ refusal.NotConnected)
not-left None why e = (refl, cc)
not-left (Some p) why e = absurd (cc)

left-same : (m : DisconnectMode) (info : ℕ) (p : Peering) → left (leave_by (way_of m) p.state) p info ≡ left_by m p info
left-same mode.Ask info p = refl
left-same mode.Now info p = refl
left-same mode.Later info p = refl

alone-leaving : (m : DisconnectMode) (info : ℕ) (p r : Peering) → leaving m info p ≡ Ok r → Alone (Disconnect (way_of m) info (Ok tt)) p r
alone-leaving m info p r e = left-same m info p ∙ was-left (left_by m p info) r e

alone-staying : (m : DisconnectMode) (info : ℕ) (p : Peering) (why : Refusal) → leaving m info p ≡ Err why → Alone (Disconnect (way_of m) info (Err why)) p p
alone-staying m info p why e = let n = not-left (left_by m p info) why e in (left-same m info p ∙ n.0, n.1, refl)

pub each-call : (c : Call) (old new : Host) → Acts c old new → Each c old new.slots
each-call (call.Connect address channels info word answer) old new acts = each-connects old address channels info word answer old.slots new.slots refl acts.0
each-call (call.Submit name channel q (Ok done)) old new acts =
    each-named (call.Submit name channel q (Ok done)) old name (unless_full old.send_limit (submission channel q)) (submitting old.send_limit channel q (Ok done)) new.slots acts.0 (alone-submission old.send_limit channel q) (λ i s p ds e. e) (λ i s. refl) refl
each-call (call.Submit name channel q (Err e)) old new acts =
    each-refused (call.Submit name channel q (Err e)) old name (submitting old.send_limit channel q (Err e)) new.slots acts.0.2
    (λ s p named held. (
      acts.0.1,
      refl,
      refuses channel q p (is_full old.send_limit p.outbox) (submission_refusal p channel (length q.body)) e.0 (peer-refused_memory old.slots name (unless_full old.send_limit (submission channel q)) s p e.0 named held acts.0.0),
    ))
    (λ i s p ds e. e) (λ i s. refl) refl
each-call (call.Receive from bytes answer) old new acts = each-arrives old from bytes answer old.slots new.slots refl acts.arrives
each-call (call.Service None buf) old new acts = each-passed old buf new.slots acts.0
each-call (call.Service (Some gave) buf) old new acts = each-given old gave.0 gave.1 gave.2 buf new.slots acts.0
each-call (call.Tick ms) old new acts = subst (λ (h : Host). Each (call.Tick ms) old h.slots) (sym acts) (each-ticked old ms)
each-call (call.Disconnect m name info (Ok done)) old new acts =
    each-named (call.Disconnect m name info (Ok done)) old name (leaving m info) (Disconnect (way_of m) info (Ok done)) new.slots acts.0 (alone-leaving m info) (λ i s p ds e. e) (λ i s. refl) refl
each-call (call.Disconnect m name info (Err why)) old new acts =
    each-refused (call.Disconnect m name info (Err why)) old name (Disconnect (way_of m) info (Err why)) new.slots acts.0.1
    (λ s p named held. alone-staying m info p why (peer-refused old.slots name (leaving m info) s p why named held acts.0.0)) (λ i s p ds e. e) (λ i s. refl) refl
each-call (call.SetBandwidth incoming outgoing (Ok done)) old new acts =
    subst (λ (h : Host). Each (call.SetBandwidth incoming outgoing (Ok done)) old h.slots) (sym acts)
    (each-changed (call.SetBandwidth incoming outgoing (Ok done)) old (λ p. peers.with_bandwidth p incoming outgoing) (Set (setting.Bandwidth incoming outgoing) (Ok done)) (λ p. (refl, tt)) (λ i s p. refl) (λ i s. refl) refl)
each-call (call.SetBandwidth incoming outgoing (Err why)) old new acts =
    each-none (call.SetBandwidth incoming outgoing (Err why)) old new.slots (λ i s. refl) (ap (λ (h : Host). h.slots) acts.1)
    (λ i s p there held. idle (call.SetBandwidth incoming outgoing (Err why)) (common_of old) i s p refl)
    (λ i. begins-not (call.SetBandwidth incoming outgoing (Err why)) old i refl)
each-call (call.ConfigureThrottle name interval acceleration deceleration (Ok done)) old new acts =
    each-named (call.ConfigureThrottle name interval acceleration deceleration (Ok done)) old name (throttling interval acceleration deceleration) (Set (setting.Throttle interval acceleration deceleration) (Ok done)) new.slots acts.0
    (λ p r e. (e, tt)) (λ i s p ds e. e) (λ i s. refl) refl
each-call (call.ConfigureThrottle name interval acceleration deceleration (Err why)) old new acts =
    each-refused (call.ConfigureThrottle name interval acceleration deceleration (Err why)) old name (Set (setting.Throttle interval acceleration deceleration) (Err why)) new.slots acts.0.1
    (λ s p named held. (
      (peer-refused_memory old.slots name (throttling interval acceleration deceleration) s p why named held acts.0.0, refl),
      λ memory. ap wants_room_in (sym (ap peer_in named ∙ held)) ∙ acts.2 memory,
    ))
    (λ i s p ds e. e) (λ i s. refl) refl
each-call (call.SetPingInterval name ms (Ok done)) old new acts =
    each-named (call.SetPingInterval name ms (Ok done)) old name (pinging ms) (Set (setting.PingInterval ms) (Ok done)) new.slots acts.0 (λ p r e. e) (λ i s p ds e. e) (λ i s. refl) refl
each-call (call.SetPingInterval name ms (Err why)) old new acts =
    each-refused (call.SetPingInterval name ms (Err why)) old name (Set (setting.PingInterval ms) (Err why)) new.slots acts.0.1
    (λ s p named held. (peer-refused old.slots name (pinging ms) s p why named held acts.0.0, refl)) (λ i s p ds e. e) (λ i s. refl) refl
each-call (call.SetTimeout name limit minimum maximum (Ok done)) old new acts =
    each-named (call.SetTimeout name limit minimum maximum (Ok done)) old name (waiting limit minimum maximum) (Set (setting.Timeout limit minimum maximum) (Ok done)) new.slots acts.0 (λ p r e. e) (λ i s p ds e. e) (λ i s. refl) refl
each-call (call.SetTimeout name limit minimum maximum (Err why)) old new acts =
    each-refused (call.SetTimeout name limit minimum maximum (Err why)) old name (Set (setting.Timeout limit minimum maximum) (Err why)) new.slots acts.0.1
    (λ s p named held. (peer-refused old.slots name (waiting limit minimum maximum) s p why named held acts.0.0, refl)) (λ i s p ds e. e) (λ i s. refl) refl
each-call (call.Admit what (Ok done)) old new acts =
    each-none (call.Admit what (Ok done)) old new.slots (λ i s. refl) (ap (λ (h : Host). h.slots) acts.1) (λ i s p there held. idle (call.Admit what (Ok done)) (common_of old) i s p refl)
    (λ i. begins-not (call.Admit what (Ok done)) old i refl)
each-call (call.Admit what (Err why)) old new acts =
    each-none (call.Admit what (Err why)) old new.slots (λ i s. refl) (ap (λ (h : Host). h.slots) acts.2) (λ i s p there held. idle (call.Admit what (Err why)) (common_of old) i s p refl)
    (λ i. begins-not (call.Admit what (Err why)) old i refl)
each-call (call.SetSendLimit bytes commands) old new acts =
    each-none (call.SetSendLimit bytes commands) old new.slots (λ i s. refl) (ap (λ (h : Host). h.slots) acts) (λ i s p there held. idle (call.SetSendLimit bytes commands) (common_of old) i s p refl)
    (λ i. begins-not (call.SetSendLimit bytes commands) old i refl)
each-call (call.NextEvent None) old new acts = each-mute old new.slots (ap (λ (h : Host). h.slots) acts.1) acts.0
each-call (call.NextEvent (Some event)) old new acts = subst (λ (h : Host). Each (call.NextEvent (Some event)) old h.slots) (sym acts.rest) (each-gave old event acts.from acts.first acts.after acts.gives)

pub one-call : OneCall
one-call c old new acts i s e = each-call c old new acts i s e
