-- No call changes how many slots a host has, so each slot after it was one before.
use Rattle.std.proofs.Common.{◌≡◌, ◌<◌, ℕ, Bool, true, false, cond, List, length, map, refl, sym, ap, subst, ◌∙◌, arith, Option, Some, None, Result, Ok, Err}
use Rattle.std.proofs.lemmas.List.{length-set, length-map}
use Rattle.std.proofs.lemmas.Option.{slice_get_within}
use Rattle.std.specs.List.{slice_get, count_by}
use Rattle.enet_codec.specs.declared.address.Addr.{Addr}
use Rattle.enet_codec.specs.declared.event.PeerRef.{PeerRef}
use Rattle.enet_codec.specs.declared.event.Received.{Received}
use Rattle.enet_codec.specs.declared.refusal.Refusal.{Refusal}
use Rattle.enet_codec.specs.declared.command.Offer.{Offer}
use Rattle.enet_peer.specs.Peering.{Peering}
use Rattle.enet_peer.specs.Calls as peers
use Rattle.enet_slot.specs.Yielding.{readied}
use Rattle.enet_slot.specs.Slot.{SlotState, with_peer, changed}
use Rattle.enet_slot.specs.Calls.{DoesWithMemory, submission, unless_full, leaving, throttling, pinging, waiting, Does as DoesCall}
use Rattle.enet_slot.specs.Giving.{asking, answering}
use Rattle.enet_slot.specs.Sharing.{is_standing, shared}
use Rattle.enet_host.specs.Crediting.{is_short_at}
use Rattle.enet_host.specs.Host.{Host}
use Rattle.enet_host.specs.Calls.{on_named}
use Rattle.enet_host.specs.Opening.{host_basis, Connects, no_channel, no_slot, no_memory, asks}
use Rattle.enet_host.specs.Receiving.{Offers, Arrives}
use Rattle.enet_host.specs.Receiving as receiving
use Rattle.enet_host.specs.Ticking.{clock_after, with_time, is_due, ticked}
use Rattle.enet_host.proofs.Moving.{length-moved}
use Rattle.law_network.specs.Calls.{Call, Done, Acts}
use Rattle.law_network.specs.Calls as call
use Rattle.law_network.specs.Common.{common_of}
use Rattle.law_network.specs.IsolationLaw.{Fares}
use Rattle.law_network.proofs.Lists.{get-within}
use Rattle.law_network.proofs.Single.{does-named}
use Rattle.law_network.proofs.OneCall.{one-call}

count-connects : (h : Host) (address : Addr) (channels info word : ℕ) (answer : Result PeerRef Refusal) (slots after : List SlotState) → Connects (host_basis h) slots (record { address = address; channels = channels; info = info; word = word }) answer after → length after ≡ length slots
count-connects h address channels info word answer slots after (no_channel z) = refl
count-connects h address channels info word answer slots after (no_slot some none) = refl
count-connects h address channels info word answer slots after (no_memory i some free) = refl
count-connects h address channels info word answer slots after (asks i s some free there) = length-set slots i (asking (host_basis h) i s (record { address = address; channels = channels; info = info; word = word }))

count-offers : (h : Host) (from : Addr) (o : Offer) (reply : Received) (slots after : List SlotState) → Offers (record { basis = host_basis h; slots = slots }) from o reply after → length after ≡ length slots
count-offers h from o reply slots after (receiving.refused why r) = refl
count-offers h from o reply slots after (receiving.repeated r known) = refl
count-offers h from o reply slots after (receiving.no_slot r known full) = refl
count-offers h from o reply slots after (receiving.no_memory j r known open') = refl
count-offers h from o reply slots after (receiving.answers j s r known open' at) = length-set slots j (answering (host_basis h) j (readied s) from o)

count-arrives : (h : Host) (from : Addr) (bytes : List ℕ) (reply : Received) (slots after : List SlotState) → Arrives (record { basis = host_basis h; slots = slots }) from bytes reply after → length after ≡ length slots
count-arrives h from bytes reply slots after (receiving.unreadable why u) = refl
count-arrives h from bytes reply slots after (receiving.no_offer header commands read nobody offer) = refl
count-arrives h from bytes reply slots after (receiving.offered header commands o said left read nobody offer comes) = count-offers h from o said slots left comes
count-arrives h from bytes reply slots after (receiving.turned_away header commands why read n r) = refl
count-arrives h from bytes reply slots after (receiving.heard header commands s t said read n open' at hears) = length-set slots header.peer t

count-named : (slots : List SlotState) (name : PeerRef) (made : Peering → Result Peering Refusal) (after : List SlotState) → on_named slots name made ≡ Ok after → length after ≡ length slots
count-named slots name made after h = (let d = does-named slots name made after h in ap length d.set ∙ length-set slots name.slot (with_peer d.slot d.left))

count-does : (answer : Done) (slots : List SlotState) (name : PeerRef) (made : Peering → Result Peering Refusal) (after : List SlotState) → DoesCall answer (on_named slots name made) slots after → length after ≡ length slots
count-does (Ok done) slots name made after h = count-named slots name made after h
count-does (Err why) slots name made after h = ap length h.1

count-memory : (answer : Done) (slots : List SlotState) (name : PeerRef) (made : Peering → Result Peering Refusal) (after : List SlotState) → DoesWithMemory answer (on_named slots name made) slots after → length after ≡ length slots
count-memory (Ok done) slots name made after h = count-named slots name made after h
count-memory (Err why) slots name made after h = ap length h.1

count-if : (b : Bool) (f : SlotState → SlotState) (slots : List SlotState) → length (cond b (map f slots) slots) ≡ length slots
count-if true f slots = length-map slots f
count-if false f slots = refl

count-ticked : (h : Host) (ms : ℕ) → length (ticked h ms).slots ≡ length h.slots
count-ticked h ms =
    let timed : Host = with_time h (clock_after h.clock ms) in
    count-if (is_due timed) (shared timed.config.outgoing (count_by is_standing timed.slots)) timed.slots ∙ length-moved (clock_after h.clock ms) (is_short_at h.credits) h.slots

pub same-count : (c : Call) (old new : Host) → Acts c old new → length new.slots ≡ length old.slots
same-count (call.Connect address channels info word answer) old new acts = count-connects old address channels info word answer old.slots new.slots acts.0
same-count (call.Submit name channel q (Ok done)) old new acts = count-named old.slots name (unless_full old.send_limit (submission channel q)) new.slots acts.0
same-count (call.Submit name channel q (Err e)) old new acts = ap length acts.0.2
same-count (call.Receive from bytes answer) old new acts = count-arrives old from bytes answer old.slots new.slots acts.arrives
same-count (call.Service None buf) old new acts = (let a = acts.0 in a.count)
same-count (call.Service (Some gave) buf) old new acts = (let a = acts.0 in a.count)
same-count (call.Tick ms) old new acts = ap (λ (h : Host). length h.slots) acts ∙ count-ticked old ms
same-count (call.Disconnect m name info answer) old new acts = count-does answer old.slots name (leaving m info) new.slots acts.0
same-count (call.SetBandwidth incoming outgoing (Ok done)) old new acts = ap (λ (h : Host). length h.slots) acts ∙ length-map old.slots (changed (λ (p : Peering). peers.with_bandwidth p incoming outgoing))
same-count (call.SetBandwidth incoming outgoing (Err why)) old new acts = ap (λ (h : Host). length h.slots) acts.1
same-count (call.ConfigureThrottle name interval acceleration deceleration answer) old new acts = count-memory answer old.slots name (throttling interval acceleration deceleration) new.slots acts.0
same-count (call.SetPingInterval name ms answer) old new acts = count-does answer old.slots name (pinging ms) new.slots acts.0
same-count (call.SetTimeout name limit minimum maximum answer) old new acts = count-does answer old.slots name (waiting limit minimum maximum) new.slots acts.0
same-count (call.NextEvent None) old new acts = ap (λ (h : Host). length h.slots) acts.1
same-count (call.NextEvent (Some event)) old new acts = ap (λ (h : Host). length h.slots) acts.rest ∙ length-set old.slots acts.from acts.after
same-count (call.Admit what (Ok done)) old new acts = ap (λ (h : Host). length h.slots) acts.1
same-count (call.Admit what (Err why)) old new acts = ap (λ (h : Host). length h.slots) acts.2
same-count (call.SetSendLimit bytes commands) old new acts = ap (λ (h : Host). length h.slots) acts

-- how a slot that is there fared
pub fares-back : (c : Call) (old new : Host) → Acts c old new → (i : ℕ) (t : SlotState) → slice_get new.slots i ≡ Some t → (s : SlotState) × (slice_get old.slots i ≡ Some s) × Fares c (common_of old) i s t
fares-back c old new acts i t there =
    let s : (s : SlotState) × (slice_get old.slots i ≡ Some s) =
    get-within old.slots i (let few : i < length new.slots = slice_get_within new.slots i t there in let same : length new.slots ≡ length old.slots = same-count c old new acts in omega arith) in
    let f : (u : SlotState) × (slice_get new.slots i ≡ Some u) × Fares c (common_of old) i s.0 u = one-call c old new acts i s.0 s.1 in
    let same : f.0 ≡ t = (let x : ◌≡◌ {A = Option SlotState} (Some f.0) (Some t) = sym f.1 ∙ there in cc) in (s.0, s.1, subst (λ (u : SlotState). Fares c (common_of old) i s.0 u) same f.2)
