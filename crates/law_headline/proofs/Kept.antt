-- One thing at a host, and what is kept of its ends.
use Rattle.std.proofs.Common.{◌≡◌, ◌≢◌, ◌<◌, ◌≤◌, ℕ, zero, suc, replicate, ◌+◌, min, ◌⊎◌, inl, inr, Bool, true, false, cond, ◌==◌, ◌&&◌, List, [], ◌∷◌, ◌++◌, map, length, refl, sym, ap, subst, ◌∙◌, append-nil, arith, Option, Some, None, Result, Ok, Err, slice_get}
use Rattle.std.proofs.lemmas.Bool.Decides.{nat_tests}
use Rattle.enet_codec.specs.declared.event.Event.{Event}
use Rattle.enet_codec.specs.declared.event.Event.TheVariants as events
use Rattle.enet_codec.specs.declared.event.PeerRef.{PeerRef}
use Rattle.enet_codec.specs.declared.event.Received.{Received}
use Rattle.enet_codec.specs.declared.packet.Packet.{Packet}
use Rattle.enet_sender.specs.CommandChoice as command_choice
use Rattle.enet_peer.specs.declared.parts.PeerEvent.{PeerEvent}
use Rattle.enet_peer.specs.declared.parts.PeerEvent.TheVariants as told
use Rattle.enet_peer.specs.declared.parts.PeerState.{PeerState}
use Rattle.enet_peer.specs.declared.parts.PeerState.TheVariants as state
use Rattle.enet_peer.specs.Peering.{Peering}
use Rattle.law_connection.specs.LinkSteps.{Has}
use Rattle.law_connection.proofs.Lists.{Has-append_cases}
use Rattle.law_connection.specs.Law.{mtu_in}
use Rattle.enet_slot.specs.Slot.{SlotState, name_of, with_peer, greatest}
use Rattle.enet_slot.specs.Calls.{submission, unless_full, event_of}
use Rattle.enet_host.specs.Host.{Host, named}
use Rattle.enet_host.specs.Calls.{TakesOne}
use Rattle.enet_host.specs.Serving.{served_of}
use Rattle.law_network.specs.Calls.{Call, Acts}
use Rattle.law_network.specs.Calls as call
use Rattle.law_network.specs.Common.{common_of}
use Rattle.law_network.specs.Falling as falling
use Rattle.law_network.specs.IsolationLaw.{Fares, untouched, goes_on, takes_over, begins, having_emitted}
use Rattle.law_network.specs.Log.{Logged, ChannelPackets, no_packets, packets_at, with_packets, with_submitted_packet, with_taken, fresh_channels}
use Rattle.law_network.specs.Network.{HostEnd, Site, fresh_end, is_same_name, with_end}
use Rattle.law_network.specs.Steps.{Around, Happening, Calls, Delivers, HappensAmong, Called, Logs, LogsIf, BringsOne, ends_after, after_event, with_packet, with_event, packets_by, begun}
use Rattle.law_network.proofs.Counts.{fares-back}
use Rattle.law_network.proofs.Growing.{more_of, more_in, begun-is}
use Rattle.law_network.proofs.Keeping.{kept-there, kept-other, equal-or-not, part-stays, with-long}
use Rattle.law_network.proofs.Names.{free-or, begun-generation, over-generation, same-generations}
use Rattle.law_network.proofs.OneThing.{event-ends}
use Rattle.law_network.proofs.Single.{Does, does-named}
use Rattle.law_network.proofs.Slots.{held, freed-in}
use Rattle.law_network.proofs.Submitting.{same-some}
use Rattle.law_network.proofs.Worlds.{IsFresh, fresh-more, some-acts}
use Rattle.law_headline.specs.Page.{is_of}
use Rattle.law_headline.specs.Kept.{submitted_by, taken_by, Tells, IsUnborn, IsRecorded, and_submitted, and_taken, StaysRecorded}

-- names

pub name-slot : (a b : PeerRef) → is_same_name a b ≡ true → a.slot ≡ b.slot
name-slot a b h = grind (arith, nat_tests)

pub name-generation : (a b : PeerRef) → is_same_name a b ≡ true → a.generation ≡ b.generation
name-generation a b h = grind (arith, nat_tests)

-- a name that nobody had yet nobody had before

back-in : (old new : Host) (name : PeerRef) (c : Call) (s t : SlotState) → old.config.generations ≤ greatest → name.generation < old.config.generations → Fares c (common_of old) name.slot s t
    → (t.generation < name.generation) ⊎ ((t.generation ≡ name.generation) × (t.peer ≡ None)) → (s.generation < name.generation) ⊎ ((s.generation ≡ name.generation) × (s.peer ≡ None))
back-in old new name c s t low left (untouched none not' e) (inl before) = inl (let g : t.generation ≡ s.generation = ap (λ (x : SlotState). x.generation) e in omega arith)
back-in old new name c s t low left (untouched none not' e) (inr same) = inr (ap (λ (x : SlotState). x.generation) (sym e) ∙ same.0, ap (λ (x : SlotState). x.peer) (sym e) ∙ same.1)
back-in old new name c s t low left (begins vacant room b) (inl before) = inl (let g : t.generation ≡ s.generation = begun-generation c old name.slot s t b in omega arith)
back-in old new name c s t low left (begins vacant room b) (inr same) = inr (sym (begun-generation c old name.slot s t b) ∙ same.0, vacant)
back-in old new name c s t low left (takes_over p q ds has fell alone gone room b) future =
    let g : t.generation ≡ s.generation + 1 = over-generation c old name.slot s t q low gone room b in
    elim future [ inl before ↦ inl (omega arith) | inr same ↦ inl (let a : t.generation ≡ name.generation = same.0 in omega arith) ]
back-in old new name c s t low left (goes_on p q ds has fell alone none e) future = by (free-or q.state)
  where
    n : ℕ
    n = falling.counted c (common_of old) name.slot s

    by : (q.state ≡ state.Free) ⊎ (q.state ≢ state.Free) → (s.generation < name.generation) ⊎ ((s.generation ≡ name.generation) × (s.peer ≡ None))
    by (inl free) =
        let g : t.generation ≡ min (s.generation + 1) greatest = ap (λ (x : SlotState). x.generation) (e ∙ ap (λ (x : SlotState). having_emitted x n) (freed-in s q free)) in
        let most : t.generation ≤ name.generation = elim future [ inl before ↦ omega arith | inr same ↦ (let a : t.generation ≡ name.generation = same.0 in omega arith) ] in
        inl (omega arith)
    by (inr live) =
        let f : t ≡ having_emitted (record s { peer = Some q }) n = e ∙ ap (λ (x : SlotState). having_emitted x n) (held s q live) in
        let g : t.generation ≡ s.generation = ap (λ (x : SlotState). x.generation) f in
        elim future [
          | inl before ↦ inl (omega arith)
          | inr same ↦ absurd (let z : ◌≡◌ {A = Option Peering} None (Some q) = sym same.1 ∙ ap (λ (x : SlotState). x.peer) f in cc)
        ]

pub unborn-back : (c : Call) (old new : Host) (name : PeerRef) → old.config.generations ≤ greatest → Acts c old new → IsUnborn new name → IsUnborn old name
unborn-back c old new name low acts u =
    let s = fares-back c old new acts name.slot u.slot u.there in
    let same : new.config.generations ≡ old.config.generations = same-generations c old new acts in
    let left : name.generation < old.config.generations = (let l : name.generation < new.config.generations = u.left in omega arith) in
    record { slot = s.0; there = s.1; left = left; future = back-in old new name c s.0 u.slot low left s.2 u.future }

-- nothing names it

not-held : (h : Host) (name other : PeerRef) (s : SlotState) (p : Peering) → IsUnborn h name → slice_get h.slots other.slot ≡ Some s → s.generation ≡ other.generation → s.peer ≡ Some p → is_same_name name other ≡ false
not-held h name other s p u there same has = by (is_same_name name other) refl
  where
    by : (b : Bool) → is_same_name name other ≡ b → is_same_name name other ≡ false
    by false e = e
    by true e =
        let here : u.slot ≡ s = same-some u.slot s (sym u.there ∙ ap (λ (i : ℕ). slice_get h.slots i) (name-slot name other e) ∙ there) in
        let g : u.slot.generation ≡ name.generation = ap (λ (x : SlotState). x.generation) here ∙ same ∙ sym (name-generation name other e) in
        absurd (elim u.future [
          | inl before ↦ omega arith
          | inr vacant ↦ (let z : ◌≡◌ {A = Option Peering} None (Some p) = sym vacant.1 ∙ ap (λ (x : SlotState). x.peer) here ∙ has in cc)
        ])

silent-submit : (h : Host) (name to : PeerRef) (number channel : ℕ) (q : command_choice.Packet) (done : Unit {0}) (after : Host) → Acts (call.Submit to number q (Ok done)) h after → IsUnborn h name
    → submitted_by name channel (Calls (call.Submit to number q (Ok done))) ≡ []
silent-submit h name to number channel q done after acts u =
    let d : Does h.slots to (unless_full h.send_limit (submission number q)) after.slots = does-named h.slots to (unless_full h.send_limit (submission number q)) after.slots acts.0 in
    ap (λ (b : Bool). cond (b && number == channel) ((record { channel = number; flags = q.flags; body = q.body }) ∷ []) []) (not-held h name to d.slot d.peer u d.there d.same d.held)

pub of-event : (name by : PeerRef) (t : PeerEvent) → is_of name (event_of by t) ≡ is_same_name name by
of-event name by (told.Connect info) = refl
of-event name by (told.Receive q) = refl
of-event name by (told.Disconnect info) = refl

silent-take : (h : Host) (name : PeerRef) (event : Event) (after : Host) → TakesOne h event after → IsUnborn h name → taken_by name (Calls (call.NextEvent (Some event))) ≡ []
silent-take h name event after a u =
    let by : PeerRef = name_of a.from a.first.slot in
    let none : is_same_name name by ≡ false = not-held h name by a.first.slot a.gives.peer u a.first.there refl a.gives.held in
    ap (λ (b : Bool). cond b (event ∷ []) []) (ap (is_of name) a.gives.told ∙ of-event name by a.gives.taken.event ∙ none)

silent : (w : Around) (from old new : Site) (what : Happening) (name : PeerRef) → HappensAmong w from what old new → IsUnborn old.host name → ((channel : ℕ) → submitted_by name channel what ≡ []) × (taken_by name what ≡ [])
silent w from old new (Calls (call.Submit to number q (Ok done))) name x u = (λ channel. silent-submit old.host name to number channel q done new.host x.0 u, refl)
silent w from old new (Calls (call.NextEvent (Some event))) name x u = (λ channel. refl, silent-take old.host name event new.host x.0 u)
silent w from old new what name x u = (λ channel. refl, refl)

-- an end

-- nothing is added
still : (submitted more : PeerRef → ℕ → List Packet) (taken gone : PeerRef → List Event) (e : HostEnd) → ((channel : ℕ) → more e.name channel ≡ []) → gone e.name ≡ [] → Tells submitted taken e
    → Tells (λ name channel. submitted name channel ++ more name channel) (λ name. taken name ++ gone name) e
still submitted more taken gone e none none' k = record {
  long = k.long;
  submitted_is = λ channel low. k.submitted_is channel low ∙ sym (append-nil (submitted e.name channel)) ∙ ap (λ (l : List Packet). submitted e.name channel ++ l) (sym (none channel));
  events_is = k.events_is ∙ sym (append-nil (taken e.name)) ∙ ap (λ (l : List Event). taken e.name ++ l) (sym none');
}

-- a packet
packet-there : (xs : List ChannelPackets) (number channel : ℕ) (q : Packet) → length xs ≡ 256 → channel < 256
    → (packets_at (with_packets xs number (with_submitted_packet q)) channel).submitted ≡ (packets_at xs channel).submitted ++ cond (number == channel) (q ∷ []) []
packet-there xs number channel q long low = elim (equal-or-not number channel) [
  | inl e ↦ (let here : (packets_at (with_packets xs number (with_submitted_packet q)) number).submitted ≡ (packets_at xs number).submitted ++ q ∷ [] =
      ap (λ (k : ChannelPackets). k.submitted) (kept-there xs number (with_submitted_packet q (packets_at xs number)) (omega arith)) in
      let t : (number == channel) ≡ true = grind (arith, nat_tests) in
      subst (λ (n : ℕ). (packets_at (with_packets xs number (with_submitted_packet q)) n).submitted ≡ (packets_at xs n).submitted ++ q ∷ []) e here
      ∙ ap (λ (b : Bool). (packets_at xs channel).submitted ++ cond b (q ∷ []) []) (sym t))
  | inr n ↦ (let t : (number == channel) ≡ false = grind (arith, nat_tests) in
      ap (λ (k : ChannelPackets). k.submitted) (kept-other xs number channel (with_submitted_packet q (packets_at xs number)) n)
      ∙ sym (append-nil (packets_at xs channel).submitted) ∙ ap (λ (b : Bool). (packets_at xs channel).submitted ++ cond b (q ∷ []) []) (sym t))
]

submitted-end : (submitted : PeerRef → ℕ → List Packet) (taken : PeerRef → List Event) (to : PeerRef) (number mtu : ℕ) (q : command_choice.Packet) (done : Unit {0}) (e : HostEnd) → Tells submitted taken e
    → (b : Bool) → is_same_name e.name to ≡ b
    → Tells (and_submitted submitted (Calls (call.Submit to number q (Ok done)))) (and_taken taken (Calls (call.Submit to number q (Ok done))))
    (cond b (with_packet mtu (record { channel = number; flags = q.flags; body = q.body }) e) e)
submitted-end submitted taken to number mtu q done e k true is = record {
  long = with-long e.channels number (with_submitted_packet (record { channel = number; flags = q.flags; body = q.body })) k.long;
  submitted_is = λ channel low. packet-there e.channels number channel (record { channel = number; flags = q.flags; body = q.body }) k.long low
      ∙ ap (λ (l : List Packet). l ++ cond (number == channel) ((record { channel = number; flags = q.flags; body = q.body }) ∷ []) []) (k.submitted_is channel low)
      ∙ ap (λ (b : Bool). submitted e.name channel ++ cond (b && number == channel) ((record { channel = number; flags = q.flags; body = q.body }) ∷ []) []) (sym is);
  events_is = k.events_is ∙ sym (append-nil (taken e.name));
}
submitted-end submitted taken to number mtu q done e k false is =
    still submitted (λ name channel. submitted_by name channel (Calls (call.Submit to number q (Ok done)))) taken (λ name. taken_by name (Calls (call.Submit to number q (Ok done)))) e
    (λ channel. ap (λ (b : Bool). cond (b && number == channel) ((record { channel = number; flags = q.flags; body = q.body }) ∷ []) []) is) refl k

-- an event
by-event : (t : PeerEvent) (name : PeerRef) (xs : List ChannelPackets) (channel : ℕ) → length xs ≡ 256 → channel < 256 → (packets_at (packets_by (event_of name t) xs) channel).submitted ≡ (packets_at xs channel).submitted
by-event (told.Connect info) name xs channel long low = refl
by-event (told.Receive q) name xs channel long low = part-stays (λ (y : ChannelPackets). y.submitted) (with_taken q) (λ y. refl) xs q.channel channel long low
by-event (told.Disconnect info) name xs channel long low = refl

event-long : (t : PeerEvent) (name : PeerRef) (xs : List ChannelPackets) → length xs ≡ 256 → length (packets_by (event_of name t) xs) ≡ 256
event-long (told.Connect info) name xs long = long
event-long (told.Receive q) name xs long = with-long xs q.channel (with_taken q) long
event-long (told.Disconnect info) name xs long = long

taken-end : (submitted : PeerRef → ℕ → List Packet) (taken : PeerRef → List Event) (by : PeerRef) (t : PeerEvent) (e : HostEnd) → Tells submitted taken e → (b : Bool) → is_same_name e.name by ≡ b
    → Tells (and_submitted submitted (Calls (call.NextEvent (Some (event_of by t))))) (and_taken taken (Calls (call.NextEvent (Some (event_of by t))))) (cond b (with_event (event_of by t) e) e)
taken-end submitted taken by t e k true is = record {
  long = event-long t by e.channels k.long;
  submitted_is = λ channel low. by-event t by e.channels channel k.long low ∙ k.submitted_is channel low ∙ sym (append-nil (submitted e.name channel));
  events_is = ap (λ (l : List Event). l ++ event_of by t ∷ []) k.events_is ∙ ap (λ (b : Bool). taken e.name ++ cond b (event_of by t ∷ []) []) (sym (of-event e.name by t ∙ is));
}
taken-end submitted taken by t e k false is =
    still submitted (λ name channel. submitted_by name channel (Calls (call.NextEvent (Some (event_of by t))))) taken (λ name. taken_by name (Calls (call.NextEvent (Some (event_of by t))))) e
    (λ channel. refl) (ap (λ (b : Bool). cond b (event_of by t ∷ []) []) (of-event e.name by t ∙ is)) k

-- all ends

-- those of before, each changed, and those that begin
record Changed (submitted : PeerRef → ℕ → List Packet) (taken : PeerRef → List Event) (what : Happening) (old new : Site) (more : List HostEnd) : Type 0 where
  change : HostEnd → HostEnd
  ends : new.ends ≡ map change old.ends ++ more
  tells : (e : HostEnd) → Tells submitted taken e → Tells (and_submitted submitted what) (and_taken taken what) (change e)

map-same : (xs : List HostEnd) → map (λ (e : HostEnd). e) xs ≡ xs
map-same [] = refl
map-same (x ∷ xs) = ap (λ (l : List HostEnd). x ∷ l) (map-same xs)

unchanged : (submitted : PeerRef → ℕ → List Packet) (taken : PeerRef → List Event) (what : Happening) (old new : Site) (more : List HostEnd) → new.ends ≡ old.ends ++ more
    → ((name : PeerRef) (channel : ℕ) → submitted_by name channel what ≡ []) → ((name : PeerRef) → taken_by name what ≡ []) → Changed submitted taken what old new more
unchanged submitted taken what old new more e none none' = record {
  change = λ x. x;
  ends = e ∙ ap (λ (l : List HostEnd). l ++ more) (sym (map-same old.ends));
  tells = λ x k. still submitted (λ name channel. submitted_by name channel what) taken (λ name. taken_by name what) x (none x.name) (none' x.name) k;
}

quiet : (submitted : PeerRef → ℕ → List Packet) (taken : PeerRef → List Event) (c : Call) (old new : Site) → new.ends ≡ old.ends
    → ((name : PeerRef) (channel : ℕ) → submitted_by name channel (Calls c) ≡ []) → ((name : PeerRef) → taken_by name (Calls c) ≡ []) → Changed submitted taken (Calls c) old new []
quiet submitted taken c old new e none none' = unchanged submitted taken (Calls c) old new [] (e ∙ sym (append-nil old.ends)) none none'

-- an end whose datagram went
gone : (submitted : PeerRef → ℕ → List Packet) (taken : PeerRef → List Event) (greatest' : List ℕ) (b : Bool) (e : HostEnd) → Tells submitted taken e → Tells submitted taken (cond b (record e { greatest = greatest' }) e)
gone submitted taken greatest' true e k = record { long = k.long; submitted_is = k.submitted_is; events_is = k.events_is }
gone submitted taken greatest' false e k = k

served : (submitted : PeerRef → ℕ → List Packet) (taken : PeerRef → List Event) (b : Bool) (far : ℕ → List ℕ) (gave : PeerRef × Rattle.enet_codec.specs.declared.address.Addr.Addr × ℕ) (buf : List ℕ) (old new : Site)
    → LogsIf b far (served_of gave buf) old new → Changed submitted taken (Calls (call.Service (Some gave) buf)) old new []
served submitted taken true far gave buf old new l =
    let logs : Logs far (served_of gave buf) old new = l in
    record {
      change = λ x. cond (is_same_name x.name gave.0) (record x { greatest = logs.greatest }) x;
      ends = ap (λ (s : Site). s.ends) logs.rest ∙ sym (append-nil (with_end (λ (e : HostEnd). record e { greatest = logs.greatest }) gave.0 old.ends));
      tells = λ x k. still submitted (λ name channel. []) taken (λ name. []) (cond (is_same_name x.name gave.0) (record x { greatest = logs.greatest }) x) (λ channel. refl) refl
          (gone submitted taken logs.greatest (is_same_name x.name gave.0) x k);
    }
served submitted taken false far gave buf old new l =
    quiet submitted taken (call.Service (Some gave) buf) old new (let rest : new ≡ record old { host = new.host } = l in ap (λ (s : Site). s.ends) rest) (λ name channel. refl) (λ name. refl)

taken-one : (submitted : PeerRef → ℕ → List Packet) (taken : PeerRef → List Event) (event : Event) (by : PeerRef) (t : PeerEvent) (old new : Site) → event ≡ event_of by t → new.ends ≡ after_event event old.ends
    → Changed submitted taken (Calls (call.NextEvent (Some event))) old new []
taken-one submitted taken event by t old new is e = subst (λ (z : Event). Changed submitted taken (Calls (call.NextEvent (Some z))) old new []) (sym is) (record {
  change = λ x. cond (is_same_name x.name by) (with_event (event_of by t) x) x;
  ends = e ∙ ap (λ (z : Event). after_event z old.ends) is ∙ event-ends by t old.ends ∙ sym (append-nil (with_end (with_event (event_of by t)) by old.ends));
  tells = λ x k. taken-end submitted taken by t x k (is_same_name x.name by) refl;
})

calls-change : (submitted : PeerRef → ℕ → List Packet) (taken : PeerRef → List Event) (w : Around) (from old new : Site) (c : Call) → HappensAmong w from (Calls c) old new → Changed submitted taken (Calls c) old new (more_of w.count from old new (Calls c))
calls-change submitted taken w from old new (call.Connect address channels info word (Ok name)) x =
    unchanged submitted taken (Calls (call.Connect address channels info word (Ok name))) old new (fresh_end w.count name ∷ []) (ap (λ (s : Site). s.ends) x.1.1) (λ n channel. refl) (λ n. refl)
calls-change submitted taken w from old new (call.Connect address channels info word (Err why)) x = quiet submitted taken (call.Connect address channels info word (Err why)) old new (ap (λ (s : Site). s.ends) x.1.1) (λ n channel. refl) (λ n. refl)
calls-change submitted taken w from old new (call.Submit to number q (Ok done)) x =
    let mtu : ℕ = mtu_in (named old.host.slots to) in
    record {
      change = λ e. cond (is_same_name e.name to) (with_packet mtu (record { channel = number; flags = q.flags; body = q.body }) e) e;
      ends = ap (λ (s : Site). s.ends) x.1 ∙ sym (append-nil (with_end (with_packet mtu (record { channel = number; flags = q.flags; body = q.body })) to old.ends));
      tells = λ e k. submitted-end submitted taken to number mtu q done e k (is_same_name e.name to) refl;
    }
calls-change submitted taken w from old new (call.Submit to number q (Err why)) x = quiet submitted taken (call.Submit to number q (Err why)) old new (ap (λ (s : Site). s.ends) x.1) (λ n channel. refl) (λ n. refl)
calls-change submitted taken w from old new (call.Receive address bytes answer) x = quiet submitted taken (call.Receive address bytes answer) old new (ap (λ (s : Site). s.ends) x.1.1) (λ n channel. refl) (λ n. refl)
calls-change submitted taken w from old new (call.Service None buf) x = quiet submitted taken (call.Service None buf) old new (ap (λ (s : Site). s.ends) x.1) (λ n channel. refl) (λ n. refl)
calls-change submitted taken w from old new (call.Service (Some gave) buf) x = served submitted taken (w.is_host gave.1) w.numbers gave buf old new x.1
calls-change submitted taken w from old new (call.Tick ms) x = quiet submitted taken (call.Tick ms) old new (ap (λ (s : Site). s.ends) x.1) (λ n channel. refl) (λ n. refl)
calls-change submitted taken w from old new (call.Disconnect mode name info answer) x = quiet submitted taken (call.Disconnect mode name info answer) old new (ap (λ (s : Site). s.ends) x.1) (λ n channel. refl) (λ n. refl)
calls-change submitted taken w from old new (call.SetBandwidth incoming outgoing answer) x = quiet submitted taken (call.SetBandwidth incoming outgoing answer) old new (ap (λ (s : Site). s.ends) x.1) (λ n channel. refl) (λ n. refl)
calls-change submitted taken w from old new (call.ConfigureThrottle name interval acceleration deceleration answer) x =
    quiet submitted taken (call.ConfigureThrottle name interval acceleration deceleration answer) old new (ap (λ (s : Site). s.ends) x.1) (λ n channel. refl) (λ n. refl)
calls-change submitted taken w from old new (call.SetPingInterval name ms answer) x = quiet submitted taken (call.SetPingInterval name ms answer) old new (ap (λ (s : Site). s.ends) x.1) (λ n channel. refl) (λ n. refl)
calls-change submitted taken w from old new (call.SetTimeout name limit minimum maximum answer) x = quiet submitted taken (call.SetTimeout name limit minimum maximum answer) old new (ap (λ (s : Site). s.ends) x.1) (λ n channel. refl) (λ n. refl)
calls-change submitted taken w from old new (call.NextEvent None) x = quiet submitted taken (call.NextEvent None) old new (ap (λ (s : Site). s.ends) x.1) (λ n channel. refl) (λ n. refl)
calls-change submitted taken w from old new (call.Admit what answer) x = quiet submitted taken (call.Admit what answer) old new (ap (λ (s : Site). s.ends) x.1) (λ n channel. refl) (λ n. refl)
calls-change submitted taken w from old new (call.SetSendLimit bytes commands) x = quiet submitted taken (call.SetSendLimit bytes commands) old new (ap (λ (s : Site). s.ends) x.1) (λ n channel. refl) (λ n. refl)
calls-change submitted taken w from old new (call.NextEvent (Some event)) x =
    let a : TakesOne old.host event new.host = x.0 in
    taken-one submitted taken event (name_of a.from a.first.slot) a.gives.taken.event old new a.gives.told (ap (λ (s : Site). s.ends) x.1)

brings-change : (submitted : PeerRef → ℕ → List Packet) (taken : PeerRef → List Event) (next k : ℕ) (from old new : Site) (answer : Received) (found : Option Logged) → BringsOne from found answer old new
    → Changed submitted taken (Delivers k answer) old new (more_in from.address old new found)
brings-change submitted taken next k from old new answer None x = absurd x
brings-change submitted taken next k from old new answer (Some d) x =
    unchanged submitted taken (Delivers k answer) old new (begun d.connection from.address old.host new.host) (ap (λ (s : Site). s.ends) x.1.1) (λ n channel. refl) (λ n. refl)

changes : (submitted : PeerRef → ℕ → List Packet) (taken : PeerRef → List Event) (w : Around) (from old new : Site) (what : Happening) → HappensAmong w from what old new → Changed submitted taken what old new (more_of w.count from old new what)
changes submitted taken w from old new (Calls c) x = calls-change submitted taken w from old new c x
changes submitted taken w from old new (Delivers k answer) x = brings-change submitted taken w.count k from old new answer (slice_get from.log k) x

-- an end that begins has nothing

long-fresh : length fresh_channels ≡ 256
unfolding fresh_channels
long-fresh = refl

none-in : (n channel : ℕ) → (packets_at (replicate n no_packets) channel).submitted ≡ []
none-in zero channel = refl
none-in (suc n) zero = refl
none-in (suc n) (suc channel) = none-in n channel

none-fresh : (channel : ℕ) → (packets_at fresh_channels channel).submitted ≡ []
unfolding fresh_channels
none-fresh channel = none-in 256 channel

more-fresh : (next : ℕ) (from old new : Site) (what : Happening) (f : HostEnd) → Has (more_of next from old new what) f → f ≡ fresh_end f.connection f.name
more-fresh next from old new (Calls (call.Connect address channels info word (Ok name))) f (inl e) = subst (λ (z : HostEnd). z ≡ fresh_end z.connection z.name) e refl
more-fresh next from old new (Calls (call.Connect address channels info word (Ok name))) f (inr h) = absurd h
more-fresh next from old new (Calls c) f h = absurd h
more-fresh next from old new (Delivers k answer) f h = by (slice_get from.log k) h
  where
    by : (found : Option Logged) → Has (more_in from.address old new found) f → f ≡ fresh_end f.connection f.name
    by None m = absurd m
    by (Some d) m = (let b = begun-is d.connection from.address old.host new.host f m in subst (λ (z : HostEnd). z ≡ fresh_end z.connection z.name) (sym b.4) refl)

fresh-unborn : (h : Host) (name : PeerRef) → IsFresh h name → IsUnborn h name
fresh-unborn h name f = record {
  slot = f.slot;
  there = f.there;
  left = f.left;
  future = f.future;
}

fresh-tells : (submitted : PeerRef → ℕ → List Packet) (taken : PeerRef → List Event) (x : ℕ) (name : PeerRef) → ((channel : ℕ) → submitted name channel ≡ []) → taken name ≡ [] → Tells submitted taken (fresh_end x name)
fresh-tells submitted taken x name none none' = record { long = long-fresh; submitted_is = λ channel low. none-fresh channel ∙ sym (none channel); events_is = sym none' }

-- both lists of a name that nobody had yet stay empty
both-none : (submitted : PeerRef → ℕ → List Packet) (taken : PeerRef → List Event) (what : Happening) (name : PeerRef) → ((channel : ℕ) → submitted name channel ≡ []) × (taken name ≡ [])
    → ((channel : ℕ) → submitted_by name channel what ≡ []) × (taken_by name what ≡ []) → ((channel : ℕ) → and_submitted submitted what name channel ≡ []) × (and_taken taken what name ≡ [])
both-none submitted taken what name k n = (
  λ channel. (λ i. k.0 channel i ++ n.0 channel i),
  (λ i. k.1 i ++ n.1 i),
)

Has-mapped : (f : HostEnd → HostEnd) (xs : List HostEnd) (y : HostEnd) → Has (map f xs) y → (x : HostEnd) × Has xs x × (f x ≡ y)
Has-mapped f [] y h = absurd h
Has-mapped f (x ∷ xs) y (inl e) = (x, inl refl, e)
Has-mapped f (x ∷ xs) y (inr h) = (let r = Has-mapped f xs y h in (r.0, inr r.1, r.2))

pub stays-recorded : StaysRecorded
stays-recorded submitted taken w from old new what x k = record {
  few = (let a = some-acts w from old new what x in let same : new.host.config.generations ≡ old.host.config.generations = same-generations a.0 old.host new.host a.1 in let low : old.host.config.generations ≤ greatest = k.few in omega arith);
  ends = λ e h. elim (Has-append_cases (map c.change old.ends) more e (subst (λ (l : List HostEnd). Has l e) c.ends h)) [
    | inl before ↦ (let b = Has-mapped c.change old.ends e before in subst (Tells (and_submitted submitted what) (and_taken taken what)) b.2 (c.tells b.0 (k.ends b.0 b.1)))
    | inr new' ↦ begun-tells e new'
  ];
  unborn = λ name u. none-before name (let a = some-acts w from old new what x in unborn-back a.0 old.host new.host name k.few a.1 u);
}
  where
    more : List HostEnd
    more = more_of w.count from old new what

    c : Changed submitted taken what old new more
    c = changes submitted taken w from old new what x

    none-before : (name : PeerRef) → IsUnborn old.host name → ((channel : ℕ) → and_submitted submitted what name channel ≡ []) × (and_taken taken what name ≡ [])
    none-before name u = both-none submitted taken what name (k.unborn name u) (silent w from old new what name x u)

    begun-tells : (e : HostEnd) → Has more e → Tells (and_submitted submitted what) (and_taken taken what) e
    begun-tells e h =
        let none = none-before e.name (fresh-unborn old.host e.name (fresh-more w from old new what k.few x e h)) in
        subst (Tells (and_submitted submitted what) (and_taken taken what)) (sym (more-fresh w.count from old new what e h)) (fresh-tells (and_submitted submitted what) (and_taken taken what) e.connection e.name none.0 none.1)
