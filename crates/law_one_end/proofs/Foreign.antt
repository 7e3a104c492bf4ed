-- What no host's user takes: what came from elsewhere alone, or to another; and what happens at no end.
use Rattle.std.proofs.Common.{◌≡◌, ◌≢◌, ℕ, ◌==◌, Bool, true, false, cond, nat_lt, List, [], ◌∷◌, ◌++◌, refl, sym, ap, subst, ◌∙◌, ◌⊎◌, inl, inr, Option, Some, None}
use Rattle.std.specs.Prelude.{flat_map}
use Rattle.std.proofs.lemmas.List.{append-nil}
use Rattle.enet_codec.specs.declared.address.Addr.{Addr}
use Rattle.enet_codec.specs.declared.event.Event.{Event}
use Rattle.enet_codec.specs.declared.event.Event.TheVariants as event
use Rattle.enet_codec.specs.declared.event.PeerRef.{PeerRef}
use Rattle.enet_codec.specs.declared.event.Received.{Received}
use Rattle.enet_codec.specs.declared.header.Header.{Header}
use Rattle.enet_codec.specs.declared.packet.Packet.{Packet}
use Rattle.enet_codec.specs.Message.{Message}
use Rattle.enet_codec.proofs.HeaderLaws.{one_header}
use Rattle.enet_host.specs.Host.{slot_named}
use Rattle.enet_host.specs.Receiving.{handled_one}
use Rattle.enet_peer.specs.declared.parts.PeerEvent.{PeerEvent}
use Rattle.enet_peer.specs.declared.parts.PeerEvent.TheVariants as told
use Rattle.enet_peer.specs.Calls.{next_event}
use Rattle.enet_peer.specs.Heading.{IsRead}
use Rattle.enet_peer.specs.Peering.{Peering, answering}
use Rattle.enet_receiver.specs.Members.{Has}
use Rattle.enet_slot.specs.Giving.{limits_of, drawn_for, server_from}
use Rattle.enet_slot.specs.Receiving.{is_same_address}
use Rattle.enet_slot.specs.Slot.{SlotState}
use Rattle.law_connection.specs.Connection.{packets_of, in_sequence}
use Rattle.law_connection.specs.Law.{IsOneLife}
use Rattle.law_network.specs.Calls.{Call, Series}
use Rattle.law_network.specs.Calls as call
use Rattle.law_network.specs.Common.{Common, common_of}
use Rattle.law_network.specs.Deeds.{Deed, Take}
use Rattle.law_network.specs.Falling.{Begins, asks, answers, fell_to, fell_in, occupied_in}
use Rattle.law_one_end.specs.OneEnd.{Heard, Runs, beginning}
use Rattle.law_one_end.specs.OneEnd as end
use Rattle.law_one_end.specs.Carried.{AreCarried}
use Rattle.law_one_end.specs.Hosts.{told_by, message_in, event_in, AreFirst, CameBy, BeganAt, IsEnd, IsNobody}
use Rattle.law_one_end.specs.Refuted.{heard_of, hasty, IsNoHosts, ForeignIsRefused, MisdirectedIsRefused, HastyIsRefused, IsNoLife, PacketFirstIsRefused, TwoEndsAreRefused, packet_of}
use Rattle.law_one_end.proofs.Calls.{is-same}
use Rattle.law_one_end.proofs.Coming.{came-of}
use Rattle.law_one_end.proofs.Refuting.{elsewhere}

abbrev seven : Packet
seven = record { channel = 0; flags = 1; body = 7 ∷ [] }

-- who begins by a CONNECT is at the address from which it came
begins-at : (a : Addr) (bytes : List ℕ) (answer : Received) (h : Common) (i : ℕ) (s t : SlotState) → Begins (call.Receive a bytes answer) h i s t → t.address ≡ a
begins-at a bytes answer h i s t (asks address channels info word is some at) = absurd (cc)
begins-at a bytes answer h i s t (answers from text commands header o is read stranger offer taken new at) = (let z : call.Receive from text handled_one ≡ call.Receive a bytes answer = sym is in cc)

-- and has nothing to tell yet
begins-quiet : (a : Addr) (bytes : List ℕ) (answer : Received) (h : Common) (i : ℕ) (s t : SlotState) → Begins (call.Receive a bytes answer) h i s t → (p : Peering) → t.peer ≡ Some p → next_event p ≡ None
begins-quiet a bytes answer h i s t (asks address channels info word is some at) p has = absurd (cc)
begins-quiet a bytes answer h i s t (answers from text commands header o is read stranger offer taken new at) p has =
    let q : Peering = answering h.clock (drawn_for h.config i s).offsets o (server_from h.config i s o) (limits_of h.config) in
    let z : Some q ≡ Some p = has in
    let same : q ≡ p = cc in
    subst (λ (x : Peering). next_event x ≡ None) same refl

-- nobody begins where an event is taken
begins-not : {A : Type 0} (e : Option Event) (h : Common) (i : ℕ) (s t : SlotState) → Begins (call.NextEvent e) h i s t → A
begins-not e h i s t (asks address channels info word is some at) = absurd (cc)
begins-not e h i s t (answers from text commands header o is read stranger offer taken new at) = absurd (cc)

-- where no command came to a peer since the CONNECT, nobody takes a packet of it
unheard : (name : PeerRef) (a b : Addr) (connect other : List ℕ) (answer : Received) → ((d : Addr) (ms : List Message) → d ≡ a → CameBy name.slot (cond (is_same_address d b) (other ∷ []) [] ++ []) ms → ms ≡ []) → IsNoHosts name (heard_of name a connect b other answer)
unheard name a b connect other answer none = (nobody, ends)
  where
    cs : List Call
    cs = heard_of name a connect b other answer

    taken-is : flat_map (told_by name) cs ≡ told.Receive seven ∷ []
    taken-is = ap (λ (t : Bool). cond t (told.Receive seven ∷ []) [] ++ []) (is-same name name refl refl)

    nobody : IsNobody name cs → ⊥
    nobody n = (let z : told.Receive seven ∷ [] ≡ [] = sym taken-is ∙ n.told in absurd (cc))

    without : (series : Series cs) (k : IsEnd name cs series) → flat_map message_in k.deeds ≡ [] → ⊥
    without series k nothing =
        let away : (h : Heard) → Has k.end.came h → h.channel ≡ 0 → ⊥ = λ h there at. (let m = came-of k.deeds k.first k.end k.runs h there in subst (λ (l : List Message). Has l m.0) nothing m.1) in
        let is : in_sequence 0 (packets_of k.end.taken) ≡ packet_of 7 ∷ [] = ap (λ (l : List PeerEvent). in_sequence 0 (packets_of l)) (k.taken ∙ taken-is) in
        let heard = k.heard in
        elsewhere k.end.came (packet_of 7) [] away (subst (AreCarried k.end.came 0 0 1) is (heard.carried 0))

    ends : (series : Series cs) → IsEnd name cs series → ⊥
    ends series k = by k.began
      where
        by : BeganAt name k.address cs series k.first k.deeds → ⊥
        by (inl x) = (let z = x.0 in without series k (none k.address (flat_map message_in k.deeds) (sym x.1 ∙ begins-at a connect handled_one (common_of series.before) name.slot z.slot z.given z.begins) x.3))
        by (inr (inl x)) = without series k x.3
        by (inr (inr (inl x))) = (let z = x.0 in begins-not (Some (event.Receive name seven)) (common_of series.steps.2.0) name.slot z.slot z.given z.begins)
        by (inr (inr (inr x))) = x

nothing-of : (slot : ℕ) (b : Bool) (other : List ℕ) (ms : List Message) → b ≡ false → CameBy slot (cond b (other ∷ []) [] ++ []) ms → ms ≡ []
nothing-of slot true other ms e h = absurd (cc)
nothing-of slot false other ms e h = h

pub foreign-refused : ForeignIsRefused
foreign-refused name a b connect other answer apart =
    unheard name a b connect other answer (λ d ms at h. nothing-of name.slot (is_same_address d b) other ms (ap (λ (z : Addr). is_same_address z b) at ∙ apart) h)

-- a datagram that names another slot brings nothing
not-named : (slot : ℕ) (b : Bool) (other : List ℕ) (header : Header) (commands : List ℕ) → IsRead other header commands → header.peer ≢ slot → (ms : List Message) → CameBy slot (cond b (other ∷ []) [] ++ []) ms → ms ≡ []
not-named slot false other header commands read far ms h = h
not-named slot true other header commands read far ms h = h.3 ∙ ap (λ (l : List Message). l ++ h.1) (by h.2) ∙ h.4
  where
    by : (h.0 ≡ []) ⊎ AreFirst slot other h.0 → h.0 ≡ []
    by (inl none) = none
    by (inr k) =
        let r = k.read in
        let same = one_header read.front r.front commands k.commands header k.header read.spelled r.spelled (sym read.split ∙ r.split) in
        absurd (far (ap (λ (x : Header). x.peer) same.1 ∙ k.names))

pub misdirected-refused : MisdirectedIsRefused
misdirected-refused name a connect other answer header commands read far =
    unheard name a a connect other answer (λ d ms at h. not-named name.slot (is_same_address d a) other header commands read far ms h)

-- by an event that is told nothing but a take falls to a peer
takes-alone : (name : PeerRef) (info : ℕ) (h : Common) (i : ℕ) (o : Option SlotState) (ds : List Deed) → fell_to h i o (call.NextEvent (Some (event.Connect name info))) ds
    → (flat_map event_in ds ≡ []) ⊎ (flat_map event_in ds ≡ end.Take ∷ [])
takes-alone name info h i None ds f = inl (ap (flat_map event_in) f)
takes-alone name info h i (Some s) ds f = at s.peer f
  where
    by : (b c : Bool) → ds ≡ cond b (Take (Some (told.Connect info)) ∷ []) (cond c (Take None ∷ []) []) → (flat_map event_in ds ≡ []) ⊎ (flat_map event_in ds ≡ end.Take ∷ [])
    by true c e = inr (ap (flat_map event_in) e)
    by false true e = inl (ap (flat_map event_in) e)
    by false false e = inl (ap (flat_map event_in) e)

    at : (o : Option Peering) → fell_in h (occupied_in i s o) (call.NextEvent (Some (event.Connect name info))) ds → (flat_map event_in ds ≡ []) ⊎ (flat_map event_in ds ≡ end.Take ∷ [])
    at None e = inl (ap (flat_map event_in) e)
    at (Some p) e = by (name.slot == i) (nat_lt (h.event_turn i) (h.event_turn name.slot)) e

pub hasty-refused : HastyIsRefused
hasty-refused name a connect info = (nobody, ends)
  where
    cs : List Call
    cs = hasty name a connect info

    taken-is : flat_map (told_by name) cs ≡ told.Connect info ∷ []
    taken-is = ap (λ (t : Bool). cond t (told.Connect info ∷ []) [] ++ []) (is-same name name refl refl)

    nobody : IsNobody name cs → ⊥
    nobody n = (let z : told.Connect info ∷ [] ≡ [] = sym taken-is ∙ n.told in absurd (cc))

    ends : (series : Series cs) → IsEnd name cs series → ⊥
    ends series k = by k.began
      where
        quietly : (es : List end.Event) → flat_map event_in k.deeds ≡ es → next_event k.first ≡ None → (es ≡ []) ⊎ (es ≡ end.Take ∷ []) → ⊥
        quietly es e quiet (inl none) =
            let runs : beginning k.first ≡ k.end = subst (λ (l : List end.Event). Runs l (beginning k.first) k.end) (e ∙ none) k.runs in
            let z : [] ≡ told.Connect info ∷ [] = ap (λ (x : end.OneEnd). x.taken) runs ∙ k.taken ∙ taken-is in
            absurd (cc)
        quietly es e quiet (inr one) =
            let runs : Runs (end.Take ∷ []) (beginning k.first) k.end = subst (λ (l : List end.Event). Runs l (beginning k.first) k.end) (e ∙ one) k.runs in
            let told-is : next_event k.first ≡ Some (record { event = runs.1.0; after = runs.1.1 }) = runs.1.2 in
            absurd (cc)

        by : BeganAt name k.address cs series k.first k.deeds → ⊥
        by (inl x) =
            let z = x.0 in
            let f = x.2 in
            let all : k.deeds ≡ f.0 = f.2 ∙ ap (λ (l : List Deed). f.0 ++ l) f.4 ∙ append-nil f.0 in
            quietly (flat_map event_in f.0) (ap (flat_map event_in) all) (begins-quiet a connect handled_one (common_of series.before) name.slot z.slot z.given z.begins k.first z.peer)
            (takes-alone name info (common_of series.steps.0) name.slot (slot_named series.steps.0.slots name) f.0 f.3)
        by (inr (inl x)) = (let z = x.0 in begins-not (Some (event.Connect name info)) (common_of series.steps.0) name.slot z.slot z.given z.begins)
        by (inr (inr x)) = x

-- events that are no life

no-life : (es : List PeerEvent) → (IsOneLife false es → ⊥) → IsNoLife es
no-life es none name cs series is k = none (subst (IsOneLife false) (k.taken ∙ is) k.life)

pub packet-first-refused : PacketFirstIsRefused
packet-first-refused q es = no-life (told.Receive q ∷ es) (λ l. l)

pub two-ends-refused : TwoEndsAreRefused
two-ends-refused x y es = no-life (told.Disconnect x ∷ told.Disconnect y ∷ es) (λ l. more (told.Disconnect y) es l)
  where
    more : (e : PeerEvent) (es : List PeerEvent) → e ∷ es ≡ [] → ⊥
    more e es f = cc
