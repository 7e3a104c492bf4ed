-- A call of a host, as what it adds to the end of one peer; to one that isn't there it adds nothing.
use Rattle.std.proofs.Common.{◌≡◌, ◌≢◌, ℕ, Bool, true, false, cond, not, ◌==◌, ◌&&◌, nat_lt, List, [], ◌∷◌, ◌++◌, take, refl, sym, ap, subst, ◌∙◌, inl, inr, ◌⊎◌, arith, Option, Some, None, Ok, Err}
use Rattle.std.specs.Prelude.{flat_map, is_some}
use Rattle.std.specs.List.{slice_get}
use Rattle.std.proofs.lemmas.Bool.{and_parts}
use Rattle.std.proofs.lemmas.Bool.Decides.{nat_tests}
use Rattle.std.proofs.lemmas.List.{append-nil, append_assoc}
use Rattle.enet_codec.specs.declared.address.Addr.{Addr}
use Rattle.enet_codec.specs.declared.event.Event.{Event}
use Rattle.enet_codec.specs.declared.event.Event.TheVariants as event
use Rattle.enet_codec.specs.declared.event.PeerRef.{PeerRef}
use Rattle.enet_codec.specs.declared.event.Received.{Received}
use Rattle.enet_codec.specs.declared.stop.Stop.{Stop}
use Rattle.enet_codec.specs.declared.stop.Stop.TheVariants as stop
use Rattle.enet_codec.specs.Message.{Message, IsMessage}
use Rattle.enet_host.specs.Foretelling.{teller_of}
use Rattle.enet_host.specs.Host.{Host, named}
use Rattle.enet_outbox.specs.declared.parts.SendLimit.{SendLimit}
use Rattle.enet_peer.specs.declared.parts.PeerEvent.{PeerEvent}
use Rattle.enet_peer.specs.declared.parts.PeerEvent.TheVariants as told
use Rattle.enet_peer.specs.Handling.{Arrival, one_more}
use Rattle.enet_peer.specs.Peering.{Peering}
use Rattle.enet_receiver.specs.Members.{Has}
use Rattle.enet_sender.specs.CommandChoice as choice
use Rattle.enet_slot.specs.Calls.{submission, unless_full, event_of}
use Rattle.enet_slot.specs.Receiving.{is_same_address, is_deaf, fits_session, refused_by_peer}
use Rattle.enet_slot.specs.Slot.{SlotState, name_of}
use Rattle.law_network.specs.Calls.{Call, Acts}
use Rattle.law_network.specs.Calls as call
use Rattle.law_network.specs.Common.{Common, common_of}
use Rattle.law_network.specs.Deeds.{Deed, Submit, Emit, Tick, Take, GiveWay, TellAgain}
use Rattle.law_network.specs.Falling.{Falls, Reaches, Fell, deeds_if, is_meant, up_to, taken_up_to}
use Rattle.law_network.specs.Falling as falling
use Rattle.law_network.specs.Network.{is_same_name}
use Rattle.law_network.proofs.Lists.{same-or}
use Rattle.law_network.proofs.Names.{IsThere, there-named}
use Rattle.law_network.proofs.OneCall.{one-call}
use Rattle.law_network.proofs.Single.{does-named}
use Rattle.law_network.proofs.Submitting.{same-some}
use Rattle.law_one_end.specs.Datagrams.{Begins}
use Rattle.law_one_end.specs.Hosts.{told_by, accepted_by, brought_by, given_by, message_in, CameBy}
use Rattle.law_one_end.proofs.Deeds.{told_in, accepted_in, given_in}

-- two names

same-parts : (a b : PeerRef) → is_same_name a b ≡ true → (a.slot ≡ b.slot) × (a.generation ≡ b.generation)
same-parts a b e =
    let both = and_parts (a.slot == b.slot) (a.generation == b.generation) e in
    let one : (a.slot == b.slot) ≡ true = both.0 in
    let two : (a.generation == b.generation) ≡ true = both.1 in
    (grind (arith, nat_tests), grind (arith, nat_tests))

pub is-same : (a b : PeerRef) → a.slot ≡ b.slot → a.generation ≡ b.generation → is_same_name a b ≡ true
is-same a b s g =
    let one : (a.slot == b.slot) ≡ true = grind (arith, nat_tests) in
    let two : (a.generation == b.generation) ≡ true = grind (arith, nat_tests) in
    λ i. one i && two i

other-slot : (a b : PeerRef) → (b.slot == a.slot) ≡ false → is_same_name a b ≡ false
other-slot a b n =
    let one : (a.slot == b.slot) ≡ false = grind (arith, nat_tests) in
    ap (λ t. t && (a.generation == b.generation)) one

eq-flip : (a b : ℕ) → (a == b) ≡ (b == a)
eq-flip a b = by (same-or a b)
  where
    by : (a ≡ b) ⊎ (a ≢ b) → (a == b) ≡ (b == a)
    by (inl e) =
        let one : (a == b) ≡ true = grind (arith, nat_tests) in
        let two : (b == a) ≡ true = grind (arith, nat_tests) in
        one ∙ sym two
    by (inr n) =
        let one : (a == b) ≡ false = grind (arith, nat_tests) in
        let two : (b == a) ≡ false = grind (arith, nat_tests) in
        one ∙ sym two

meant-same : (name n : PeerRef) (s : SlotState) → s.generation ≡ name.generation → is_meant n name.slot s ≡ is_same_name name n
meant-same name n s same = ap (λ t. t && (s.generation == n.generation)) (eq-flip n.slot name.slot) ∙ ap (λ g. (name.slot == n.slot) && (g == n.generation)) same

-- a name that is somebody's isn't that of nobody
not-same : (slots : List SlotState) (name n : PeerRef) (p : Peering) → IsThere slots n p → named slots name ≡ None → is_same_name name n ≡ false
not-same slots name n p x none = by (is_same_name name n) refl
  where
    by : (b : Bool) → is_same_name name n ≡ b → is_same_name name n ≡ false
    by false e = e
    by true e =
        let same = same-parts name n e in
        let y : IsThere slots name p = record { slot = x.slot; there = ap (slice_get slots) same.0 ∙ x.there; same = x.same ∙ sym same.1; peer = x.peer } in
        absurd (let z : ◌≡◌ {A = Option Peering} None (Some p) = sym none ∙ there-named slots name p y in cc)

-- two names in one slot are one
same-at : (slots : List SlotState) (name n : PeerRef) (p r : Peering) (x : IsThere slots name p) (y : IsThere slots n r) → n.slot ≡ name.slot → (is_same_name name n ≡ true) × (y.slot ≡ x.slot)
same-at slots name n p r x y e =
    let s : y.slot ≡ x.slot = same-some y.slot x.slot (sym y.there ∙ ap (slice_get slots) e ∙ x.there) in
    (is-same name n (sym e) (sym x.same ∙ ap (λ (z : SlotState). z.generation) (sym s) ∙ y.same), s)

-- who did something

-- whose event was told
teller-of : (m n : PeerRef) (e : PeerEvent) → teller_of (event_of m e) ≡ Some n → m ≡ n
teller-of m n (told.Connect info) e = cc
teller-of m n (told.Receive packet) e = cc
teller-of m n (told.Disconnect info) e = cc

teller-there : (old new : Host) (ev : Event) (n : PeerRef) → Acts (call.NextEvent (Some ev)) old new → teller_of ev ≡ Some n → (r : Peering) × IsThere old.slots n r
teller-there old new ev n acts e =
    let f = acts.first in
    let g = acts.gives in
    let m : PeerRef = name_of acts.from f.slot in
    let is : m ≡ n = teller-of m n g.taken.event (ap teller_of (sym g.told) ∙ e) in
    let x : IsThere old.slots m g.peer = record { slot = f.slot; there = f.there; same = refl; peer = g.held } in
    (g.peer, subst (λ (z : PeerRef). IsThere old.slots z g.peer) is x)

-- whose datagram was put out, and that it went to its address
giver-there : (old new : Host) (gave : PeerRef × Addr × ℕ) (buf : List ℕ) → Acts (call.Service (Some gave) buf) old new → (r : Peering) × (x : IsThere old.slots gave.0 r) × (gave.1 ≡ x.slot.address)
giver-there old new gave buf acts =
    let e = acts.0 in
    let t = one-call (call.Service (Some gave) buf) old new acts gave.0.slot e.slot e.there in
    let turn = e.slots gave.0.slot e.slot t.0 e.there t.1 in
    let emits = turn.here refl in
    (emits.peer, record { slot = e.slot; there = e.there; same = sym (ap (λ (z : PeerRef). z.generation) e.named); peer = emits.held }, e.addressed)

submitter-there : (old new : Host) (n : PeerRef) (channel : ℕ) (q : choice.Packet) (done : Unit {0}) → Acts (call.Submit n channel q (Ok done)) old new → (r : Peering) × IsThere old.slots n r
submitter-there old new n channel q done acts =
    let d = does-named old.slots n (unless_full old.send_limit (submission channel q)) new.slots acts.0 in
    (d.peer, record { slot = d.slot; there = d.there; same = d.same; peer = d.held })

-- nobody of a name that isn't there

pub record AddsNothing (name : PeerRef) (c : Call) : Type 0 where
  pub told : told_by name c ≡ []
  pub accepted : accepted_by name c ≡ []
  pub given : given_by name c ≡ []

if-not : {X : Type 0} (b : Bool) (x : X) → b ≡ false → cond b (x ∷ []) [] ≡ []
if-not b x e = ap (λ t. cond t (x ∷ []) []) e

pub adds-nothing : (c : Call) (old new : Host) (name : PeerRef) → Acts c old new → named old.slots name ≡ None → AddsNothing name c
adds-nothing (call.Connect address channels info word answer) old new name acts none = record { told = refl; accepted = refl; given = refl }
adds-nothing (call.Submit n channel q (Ok done)) old new name acts none =
    let x = submitter-there old new n channel q done acts in
    record { told = refl; accepted = if-not (is_same_name name n) _ (not-same old.slots name n x.0 x.1 none); given = refl }
adds-nothing (call.Submit n channel q (Err e)) old new name acts none = record { told = refl; accepted = refl; given = refl }
adds-nothing (call.Receive from bytes answer) old new name acts none = record { told = refl; accepted = refl; given = refl }
adds-nothing (call.Service None buf) old new name acts none = record { told = refl; accepted = refl; given = refl }
adds-nothing (call.Service (Some gave) buf) old new name acts none =
    let x = giver-there old new gave buf acts in
    record { told = refl; accepted = refl; given = if-not (is_same_name name gave.0) _ (not-same old.slots name gave.0 x.0 x.1 none) }
adds-nothing (call.Tick ms) old new name acts none = record { told = refl; accepted = refl; given = refl }
adds-nothing (call.Disconnect mode n info answer) old new name acts none = record { told = refl; accepted = refl; given = refl }
adds-nothing (call.SetBandwidth incoming outgoing answer) old new name acts none = record { told = refl; accepted = refl; given = refl }
adds-nothing (call.ConfigureThrottle n interval acceleration deceleration answer) old new name acts none = record { told = refl; accepted = refl; given = refl }
adds-nothing (call.SetPingInterval n ms answer) old new name acts none = record { told = refl; accepted = refl; given = refl }
adds-nothing (call.SetTimeout n limit minimum maximum answer) old new name acts none = record { told = refl; accepted = refl; given = refl }
adds-nothing (call.NextEvent None) old new name acts none = record { told = refl; accepted = refl; given = refl }
adds-nothing (call.Admit what answer) old new name acts none = record { told = refl; accepted = refl; given = refl }
adds-nothing (call.SetSendLimit bytes commands) old new name acts none = record { told = refl; accepted = refl; given = refl }
adds-nothing (call.NextEvent (Some (event.Connect n info))) old new name acts none =
    let x = teller-there old new (event.Connect n info) n acts refl in
    record { told = if-not (is_same_name name n) _ (not-same old.slots name n x.0 x.1 none); accepted = refl; given = refl }
adds-nothing (call.NextEvent (Some (event.Receive n packet))) old new name acts none =
    let x = teller-there old new (event.Receive n packet) n acts refl in
    record { told = if-not (is_same_name name n) _ (not-same old.slots name n x.0 x.1 none); accepted = refl; given = refl }
adds-nothing (call.NextEvent (Some (event.Disconnect n info))) old new name acts none =
    let x = teller-there old new (event.Disconnect n info) n acts refl in
    record { told = if-not (is_same_name name n) _ (not-same old.slots name n x.0 x.1 none); accepted = refl; given = refl }
adds-nothing (call.NextEvent (Some (event.Refused seat number why))) old new name acts none = record { told = refl; accepted = refl; given = refl }

-- the peer of a name that is there: what fell to it is what the call adds

pub record Adds (name : PeerRef) (a : Addr) (c : Call) (ds : List Deed) : Type 0 where
  pub told : flat_map told_in ds ≡ told_by name c
  pub accepted : flat_map accepted_in ds ≡ accepted_by name c
  pub given : flat_map (given_in a) ds ≡ given_by name c
  pub sound : (m : Message) → Has (flat_map message_in ds) m → IsMessage m
  pub came : CameBy name.slot (brought_by a c) (flat_map message_in ds)

-- no command came by these datagrams
pub came-none : (slot : ℕ) (datagrams : List (List ℕ)) → CameBy slot datagrams []
came-none slot [] = refl
came-none slot (d ∷ ds) = ([], [], inl refl, refl, came-none slot ds)

-- and then more came
pub came-append : (slot : ℕ) (ds es : List (List ℕ)) (ms ns : List Message) → CameBy slot ds ms → CameBy slot es ns → CameBy slot (ds ++ es) (ms ++ ns)
came-append slot [] es ms ns h k = subst (λ (l : List Message). CameBy slot es (l ++ ns)) (sym h) k
came-append slot (d ∷ ds) es ms ns h k =
    (h.0, h.1 ++ ns, h.2, ap (λ (l : List Message). l ++ ns) h.3 ∙ append_assoc h.0 h.1 ns, came-append slot ds es h.1 ns h.4 k)

-- deeds that add nothing
record Silent (a : Addr) (ds : List Deed) : Type 0 where
  told : flat_map told_in ds ≡ []
  accepted : flat_map accepted_in ds ≡ []
  given : flat_map (given_in a) ds ≡ []
  brought : flat_map message_in ds ≡ []

silent-if : (a : Addr) (d : Deed) (b : Bool) → Silent a (d ∷ []) → Silent a (deeds_if b d)
silent-if a d true s = s
silent-if a d false s = record { told = refl; accepted = refl; given = refl; brought = refl }

adds-silent : (name : PeerRef) (a : Addr) (c : Call) (ds : List Deed) → AddsNothing name c → Silent a ds → Adds name a c ds
adds-silent name a c ds n s = record {
  told = s.told ∙ sym n.told;
  accepted = s.accepted ∙ sym n.accepted;
  given = s.given ∙ sym n.given;
  sound = λ m there. absurd (subst (λ (l : List Message). Has l m) s.brought there);
  came = subst (CameBy name.slot (brought_by a c)) (sym s.brought) (came-none name.slot (brought_by a c));
}

-- where the deeds are known
adds-of : (name : PeerRef) (a : Addr) (c : Call) (ds es : List Deed) → ds ≡ es → AddsNothing name c → Silent a es → Adds name a c ds
adds-of name a c ds es e n s = subst (Adds name a c) (sym e) (adds-silent name a c es n s)

-- the commands of a datagram
record Spoken (a : Addr) (commands : List ℕ) (ds : List Deed) : Type 0 where
  begins : Begins commands (flat_map message_in ds)
  sound : (m : Message) → Has (flat_map message_in ds) m → IsMessage m
  told : flat_map told_in ds ≡ []
  accepted : flat_map accepted_in ds ≡ []
  given : flat_map (given_in a) ds ≡ []

spoken : (a : Addr) (r : Arrival) (handled : ℕ) (commands : List ℕ) (answer : Received) (ds : List Deed) → Falls r handled commands answer ds → Spoken a commands ds
spoken a r handled commands answer ds (falling.nothing_left before) = record { begins = tt; sound = λ m there. absurd there; told = refl; accepted = refl; given = refl }
spoken a r handled commands answer ds (falling.no_command before bytes some none) = record { begins = tt; sound = λ m there. absurd there; told = refl; accepted = refl; given = refl }
spoken a r handled commands answer ds (falling.stops before text rest m why spells) = record {
  begins = (text, rest, refl, spells, tt);
  sound = λ x there. elim there [ inl e ↦ subst IsMessage e spells.message | inr f ↦ absurd f ];
  told = refl;
  accepted = refl;
  given = refl;
}
spoken a r handled commands answer ds (falling.goes_on before text rest m reply es spells more) =
    let later : Spoken a rest es = spoken a r (one_more before) rest reply es more in
    record {
      begins = (text, rest, refl, spells, later.begins);
      sound = λ x there. elim there [ inl e ↦ subst IsMessage e spells.message | inr f ↦ later.sound x f ];
      told = later.told;
      accepted = later.accepted;
      given = later.given;
    }

-- it came from where the peer is
heard-from : (s : SlotState) (from : Addr) (session : ℕ) (p : Peering) → refused_by_peer s from session (Some p) ≡ None → is_same_address s.address from ≡ true
heard-from s from session p e = by (is_deaf p.state) (is_same_address s.address from) (cond (not (fits_session p session)) (Some stop.WrongSession) None) e
  where
    by : (d b : Bool) (rest : Option Stop) → cond d (Some stop.UnknownPeer) (cond (not b) (Some stop.WrongAddress) rest) ≡ None → b ≡ true
    by true b rest e = absurd (cc)
    by false true rest e = refl
    by false false rest e = absurd (cc)

silent : {a : Addr} → Silent a []
silent = record { told = refl; accepted = refl; given = refl; brought = refl }

nothing-said : {name : PeerRef} {from : Addr} {bytes : List ℕ} {answer : Received} → AddsNothing name (call.Receive from bytes answer)
nothing-said = record { told = refl; accepted = refl; given = refl }

-- a peer that was refused is told again at most
reminds-silent : (a : Addr) (sent : Option ℕ) → Silent a (deeds_if (is_some sent) TellAgain)
reminds-silent a None = silent
reminds-silent a (Some time) = record { told = refl; accepted = refl; given = refl; brought = refl }

-- a datagram that came
adds-received : (name : PeerRef) (s : SlotState) (p : Peering) (a : Addr) → s.peer ≡ Some p → s.address ≡ a → (h : Common) (from : Addr) (bytes : List ℕ) (answer : Received) (ds : List Deed)
    → Reaches name.slot s (record { host = h; from = from; bytes = bytes; answer = answer }) ds → Adds name a (call.Receive from bytes answer) ds
adds-received name s p a held at h from bytes answer ds (falling.unreadable why u) = adds-silent name a (call.Receive from bytes answer) [] nothing-said silent
adds-received name s p a held at h from bytes answer ds (falling.elsewhere header commands read far none) = adds-silent name a (call.Receive from bytes answer) [] nothing-said silent
adds-received name s p a held at h from bytes answer ds (falling.gives_way header commands read gets) =
    adds-silent name a (call.Receive from bytes answer) (GiveWay ∷ []) nothing-said (record { told = refl; accepted = refl; given = refl; brought = refl })
adds-received name s p a held at h from bytes answer ds (falling.turned_away header commands why read some at' refused is) = adds-silent name a (call.Receive from bytes answer) [] nothing-said silent
adds-received name s p a held at h from bytes answer ds (falling.told_again header commands read some at' open' was is) =
    adds-silent name a (call.Receive from bytes answer) (deeds_if (is_some header.sent) TellAgain) nothing-said (reminds-silent a header.sent)
adds-received name s p a held at h from bytes answer ds (falling.here header commands es read some at' open' was falls) =
    let k : Spoken a commands es = spoken a _ 0 commands answer es falls in
    let same : is_same_address a from ≡ true = ap (λ (z : Addr). is_same_address z from) (sym at) ∙ heard-from s from header.session p (ap (λ (o : Option Peering). refused_by_peer s from header.session o) (sym held) ∙ open') in
    record {
      told = k.told;
      accepted = k.accepted;
      given = k.given;
      sound = k.sound;
      came = subst (λ b. CameBy name.slot (cond b (bytes ∷ []) []) (flat_map message_in es)) (sym same) (
        flat_map message_in es,
        [],
        inr (record { header = header; commands = commands; read = read; names = at'; begins = k.begins }),
        sym (append-nil (flat_map message_in es)),
        refl,
      );
    }

-- slots were asked in turn, up to the one of a peer that is there
adds-in-turn : (slots : List SlotState) (name n : PeerRef) (p r : Peering) (x : IsThere slots name p) (y : IsThere slots n r) (a : Addr) (c : Call) (turn : ℕ → ℕ) (gives passes : Deed)
    → Silent a (passes ∷ []) → (is_same_name name n ≡ false → AddsNothing name c) → (is_same_name name n ≡ true → y.slot ≡ x.slot → Adds name a c (gives ∷ [])) → Adds name a c (up_to turn n.slot name.slot gives passes)
adds-in-turn slots name n p r x y a c turn gives passes quiet other same = by (n.slot == name.slot) refl
  where
    by : (b : Bool) → (n.slot == name.slot) ≡ b → Adds name a c (cond b (gives ∷ []) (deeds_if (nat_lt (turn name.slot) (turn n.slot)) passes))
    by true e =
        let at = same-at slots name n p r x y (let z : (n.slot == name.slot) ≡ true = e in grind (arith, nat_tests)) in
        same at.0 at.1
    by false e = adds-silent name a c (deeds_if (nat_lt (turn name.slot) (turn n.slot)) passes) (other (other-slot name n e)) (silent-if a passes (nat_lt (turn name.slot) (turn n.slot)) quiet)

if-so : {X : Type 0} (b : Bool) (x : X) → b ≡ true → cond b (x ∷ []) [] ≡ x ∷ []
if-so b x e = ap (λ t. cond t (x ∷ []) []) e

-- an event was told
adds-told : (old new : Host) (name n : PeerRef) (p : Peering) (x : IsThere old.slots name p) (a : Addr) (ev : Event) (t : PeerEvent) (ds : List Deed) → Acts (call.NextEvent (Some ev)) old new → teller_of ev ≡ Some n
    → told_by name (call.NextEvent (Some ev)) ≡ cond (is_same_name name n) (t ∷ []) [] → ds ≡ taken_up_to (common_of old) name.slot n t → Adds name a (call.NextEvent (Some ev)) ds
adds-told old new name n p x a ev t ds acts of is e =
    let y = teller-there old new ev n acts of in
    subst (Adds name a (call.NextEvent (Some ev))) (sym e)
    (adds-in-turn old.slots name n p y.0 x y.1 a (call.NextEvent (Some ev)) (common_of old).event_turn (Take (Some t)) (Take None) (record { told = refl; accepted = refl; given = refl; brought = refl })
    (λ other. record { told = is ∙ if-not (is_same_name name n) t other; accepted = refl; given = refl })
    (λ same at. record { told = sym (if-so (is_same_name name n) t same) ∙ sym is; accepted = refl; given = refl; sound = λ m there. absurd there; came = refl }))

adds-accepted : (name n : PeerRef) (s : SlotState) (a : Addr) (channel : ℕ) (q : choice.Packet) (limit : Option SendLimit) (done : Unit {0}) (b : Bool) → is_same_name name n ≡ b
    → Adds name a (call.Submit n channel q (Ok done)) (deeds_if b (Submit (record { channel = channel; flags = q.flags; body = q.body }) limit (Ok done)))
adds-accepted name n s a channel q limit done true e = record {
  told = refl;
  accepted = sym (if-so (is_same_name name n) _ e);
  given = refl;
  sound = λ m there. absurd there;
  came = refl;
}
adds-accepted name n s a channel q limit done false e = record {
  told = refl;
  accepted = sym (if-not (is_same_name name n) _ e);
  given = refl;
  sound = λ m there. absurd there;
  came = refl;
}

pub adds : (c : Call) (old new : Host) (name : PeerRef) (p : Peering) (x : IsThere old.slots name p) (a : Addr) (ds : List Deed) → x.slot.address ≡ a → Acts c old new → Fell (common_of old) (record { number = name.slot; slot = x.slot; peer = p }) c ds → Adds name a c ds
adds (call.Connect address channels info word answer) old new name p x a ds at acts fell =
    adds-of name a (call.Connect address channels info word answer) ds [] fell (record { told = refl; accepted = refl; given = refl }) (record { told = refl; accepted = refl; given = refl; brought = refl })
adds (call.Submit n channel q (Ok done)) old new name p x a ds at acts fell =
    subst (Adds name a (call.Submit n channel q (Ok done))) (sym fell) (adds-accepted name n x.slot a channel q old.send_limit done (is_meant n name.slot x.slot) (sym (meant-same name n x.slot x.same)))
adds (call.Submit n channel q (Err e)) old new name p x a ds at acts fell =
    adds-of name a (call.Submit n channel q (Err e)) ds (deeds_if (is_meant n name.slot x.slot) (Submit (record { channel = channel; flags = q.flags; body = q.body }) old.send_limit (Err e))) fell (record { told = refl; accepted = refl; given = refl })
    (silent-if a _ (is_meant n name.slot x.slot) (record { told = refl; accepted = refl; given = refl; brought = refl }))
adds (call.Receive from bytes answer) old new name p x a ds at acts fell = adds-received name x.slot p a x.peer at (common_of old) from bytes answer ds fell
adds (call.Service None buf) old new name p x a ds at acts fell =
    adds-of name a (call.Service None buf) ds (Emit old.clock None ∷ []) fell (record { told = refl; accepted = refl; given = refl }) (record { told = refl; accepted = refl; given = refl; brought = refl })
adds (call.Service (Some gave) buf) old new name p x a ds at acts fell =
    let y = giver-there old new gave buf acts in
    let text : List ℕ = take gave.2 buf in
    subst (Adds name a (call.Service (Some gave) buf)) (sym fell)
    (adds-in-turn old.slots name gave.0 p y.0 x y.1 a (call.Service (Some gave) buf) (common_of old).turn (Emit old.clock (Some text)) (Emit old.clock None) (record { told = refl; accepted = refl; given = refl; brought = refl })
    (λ other. record { told = refl; accepted = refl; given = if-not (is_same_name name gave.0) (gave.1, text) other })
    (λ same here. record {
      told = refl;
      accepted = refl;
      given = ap (λ (z : Addr). (z, text) ∷ []) (sym (y.2 ∙ ap (λ (s : SlotState). s.address) here ∙ at)) ∙ sym (if-so (is_same_name name gave.0) (gave.1, text) same);
      sound = λ m there. absurd there;
      came = refl;
    }))
adds (call.Tick ms) old new name p x a ds at acts fell =
    subst (Adds name a (call.Tick ms)) (sym fell) (adds-silent name a (call.Tick ms) _ (record { told = refl; accepted = refl; given = refl }) (ticks _ (silent-if a _ _ (record { told = refl; accepted = refl; given = refl; brought = refl }))))
  where
    ticks : {now : ℕ} {short : Bool} (es : List Deed) → Silent a es → Silent a (Tick now short ∷ es)
    ticks es s = record { told = s.told; accepted = s.accepted; given = s.given; brought = s.brought }
adds (call.Disconnect mode n info answer) old new name p x a ds at acts fell =
    subst (Adds name a (call.Disconnect mode n info answer)) (sym fell) (adds-silent name a (call.Disconnect mode n info answer) _ (record { told = refl; accepted = refl; given = refl })
    (silent-if a _ (is_meant n name.slot x.slot) (record { told = refl; accepted = refl; given = refl; brought = refl })))
adds (call.SetBandwidth incoming outgoing (Ok done)) old new name p x a ds at acts fell =
    subst (Adds name a (call.SetBandwidth incoming outgoing (Ok done))) (sym fell) (adds-silent name a (call.SetBandwidth incoming outgoing (Ok done)) _ (record { told = refl; accepted = refl; given = refl }) (record { told = refl; accepted = refl; given = refl; brought = refl }))
adds (call.SetBandwidth incoming outgoing (Err why)) old new name p x a ds at acts fell =
    adds-of name a (call.SetBandwidth incoming outgoing (Err why)) ds [] fell (record { told = refl; accepted = refl; given = refl }) (record { told = refl; accepted = refl; given = refl; brought = refl })
adds (call.ConfigureThrottle n interval acceleration deceleration answer) old new name p x a ds at acts fell =
    subst (Adds name a (call.ConfigureThrottle n interval acceleration deceleration answer)) (sym fell) (adds-silent name a (call.ConfigureThrottle n interval acceleration deceleration answer) _ (record { told = refl; accepted = refl; given = refl })
    (silent-if a _ (is_meant n name.slot x.slot) (record { told = refl; accepted = refl; given = refl; brought = refl })))
adds (call.Admit what answer) old new name p x a ds at acts fell =
    subst (Adds name a (call.Admit what answer)) (sym fell) (adds-silent name a (call.Admit what answer) _ (record { told = refl; accepted = refl; given = refl }) (record { told = refl; accepted = refl; given = refl; brought = refl }))
adds (call.SetSendLimit bytes commands) old new name p x a ds at acts fell =
    adds-of name a (call.SetSendLimit bytes commands) ds [] fell (record { told = refl; accepted = refl; given = refl }) (record { told = refl; accepted = refl; given = refl; brought = refl })
adds (call.SetPingInterval n ms answer) old new name p x a ds at acts fell =
    subst (Adds name a (call.SetPingInterval n ms answer)) (sym fell) (adds-silent name a (call.SetPingInterval n ms answer) _ (record { told = refl; accepted = refl; given = refl })
    (silent-if a _ (is_meant n name.slot x.slot) (record { told = refl; accepted = refl; given = refl; brought = refl })))
adds (call.SetTimeout n limit minimum maximum answer) old new name p x a ds at acts fell =
    subst (Adds name a (call.SetTimeout n limit minimum maximum answer)) (sym fell) (adds-silent name a (call.SetTimeout n limit minimum maximum answer) _ (record { told = refl; accepted = refl; given = refl })
    (silent-if a _ (is_meant n name.slot x.slot) (record { told = refl; accepted = refl; given = refl; brought = refl })))
adds (call.NextEvent None) old new name p x a ds at acts fell =
    adds-of name a (call.NextEvent None) ds (Take None ∷ []) fell (record { told = refl; accepted = refl; given = refl }) (record { told = refl; accepted = refl; given = refl; brought = refl })
adds (call.NextEvent (Some (event.Connect n info))) old new name p x a ds at acts fell = adds-told old new name n p x a (event.Connect n info) (told.Connect info) ds acts refl refl fell
adds (call.NextEvent (Some (event.Receive n packet))) old new name p x a ds at acts fell = adds-told old new name n p x a (event.Receive n packet) (told.Receive packet) ds acts refl refl fell
adds (call.NextEvent (Some (event.Disconnect n info))) old new name p x a ds at acts fell = adds-told old new name n p x a (event.Disconnect n info) (told.Disconnect info) ds acts refl refl fell
adds (call.NextEvent (Some (event.Refused seat number why))) old new name p x a ds at acts fell =
    adds-of name a (call.NextEvent (Some (event.Refused seat number why))) ds [] fell (record { told = refl; accepted = refl; given = refl }) (record { told = refl; accepted = refl; given = refl; brought = refl })
