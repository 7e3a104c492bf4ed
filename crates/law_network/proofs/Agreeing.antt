-- What falls to a slot in two hosts that agree on what the call looks at there.
use Rattle.std.proofs.Common.{◌≡◌, ℕ, Bool, true, false, not, cond, ◌&&◌, ◌==◌, nat_lt, List, [], ◌∷◌, refl, sym, ap, subst, ◌∙◌, arith, Option, Some, None, Ok, Err, take}
use Rattle.std.proofs.lemmas.Bool.Decides.{nat_tests}
use Rattle.enet_codec.specs.declared.address.Addr.{Addr}
use Rattle.enet_codec.specs.declared.config.Config.{Config}
use Rattle.enet_codec.specs.declared.event.Event.{Event}
use Rattle.enet_codec.specs.declared.event.Event.TheVariants as event
use Rattle.enet_codec.specs.declared.event.PeerRef.{PeerRef}
use Rattle.enet_codec.specs.declared.event.Received.{Received}
use Rattle.enet_codec.specs.declared.command.Offer.{Offer}
use Rattle.enet_codec.specs.declared.header.Header.{Header}
use Rattle.enet_peer.specs.Peering.{Peering}
use Rattle.enet_peer.specs.Calls.{is_answering, is_connected}
use Rattle.enet_peer.specs.Calls as peers
use Rattle.enet_peer.specs.Heading.{IsRead, IsOffer}
use Rattle.enet_slot.specs.Entering.{awaits, awaits_in}
use Rattle.enet_slot.specs.Receiving.{no_peer}
use Rattle.enet_host.specs.Receiving.{handled_one, offer_refused}
use Rattle.enet_slot.specs.Slot.{SlotState}
use Rattle.enet_slot.specs.Giving.{asking, answering}
use Rattle.enet_slot.specs.Sharing.{limit_for}
use Rattle.enet_host.specs.Ticking.{clock_after}
use Rattle.law_connection.specs.Steps as setting
use Rattle.law_network.specs.Calls.{Call}
use Rattle.law_network.specs.Calls as call
use Rattle.law_network.specs.Common.{Common, common_basis}
use Rattle.law_network.specs.Deeds.{Deed, Emit, Tick, Set}
use Rattle.law_network.specs.Falling.{Receipt, GetsSeat, Falls, Reaches, unreadable, elsewhere, gives_way, turned_away, here, told_again, Fell, Begins, asks, answers, counted, deeds_if, up_to, asked_for, share_of, taken_from}
use Rattle.law_network.specs.IsolationLaw.{Stays}
use Rattle.law_network.specs.Alike.{giving, AgreeInTurn, AgreeOnShares, AgreeOnPeer, is_next, AgreeOnNext, AgreeOnSeat, AgreeOnOffers, AgreeOnFree, Agree}

-- slots that are asked in turn

turn-same : (g h : ℕ → ℕ) (j i : ℕ) (gives passes : Deed) → nat_lt (g i) (g j) ≡ nat_lt (h i) (h j) → up_to g j i gives passes ≡ up_to h j i gives passes
turn-same g h j i gives passes e = ap (λ (b : Bool). cond (j == i) (gives ∷ []) (deeds_if b passes)) e

pub asked-same : (g h : Common) (i : ℕ) (p : Peering) (answer : Option (PeerRef × Addr × ℕ)) (buf : List ℕ) → AgreeOnPeer (call.Service answer buf) i p g h → asked_for g i answer buf ≡ asked_for h i answer buf
asked-same g h i p None buf e = ap (λ (now : ℕ). Emit now None ∷ []) e.0
asked-same g h i p (Some gave) buf e =
    ap (λ (now : ℕ). up_to g.turn gave.0.slot i (Emit now (Some (take gave.2 buf))) (Emit now None)) e.0
    ∙ turn-same g.turn h.turn gave.0.slot i (Emit h.clock (Some (take gave.2 buf))) (Emit h.clock None) e.1

pub taken-same : (g h : Common) (i : ℕ) (p : Peering) (answer : Option Event) → AgreeOnPeer (call.NextEvent answer) i p g h → taken_from g i answer ≡ taken_from h i answer
taken-same g h i p None e = refl
taken-same g h i p (Some (event.Connect name info)) e = turn-same g.event_turn h.event_turn name.slot i _ _ e
taken-same g h i p (Some (event.Receive name packet)) e = turn-same g.event_turn h.event_turn name.slot i _ _ e
taken-same g h i p (Some (event.Disconnect name info)) e = turn-same g.event_turn h.event_turn name.slot i _ _ e
taken-same g h i p (Some (event.Refused seat number why)) e = refl

-- the sharing out of bandwidth

shared-if : (due due' : Bool) (outgoing outgoing' standing standing' sent : ℕ) (p : Peering) → due ≡ due' → (due ≡ true → (outgoing ≡ outgoing') × (standing ≡ standing'))
    → deeds_if (due && is_connected p.state) (Set (setting.ThrottleLimit (limit_for outgoing standing sent p)) (Ok tt)) ≡ deeds_if (due' && is_connected p.state) (Set (setting.ThrottleLimit (limit_for outgoing' standing' sent p)) (Ok tt))
shared-if true due' outgoing outgoing' standing standing' sent p e more =
    let same : (outgoing ≡ outgoing') × (standing ≡ standing') = more refl in
    ap (λ (n : ℕ). deeds_if (true && is_connected p.state) (Set (setting.ThrottleLimit (limit_for n standing sent p)) (Ok tt))) same.0
    ∙ ap (λ (n : ℕ). deeds_if (true && is_connected p.state) (Set (setting.ThrottleLimit (limit_for outgoing' n sent p)) (Ok tt))) same.1
    ∙ ap (λ (b : Bool). deeds_if (b && is_connected p.state) (Set (setting.ThrottleLimit (limit_for outgoing' standing' sent p)) (Ok tt))) e
shared-if false due' outgoing outgoing' standing standing' sent p e more =
    ap (λ (b : Bool). deeds_if (b && is_connected p.state) (Set (setting.ThrottleLimit (limit_for outgoing' standing' sent p)) (Ok tt))) e

pub share-same : (g h : Common) (now sent : ℕ) (p : Peering) → AgreeOnShares now g h → share_of g now sent p ≡ share_of h now sent p
share-same g h now sent p e = shared-if (g.is_due now) (h.is_due now) g.config.outgoing h.config.outgoing (g.standing now) (h.standing now) sent p e.0 e.1

-- a datagram that reaches a slot

next-is : (o : Option ℕ) (i : ℕ) → is_next o i ≡ true → o ≡ Some i
next-is None i e = absurd (cc)
next-is (Some j) i e = ap (λ (k : ℕ). Some k) (let same : j ≡ i = grind (arith, nat_tests) in same)

next-same : (a b : Option ℕ) (i : ℕ) → is_next a i ≡ is_next b i → a ≡ Some i → b ≡ Some i
next-same a b i e at = next-is b i (sym e ∙ ap (λ (o : Option ℕ). is_next o i) at ∙ (let same : (i == i) ≡ true = grind (arith, nat_tests) in same))

-- what it is called with
abbrev pub receipt : Common → Addr → List ℕ → Received → Receipt
receipt h from bytes answer = record { host = h; from = from; bytes = bytes; answer = answer }

-- an offer gets the slot in both hosts
seat-same : (g h : Common) (i : ℕ) (from : Addr) (bytes commands : List ℕ) (answer : Received) (header : Header) → IsRead bytes header commands → AgreeOnOffers from bytes i g h → GetsSeat i (receipt g from bytes answer) header commands
    → GetsSeat i (receipt h from bytes answer) header commands
seat-same g h i from bytes commands answer header read e x =
    let k = e header commands x.offer read x.stranger x.is in
    record { offer = x.offer; stranger = x.stranger; is = x.is; taken = x.taken; new = sym k.1 ∙ x.new; seat = next-same (g.seat from) (h.seat from) i k.0.2 x.seat; answered = x.answered }

offers-back : (from : Addr) (bytes : List ℕ) (i : ℕ) (g h : Common) → AgreeOnOffers from bytes i g h → AgreeOnOffers from bytes i h g
offers-back from bytes i g h e = λ header commands o read stranger offer. (let k = e header commands o read stranger offer in ((sym k.0.0, sym k.0.1, sym k.0.2), sym k.1))

-- whether the host is full matters to a peer that waits for its client alone
pub full-same : (g h : Common) (s : SlotState) (p : Peering) → s.peer ≡ Some p → (is_answering p.state ≡ true → g.full ≡ h.full) → (awaits s && g.full) ≡ (awaits s && h.full)
full-same g h s p has e = by (is_answering p.state) refl
  where
    by : (b : Bool) → is_answering p.state ≡ b → (awaits s && g.full) ≡ (awaits s && h.full)
    by true is = ap (λ (full : Bool). awaits s && full) (e is)
    by false is =
        let none : awaits s ≡ false = ap awaits_in has ∙ ap (λ (b : Bool). b && not p.refused) is in
        ap (λ (b : Bool). b && g.full) none ∙ sym (ap (λ (b : Bool). b && h.full) none)

pub falls-same : (g h : Common) (s : SlotState) (header : Header) (commands : List ℕ) (answer : Received) (ds : List Deed) → g.clock ≡ h.clock → (awaits s && g.full) ≡ (awaits s && h.full)
    → Falls (record { now = g.clock; sent = header.sent; full = awaits s && g.full }) 0 commands answer ds → Falls (record { now = h.clock; sent = header.sent; full = awaits s && h.full }) 0 commands answer ds
falls-same g h s header commands answer ds now full falls =
    subst (λ (b : Bool). Falls (record { now = h.clock; sent = header.sent; full = b }) 0 commands answer ds) full
    (subst (λ (n : ℕ). Falls (record { now = n; sent = header.sent; full = awaits s && g.full }) 0 commands answer ds) now falls)

pub reaches-same : (g h : Common) (i : ℕ) (s : SlotState) (from : Addr) (bytes : List ℕ) (answer : Received) (ds : List Deed) → g.clock ≡ h.clock → (awaits s && g.full) ≡ (awaits s && h.full) → AgreeOnOffers from bytes i g h
    → Reaches i s (receipt g from bytes answer) ds → Reaches i s (receipt h from bytes answer) ds
reaches-same g h i s from bytes answer ds now full e (unreadable why u) = unreadable why u
reaches-same g h i s from bytes answer ds now full e (elsewhere header commands read away none) =
    elsewhere header commands read away (λ x. none (seat-same h g i from bytes commands answer header read (offers-back from bytes i g h e) x))
reaches-same g h i s from bytes answer ds now full e (gives_way header commands read x) = gives_way header commands read (seat-same g h i from bytes commands answer header read e x)
reaches-same g h i s from bytes answer ds now full e (turned_away header commands why read some at refused is) = turned_away header commands why read some at refused is
reaches-same g h i s from bytes answer ds now full e (here header commands ds' read some at taken not' falls) =
    here header commands ds' read some at taken not' (falls-same g h s header commands answer ds' now full falls)
reaches-same g h i s from bytes answer ds now full e (told_again header commands read some at taken was is) = told_again header commands read some at taken was is

-- how many bytes a slot counts
pub counts-same : (c : Call) (g h : Common) (i : ℕ) (s : SlotState) (o : Option Peering) → Agree c i o g h → counted c g i s ≡ counted c h i s
counts-same (call.Tick ms) g h i s None e = ap (λ (b : Bool). cond b 0 s.emitted) e
counts-same (call.Tick ms) g h i s (Some p) e =
    ap (λ (b : Bool). cond b 0 s.emitted) e.2.0 ∙ ap (λ (clock : ℕ). cond (h.is_due (clock_after clock ms)) 0 s.emitted) e.0
counts-same (call.Service None buf) g h i s o e = refl
counts-same (call.Service (Some gave) buf) g h i s o e = refl
counts-same c g h i s o e = refl

-- and how a connection begins in it

-- by an offer
pub answers-same : (c : Call) (g h : Common) (i : ℕ) (s : SlotState) (from : Addr) (bytes commands : List ℕ) (header : Header) (o : Offer) → c ≡ call.Receive from bytes handled_one → IsRead bytes header commands → header.peer ≡ no_peer → IsOffer commands o
    → offer_refused o ≡ None → g.knows from o.connect_id ≡ false → g.seat from ≡ Some i → AgreeOnOffers from bytes i g h → Begins c h i s (answering (common_basis g) i s from o)
answers-same c g h i s from bytes commands header o is read stranger offer taken new at e =
    let k : AgreeOnSeat from i g h × (g.knows from o.connect_id ≡ h.knows from o.connect_id) = e header commands o read stranger offer in
    subst (λ (x : SlotState). Begins c h i s x)
    (sym (ap (λ (x : Config). answering (record { config = x; clock = g.clock }) i s from o) k.0.0
    ∙ ap (λ (now : ℕ). answering (record { config = h.config; clock = now }) i s from o) k.0.1))
    (answers from bytes commands header o is read stranger offer taken (sym k.1 ∙ new) (next-same (g.seat from) (h.seat from) i k.0.2 at))

pub begins-same : (c : Call) (g h : Common) (i : ℕ) (s u : SlotState) → AgreeOnFree c i g h → Begins c g i s u → Begins c h i s u
begins-same c g h i s u e (asks address channels info word is some at) =
    let k : AgreeOnNext i g h = subst (λ (x : Call). AgreeOnFree x i g h) is e in
    subst (λ (x : SlotState). Begins c h i s x)
    (sym (ap (λ (x : Config). asking (record { config = x; clock = g.clock }) i s (record { address = address; channels = channels; info = info; word = word })) k.0
    ∙ ap (λ (now : ℕ). asking (record { config = h.config; clock = now }) i s (record { address = address; channels = channels; info = info; word = word })) k.1))
    (asks address channels info word is some (next-same g.available h.available i k.2 at))
begins-same c g h i s u e (answers from bytes commands header o is read stranger offer taken new at) =
    answers-same c g h i s from bytes commands header o is read stranger offer taken new at (subst (λ (x : Call). AgreeOnFree x i g h) is e)

pub free-back : (c : Call) (g h : Common) (i : ℕ) → AgreeOnFree c i g h → AgreeOnFree c i h g
free-back (call.Connect address channels info word answer) g h i e = (sym e.0, sym e.1, sym e.2)
free-back (call.Receive from bytes answer) g h i e = offers-back from bytes i g h e
free-back (call.Tick ms) g h i e = sym e
free-back c g h i e = e

turn-back : (o : Option ℕ) (i : ℕ) (g h : ℕ → ℕ) → AgreeInTurn o i g h → AgreeInTurn o i h g
turn-back None i g h e = e
turn-back (Some j) i g h e = sym e

shares-back : (g h : Common) (now then : ℕ) → now ≡ then → AgreeOnShares now g h → AgreeOnShares then h g
shares-back g h now then same e =
    subst (λ (n : ℕ). AgreeOnShares n h g) same (sym e.0, λ due. (let k = e.1 (e.0 ∙ due) in (sym k.0, sym k.1)))

-- agreeing goes both ways
pub peer-back : (c : Call) (g h : Common) (i : ℕ) (p : Peering) → AgreeOnPeer c i p g h → AgreeOnPeer c i p h g
peer-back (call.Receive from bytes answer) g h i p e = (sym e.0, λ waits. (sym (e.1 waits).0, offers-back from bytes i g h (e.1 waits).1))
peer-back (call.Service answer buf) g h i p e = (sym e.0, turn-back (giving (call.Service answer buf)) i g.turn h.turn e.1)
peer-back (call.NextEvent answer) g h i p e = turn-back (giving (call.NextEvent answer)) i g.event_turn h.event_turn e
peer-back (call.Tick ms) g h i p e = (sym e.0, sym e.1, shares-back g h (clock_after g.clock ms) (clock_after h.clock ms) (ap (λ (n : ℕ). clock_after n ms) e.0) e.2)
peer-back c g h i p e = e
