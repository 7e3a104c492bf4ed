-- No connection begins twice at a host: a CONNECT of one that the host has ended is of an earlier connection, and any other is repeated, since the
-- end's peer has the connection's one connect id and stands at the other host's address.
use Rattle.std.proofs.Common.{◌≡◌, ◌≢◌, ℕ, ◌==◌, ◌&&◌, ◌⊎◌, inl, inr, not, Bool, true, false, cond, List, [], refl, sym, ap, subst, ◌∙◌, arith, Option, Some, None, slice_get, ◌≤◌, ◌<◌, ◌+◌}
use Rattle.std.proofs.lemmas.Bool.Decides.{nat_tests}
use Rattle.enet_codec.specs.declared.address.Addr.{Addr}
use Rattle.enet_codec.specs.declared.event.PeerRef.{PeerRef}
use Rattle.enet_codec.specs.declared.event.Received.{Received}
use Rattle.enet_codec.specs.declared.command.Offer.{Offer}
use Rattle.enet_codec.specs.declared.header.Header.{Header}
use Rattle.enet_codec.specs.Message.{connect}
use Rattle.enet_peer.specs.Heading.{IsRead, IsOffer}
use Rattle.enet_peer.specs.declared.parts.PeerState.{PeerState}
use Rattle.enet_peer.specs.declared.parts.PeerState.TheVariants as state
use Rattle.enet_peer.specs.Peering.{Peering}
use Rattle.law_connection.specs.LinkSteps.{Has}
use Rattle.law_connection.proofs.Lists.{Has-slice_get}
use Rattle.law_connection.specs.Connection.{Put, messages_of}
use Rattle.enet_slot.specs.Receiving.{is_same_address, no_peer, is_deaf, is_connection, is_connection_in}
use Rattle.enet_slot.specs.Slot.{SlotState, with_peer, with_peer_in, greatest}
use Rattle.enet_host.specs.Host.{Host, named}
use Rattle.enet_host.specs.Receiving.{is_known}
use Rattle.law_network.specs.Calls.{Call, Acts}
use Rattle.law_network.specs.Calls as call
use Rattle.law_network.specs.Common.{common_of}
use Rattle.law_network.specs.Falling as falling
use Rattle.law_network.specs.IsolationLaw.{Fares, untouched, goes_on, takes_over, begins}
use Rattle.law_network.proofs.Guests.{guest, guest-begins, kept-name}
use Rattle.law_network.proofs.Names.{IsThere, IsSpent, there-named, over-generation, spent-step, spent-nobody}
use Rattle.law_network.proofs.OneCall.{one-call}
use Rattle.law_network.specs.Log.{Logged}
use Rattle.law_network.specs.Network.{HostEnd, Site, is_over, has_ended, holds_another, is_earlier, is_late}
use Rattle.law_network.specs.Shown.{IsLogged, Shows}
use Rattle.law_network.specs.Steps.{Around, Happening, Calls, Delivers, HappensAmong, BringsOne, begun}
use Rattle.law_network.proofs.Addresses.{same-address}
use Rattle.law_network.proofs.Beginnings.{the-offer}
use Rattle.law_network.proofs.Delivering.{none-of}
use Rattle.law_network.proofs.Growing.{more_of, Grows, grows, from-before}
use Rattle.law_network.proofs.Marked.{behind}
use Rattle.law_network.proofs.OneThing.{in-none}
use Rattle.law_network.proofs.Peers.{there-or}
use Rattle.law_network.proofs.Submitting.{same-some}
use Rattle.law_network.proofs.Worlds.{IsHost, Pair, BeginsOnce, AreShown, IsFresh, far-shown, acts-of, shown-end, fresh-more}

-- the peers of a host's ends are where their connections' other hosts are

abbrev pub AreAt : (ℕ → Addr) → Site → Type 0
AreAt place s = (e : HostEnd) → Has s.ends e → (p : Peering) (x : IsThere s.host.slots e.name p) → x.slot.address ≡ place e.connection

-- the address of which a call speaks by which a connection may begin
abbrev IsFrom : Addr → Call → Type 0
IsFrom from (call.Connect address channels info word answer) = address ≡ from
IsFrom from (call.Receive address bytes answer) = address ≡ from
IsFrom from c = Unit {0}

-- the call that a thing is, with the other host's address where an end begins
pub record IsCall (w : Around) (from old new : Site) (what : Happening) : Type 0 where
  pub made : Call
  pub acts : Acts made old.host new.host
  pub speaks : (f : HostEnd) → Has (more_of w.count from old new what) f → IsFrom from.address made

speaks-of : (w : Around) (from old new : Site) (c : Call) → HappensAmong w from (Calls c) old new → (f : HostEnd) → Has (more_of w.count from old new (Calls c)) f → IsFrom from.address c
speaks-of w from old new (call.Connect address channels info word answer) x f h = x.0
speaks-of w from old new (call.Receive address bytes answer) x f h = absurd h
speaks-of w from old new c x f h = tt

brings-from : (from old new : Site) (answer : Received) (found : Option Logged) → BringsOne from found answer old new → (made : Call) × Acts made old.host new.host × IsFrom from.address made
brings-from from old new answer None x = absurd x
brings-from from old new answer (Some d) x = (call.Receive from.address d.text answer, x.1.0, refl)

pub call-from : (w : Around) (from old new : Site) (what : Happening) → HappensAmong w from what old new → IsCall w from old new what
call-from w from old new (Calls c) x = record { made = c; acts = acts-of w from old new c x; speaks = speaks-of w from old new c x }
call-from w from old new (Delivers k answer) x = (let b = brings-from from old new answer (slice_get from.log k) x in record { made = b.0; acts = b.1; speaks = λ f h. b.2 })

-- a peer stays where it is
stays-in : (st : PeerState) (s : SlotState) (q : Peering) → (with_peer_in st s q).address ≡ s.address
stays-in state.Free s q = refl
stays-in st s q = refl

none-some : {A X : Type 0} (o : Option X) (x : X) → o ≡ None → o ≡ Some x → A
none-some o x e f = absurd (let y : ◌≡◌ {A = Option _} None (Some x) = sym e ∙ f in cc)

-- so does the slot of a peer, as long as its name is the same
stays-at : (c : Call) (h : Host) (i : ℕ) (s t : SlotState) (p : Peering) → h.config.generations ≤ greatest → s.peer ≡ Some p → t.generation ≡ s.generation → Fares c (common_of h) i s t → t.address ≡ s.address
stays-at c h i s t p few has same (untouched fell not' e) = ap (λ (z : SlotState). z.address) e
stays-at c h i s t p few has same (goes_on r q ds was fell alone none e) = ap (λ (z : SlotState). z.address) e ∙ stays-in q.state s q
stays-at c h i s t p few has same (takes_over r q ds was fell alone gone left b) = absurd (let g : t.generation ≡ s.generation + 1 = over-generation c h i s t q few gone left b in let k : t.generation ≡ s.generation = same in omega arith)
stays-at c h i s t p few has same (begins none left b) = none-some s.peer p none has

-- and one that begins is where the call says
begins-at : (from : Addr) (c : Call) (h : Host) (i : ℕ) (s t : SlotState) → IsFrom from c → falling.Begins c (common_of h) i s t → t.address ≡ from
begins-at from c h i s t k (falling.asks address channels info word is some at) = subst (IsFrom from) is k
begins-at from c h i s t k (falling.answers address bytes commands header o is read stranger offer taken new at) = subst (IsFrom from) is k

-- a slot has a name that is new
abbrev IsNewName : SlotState → SlotState → Type 0
IsNewName s t = (s.generation < t.generation) ⊎ (s.peer ≡ None)

not-kept : {A : Type 0} (s t : SlotState) (p : Peering) → IsNewName s t → t.generation ≡ s.generation → t.peer ≡ s.peer → t.peer ≡ Some p → A
not-kept s t p (inl past) same kept has = absurd (let a : s.generation < t.generation = past in let b : t.generation ≡ s.generation = same in omega arith)
not-kept s t p (inr none) same kept has = none-some t.peer p (kept ∙ none) has

not-gone-on : {A : Type 0} (s t : SlotState) (r : Peering) → IsNewName s t → t.generation ≡ s.generation → s.peer ≡ Some r → A
not-gone-on s t r (inl past) same was = absurd (let a : s.generation < t.generation = past in let b : t.generation ≡ s.generation = same in omega arith)
not-gone-on s t r (inr none) same was = none-some s.peer r none was

given-at : (from : Addr) (c : Call) (h : Host) (i : ℕ) (s t : SlotState) (p : Peering) → IsFrom from c → IsNewName s t → t.peer ≡ Some p → Fares c (common_of h) i s t → t.address ≡ from
given-at from c h i s t p k new has (untouched fell not' e) = not-kept s t p new (ap (λ (z : SlotState). z.generation) e) (ap (λ (z : SlotState). z.peer) e) has
given-at from c h i s t p k new has (goes_on r q ds was fell alone none e) =
    not-gone-on s t r new (ap (λ (z : SlotState). z.generation) e ∙ kept-name q.state s q p (ap (λ (z : SlotState). z.peer) (sym e) ∙ has)) was
given-at from c h i s t p k new has (takes_over r q ds was fell alone gone left b) = begins-at from c h i (with_peer s q) t k b
given-at from c h i s t p k new has (begins none left b) = begins-at from c h i s t k b

pub at-goes : (place : ℕ → Addr) (w : Around) (from old new : Site) (what : Happening) → HappensAmong w from what old new → IsHost old w.count → AreShown old
    → ((f : HostEnd) → Has (more_of w.count from old new what) f → place f.connection ≡ from.address) → AreAt place old → AreAt place new
at-goes place w from old new what happens k shown begin at f h p x = by (from-before old new more g f h)
  where
    more : List HostEnd
    more = more_of w.count from old new what

    g : Grows old new more
    g = grows w from old new what happens

    c : IsCall w from old new what
    c = call-from w from old new what happens

    fares : (s : SlotState) → slice_get old.host.slots f.name.slot ≡ Some s → Fares c.made (common_of old.host) f.name.slot s x.slot
    fares s there = let t = one-call c.made old.host new.host c.acts f.name.slot s there in subst (λ (y : SlotState). Fares c.made (common_of old.host) f.name.slot s y) (same-some t.0 x.slot (sym t.1 ∙ x.there)) t.2

    before : (b : HostEnd) → Has old.ends b → b.name ≡ f.name → b.connection ≡ f.connection → x.slot.address ≡ place f.connection
    before b there name of = by (there-or old.host b.name own.peer own.shows)
      where
        own : Shows old b (shown b there).0
        own = (shown b there).1

        was : (q : Peering) (y : IsThere old.host.slots f.name q) → y.slot.address ≡ place f.connection
        was = subst (λ (n : ℕ). (q : Peering) (y : IsThere old.host.slots f.name q) → y.slot.address ≡ place n) of
            (subst (λ (n : PeerRef). (q : Peering) (y : IsThere old.host.slots n q) → y.slot.address ≡ place b.connection) name (at b there))

        by : ((own.peer.state ≢ state.Free) × IsThere old.host.slots b.name own.peer) ⊎ ((own.peer.state ≡ state.Free) × IsSpent old.host b.name) → x.slot.address ≡ place f.connection
        by (inl live) =
            let y : IsThere old.host.slots f.name own.peer = subst (λ (n : PeerRef). IsThere old.host.slots n own.peer) name live.1 in
            stays-at c.made old.host f.name.slot y.slot x.slot own.peer k.few y.peer (x.same ∙ sym y.same) (fares y.slot y.there) ∙ was own.peer y
        by (inr gone) =
            let spent : IsSpent new.host f.name = subst (IsSpent new.host) name (spent-step c.made old.host new.host b.name k.few c.acts gone.1) in
            none-some (named new.host.slots f.name) p (spent-nobody new.host f.name spent) (there-named new.host.slots f.name p x)

    by : ((b : HostEnd) × Has old.ends b × (g.change b ≡ f)) ⊎ Has more f → x.slot.address ≡ place f.connection
    by (inl b) = before b.0 b.1 (sym (g.name b.0) ∙ ap (λ (z : HostEnd). z.name) b.2) (sym (g.connection b.0) ∙ ap (λ (z : HostEnd). z.connection) b.2)
    by (inr m) =
        let fresh : IsFresh old.host f.name = fresh-more w from old new what k.few happens f m in
        let new' : IsNewName fresh.slot x.slot = elim fresh.future [
          | inl past ↦ inl (let a : x.slot.generation ≡ f.name.generation = x.same in let b : fresh.slot.generation < f.name.generation = past in omega arith)
          | inr same ↦ inr same.1
        ] in
        given-at from.address c.made old.host f.name.slot fresh.slot x.slot p (c.speaks f m) new' x.peer (fares fresh.slot fresh.there) ∙ sym (begin f m)

-- where an end begins by a datagram, this is a CONNECT whose connection wasn't there

record IsNew (h : Host) (from : Addr) (text : List ℕ) : Type 0 where
  header : Header
  commands : List ℕ
  offer : Offer
  read : IsRead text header commands
  nobody : header.peer ≡ no_peer
  is : IsOffer commands offer
  unknown : is_known h.slots from offer ≡ false

text-of : Call → List ℕ
text-of (call.Receive from bytes answer) = bytes
text-of c = []

address-of : Addr → Call → Addr
address-of a (call.Receive from bytes answer) = from
address-of a c = a

new-in : (from : Addr) (text : List ℕ) (answer : Received) (h : Host) (i : ℕ) (u t : SlotState) → falling.Begins (call.Receive from text answer) (common_of h) i u t → IsNew h from text
unfolding text-of address-of
new-in from text answer h i u t (falling.asks address channels info word is some' at) = absurd (cc)
new-in from text answer h i u t (falling.answers address bytes commands header o is read stranger offer taken new at) =
    subst (λ (a : Addr). IsNew h a text) (sym (ap (address-of from) is)) (subst (IsNew h address) (sym (ap text-of is)) (record {
      header = header;
      commands = commands;
      offer = o;
      read = read;
      nobody = stranger;
      is = offer;
      unknown = new;
    }))

new-begun : (from : Addr) (text : List ℕ) (answer : Received) (x : ℕ) (old new : Host) (f : HostEnd) → old.config.generations ≤ greatest → Acts (call.Receive from text answer) old new → Has (begun x from old new) f → IsNew old from text
new-begun from text answer x old new f few acts h =
    let g = guest x from old new f h in
    let b = guest-begins (call.Receive from text answer) x from old new f few acts g in
    new-in from text answer old g.number b.0 g.held.slot b.1

-- a CONNECT of a connection that is there is repeated

both-false : (a b : Bool) → (a && b) ≡ false → a ≡ true → b ≡ false
both-false true b e f = e
both-false false b e f = absurd (cc)

is-there : (s : SlotState) (from : Addr) (word : ℕ) (p : Peering) → s.peer ≡ Some p → is_deaf p.state ≡ false → s.address ≡ from → p.terms.connect_id ≡ word → is_connection from word s ≡ true
is-there s from word p has hears at of =
    ap (is_connection_in s from word) has
    ∙ ap (λ (b : Bool). not b && (is_same_address s.address from && p.terms.connect_id == word)) hears
    ∙ ap (λ (b : Bool). b && p.terms.connect_id == word) (same-address s.address from at)
    ∙ (let e : p.terms.connect_id ≡ word = of in let t : (p.terms.connect_id == word) ≡ true = grind (arith, nat_tests) in t)

repeated : (slots : List SlotState) (from : Addr) (o : Offer) (name : PeerRef) (p : Peering) (x : IsThere slots name p) → is_deaf p.state ≡ false → x.slot.address ≡ from → p.terms.connect_id ≡ o.connect_id → is_known slots from o ≡ false → ⊥
repeated slots from o name p x hears at of unknown =
    let t : true ≡ false = sym (is-there x.slot from o.connect_id p x.peer hears at of) ∙ none-of (is_connection from o.connect_id) slots x.slot unknown (Has-slice_get slots name.slot x.slot x.there) in absurd (cc)

-- an end that a CONNECT finds isn't over
hears-still : (s : Site) (from : Addr) (d : Logged) (e : HostEnd) → d.peer ≡ no_peer → is_earlier s from d ≡ false → Has s.ends e → e.connection ≡ d.connection → is_over (named s.host.slots e.name) ≡ false
hears-still s from d e nobody earlier h of =
    let here : (d.peer == no_peer) ≡ true = grind (arith, nat_tests) in
    let not-ended : has_ended s d.connection ≡ false = ap (λ (b : Bool). cond b (has_ended s d.connection) (holds_another s from d.peer d.connection)) (sym here) ∙ earlier in
    both-false (e.connection == d.connection) (is_over (named s.host.slots e.name))
    (none-of (λ (f : HostEnd). f.connection == d.connection && is_over (named s.host.slots f.name)) s.ends e not-ended h) (let t : (e.connection == d.connection) ≡ true = grind (arith, nat_tests) in t)

twice : (j : Bool) (count i : ℕ) (answer : Received) (d : Logged) (from old new : Site) → BringsOne from (Some d) answer old new → IsHost old count → IsHost from count → slice_get from.log i ≡ Some d
    → (e : HostEnd) → Has old.ends e → e.connection ≡ d.connection → Pair j old from e.connection → ((p : Peering) (x : IsThere old.host.slots e.name p) → x.slot.address ≡ from.address)
    → (f : HostEnd) → Has (begun d.connection from.address old.host new.host) f → ⊥
twice j count i answer d from old new brought k ko sent e h of pair at f m = by (there-or old.host e.name own.peer own.shows)
  where
    n : IsNew old.host from.address d.text
    n = new-begun from.address d.text answer d.connection old.host new.host f k.few brought.1.0 m

    over : is_over (named old.host.slots e.name) ≡ false
    over = hears-still old from.address d e (ko.named d (Has-slice_get from.log i d sent) n.header n.commands n.read ∙ n.nobody) (in-none (is_earlier old from.address d) (is_late from old d) brought.0).0 h of

    own : Shows old e pair.one
    own = shown-end j old from count e k h pair

    l : IsLogged pair.two.log d
    l = (far-shown from count e.connection pair.two ko pair.there).log i d sent (sym of)

    put : (x : Put) × Has l.puts x × (x.message.body ≡ connect n.offer)
    put = the-offer l.puts n.commands n.offer n.is (behind d.text l.header n.header n.read.front n.commands (messages_of l.puts) n.read.split n.read.spelled l.spelled)

    word : own.peer.terms.connect_id ≡ n.offer.connect_id
    word = (pair.one_word.peer own.peer own.has).terms ∙ sym (pair.two_word.log put.0 n.offer (l.logged put.0 put.1) put.2)

    by : ((own.peer.state ≢ state.Free) × IsThere old.host.slots e.name own.peer) ⊎ ((own.peer.state ≡ state.Free) × IsSpent old.host e.name) → ⊥
    by (inl live) =
        let x : IsThere old.host.slots e.name own.peer = live.1 in
        repeated old.host.slots from.address n.offer e.name own.peer x (ap is_over (sym (there-named old.host.slots e.name own.peer x)) ∙ over) (at own.peer x) word n.unknown
    by (inr gone) = let t : true ≡ false = ap is_over (sym (spent-nobody old.host e.name gone.1)) ∙ over in absurd (cc)

-- a connection of a host is one with the host whose datagram comes, and its two ends are a pair
abbrev pub IsOfSender : (ℕ → Bool) → (ℕ → Addr) → Site → Site → Happening → Type 0
IsOfSender j place from s (Calls c) = Unit {0}
IsOfSender j place from s (Delivers k answer) =
    (d : Logged) → slice_get from.log k ≡ Some d → (e : HostEnd) → Has s.ends e → e.connection ≡ d.connection → Pair (j e.connection) s from e.connection × (place e.connection ≡ from.address)

pub begins-once : (j : ℕ → Bool) (place : ℕ → Addr) (w : Around) (from old new : Site) (what : Happening) → HappensAmong w from what old new → IsHost old w.count → IsHost from w.count → IsOfSender j place from old what → AreAt place old
    → BeginsOnce from old new what
begins-once j place w from old new (Calls c) happens k ko of at = tt
begins-once j place w from old new (Delivers i answer) happens k ko of at = λ d sent e h same f m.
    let p = of d sent e h same in
    twice (j e.connection) w.count i answer d from old new (subst (λ (found : Option Logged). BringsOne from found answer old new) sent happens) k ko sent e h same p.0 (λ q x. at e h q x ∙ p.1) f m
