-- How an end begins: its user asks, or its host answers a CONNECT.
use Rattle.std.proofs.Common.{◌≡◌, ◌≢◌, ℕ, zero, suc, inl, inr, Bool, true, false, cond, not, nat_le, List, [], ◌∷◌, ◌++◌, replicate, refl, sym, ap, subst, ◌∙◌, append-nil, Option, Some, None, Result, Ok, slice_get, slice_set}
use Rattle.std.specs.Prelude.{IsTrue}
use Rattle.enet_codec.specs.declared.address.Addr.{Addr}
use Rattle.enet_codec.specs.declared.event.PeerRef.{PeerRef}
use Rattle.enet_codec.specs.declared.event.Received.{Received}
use Rattle.enet_codec.specs.declared.refusal.Refusal.{Refusal}
use Rattle.enet_codec.specs.declared.stop.Stop.TheVariants as stop
use Rattle.enet_codec.specs.declared.command.Offer.{Offer}
use Rattle.enet_codec.specs.declared.header.Header.{Header}
use Rattle.enet_codec.specs.Message.{Message, connect}
use Rattle.enet_codec.specs.Datagram.{SpellsAll}
use Rattle.enet_codec.proofs.Laws.{one_spelling}
use Rattle.enet_codec.proofs.Datagrams.{some-bytes}
use Rattle.enet_connect.specs.declared.server.Server.{Server}
use Rattle.enet_connect.specs.Terms.{is_channel_count}
use Rattle.enet_peer.specs.Heading.{IsRead, IsOffer}
use Rattle.enet_peer.specs.declared.parts.Offsets.{Offsets}
use Rattle.enet_peer.specs.declared.parts.PeerState.TheVariants as state
use Rattle.enet_peer.specs.Peering.{Peering, connecting, answering as answering_peer}
use Rattle.law_connection.specs.LinkSteps.{Has}
use Rattle.law_connection.proofs.Lists.{Has-push, Has-slice_get}
use Rattle.law_connection.specs.Connection.{Put, End, messages_of}
use Rattle.law_connection.specs.Steps.{Answer, with_peer, no_end}
use Rattle.law_connection.proofs.Runs.{reached-none}
use Rattle.enet_slot.specs.Giving.{limits_of, offer_from, drawn_for, server_from, asking}
use Rattle.enet_slot.specs.Slot.{SlotState, name_of}
use Rattle.enet_host.specs.Host.{Host}
use Rattle.enet_host.specs.Opening.{host_basis, Connects, no_channel, no_slot, no_memory, asks}
use Rattle.enet_slot.specs.Receiving.{no_peer}
use Rattle.enet_host.specs.Receiving.{offer_refused}
use Rattle.law_network.proofs.Guests.{IsGuest, guest, guest-begins}
use Rattle.law_network.proofs.Lists.{get-set}
use Rattle.law_network.proofs.Names.{IsThere}
use Rattle.law_network.specs.Calls as call
use Rattle.law_network.specs.Common.{common_of}
use Rattle.law_network.specs.Falling as falling
use Rattle.law_network.specs.Law.{HasNothingOf, time_drawn, Asked, Begins, Answered}
use Rattle.law_network.specs.Log.{Logged, ChannelPackets, no_packets, fresh_channels, fresh_greatest, packets_at, greatest_at}
use Rattle.law_network.specs.Network.{HostEnd, Site, fresh_end}
use Rattle.law_network.specs.Shown.{IsLogged, Shows, ShowsFar}
use Rattle.law_network.specs.Steps.{Brought}
use Rattle.law_network.proofs.Marked.{behind}
use Rattle.law_network.proofs.Peers.{shows-held}

-- an end where nothing has happened but that it has its peer

first-number : (n i : ℕ) → greatest_at (replicate n 0) i ≡ 0
first-number zero i = refl
first-number (suc n) zero = refl
first-number (suc n) (suc i) = first-number n i

first-kept : (n i : ℕ) → packets_at (replicate n no_packets) i ≡ no_packets
first-kept zero i = refl
first-kept (suc n) zero = refl
first-kept (suc n) (suc i) = first-kept n i

shows-fresh : (s : Site) (x : ℕ) (name : PeerRef) (p : Peering) → p.state ≢ state.Free → IsThere s.host.slots name p → HasNothingOf x s → Shows s (fresh_end x name) (with_peer no_end p)
unfolding fresh_channels fresh_greatest
shows-fresh s x name p live there none = record {
  peer = p;
  has = refl;
  shows = shows-held s.host name p live there;
  long = refl;
  numbers = refl;
  log = λ k d h of. absurd (none d (Has-slice_get s.log k d h) of);
  greatest = λ channel low. first-number 256 channel ∙ sym (reached-none channel 0);
  submitted = λ channel low. ap (λ (k : ChannelPackets). k.submitted) (first-kept 256 channel);
  mtu = inl refl;
  taken = λ channel low. ap (λ (k : ChannelPackets). k.taken) (first-kept 256 channel);
  events = refl;
}

-- its user asks

ok-name : (a b : PeerRef) → ◌≡◌ {A = Result PeerRef Refusal} (Ok a) (Ok b) → a ≡ b
ok-name a b e = cc

-- the slot of the name holds a peer that asks
pub record Asks (h : Host) (slots : List SlotState) (word : ℕ) (name : PeerRef) : Type 0 where
  pub offer : Offer
  pub says : offer.connect_id ≡ word
  pub there : IsThere slots name (connecting h.clock (time_drawn h.config name) offer (limits_of h.config))

pub asked-in : (h : Host) (address : Addr) (channels info word : ℕ) (name : PeerRef) (answer : Result PeerRef Refusal) (slots after : List SlotState) → Connects (host_basis h) slots (record { address = address; channels = channels; info = info; word = word }) answer after → answer ≡ Ok name
    → Asks h after word name
asked-in h address channels info word name answer slots after (no_channel z) e = absurd (cc)
asked-in h address channels info word name answer slots after (no_slot some none) e = absurd (cc)
asked-in h address channels info word name answer slots after (no_memory i some free) e = absurd (cc)
asked-in h address channels info word name answer slots after (asks i s some free there) e =
    let same : name_of i s ≡ name = ok-name (name_of i s) name e in
    subst (λ (n : PeerRef). Asks h (slice_set slots i (asking (host_basis h) i s (record { address = address; channels = channels; info = info; word = word }))) word n) same (record {
      offer = offer_from h.config i s (record { address = address; channels = channels; info = info; word = word });
      says = refl;
      there = record { slot = asking (host_basis h) i s (record { address = address; channels = channels; info = info; word = word }); there = get-set slots i s (asking (host_basis h) i s (record { address = address; channels = channels; info = info; word = word })) there; same = refl; peer = refl };
    })

pub asked : Asked
asked w from old new address channels info word name x none =
    let a : Asks old.host new.host.slots word name = asked-in old.host address channels info word name (Ok name) old.host.slots new.host.slots x.1.0.0 refl in
    let ends : new.ends ≡ old.ends ++ fresh_end w.count name ∷ [] = ap (λ (s : Site). s.ends) x.1.1 in
    let logs : new.log ≡ old.log = ap (λ (s : Site). s.log) x.1.1 in (
      a.offer,
      a.says,
      subst (λ (l : List HostEnd). Has l (fresh_end w.count name)) (sym ends) (Has-push old.ends (fresh_end w.count name)),
      shows-fresh new w.count name (connecting old.host.clock (time_drawn old.host.config name) a.offer (limits_of old.host.config)) (λ e. absurd (let y : state.Connecting ≡ state.Free = e in cc)) a.there
          (subst (λ (l : List Logged). (d : Logged) → Has l d → d.connection ≢ w.count) (sym logs) none),
    )

-- its host answers a CONNECT

-- the CONNECT is a command that was put out
pub the-offer : (puts : List Put) (commands : List ℕ) (o : Offer) → IsOffer commands o → SpellsAll commands (messages_of puts) → (x : Put) × Has puts x × (x.message.body ≡ connect o)
the-offer [] commands o offer s = absurd (some-bytes commands [] (record { head = offer.0; body = connect o }) offer.1 (append-nil commands ∙ s))
the-offer (x ∷ puts) commands o offer s =
    let one = one_spelling s.0 commands s.1 [] x.message (record { head = offer.0; body = connect o }) s.3 offer.1 (sym s.2 ∙ sym (append-nil commands)) in
    (x, inl refl, ap (λ (m : Message). m.body) one.1)

counts : (o : Offer) → offer_refused o ≡ None → IsTrue (is_channel_count o.channels)
counts o h = by (nat_le no_peer o.outgoing_peer) (is_channel_count o.channels) h
  where
    by : (a b : Bool) → cond a (Some stop.BadCommand) (cond (not b) (Some stop.BadChannel) None) ≡ None → IsTrue b
    by true b e = absurd (cc)
    by false true e = refl
    by false false e = absurd (cc)

-- an end that answers: its peer begins by the call that takes the datagram
begins : (from : Site) (k : ℕ) (d : Logged) (answer : Received) (old new : Site) (f : HostEnd) (far : End) (i : ℕ) (u t : SlotState) → slice_get from.log k ≡ Some d → ShowsFar from d.connection far → HasNothingOf d.connection new
    → falling.Begins (call.Receive from.address d.text answer) (common_of old.host) i u t → slice_get new.host.slots i ≡ Some t → f ≡ fresh_end d.connection (name_of i t) → Begins far new f
begins from k d answer old new f far i u t sent shown none (falling.asks address channels info word is some at) there named' = absurd (cc)
begins from k d answer old new f far i u t sent shown none (falling.answers address bytes commands header o is read stranger offer fits unknown at) there named' = record {
  event = Answer put.0 o old.host.clock offsets server (limits_of old.host.config);
  own = with_peer no_end p;
  answers = (refl, l.logged put.0 put.1, put.2, counts o fits, refl);
  shows = subst (λ (g : HostEnd). Shows new g (with_peer no_end p)) (sym named')
      (shows-fresh new d.connection (name_of i t) p (λ e. absurd (let y : state.Answering ≡ state.Free = e in cc)) (record { slot = t; there = there; same = refl; peer = refl }) none);
}
  where
    offsets : Offsets
    offsets = (drawn_for old.host.config i u).offsets

    server : Server
    server = server_from old.host.config i u o

    p : Peering
    p = answering_peer old.host.clock offsets o server (limits_of old.host.config)

    l : IsLogged far.log d
    l = shown.log k d sent refl

    comes : IsRead d.text header commands
    comes = subst (λ (b : List ℕ). IsRead b header commands) (let same : bytes ≡ d.text = cc in same) read

    put : (x : Put) × Has l.puts x × (x.message.body ≡ connect o)
    put = the-offer l.puts commands o offer (behind d.text l.header header comes.front commands (messages_of l.puts) comes.split comes.spelled l.spelled)

pub answered : Answered
answered k answer d from old new few x sent none f h far shown = begins from k d answer old new f far g.number b.0 g.held.slot sent shown nothing b.1 g.held.there named'
  where
    brought : Brought from.address d answer old new
    brought = x.1

    nothing : HasNothingOf d.connection new
    nothing = subst (λ (l : List Logged). (z : Logged) → Has l z → z.connection ≢ d.connection) (ap (λ (s : Site). s.log) (sym brought.1)) none

    g : IsGuest d.connection from.address old.host new.host f
    g = guest d.connection from.address old.host new.host f h

    b : (u : SlotState) × falling.Begins (call.Receive from.address d.text answer) (common_of old.host) g.number u g.held.slot
    b = guest-begins (call.Receive from.address d.text answer) d.connection from.address old.host new.host f few brought.0 g

    named' : f ≡ fresh_end d.connection (name_of g.number g.held.slot)
    named' = g.is ∙ ap (λ (n : ℕ). fresh_end d.connection (record { slot = g.number; generation = n })) (sym g.held.same)
