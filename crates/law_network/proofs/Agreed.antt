-- The peers of both ends of a connection agree on the numbers, since the ends of the law that their hosts show do.
use Rattle.std.proofs.Common.{◌≡◌, ◌<◌, ◌≤◌, ◌++◌, ℕ, inl, inr, Bool, List, refl, sym, ap, subst, ◌∙◌, arith, Option, Some, None, slice_get}
use Rattle.enet_codec.specs.declared.event.PeerRef.{PeerRef}
use Rattle.enet_codec.specs.Message.{Message}
use Rattle.enet_codec.proofs.Datagrams.{one-datagram}
use Rattle.enet_fragment.specs.DataCommand.{data_of}
use Rattle.enet_packets.specs.declared.incoming_packet.Dispatched.{Dispatched}
use Rattle.enet_peer.specs.declared.parts.PeerState.{PeerState}
use Rattle.enet_peer.specs.declared.parts.PeerState.TheVariants as state
use Rattle.enet_peer.specs.Peering.{Peering}
use Rattle.law_connection.specs.Link.{PutOut}
use Rattle.law_connection.specs.LinkSteps.{Has}
use Rattle.law_connection.specs.Connection.{Put, End, messages_of, sent_on, of_channel, packets_of, in_sequence}
use Rattle.law_connection.specs.Law.{mtu_in, mtu_of}
use Rattle.law_connection.specs.Linked.{receiver_in}
use Rattle.law_connection.specs.Numbers.{is_sending, is_dispatching, sender_on, receiver_on, Sending, Receiving, AreAgreed, sending_on, receiving_on, IsPutOn, AgreeOn}
use Rattle.law_connection.proofs.Emits.{Has-from_map}
use Rattle.law_unsequenced.proofs.Laws.{agree}
use Rattle.enet_host.specs.Host.{Host, named}
use Rattle.law_network.specs.IsolationLaw.{held_if}
use Rattle.law_network.specs.declared.mark.MarkKind.TheVariants.{Data}
use Rattle.law_network.specs.Law.{ShowsAt}
use Rattle.law_network.specs.Log.{packets_at, greatest_at}
use Rattle.law_network.specs.Network.{HostEnd, Site, end_of}
use Rattle.law_network.specs.Numbers.{Stands, sending_at, receiving_at, IsPutAt, AgreeFrom, AgreeBetween}
use Rattle.law_network.specs.Shown.{ShowsPeer, IsLogged, Shows}
use Rattle.law_network.proofs.Channels.{same-going, same-come}
use Rattle.law_network.proofs.Delivering.{end-there}
use Rattle.law_network.proofs.Submitting.{same-some}
use Rattle.law_network.proofs.Worlds.{KeptEither, Pair, IsHost, end-none}

-- an end and its peer

held-some : (st : PeerState) (p q : Peering) → held_if st p ≡ Some q → p ≡ q
held-some state.Free p q e = absurd (cc)
held-some st p q e = same-some p q e

-- a peer that a host shows is the one that stands
pub same-peer : (h : Host) (name : PeerRef) (p q : Peering) → ShowsPeer h name p → named h.slots name ≡ Some q → p ≡ q
same-peer h name p q k is = held-some p.state p q (sym k.is ∙ is)

-- so an end that stands is the one that is shown
standing : (s : Site) (count x : ℕ) (own : End) → IsHost s count → ShowsAt s x own → (a : Stands s x) → Shows s a.end own × (a.end.connection ≡ x)
standing s count x own k (inl shown) a =
    let there : end_of x s.ends ≡ Some shown.0 = subst (λ (n : ℕ). end_of n s.ends ≡ Some shown.0) shown.2 (end-there s.ends shown.0 shown.1 (k.apart shown.0 shown.1)) in
    let same : shown.0 ≡ a.end = same-some shown.0 a.end (sym there ∙ a.there) in
    subst (λ (e : HostEnd). Shows s e own × (e.connection ≡ x)) same (shown.3, shown.2)
standing s count x own k (inr none) a = absurd (let y : ◌≡◌ {A = Option HostEnd} None (Some a.end) = sym (end-none s.ends x none.0) ∙ a.there in cc)

-- what an end of the law sends, receives and put out is what its host shows

same-sending : (s : Site) (e : HostEnd) (own : End) (k : Shows s e own) (channel : ℕ) → channel < 255 → sending_on channel own ≡ sending_at channel e k.peer
same-sending s e own k channel low = (λ i. record {
  sends = is_sending (k.has i);
  sent = (sender_on channel (k.has i)).sent;
  greatest = greatest i;
  mtu = mtu_in (k.has i);
  submitted = submitted i;
})
  where
    greatest : sent_on channel own ≡ greatest_at e.greatest channel
    greatest = sym (k.greatest channel low)

    submitted : of_channel (mtu_of own) channel own.submitted ≡ of_channel k.peer.terms.mtu channel (packets_at e.channels channel).submitted
    submitted =
        ap (λ (o : Option Peering). of_channel (mtu_in o) channel own.submitted) k.has
        ∙ sym (same-going k.peer.terms.mtu channel own.submitted)
        ∙ ap (of_channel k.peer.terms.mtu channel) (sym (k.submitted channel (omega arith)))

same-receiving : (s : Site) (e : HostEnd) (own : End) (k : Shows s e own) (channel : ℕ) → channel < 255 → receiving_on channel own ≡ receiving_at channel e k.peer
same-receiving s e own k channel low =
    ap (λ (o : Option Peering). record { dispatches = is_dispatching o; receiver = receiver_on channel own o }) k.has
    ∙ ap (λ (l : List Dispatched). record {
      dispatches = is_dispatching (Some k.peer);
      receiver = record (receiver_in (slice_get k.peer.inbox.receivers channel)) { dispatched = l ++ in_sequence channel k.peer.inbox.untaken };
    }) (sym (same-come channel (packets_of own.events)) ∙ ap (in_sequence channel) (sym (k.taken channel (omega arith))))

put-on : (s : Site) (e : HostEnd) (own : End) (k : Shows s e own) (channel : ℕ) → channel < 255 → (c : PutOut) → IsPutAt s e.connection channel c → IsPutOn channel own c
put-on s e own k channel low c h = record {
  put = x.0;
  logged = l.logged x.0 x.1;
  on = on;
  is = is;
  marked = sym (l.alike x.0 c.command (record { kind = Data; channel = channel; number = c.command.number; sent_then = c.sent_then }) x.1 (subst (λ (n : ℕ). n < 255) (sym on) low) is h.marked refl (sym on));
}
  where
    l : IsLogged own.log h.datagram
    l = k.log h.k h.datagram h.logged h.of

    same : h.messages ≡ messages_of l.puts
    same = (one-datagram h.datagram.text h.header l.header h.messages (messages_of l.puts) h.spelled l.spelled).1

    x : (p : Put) × Has l.puts p × (p.message ≡ h.message)
    x = Has-from_map (λ (p : Put). p.message) l.puts h.message (subst (λ (ms : List Message). Has ms h.message) same h.among)

    on : x.0.message.head.channel ≡ channel
    on = ap (λ (m : Message). m.head.channel) x.2 ∙ h.on

    is : data_of x.0.message ≡ Some c.command
    is = ap data_of x.2 ∙ h.is

-- both ends

-- of fewer commands ends agree too
of-fewer : (from : Sending) (to : Receiving) (P Q : PutOut → Type 0) → ((c : PutOut) → Q c → P c) → AreAgreed from P to → AreAgreed from Q to
of-fewer from to P Q fewer a = record {
  receiver = a.receiver;
  waiting = a.waiting;
  shows = a.shows;
  sent = a.sent;
  span = a.span;
  removed = a.removed;
  behind = a.behind;
  oldest = a.oldest;
  near = a.near;
  distance = λ t c h. a.distance t c (fewer c h);
  read = λ t c h. a.read t c (fewer c h);
  held = a.held;
  lines = a.lines;
}

agree-either : (j : Bool) (one two : End) → KeptEither j one two → (channel : ℕ) → channel < 255 → AgreeOn channel one two × AgreeOn channel two one
agree-either j one two (inl k) channel low = agree j (record { one = one; two = two }) k channel low
agree-either j one two (inr k) channel low = let a = agree j (record { one = two; two = one }) k channel low in (a.1, a.0)

agree-from : (s t : Site) (count x : ℕ) (own far : End) → IsHost s count → IsHost t count → ShowsAt s x own → ShowsAt t x far → ((channel : ℕ) → channel < 255 → AgreeOn channel own far) → AgreeFrom s t x
agree-from s t count x own far k ko here there all from to channel low = subst (λ (p : Peering). AreAgreed (sending_at channel from.end p) (IsPutAt s x channel) (receiving_at channel to.end to.peer)) mine
    (subst (λ (q : Peering). AreAgreed (sending_at channel from.end a.0.peer) (IsPutAt s x channel) (receiving_at channel to.end q)) theirs
    (of-fewer (sending_at channel from.end a.0.peer) (receiving_at channel to.end b.0.peer) (IsPutOn channel own) (IsPutAt s x channel)
    (λ c h. put-on s from.end own a.0 channel low c (subst (λ (n : ℕ). IsPutAt s n channel c) (sym a.1) h))
    (subst (λ (r : Receiving). AreAgreed (sending_at channel from.end a.0.peer) (IsPutOn channel own) r) (same-receiving t to.end far b.0 channel low)
    (subst (λ (r : Sending). AreAgreed r (IsPutOn channel own) (receiving_on channel far)) (same-sending s from.end own a.0 channel low) on.agreed))))
  where
    a : Shows s from.end own × (from.end.connection ≡ x)
    a = standing s count x own k here from

    b : Shows t to.end far × (to.end.connection ≡ x)
    b = standing t count x far ko there to

    mine : a.0.peer ≡ from.peer
    mine = same-peer s.host from.end.name a.0.peer from.peer a.0.shows from.is

    theirs : b.0.peer ≡ to.peer
    theirs = same-peer t.host to.end.name b.0.peer to.peer b.0.shows to.is

    on : AgreeOn channel own far
    on = all channel low

pub agree-between : (j : Bool) (s t : Site) (count x : ℕ) → IsHost s count → IsHost t count → Pair j s t x → AgreeBetween s t x
agree-between j s t count x k ko p = record {
  forth = agree-from s t count x p.one p.two k ko p.here p.there (λ channel low. (agree-either j p.one p.two p.kept channel low).0);
  back = agree-from t s count x p.two p.one ko k p.there p.here (λ channel low. (agree-either j p.one p.two p.kept channel low).1);
}

-- of a connection that hasn't begun no end stands
pub agree-none : (s t : Site) (count x : ℕ) → IsHost s count → count ≤ x → AgreeBetween s t x
agree-none s t count x k far = record { forth = λ from to. absurd (none from); back = λ from to. absurd (none to) }
  where
    none : Stands s x → ⊥
    none a =
        let empty : end_of x s.ends ≡ None = end-none s.ends x (λ e h of. let low : e.connection < count = k.below e h in let same : e.connection ≡ x = of in omega arith) in
        let y : ◌≡◌ {A = Option HostEnd} None (Some a.end) = sym empty ∙ a.there in
        cc
