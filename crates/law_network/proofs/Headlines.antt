-- The headline of both hosts of a world, from the law of each connection.
use Rattle.std.proofs.Common.{◌≡◌, ◌≢◌, ◌<◌, ◌≤◌, ℕ, ◌⊎◌, inl, inr, ◌&&◌, ◌==◌, Bool, true, false, List, [], ◌∷◌, map, refl, sym, ap, subst, ◌∙◌, arith, eq-eqb, Option, Some, None}
use Rattle.enet_codec.specs.declared.address.Addr.{Addr}
use Rattle.enet_codec.specs.declared.event.PeerRef.{PeerRef}
use Rattle.enet_codec.specs.declared.packet.Packet.{Packet}
use Rattle.enet_peer.specs.declared.parts.PeerEvent.{PeerEvent}
use Rattle.enet_peer.specs.declared.parts.PeerEvent.TheVariants as told
use Rattle.enet_peer.specs.Peering.{Peering}
use Rattle.enet_sender.specs.CommandChoice as command_choice
use Rattle.enet_packets.specs.declared.incoming_packet.Dispatched.{Dispatched}
use Rattle.law_connection.specs.Follows.{Follows}
use Rattle.law_connection.specs.LinkSteps.{Has, bodies_of}
use Rattle.law_connection.specs.Connection.{End, of_channel, packets_of, in_sequence}
use Rattle.law_connection.specs.Law.{mtu_in, IsOneLife, IsInOrder as IsInOrderBetween}
use Rattle.law_connection.specs.Steps.{no_end}
use Rattle.law_connection.proofs.Lists.{Has-filter, Has-from_filter}
use Rattle.law_unsequenced.specs.Law.{GoesAs, EachSubmitted}
use Rattle.enet_slot.specs.Calls.{event_of}
use Rattle.enet_host.specs.Host.{named}
use Rattle.law_network.specs.declared.event.Side.{Side}
use Rattle.law_network.specs.declared.event.Side.TheVariants.{A, B}
use Rattle.law_network.specs.Headline.{submitted_at, taken_at, events_at, received, mtu_at, AreOn, IsInOrder, WereSubmitted, HasHeadlineAt, HasHeadlineBetween, HasHeadline}
use Rattle.law_network.specs.Law.{ShowsAt, LawfulEither, IsPaired, OfEachRun, OfEachJoinedRun, OfEachList, OfEachJoinedList}
use Rattle.law_network.specs.Log.{ChannelPackets}
use Rattle.law_network.specs.Network.{HostEnd, Site, end_of}
use Rattle.law_network.specs.Numbers.{AgreeBetween}
use Rattle.law_network.specs.Shown.{on_channel, Shows}
use Rattle.law_network.specs.World.{World, site_of}
use Rattle.law_network.proofs.Agreed.{agree-between, agree-none, same-peer}
use Rattle.law_network.proofs.Channels.{on-them, same-going, same-come, kept-outside}
use Rattle.law_network.proofs.Delivering.{end-there}
use Rattle.law_network.proofs.Worlds.{IsHost, end-none}
use Rattle.law_network.proofs.Owned.{AreOwned, are-ends}
use Rattle.law_network.proofs.Runs.{Sound, less-or-not, are-lawful, sound-run, sound-joined-run, sound-list, sound-joined-list}

-- the packets of a peer's events are those that are told
same-received : (name : PeerRef) (es : List PeerEvent) → received (map (event_of name) es) ≡ packets_of es
same-received name [] = refl
same-received name (told.Connect info ∷ es) = same-received name es
same-received name (told.Receive q ∷ es) = ap (λ (qs : List Packet). q ∷ qs) (same-received name es)
same-received name (told.Disconnect info ∷ es) = same-received name es

-- what is handed out of an end that a host has, or hasn't, is an end's of the law

record Hands (o : Option HostEnd) (own : End) : Type 0 where
  submitted : (channel : ℕ) → channel < 256 → submitted_at channel o ≡ on_channel channel own.submitted
  taken : (channel : ℕ) → channel < 256 → taken_at channel o ≡ on_channel channel (packets_of own.events)
  outside : (channel : ℕ) → 256 ≤ channel → (submitted_at channel o ≡ []) × (taken_at channel o ≡ [])
  mtu : (own.submitted ≡ []) ⊎ (mtu_in own.peer ≡ mtu_at o)
  received : received (events_at o) ≡ packets_of own.events

hands-some : (s : Site) (e : HostEnd) (own : End) → Shows s e own → Hands (Some e) own
hands-some s e own k = record {
  submitted = k.submitted;
  taken = k.taken;
  outside = λ channel far. (let none = kept-outside e.channels channel (let long = k.long in omega arith) in (ap (λ (y : ChannelPackets). y.submitted) none, ap (λ (y : ChannelPackets). y.taken) none));
  mtu = elim k.mtu [ inl none ↦ inl none | inr goes ↦ inr (ap mtu_in k.has ∙ goes.1) ];
  received = ap received k.events ∙ same-received e.name own.events;
}

hands-none : Hands None no_end
hands-none = record {
  submitted = λ channel low. refl;
  taken = λ channel low. refl;
  outside = λ channel far. (refl, refl);
  mtu = inl refl;
  received = refl;
}

hands-at : (s : Site) (count x : ℕ) (own : End) → IsHost s count → ShowsAt s x own → Hands (end_of x s.ends) own
hands-at s count x own k (inl shown) =
    let is : end_of x s.ends ≡ Some shown.0 = subst (λ (n : ℕ). end_of n s.ends ≡ Some shown.0) shown.2 (end-there s.ends shown.0 shown.1 (k.apart shown.0 shown.1)) in
    subst (λ (o : Option HostEnd). Hands o own) (sym is) (hands-some s shown.0 own shown.3)
hands-at s count x own k (inr none) = subst (λ (o : Option HostEnd). Hands o own) (sym (end-none s.ends x none.0)) (subst (Hands None) (sym none.1) hands-none)

-- one direction

-- nothing was submitted, or all went by the mtu that is kept
by-mtu : (channel m n : ℕ) (qs : List Packet) (came : List (List ℕ)) → (qs ≡ []) ⊎ (m ≡ n) → Follows m (of_channel m channel qs) came → Follows n (of_channel n channel qs) came
by-mtu channel m n qs came (inl none) h = subst (λ (l : List Packet). Follows n (of_channel n channel l) came) (sym none) (subst (λ (l : List Packet). Follows m (of_channel m channel l) came) none h)
by-mtu channel m n qs came (inr same) h = subst (λ (k : ℕ). Follows k (of_channel k channel qs) came) same h

between : (o u : Option HostEnd) (from to : End) → Hands o from → Hands u to → IsInOrderBetween from to → (channel : ℕ) → IsInOrder o u channel
between o u from to k ko h channel = elim (less-or-not channel 256) [
  | inl low ↦ record {
    submitted = subst (AreOn channel) (sym (k.submitted channel low)) (on-them channel from.submitted);
    taken = subst (AreOn channel) (sym (ko.taken channel low)) (on-them channel (packets_of to.events));
    follows = follows low;
  }
  | inr far ↦ record {
    submitted = subst (AreOn channel) (sym (k.outside channel far).0) (λ q none. absurd none);
    taken = subst (AreOn channel) (sym (ko.outside channel far).1) (λ q none. absurd none);
    follows = subst (λ (l : List Packet). Follows (mtu_at o) (of_channel (mtu_at o) channel (submitted_at channel o)) (bodies_of (in_sequence channel l))) (sym (ko.outside channel far).1) tt;
  }
]
  where
    follows : channel < 256 → Follows (mtu_at o) (of_channel (mtu_at o) channel (submitted_at channel o)) (bodies_of (in_sequence channel (taken_at channel u)))
    follows low =
        let sent : of_channel (mtu_at o) channel from.submitted ≡ of_channel (mtu_at o) channel (submitted_at channel o) =
        sym (same-going (mtu_at o) channel from.submitted) ∙ ap (of_channel (mtu_at o) channel) (sym (k.submitted channel low)) in
        let came : in_sequence channel (packets_of to.events) ≡ in_sequence channel (taken_at channel u) =
        sym (same-come channel (packets_of to.events)) ∙ ap (in_sequence channel) (sym (ko.taken channel low)) in
        let first = by-mtu channel (mtu_in from.peer) (mtu_at o) from.submitted (bodies_of (in_sequence channel (packets_of to.events))) k.mtu (h channel) in
        let second = subst (λ (l : List command_choice.Packet). Follows (mtu_at o) l (bodies_of (in_sequence channel (packets_of to.events)))) sent first in
        subst (λ (l : List Dispatched). Follows (mtu_at o) (of_channel (mtu_at o) channel (submitted_at channel o)) (bodies_of l)) came second

-- of unsequenced packets

-- nothing was submitted, or all went by the mtu that is kept
goes-by : (m n : ℕ) (qs : List Packet) (p q : Packet) → (qs ≡ []) ⊎ (m ≡ n) → Has qs p → GoesAs m p q → GoesAs n p q
goes-by m n qs p q (inl none) there g = absurd (subst (λ (l : List Packet). Has l p) none there)
goes-by m n qs p q (inr same) there g = subst (λ (k : ℕ). GoesAs k p q) same g

were-submitted : (o u : Option HostEnd) (from to : End) → Hands o from → Hands u to → EachSubmitted from to → (channel : ℕ) → WereSubmitted o u channel
were-submitted o u from to k ko h channel q t two = by (less-or-not channel 256)
  where
    by : (channel < 256) ⊎ (256 ≤ channel) → (p : Packet) × Has (submitted_at channel o) p × GoesAs (mtu_at o) p q
    by (inl low) =
        let there : Has (on_channel channel (packets_of to.events)) q = subst (λ (l : List Packet). Has l q) (ko.taken channel low) t in
        let on : q.channel ≡ channel = on-them channel (packets_of to.events) q there in
        let r = h q (Has-from_filter (λ (x : Packet). x.channel == channel) (packets_of to.events) q there) two in
        let g = r.2 in
        let here : Has (on_channel channel from.submitted) r.0 = Has-filter (λ (x : Packet). x.channel == channel) from.submitted r.0 r.1 (eq-eqb r.0.channel channel (g.channel ∙ on)) in
        (r.0, subst (λ (l : List Packet). Has l r.0) (sym (k.submitted channel low)) here, goes-by (mtu_in from.peer) (mtu_at o) from.submitted r.0 q k.mtu r.1 g)
    by (inr far) = absurd (subst (λ (l : List Packet). Has l q) (ko.outside channel far).1 t)

-- both hosts

swapped-law : (j : Bool) (a b : End) → LawfulEither j a b → LawfulEither j b a
swapped-law j a b (inl l) = inr l
swapped-law j a b (inr l) = inl l

order-of : (j : Bool) (a b : End) → LawfulEither j a b → IsInOrderBetween a b
order-of j a b (inl l) = l.forth
order-of j a b (inr l) = l.back

life-of : (j : Bool) (a b : End) → LawfulEither j a b → IsOneLife j a.events
life-of j a b (inl l) = l.life_one
life-of j a b (inr l) = l.life_two

-- the packets of an end are those of its events
told-of : (o : Option HostEnd) (own : End) → Hands o own → (channel : ℕ) → channel < 256 → taken_at channel o ≡ on_channel channel (received (events_at o))
told-of o own k channel low = k.taken channel low ∙ ap (on_channel channel) (sym k.received)

pub headline-between : (j : Bool) (a b : Site) (count x : ℕ) → IsHost a count → IsHost b count → IsPaired j a b x → HasHeadlineBetween (end_of x a.ends) (end_of x b.ends)
headline-between j a b count x k ko p = record {
  forth = between (end_of x a.ends) (end_of x b.ends) p.one p.two one two (order-of j p.one p.two p.lawful);
  back = between (end_of x b.ends) (end_of x a.ends) p.two p.one two one (order-of j p.two p.one (swapped-law j p.one p.two p.lawful));
  unsequenced_forth = were-submitted (end_of x a.ends) (end_of x b.ends) p.one p.two one two p.unsequenced.0;
  unsequenced_back = were-submitted (end_of x b.ends) (end_of x a.ends) p.two p.one two one p.unsequenced.1;
}
  where
    one : Hands (end_of x a.ends) p.one
    one = hands-at a count x p.one k p.here

    two : Hands (end_of x b.ends) p.two
    two = hands-at b count x p.two ko p.there

-- of a connection that has no end
pub headline-none : HasHeadlineBetween None None
headline-none = record {
  forth = between None None no_end no_end hands-none hands-none (λ channel. tt);
  back = between None None no_end no_end hands-none hands-none (λ channel. tt);
  unsequenced_forth = λ channel q t. absurd t;
  unsequenced_back = λ channel q t. absurd t;
}

-- one host

shown-as : (s : Site) (count : ℕ) (e : HostEnd) (own : End) → IsHost s count → Has s.ends e → ShowsAt s e.connection own → Shows s e own
shown-as s count e own k h (inl shown) = subst (λ (z : HostEnd). Shows s z own) (k.apart e h shown.0 shown.1 (inr shown.2)) shown.3
shown-as s count e own k h (inr none) = absurd (none.0 e h refl)

-- packets go by the mtu of the peer that stands
mtu-of : (s : Site) (e : HostEnd) (own : End) (p : Peering) (channel : ℕ) → Shows s e own → named s.host.slots e.name ≡ Some p → submitted_at channel (Some e) ≢ [] → e.mtu ≡ p.terms.mtu
mtu-of s e own p channel k stands some = elim k.mtu [
  | inl none ↦ absurd (some (empty (less-or-not channel 256) none))
  | inr goes ↦ sym goes.1 ∙ ap (λ (q : Peering). q.terms.mtu) (same-peer s.host e.name k.peer p k.shows stands)
]
  where
    handed : Hands (Some e) own
    handed = hands-some s e own k

    empty : (channel < 256) ⊎ (256 ≤ channel) → own.submitted ≡ [] → submitted_at channel (Some e) ≡ []
    empty (inl low) none = handed.submitted channel low ∙ ap (on_channel channel) none
    empty (inr far) none = (handed.outside channel far).0

-- an end with the other host of its connection
abbrev pub ArePaired : Bool → Site → Type 0
ArePaired joined s = (e : HostEnd) → Has s.ends e → (other : Site) × IsPaired (joined && e.connection == 0) s other e.connection

pub headline-at : (joined : Bool) (is_host : Addr → Bool) (s : Site) (count : ℕ) → IsHost s count → AreOwned is_host s → ArePaired joined s → HasHeadlineAt joined is_host s
headline-at joined is_host s count k owned paired = record {
  all = are-ends is_host s owned;
  only = λ e h. end-there s.ends e h (k.apart e h);
  named = λ e f h i same. k.apart f i e h (inl same);
  told = λ e h channel low. (let p = (paired e h).1 in told-of (Some e) p.one (hands-some s e p.one (shown-as s count e p.one k h p.here)) channel low);
  one_life = λ e h. (let p = (paired e h).1 in
      let own = shown-as s count e p.one k h p.here in
      record { events = p.one.events; told = own.events; life = life-of (joined && e.connection == 0) p.one p.two p.lawful });
  mtu = λ e p channel h stands some. (let pair = (paired e h).1 in mtu-of s e pair.one p channel (shown-as s count e pair.one k h pair.here) stands some);
}

-- both hosts

pub swapped-pair : (j : Bool) (a b : Site) (x : ℕ) → IsPaired j a b x → IsPaired j b a x
swapped-pair j a b x p = record { one = p.two; two = p.one; here = p.there; there = p.here; lawful = swapped-law j p.one p.two p.lawful; unsequenced = (p.unsequenced.1, p.unsequenced.0) }

life-none : (j : Bool) → IsOneLife j []
life-none true = tt
life-none false = tt

-- a connection that hasn't begun has no end
paired : (joined : Bool) (w : World) → Sound (λ x. joined && x == 0) w → (x : ℕ) → IsPaired (joined && x == 0) w.a w.b x
paired joined w s x = elim (less-or-not x w.count) [
  | inl low ↦ are-lawful joined w s x low
  | inr far ↦ record {
    one = no_end;
    two = no_end;
    here = inr (none w.a s.a far, refl);
    there = inr (none w.b s.b far, refl);
    lawful = inl (record { forth = λ channel. tt; back = λ channel. tt; life_one = life-none (joined && x == 0); life_two = life-none (joined && x == 0) });
    unsequenced = ((λ q t. absurd t), (λ q t. absurd t));
  }
]
  where
    none : (site : Site) → IsHost site w.count → w.count ≤ x → (e : HostEnd) → Has site.ends e → e.connection ≡ x → ⊥
    none site k far e h of = let low : e.connection < w.count = k.below e h in omega arith

headline-side : (joined : Bool) (w : World) → Sound (λ x. joined && x == 0) w → (side : Side) → HasHeadlineAt joined (λ address. true) (site_of w side)
headline-side joined w s A = headline-at joined (λ address. true) w.a w.count s.a s.owned_a (λ e h. (w.b, paired joined w s e.connection))
headline-side joined w s B = headline-at joined (λ address. true) w.b w.count s.b s.owned_b (λ e h. (w.a, swapped-pair (joined && e.connection == 0) w.a w.b e.connection (paired joined w s e.connection)))

-- a connection that hasn't begun has no end that stands
numbers : (joined : Bool) (w : World) → Sound (λ x. joined && x == 0) w → (x : ℕ) → AgreeBetween w.a w.b x
numbers joined w s x = elim (less-or-not x w.count) [
  | inl low ↦ agree-between (joined && x == 0) w.a w.b w.count x s.a s.b (s.pairs x low)
  | inr far ↦ agree-none w.a w.b w.count x s.a far
]

has-headline : (joined : Bool) (w : World) → Sound (λ x. joined && x == 0) w → HasHeadline joined w
has-headline joined w s = record {
  hosts = headline-side joined w s;
  ends = λ x. headline-between (joined && x == 0) w.a w.b w.count x s.a s.b (paired joined w s x);
  numbers = numbers joined w s;
}

pub headline-run : OfEachRun (HasHeadline false)
headline-run a b h es w r = has-headline false w (sound-run a b h es w r)

pub headline-joined-run : OfEachJoinedRun (HasHeadline true)
headline-joined-run a b h es w r = has-headline true w (sound-joined-run a b h es w r)

pub headline-list : OfEachList (HasHeadline false)
headline-list a b h events answers w r = has-headline false w (sound-list a b h events answers w r)

pub headline-joined-list : OfEachJoinedList (HasHeadline true)
headline-joined-list a b h events answers w r = has-headline true w (sound-joined-list a b h events answers w r)
