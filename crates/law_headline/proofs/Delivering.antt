-- What an end has nothing left to send of arrived at the other one, by the law of its connection.
use Rattle.std.proofs.Common.{◌≡◌, ◌<◌, ◌≤◌, ℕ, ◌++◌, Bool, List, sym, ap, subst, ◌∙◌, inl, inr, arith, Option, Some, None}
use Rattle.enet_packets.specs.declared.incoming_packet.Dispatched.{Dispatched}
use Rattle.enet_sender.specs.CommandChoice.{carried}
use Rattle.enet_sender.specs.CommandChoice as command_choice
use Rattle.law_connection.specs.Connection.{End, of_channel, packets_of, in_sequence}
use Rattle.law_connection.specs.Law.{mtu_of, mtu_in}
use Rattle.law_connection.specs.LinkSteps.{bodies_of}
use Rattle.law_progress.specs.Delivered.{IsDelivered}
use Rattle.law_progress.specs.Links.{AllDispatched}
use Rattle.law_progress.proofs.Delivered.{delivered-forth, delivered-back}
use Rattle.law_network.specs.Law.{ShowsAt}
use Rattle.law_network.specs.Log.{packets_at}
use Rattle.law_network.specs.Network.{HostEnd, Site, end_of}
use Rattle.law_network.specs.Numbers.{Stands}
use Rattle.law_network.specs.Shown.{Shows}
use Rattle.law_network.proofs.Agreed.{same-peer}
use Rattle.law_network.proofs.Channels.{same-going, same-come}
use Rattle.law_network.proofs.Delivering.{end-there}
use Rattle.law_network.proofs.Submitting.{same-some}
use Rattle.law_network.proofs.Worlds.{KeptEither, Pair, IsHost, end-none}
use Rattle.law_headline.specs.Delivered.{ArrivesFrom, ArrivesBetween}

-- an end that stands is the one that is shown
pub standing : (s : Site) (count x : ℕ) (own : End) → IsHost s count → ShowsAt s x own → (a : Stands s x) → Shows s a.end own
standing s count x own k (inl shown) a =
    let there : end_of x s.ends ≡ Some shown.0 = subst (λ (n : ℕ). end_of n s.ends ≡ Some shown.0) shown.2 (end-there s.ends shown.0 shown.1 (k.apart shown.0 shown.1)) in
    let same : shown.0 ≡ a.end = same-some shown.0 a.end (sym there ∙ a.there) in
    subst (λ (e : HostEnd). Shows s e own) same shown.3
standing s count x own k (inr none) a = absurd (let y : ◌≡◌ {A = Option HostEnd} None (Some a.end) = sym (end-none s.ends x none.0) ∙ a.there in cc)

arrives : (s t : Site) (count x : ℕ) (own far : End) → IsHost s count → IsHost t count → ShowsAt s x own → ShowsAt t x far → ((channel : ℕ) → channel < 255 → IsDelivered own far channel) → ArrivesFrom s t x
arrives s t count x own far k ko here there all from to channel low nothing dispatches =
    subst (λ (l : List command_choice.Packet). AllDispatched (carried from.peer.terms.mtu l) (bodies_of (in_sequence channel (packets_at to.end.channels channel).taken ++ in_sequence channel to.peer.inbox.untaken))) submitted
    (subst (λ m. AllDispatched (carried m (of_channel m channel own.submitted)) (bodies_of (in_sequence channel (packets_at to.end.channels channel).taken ++ in_sequence channel to.peer.inbox.untaken))) mtu
    (subst (λ (l : List Dispatched). AllDispatched (carried (mtu_of own) (of_channel (mtu_of own) channel own.submitted)) (bodies_of (l ++ in_sequence channel to.peer.inbox.untaken))) taken
    (all channel low from.peer to.peer (record { from_is = mine; to_is = theirs; sends = nothing.sends; dispatches = dispatches; none = nothing.none }))))
  where
    a : Shows s from.end own
    a = standing s count x own k here from

    b : Shows t to.end far
    b = standing t count x far ko there to

    mine : own.peer ≡ Some from.peer
    mine = a.has ∙ ap Some (same-peer s.host from.end.name a.peer from.peer a.shows from.is)

    theirs : far.peer ≡ Some to.peer
    theirs = b.has ∙ ap Some (same-peer t.host to.end.name b.peer to.peer b.shows to.is)

    mtu : mtu_of own ≡ from.peer.terms.mtu
    mtu = ap mtu_in mine

    submitted : of_channel from.peer.terms.mtu channel own.submitted ≡ of_channel from.peer.terms.mtu channel (packets_at from.end.channels channel).submitted
    submitted = sym (same-going from.peer.terms.mtu channel own.submitted) ∙ ap (of_channel from.peer.terms.mtu channel) (sym (a.submitted channel (omega arith)))

    taken : in_sequence channel (packets_of far.events) ≡ in_sequence channel (packets_at to.end.channels channel).taken
    taken = sym (same-come channel (packets_of far.events)) ∙ ap (in_sequence channel) (sym (b.taken channel (omega arith)))

delivered-either : (j : Bool) (one two : End) → KeptEither j one two → (channel : ℕ) → channel < 255 → IsDelivered one two channel × IsDelivered two one channel
delivered-either j one two (inl k) channel low = (delivered-forth j (record { one = one; two = two }) channel k.connection low, delivered-back j (record { one = one; two = two }) channel k.connection low)
delivered-either j one two (inr k) channel low = (delivered-back j (record { one = two; two = one }) channel k.connection low, delivered-forth j (record { one = two; two = one }) channel k.connection low)

pub arrives-between : (j : Bool) (s t : Site) (count x : ℕ) → IsHost s count → IsHost t count → Pair j s t x → ArrivesBetween s t x
arrives-between j s t count x k ko p = (
  arrives s t count x p.one p.two k ko p.here p.there (λ channel low. (delivered-either j p.one p.two p.kept channel low).0),
  arrives t s count x p.two p.one ko k p.there p.here (λ channel low. (delivered-either j p.one p.two p.kept channel low).1),
)

-- of a connection that hasn't begun no end stands
none-stands : (s : Site) (count x : ℕ) → IsHost s count → count ≤ x → Stands s x → ⊥
none-stands s count x k far a =
    let empty : end_of x s.ends ≡ None = end-none s.ends x (λ e h of. let low : e.connection < count = k.below e h in let same : e.connection ≡ x = of in omega arith) in
    let y : ◌≡◌ {A = Option HostEnd} None (Some a.end) = sym empty ∙ a.there in
    cc

pub arrives-none : (s t : Site) (count x : ℕ) → IsHost s count → IsHost t count → count ≤ x → ArrivesBetween s t x
arrives-none s t count x k ko far = ((λ from. absurd (none-stands s count x k far from)), (λ from. absurd (none-stands t count x ko far from)))
