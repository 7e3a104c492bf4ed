-- What is kept of a host stays in its bounds.
use Rattle.std.proofs.Common.{◌≡◌, ◌≢◌, ℕ, zero, suc, ◌+◌, ◌*◌, ◌^◌, Bool, true, false, cond, List, [], ◌∷◌, ◌++◌, length, map, refl, sym, ap, subst, ◌∙◌, arith, inl, inr, ◌⊎◌, Option, Some, None, slice_get, slice_set}
use Rattle.std.proofs.lemmas.List.{length-append, length-set}
use Rattle.enet_codec.specs.declared.address.Addr.{Addr}
use Rattle.enet_codec.specs.declared.event.Event.{Event}
use Rattle.enet_codec.specs.declared.event.Event.TheVariants as events
use Rattle.enet_codec.specs.declared.event.PeerRef.{PeerRef}
use Rattle.enet_codec.specs.declared.packet.Packet.{Packet}
use Rattle.law_connection.specs.LinkSteps.{Has}
use Rattle.law_connection.proofs.Lists.{Has-push_cases, Has-slice_get}
use Rattle.law_connection.proofs.Emits.{Has-from_map}
use Rattle.law_network.specs.Log.{Logged, packets_at, with_submitted_packet, with_taken}
use Rattle.law_network.specs.Network.{HostEnd, is_same_name, with_end}
use Rattle.law_network.specs.Steps.{with_packet, with_event}
use Rattle.law_network.proofs.Counting.{counted-long}
use Rattle.enet_site.specs.Records.{AreBelow, AreApart, Notes}
use Rattle.enet_site.specs.RecordsPrivate.Records.{IsKept, AreKept}
use Rattle.enet_site.proofs.Bounds.{below-after}
use Rattle.enet_site.proofs.RecordPlaces.{has-set}

-- names stay

from-map : {X Y : Type 0} (f : X → Y) (xs : List X) (i : ℕ) (y : Y) → slice_get (map f xs) i ≡ Some y → (x : X) × (slice_get xs i ≡ Some x) × (f x ≡ y)
from-map f [] i y h = absurd (cc)
from-map f (x ∷ xs) zero y h = (x, refl, cc)
from-map f (x ∷ xs) (suc i) y h = from-map f xs i y h

with-name : (change : HostEnd → HostEnd) (b : Bool) (e : HostEnd) → (change e).name ≡ e.name → (cond b (change e) e).name ≡ e.name
with-name change true e h = h
with-name change false e h = refl

apart-changed : (change : HostEnd → HostEnd) (name : PeerRef) (ends : List HostEnd) → ((e : HostEnd) → (change e).name ≡ e.name) → AreApart ends → AreApart (with_end change name ends)
apart-changed change name ends names apart i j e f there also same =
    let one : HostEnd → HostEnd = λ (e : HostEnd). cond (is_same_name e.name name) (change e) e in
    let x = from-map one ends i e there in
    let y = from-map one ends j f also in
    apart i j x.0 y.0 x.1 y.1
    (sym (with-name change (is_same_name (x.0).name name) x.0 (names x.0)) ∙ ap (λ (z : HostEnd). z.name) x.2 ∙ same ∙ ap (λ (z : HostEnd). z.name) (sym y.2) ∙ with-name change (is_same_name (y.0).name name) y.0 (names y.0))

-- bounds stay

kept-cond : (n : ℕ) (b : Bool) (f e : HostEnd) → IsKept n f → IsKept n e → IsKept n (cond b f e)
kept-cond n true f e k l = k
kept-cond n false f e k l = l

kept-longer : (n : ℕ) (e : HostEnd) → IsKept n e → IsKept (n + 1) e
kept-longer n e k = record { channels = k.channels; numbers = k.numbers; below = λ i. (let b = k.below i in omega arith) }

-- a datagram is logged
pub kept-noted : (far : ℕ → List ℕ) (name : PeerRef) (to : Addr) (text : List ℕ) (old new : List HostEnd) (logged : Logged) (log after : List Logged) → AreKept log old → Notes far (record { name = name; to = to; text = text }) old new logged → after ≡ log ++ logged ∷ [] → AreKept after new
kept-noted far name to text old new logged log after k n grown =
    subst (λ (l : List Logged). AreKept l new) (sym grown)
    (subst (AreKept (log ++ logged ∷ [])) (sym n.ends) (record { each = each; apart = apart-changed change name old (λ e. refl) k.apart }))
  where
    change : HostEnd → HostEnd
    change e = record e { greatest = n.greatest }

    own : IsKept (length log) n.own
    own = k.each n.own n.there

    long : length n.greatest ≡ 256
    long = (let c = n.counts in ap length c.counted ∙ counted-long c.read (n.own).greatest ∙ own.numbers)

    below : AreBelow (2 + 2 ^ 20 * (length log + 1)) n.greatest
    below i = (let b = below-after (2 + 2 ^ 20 * length log) text (n.own).greatest n.greatest _ n.marks n.counts own.below i in omega arith)

    each : (e : HostEnd) → Has (with_end (λ (e : HostEnd). record e { greatest = n.greatest }) name old) e → IsKept (length (log ++ logged ∷ [])) e
    each e h =
        let x = Has-from_map (λ (e : HostEnd). cond (is_same_name e.name name) (record e { greatest = n.greatest }) e) old e h in
        let more : length (log ++ logged ∷ []) ≡ length log + 1 = length-append log (logged ∷ []) in
        let o = k.each x.0 x.1 in
        subst (λ (m : ℕ). IsKept m e) (sym more)
        (subst (IsKept (length log + 1)) x.2
        (kept-cond (length log + 1) (is_same_name (x.0).name name) (record x.0 { greatest = n.greatest }) x.0 (record { channels = o.channels; numbers = long; below = below }) (kept-longer (length log) x.0 o)))

-- an end begins whose name no other has

from-push : {X : Type 0} (xs : List X) (x y : X) (i : ℕ) → slice_get (xs ++ x ∷ []) i ≡ Some y → (slice_get xs i ≡ Some y) ⊎ ((i ≡ length xs) × (y ≡ x))
from-push [] x y zero h = inr (refl, cc)
from-push [] x y (suc i) h = absurd (let z : ◌≡◌ {A = Option _} None (Some y) = h in cc)
from-push (z ∷ xs) x y zero h = inl h
from-push (z ∷ xs) x y (suc i) h = elim (from-push xs x y i h) [ inl e ↦ inl e | inr e ↦ inr (ap suc e.0, e.1) ]

pub kept-more : (log : List Logged) (ends : List HostEnd) (e : HostEnd) → AreKept log ends → IsKept (length log) e → ((f : HostEnd) → Has ends f → f.name ≢ e.name) → AreKept log (ends ++ e ∷ [])
kept-more log ends e k own other = record {
  each = λ f h. elim (Has-push_cases ends e f h) [ inl before ↦ k.each f before | inr is ↦ subst (IsKept (length log)) is own ];
  apart = λ i j f g there also same. apart i j f g (from-push ends e f i there) (from-push ends e g j also) same;
}
  where
    apart : (i j : ℕ) (f g : HostEnd) → (slice_get ends i ≡ Some f) ⊎ ((i ≡ length ends) × (f ≡ e)) → (slice_get ends j ≡ Some g) ⊎ ((j ≡ length ends) × (g ≡ e)) → f.name ≡ g.name → i ≡ j
    apart i j f g (inl a) (inl b) same = k.apart i j f g a b same
    apart i j f g (inl a) (inr b) same = absurd (other f (Has-slice_get ends i f a) (same ∙ ap (λ (z : HostEnd). z.name) b.1))
    apart i j f g (inr a) (inl b) same = absurd (other g (Has-slice_get ends j g b) (sym same ∙ ap (λ (z : HostEnd). z.name) a.1))
    apart i j f g (inr a) (inr b) same = a.0 ∙ sym b.0

-- one end is changed

set-names : (ends : List HostEnd) (i : ℕ) (e f : HostEnd) → slice_get ends i ≡ Some e → f.name ≡ e.name → (j : ℕ) (g : HostEnd) → slice_get (slice_set ends i f) j ≡ Some g → (h : HostEnd) × (slice_get ends j ≡ Some h) × (h.name ≡ g.name)
set-names [] i e f there same j g is = absurd (let z : ◌≡◌ {A = Option HostEnd} None (Some e) = there in cc)
set-names (x ∷ ends) zero e f there same zero g is =
    (x, refl, (let y : ◌≡◌ {A = Option HostEnd} (Some x) (Some e) = there in let z : ◌≡◌ {A = Option HostEnd} (Some f) (Some g) = is in let a : x ≡ e = cc in let b : f ≡ g = cc in ap (λ (h : HostEnd). h.name) a ∙ sym same ∙ ap (λ (h : HostEnd). h.name) b))
set-names (x ∷ ends) zero e f there same (suc j) g is = (g, is, refl)
set-names (x ∷ ends) (suc i) e f there same zero g is = (g, is, refl)
set-names (x ∷ ends) (suc i) e f there same (suc j) g is = set-names ends i e f there same j g is

pub kept-set : (log : List Logged) (ends : List HostEnd) (i : ℕ) (e f : HostEnd) → AreKept log ends → slice_get ends i ≡ Some e → f.name ≡ e.name → IsKept (length log) f → AreKept log (slice_set ends i f)
kept-set log ends i e f k there same own = record {
  each = λ g h. elim (has-set ends i f g h) [ inl is ↦ subst (IsKept (length log)) is own | inr before ↦ k.each g before ];
  apart = λ a b x y at also is.
      (let c = set-names ends i e f there same a x at in let d = set-names ends i e f there same b y also in k.apart a b c.0 d.0 c.1 d.1 (c.2 ∙ is ∙ sym d.2));
}

-- by what is kept of a packet or an event

pub packet-kept : (n mtu : ℕ) (q : Packet) (e : HostEnd) → IsKept n e → IsKept n (with_packet mtu q e)
packet-kept n mtu q e k = record { channels = length-set e.channels q.channel (with_submitted_packet q (packets_at e.channels q.channel)) ∙ k.channels; numbers = k.numbers; below = k.below }

pub event-kept : (n : ℕ) (event : Event) (e : HostEnd) → IsKept n e → IsKept n (with_event event e)
event-kept n (events.Receive name q) e k = record { channels = length-set e.channels q.channel (with_taken q (packets_at e.channels q.channel)) ∙ k.channels; numbers = k.numbers; below = k.below }
event-kept n _ e k = record { channels = k.channels; numbers = k.numbers; below = k.below }
