-- An event is taken, at its site.
use Rattle.std.proofs.Common.{◌≡◌, ℕ, List, [], ◌∷◌, ◌++◌, length, sym, ap, subst, ◌∙◌, Option, Some, None, Result, Ok, Err, IfOk, IfErr, OnErr, slice_set}
use Rattle.std.proofs.lemmas.List.Folds.{list_any_at}
use Rattle.std.proofs.lemmas.Option.{get_or_from_slice_get, slice_get_within}
use Rattle.std.specs.List.{position}
use Rattle.std.specs.Option.{option_and_then}
use Rattle.enet_codec.specs.declared.event.Event.{Event}
use Rattle.enet_codec.specs.declared.event.Event.TheVariants as events
use Rattle.enet_codec.specs.declared.event.PeerRef.{PeerRef}
use Rattle.enet_codec.specs.declared.packet.Packet.{Packet}
use Rattle.enet_codec.specs.declared.refusal.Refusal.{Refusal}
use Rattle.enet_codec.specs.declared.refusal.Refusal.TheVariants.{Memory}
use Rattle.enet_slot.specs.Calls.{tells}
use Rattle.enet_slot.specs.Slot.{SlotState}
use Rattle.enet_host.specs.Host.{Host}
use Rattle.enet_host.specs.Calls.{Takes, address_named}
use Rattle.enet_host.specs.Foretelling.{teller_of, packet_of, Foretells, IsTeller}
use Rattle.law_network.specs.Calls as call
use Rattle.law_network.specs.Log.{Logged}
use Rattle.law_network.specs.Network.{HostEnd, is_same_name, with_end}
use Rattle.law_network.specs.Steps.{with_event, after_event}
use Rattle.law_network.specs.World.{RefusesTake}
use Rattle.enet_site.specs.Records.{Records, AreApart}
use Rattle.enet_site.specs.RecordsPrivate.Records.{IsKept, AreKept}
use Rattle.enet_site.proofs.Ends.{Placed, with-one, with-none}
use Rattle.enet_site.proofs.Keeps.{kept-set, event-kept}
use Rattle.enet_site.specs.Private.Sites.{CallsOn, told}
use Rattle.enet_site.proofs.Submits.{none-of}

-- a word is kept among the events alone
pub word-keeps : (event : Event) (e : HostEnd) (all : List Event) → None ≡ packet_of event → all ≡ e.events ++ event ∷ [] → record e { events = all } ≡ with_event event e
word-keeps (events.Connect name info) e all none same = (λ i. record e { events = same i })
word-keeps (events.Receive name q) e all none same = absurd (let y : ◌≡◌ {A = Option Packet} None (Some q) = none in cc)
word-keeps (events.Disconnect name info) e all none same = (λ i. record e { events = same i })
word-keeps (events.Refused seat number why) e all none same = (λ i. record e { events = same i })

-- it is kept at the end that it names
named-one : (event : Event) (name : PeerRef) (ends : List HostEnd) → Some name ≡ teller_of event → after_event event ends ≡ with_end (with_event event) name ends
named-one (events.Connect n info) name ends is = (let same : n ≡ name = (let y : ◌≡◌ {A = Option PeerRef} (Some name) (Some n) = is in cc) in ap (λ (m : PeerRef). with_end (with_event (events.Connect n info)) m ends) same)
named-one (events.Receive n q) name ends is = (let same : n ≡ name = (let y : ◌≡◌ {A = Option PeerRef} (Some name) (Some n) = is in cc) in ap (λ (m : PeerRef). with_end (with_event (events.Receive n q)) m ends) same)
named-one (events.Disconnect n info) name ends is = (let same : n ≡ name = (let y : ◌≡◌ {A = Option PeerRef} (Some name) (Some n) = is in cc) in ap (λ (m : PeerRef). with_end (with_event (events.Disconnect n info)) m ends) same)
named-one (events.Refused seat number why) name ends is = absurd (let y : ◌≡◌ {A = Option PeerRef} (Some name) None = is in cc)

pub kept-told : (r : Result (Option Event) Refusal) (log : List Logged) (ends : List HostEnd) (place : ℕ) (e f : HostEnd) (name : PeerRef) → AreKept log ends → Placed ends name place e → OnErr r (f ≡ e) → IfOk r (λ event. f ≡ told event e)
    → AreKept log (slice_set ends place f)
kept-told (Ok None) log ends place e f name k at same keeps = kept-set log ends place e f k at.at (ap (λ (x : HostEnd). x.name) keeps) (subst (IsKept (length log)) (sym keeps) (k.each e at.there))
kept-told (Ok (Some event)) log ends place e f name k at same keeps =
    kept-set log ends place e f k at.at (ap (λ (x : HostEnd). x.name) keeps) (subst (IsKept (length log)) (sym keeps) (event-kept (length log) event e (k.each e at.there)))
kept-told (Err why) log ends place e f name k at same keeps = kept-set log ends place e f k at.at (ap (λ (x : HostEnd). x.name) same) (subst (IsKept (length log)) (sym same) (k.each e at.there))

pub taken-on : (r : Result (Option Event) Refusal) (old new : Host) (was : Records) (log : List Logged) (ends : List HostEnd) (place : ℕ) (e f : HostEnd) (name : PeerRef) → record { log = log; ends = ends } ≡ was → AreApart ends → Placed ends name place e
    → Foretells teller_of old (Some name) → IfOk r (λ event. Takes event old new) → IfOk r (λ event. f ≡ told event e) → IfOk r (λ event. CallsOn 0 (call.NextEvent event) (record { host = old; records = was }) (record { host = new; records = record { log = log; ends = slice_set ends place f } }))
taken-on (Err why) old new was log ends place e f name view apart at tells takes keeps = tt
taken-on (Ok None) old new was log ends place e f name view apart at tells takes keeps = absurd (let y : ◌≡◌ {A = Option PeerRef} (Some name) None = tells None new takes in cc)
taken-on (Ok (Some event)) old new was log ends place e f name view apart at tells takes keeps =
    subst (λ (w : Records). CallsOn 0 (call.NextEvent (Some event)) (record { host = old; records = w }) (record { host = new; records = record { log = log; ends = slice_set ends place f } })) view
    (λ address. (takes, (λ i. record { address = address; host = new; log = log; ends = same i })))
  where
    same : slice_set ends place f ≡ after_event event ends
    same = ap (slice_set ends place) keeps ∙ sym (with-one (with_event event) name ends place e apart at.at at.named) ∙ sym (named-one event name ends (tells (Some event) new takes))

pub told-by : (h : Host) (own name : PeerRef) → own ≡ name → Foretells teller_of h (Some name) → Foretells teller_of h (Some own)
told-by h own name same tells = subst (λ (n : PeerRef). Foretells teller_of h (Some n)) (sym same) tells

-- a peer that no end has tells, and nothing is kept
pub taken-off : (r : Option Event) (old new : Host) (was : Records) (log : List Logged) (ends xs : List HostEnd) (name : PeerRef) → record { log = log; ends = ends } ≡ was → xs ≡ ends → None ≡ position (λ (f : HostEnd). is_same_name f.name name) xs
    → Foretells teller_of old (Some name) → Takes r old new → CallsOn 0 (call.NextEvent r) (record { host = old; records = was }) (record { host = new; records = was })
taken-off None old new was log ends xs name view same found tells takes = absurd (let y : ◌≡◌ {A = Option PeerRef} (Some name) None = tells None new takes in cc)
taken-off (Some event) old new was log ends xs name view same found tells takes = λ address. (takes, (λ i. record { address = address; host = new; log = was.log; ends = stays i }))
  where
    stays : was.ends ≡ after_event event was.ends
    stays = sym (named-one event name was.ends (tells (Some event) new takes) ∙ with-none (with_event event) name was.ends (none-of was log ends xs name view same found))

-- a peer tells, so an event may be refused
pub refused-of : (r : Result (Option Event) Refusal) (h : Host) (name : PeerRef) → IsTeller h name → IfErr r (λ why. why ≡ Memory) → IfErr r (λ why. RefusesTake why h)
refused-of (Ok event) h name tells-first memory = tt
refused-of (Err why) h name tells-first memory =
    let first = tells-first.first in (
      memory,
      list_any_at tells h.slots name.slot first.slot (slice_get_within h.slots name.slot first.slot first.there)
          (ap tells (get_or_from_slice_get h.slots name.slot first.slot first.slot first.there) ∙ first.here),
    )

-- where the peer is that is foretold
pub from-where : (slots : List SlotState) (h : Host) (found : Option PeerRef) → Foretells teller_of h found
    → Foretells (λ event. option_and_then (address_named slots) (teller_of event)) h (option_and_then (address_named slots) found)
from-where slots h found tells None after taken = ap (option_and_then (address_named slots)) (tells None after taken)
from-where slots h found tells (Some event) after taken = ap (option_and_then (address_named slots)) (tells (Some event) after taken)
