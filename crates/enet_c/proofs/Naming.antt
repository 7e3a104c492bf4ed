-- A packet to several peers of C's, peer by peer.
use Rattle.std.proofs.Common.{◌≡◌, ℕ, ◌+◌, ◌<◌, Option, Result, List, [], ◌∷◌, ◌++◌, length, take, get_or, map, sym, ◌∙◌, ap, subst}
use Rattle.std.proofs.lemmas.List.{map-append, take_more}
use Rattle.std.proofs.lemmas.List.Concat.{flat_map-append}
use Rattle.std.specs.Result.{result_and}
use Rattle.enet_codec.specs.declared.event.Outward.{Outward}
use Rattle.enet_codec.specs.declared.event.PeerRef.{PeerRef}
use Rattle.enet_codec.specs.declared.refusal.Refusal.{Refusal}
use Rattle.enet_codec.specs.Outward.{Errand, errands, errands_for}
use Rattle.enet_outbox.specs.declared.parts.SendLimit.{SendLimit}
use Rattle.enet_slot.specs.Slot.{SlotState}
use Rattle.enet_host.specs.Host.{Host, KeepsRest}
use Rattle.enet_host.specs.Broadcast.{SubmitsEach}
use Rattle.enet_host.proofs.Broadcasting.{each-append}
use Rattle.enet_c.specs.declared.held.Held.{Held}
use Rattle.enet_c.specs.declared.shapes.CorePeer.{CorePeer}
use Rattle.enet_c.specs.Shapes.{name_meant}

abbrev named : List CorePeer → List PeerRef
named peers = map name_meant peers

errands-more : (peers : List CorePeer) (packets : List Outward) (i : ℕ) (d : CorePeer) → i < length peers
    → errands (named (take (i + 1) peers)) packets ≡ errands (named (take i peers)) packets ++ errands (name_meant (get_or peers i d) ∷ []) packets
errands-more peers packets i d inside =
    ap (λ (ps : List CorePeer). errands (named ps) packets) (take_more peers i d inside)
    ∙ ap (λ (ps : List PeerRef). errands ps packets) (map-append name_meant (take i peers) (get_or peers i d ∷ []))
    ∙ flat_map-append (errands_for packets) (named (take i peers)) (name_meant (get_or peers i d) ∷ [])

pub peer-more : (limit : Option SendLimit) (peers : List CorePeer) (packets : List Outward) (i : ℕ) (d : CorePeer) (name : PeerRef) (r s : Result (Unit {0}) Refusal) (old mid new : List SlotState) → i < length peers
    → name ≡ name_meant (get_or peers i d) → SubmitsEach limit (errands (named (take i peers)) packets) r old mid → SubmitsEach limit (errands (name ∷ []) packets) s mid new
    → SubmitsEach limit (errands (named (take (i + 1) peers)) packets) (result_and r s) old new
peer-more limit peers packets i d name r s old mid new inside is one two =
    subst (λ (es : List Errand). SubmitsEach limit es (result_and r s) old new)
    (ap (λ (n : PeerRef). errands (named (take i peers)) packets ++ errands (n ∷ []) packets) is ∙ sym (errands-more peers packets i d inside))
    (each-append limit (errands (named (take i peers)) packets) (errands (name ∷ []) packets) r s old mid new one two)

-- a call of the host changed slots alone, after calls that did
pub held-after : (old mid : Held) (h : Host) → mid ≡ record old { host = record old.host { slots = mid.host.slots } } → KeepsRest mid.host h
    → record mid { host = h } ≡ record old { host = record old.host { slots = h.slots } }
held-after old mid h one two = ap (λ (k : Host). record mid { host = k }) two ∙ ap (λ (m : Held). record m { host = record m.host { slots = h.slots } }) one

-- and the limit stays
pub same-limit : {es : List Errand} {told : Result (Unit {0}) Refusal} {before after : List SlotState} (old mid : Held) → mid ≡ record old { host = record old.host { slots = mid.host.slots } }
    → SubmitsEach mid.host.send_limit es told before after → SubmitsEach old.host.send_limit es told before after
same-limit {es} {told} {before} {after} old mid rest each =
    subst (λ (l : Option SendLimit). SubmitsEach l es told before after) (ap (λ (h : Held). h.host.send_limit) rest) each
