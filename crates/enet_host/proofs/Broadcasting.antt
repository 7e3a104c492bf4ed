-- Submissions to several peers, packet by packet and peer by peer.
use Rattle.std.proofs.Common.{◌≡◌, ℕ, ◌+◌, ◌<◌, Bool, true, false, cond, if◌then◌else◌, not, ◌||◌, nat_lt, nat_le, Option, Some, None, Result, Ok, Err, List, [], ◌∷◌, ◌++◌, length, take, get_or, map, refl, sym, ◌∙◌, ap, subst}
use Rattle.std.proofs.lemmas.List.{append-nil, take_more}
use Rattle.std.proofs.lemmas.List.{map-append}
use Rattle.std.proofs.lemmas.List.Elements.{filter-append}
use Rattle.std.proofs.lemmas.List.Concat.{flat_map-append}
use Rattle.std.specs.List.{filter}
use Rattle.std.specs.Result.{result_and}
use Rattle.std.specs.Option.{unwrap_or}
use Rattle.enet_codec.specs.declared.event.PeerRef.{PeerRef}
use Rattle.enet_codec.specs.declared.event.Outward.{Outward}
use Rattle.enet_codec.specs.declared.refusal.Refusal.{Refusal}
use Rattle.enet_codec.specs.declared.refusal.Refusal.TheVariants.{Memory, NotConnected, NoSuchChannel, TooLarge}
use Rattle.enet_codec.specs.Outward.{goes_to, Errand, errands, errands_for}
use Rattle.enet_fragment.specs.Cutting.{piece_count}
use Rattle.enet_sender.specs.CommandChoice.{Packet, fragment_limit}
use Rattle.enet_peer.specs.Peering.{Peering}
use Rattle.enet_peer.specs.Calls.{is_connected}
use Rattle.enet_slot.specs.Slot.{SlotState}
use Rattle.enet_outbox.specs.declared.parts.SendLimit.{SendLimit}
use Rattle.enet_outbox.specs.Outstanding.{is_full}
use Rattle.enet_slot.specs.Calls.{IsRefusedBy, kept, on_peer_in, or_else_full, or_full, submission, submitted_unless, refused_in, unless_full}
use Rattle.enet_host.specs.Calls.{put_back, on_slot, on_named}
use Rattle.enet_host.specs.Foretelling.{submission_refusal}
use Rattle.enet_host.specs.Host.{Host, KeepsRest, slot_named, peer_in}
use Rattle.enet_host.specs.Broadcast.{CarriesOut, CarriesOutAll, is_told, first_told, SubmitsEach}

abbrev Answer : Type 0
Answer = Result (Unit {0}) Refusal

all-append : (limit : Option SendLimit) (es fs : List Errand) (xs ys : List Answer) (old mid new : List SlotState) → CarriesOutAll limit es xs old mid → CarriesOutAll limit fs ys mid new → CarriesOutAll limit (es ++ fs) (xs ++ ys) old new
all-append limit [] fs [] ys old mid new one two = subst (λ (s : List SlotState). CarriesOutAll limit fs ys s new) one two
all-append limit [] fs (x ∷ xs) ys old mid new one two = absurd one
all-append limit (e ∷ es) fs [] ys old mid new one two = absurd one
all-append limit (e ∷ es) fs (x ∷ xs) ys old mid new one two = (one.0, one.1, all-append limit es fs xs ys one.0 mid new one.2 two)

told-if : (b : Bool) (why : Refusal) (r s : Answer) → (if b then Err why else (result_and r s)) ≡ result_and (if b then Err why else r) s
told-if true why r s = refl
told-if false why r s = refl

told-append : (xs ys : List Answer) → first_told (xs ++ ys) ≡ result_and (first_told xs) (first_told ys)
told-append [] ys = refl
told-append (Ok done ∷ xs) ys = told-append xs ys
told-append (Err why ∷ xs) ys = ap (λ (r : Answer). if is_told why then Err why else r) (told-append xs ys) ∙ told-if (is_told why) why (first_told xs) (first_told ys)

pub each-none : (limit : Option SendLimit) (old : List SlotState) → SubmitsEach limit [] (Ok tt) old old
each-none limit old = record { answers = []; done = refl; first = refl }

pub each-append : (limit : Option SendLimit) (es fs : List Errand) (r s : Answer) (old mid new : List SlotState) → SubmitsEach limit es r old mid → SubmitsEach limit fs s mid new → SubmitsEach limit (es ++ fs) (result_and r s) old new
each-append limit es fs r s old mid new one two = record {
  answers = one.answers ++ two.answers;
  done = all-append limit es fs one.answers two.answers old mid new one.done two.done;
  first = ap (λ (x : Answer). result_and x s) one.first ∙ ap (λ (x : Answer). result_and (first_told one.answers) x) two.first ∙ sym (told-append one.answers two.answers);
}

each-one : (limit : Option SendLimit) (e : Errand) (answer told : Answer) (old new : List SlotState) → CarriesOut limit e answer old new → told ≡ first_told (answer ∷ []) → SubmitsEach limit (e ∷ []) told old new
each-one limit e answer told old new does first = record { answers = answer ∷ []; done = (new, does, refl); first = first }

-- one packet is a peer's errand where the peer gets it
errand-of : (packet : Outward) (peer : PeerRef) (b : Bool) → goes_to packet peer ≡ b → errands_for (packet ∷ []) peer ≡ cond b (record { peer = peer; packet = packet } ∷ []) []
errand-of packet peer true is = ap (λ (c : Bool). map (λ (q : Outward). record { peer = peer; packet = q }) (cond c (packet ∷ []) [])) is
errand-of packet peer false is = ap (λ (c : Bool). map (λ (q : Outward). record { peer = peer; packet = q }) (cond c (packet ∷ []) [])) is

pub one-goes : (limit : Option SendLimit) (packet : Outward) (peer : PeerRef) (answer told : Answer) (old new : List SlotState) → goes_to packet peer ≡ true → CarriesOut limit (record { peer = peer; packet = packet }) answer old new
    → told ≡ first_told (answer ∷ []) → SubmitsEach limit (errands_for (packet ∷ []) peer) told old new
one-goes limit packet peer answer told old new goes does first =
    subst (λ (es : List Errand). SubmitsEach limit es told old new) (sym (errand-of packet peer true goes)) (each-one limit (record { peer = peer; packet = packet }) answer told old new does first)

pub one-stays : (limit : Option SendLimit) (packet : Outward) (peer : PeerRef) (old : List SlotState) → goes_to packet peer ≡ false → SubmitsEach limit (errands_for (packet ∷ []) peer) (Ok tt) old old
one-stays limit packet peer old stays = subst (λ (es : List Errand). SubmitsEach limit es (Ok tt) old old) (sym (errand-of packet peer false stays)) (each-none limit old)

-- a packet more
errands_for-append : (peer : PeerRef) (ps qs : List Outward) → errands_for (ps ++ qs) peer ≡ errands_for ps peer ++ errands_for qs peer
errands_for-append peer ps qs =
    ap (map (λ (q : Outward). record { peer = peer; packet = q })) (filter-append (λ (q : Outward). goes_to q peer) ps qs)
    ∙ map-append (λ (q : Outward). record { peer = peer; packet = q }) (filter (λ (q : Outward). goes_to q peer) ps) (filter (λ (q : Outward). goes_to q peer) qs)

pub packet-more : (limit : Option SendLimit) (peer : PeerRef) (packets : List Outward) (i : ℕ) (packet : Outward) (r s : Answer) (old mid new : List SlotState) → i < length packets → packet ≡ get_or packets i packet
    → SubmitsEach limit (errands_for (take i packets) peer) r old mid → SubmitsEach limit (errands_for (packet ∷ []) peer) s mid new
    → SubmitsEach limit (errands_for (take (i + 1) packets) peer) (result_and r s) old new
packet-more limit peer packets i packet r s old mid new inside is one two =
    subst (λ (es : List Errand). SubmitsEach limit es (result_and r s) old new)
    (sym (ap (λ (ps : List Outward). errands_for ps peer) (take_more packets i packet inside ∙ ap (λ (q : Outward). take i packets ++ q ∷ []) (sym is))
    ∙ errands_for-append peer (take i packets) (packet ∷ [])))
    (each-append limit (errands_for (take i packets) peer) (errands_for (packet ∷ []) peer) r s old mid new one two)

-- a peer more
pub peer-more : (limit : Option SendLimit) (peers : List PeerRef) (packets : List Outward) (i : ℕ) (d : PeerRef) (r s : Answer) (old mid new : List SlotState) → i < length peers
    → SubmitsEach limit (errands (take i peers) packets) r old mid → SubmitsEach limit (errands_for packets (get_or peers i d)) s mid new
    → SubmitsEach limit (errands (take (i + 1) peers) packets) (result_and r s) old new
peer-more limit peers packets i d r s old mid new inside one two =
    subst (λ (es : List Errand). SubmitsEach limit es (result_and r s) old new)
    (ap (λ (es : List Errand). errands (take i peers) packets ++ es) (sym (append-nil (errands_for packets (get_or peers i d))))
    ∙ sym (ap (λ (ps : List PeerRef). errands ps packets) (take_more peers i d inside) ∙ flat_map-append (errands_for packets) (take i peers) (get_or peers i d ∷ [])))
    (each-append limit (errands (take i peers) packets) (errands_for packets (get_or peers i d)) r s old mid new one two)

-- one call after another changes slots alone
pub rest-after : (old mid new : Host) → KeepsRest old mid → KeepsRest mid new → KeepsRest old new
rest-after old mid new one two = two ∙ ap (λ (h : Host). record h { slots = new.slots }) one

-- and the limit stays
pub same-limit : {es : List Errand} {told : Answer} {before after : List SlotState} (old mid : Host) → KeepsRest old mid → SubmitsEach mid.send_limit es told before after → SubmitsEach old.send_limit es told before after
same-limit {es} {told} {before} {after} old mid rest each = subst (λ (l : Option SendLimit). SubmitsEach l es told before after) (ap (λ (h : Host). h.send_limit) rest) each

-- where no copy of the body can be had, the submission is refused for want of memory, if nothing else refuses it
abbrev unless : Bool → Result Peering Refusal → Result Peering Refusal
unless full r = cond full (or_full r) r

refused-by : (slots : List SlotState) (i channel : ℕ) (s : SlotState) (p : Peering) (q : Packet) (a b d full : Bool)
    → IsRefusedBy (unwrap_or (or_else_full full (cond a (Some NotConnected) (cond b (Some NoSuchChannel) (cond d (Some TooLarge) None)))) Memory)
    (put_back slots i (kept s (unless full (submitted_unless p channel q (cond a (Some NotConnected) (cond b (Some NoSuchChannel) (cond d (Some TooLarge) None)))))))
refused-by slots i channel s p q true b d true = refl
refused-by slots i channel s p q true b d false = refl
refused-by slots i channel s p q false true d true = refl
refused-by slots i channel s p q false true d false = refl
refused-by slots i channel s p q false false true true = refl
refused-by slots i channel s p q false false true false = refl
refused-by slots i channel s p q false false false true = refl
refused-by slots i channel s p q false false false false = refl

refused-in : (limit : Option SendLimit) (slots : List SlotState) (i channel : ℕ) (s : SlotState) (q : Packet) (o : Option Peering)
    → IsRefusedBy (unwrap_or (refused_in limit channel (length q.body) o) Memory) (put_back slots i (on_peer_in s (unless_full limit (submission channel q)) o))
refused-in limit slots i channel s q None = refl
refused-in limit slots i channel s q (Some p) =
    refused-by slots i channel s p q (not (is_connected p.state)) (nat_le (length p.outbox.senders) channel)
    (nat_lt p.limits.max_packet (length q.body) || nat_lt fragment_limit (piece_count (length q.body) p.terms.mtu)) (is_full limit p.outbox)

refused-slot : (limit : Option SendLimit) (slots : List SlotState) (i channel : ℕ) (q : Packet) (o : Option SlotState)
    → IsRefusedBy (unwrap_or (refused_in limit channel (length q.body) (peer_in o)) Memory) (on_slot slots i (unless_full limit (submission channel q)) o)
refused-slot limit slots i channel q None = refl
refused-slot limit slots i channel q (Some s) = refused-in limit slots i channel s q s.peer

pub refused-named : (limit : Option SendLimit) (slots : List SlotState) (name : PeerRef) (channel : ℕ) (q : Packet) (why : Refusal)
    → why ≡ unwrap_or (submission_refusal limit slots name channel (length q.body)) Memory → IsRefusedBy why (on_named slots name (unless_full limit (submission channel q)))
refused-named limit slots name channel q why is =
    subst (λ (w : Refusal). IsRefusedBy w (on_named slots name (unless_full limit (submission channel q)))) (sym is) (refused-slot limit slots name.slot channel q (slot_named slots name))
