-- Packets for several peers, from one place to the next.
use Rattle.std.proofs.Common.{◌≡◌, ℕ, zero, suc, ◌+◌, ◌<◌, ◌≤◌, Bool, true, false, cond, List, [], ◌∷◌, ◌++◌, length, take, drop, get_or, map, refl, sym, ◌∙◌, ap, append-nil, length-append, arith}
use Rattle.std.specs.List.{filter}
use Rattle.std.proofs.lemmas.List.{take_more, drop_more, map-append, take-append-drop}
use Rattle.std.proofs.lemmas.List.Elements.{filter-append}
use Rattle.std.proofs.lemmas.List.Concat.{flat_map-append}
use Rattle.enet_codec.specs.declared.event.PeerRef.{PeerRef}
use Rattle.enet_codec.specs.declared.event.Outward.{Outward}
use Rattle.enet_codec.specs.Outward.{goes_to, Errand, errands, errands_for}
use Rattle.enet_submit.specs.Broadcast.{errand, errands_from}

-- one packet more in front
front-of : (peer : PeerRef) (packet : Outward) (packets : List Outward) (b : Bool) → goes_to packet peer ≡ b
    → errands_for (packet ∷ packets) peer ≡ cond b (errand peer packet ∷ errands_for packets peer) (errands_for packets peer)
front-of peer packet packets true is = ap (λ (c : Bool). map (errand peer) (cond c (packet ∷ filter (λ p. goes_to p peer) packets) (filter (λ p. goes_to p peer) packets))) is
front-of peer packet packets false is = ap (λ (c : Bool). map (errand peer) (cond c (packet ∷ filter (λ p. goes_to p peer) packets) (filter (λ p. goes_to p peer) packets))) is

pub place-of : (peer : PeerRef) (packets : List Outward) (at : ℕ) (d : Outward) (b : Bool) → at < length packets → goes_to (get_or packets at d) peer ≡ b
    → errands_for (drop at packets) peer ≡ cond b (errand peer (get_or packets at d) ∷ errands_for (drop (at + 1) packets) peer) (errands_for (drop (at + 1) packets) peer)
place-of peer packets at d b inside is = ap (λ (ps : List Outward). errands_for ps peer) (drop_more packets at d inside) ∙ front-of peer (get_or packets at d) (drop (at + 1) packets) b is

pub past : {X : Type 0} (xs : List X) (n : ℕ) → length xs ≤ n → drop n xs ≡ []
past [] zero le = refl
past [] (suc n) le = refl
past (x ∷ xs) zero le = absurd (omega arith)
past (x ∷ xs) (suc n) le = past xs n (omega arith)

-- one peer more in front
pub peer-of : (peers : List PeerRef) (packets : List Outward) (at from : ℕ) (d : PeerRef) → at < length peers
    → errands_from (drop at peers) packets from ≡ errands_for (drop from packets) (get_or peers at d) ++ errands (drop (at + 1) peers) packets
peer-of peers packets at from d inside = ap (λ (ps : List PeerRef). errands_from ps packets from) (drop_more peers at d inside)

pub from-first : (peers : List PeerRef) (packets : List Outward) → errands_from peers packets 0 ≡ errands peers packets
from-first [] packets = refl
from-first (p ∷ ps) packets = refl

-- ---- how many
errands_for-append : (peer : PeerRef) (ps qs : List Outward) → errands_for (ps ++ qs) peer ≡ errands_for ps peer ++ errands_for qs peer
errands_for-append peer ps qs = ap (map (errand peer)) (filter-append (λ (q : Outward). goes_to q peer) ps qs) ∙ map-append (errand peer) (filter (λ (q : Outward). goes_to q peer) ps) (filter (λ (q : Outward). goes_to q peer) qs)

abbrev pub number-of : Bool → ℕ
number-of true = 1
number-of false = 0

one-length : (peer : PeerRef) (packet : Outward) (b : Bool) → goes_to packet peer ≡ b → length (errands_for (packet ∷ []) peer) ≡ number-of b
one-length peer packet true is = ap length (front-of peer packet [] true is)
one-length peer packet false is = ap length (front-of peer packet [] false is)

pub more-for : (peer : PeerRef) (packets : List Outward) (i : ℕ) (d : Outward) (b : Bool) → i < length packets → goes_to (get_or packets i d) peer ≡ b
    → length (errands_for (take (i + 1) packets) peer) ≡ length (errands_for (take i packets) peer) + number-of b
more-for peer packets i d b inside is =
    ap (λ (ps : List Outward). length (errands_for ps peer)) (take_more packets i d inside)
    ∙ (ap length (errands_for-append peer (take i packets) (get_or packets i d ∷ []))
    ∙ (length-append (errands_for (take i packets) peer) (errands_for (get_or packets i d ∷ []) peer)
    ∙ ap (λ (n : ℕ). length (errands_for (take i packets) peer) + n) (one-length peer (get_or packets i d) b is)))

pub more-peers : (peers : List PeerRef) (packets : List Outward) (i : ℕ) (d : PeerRef) → i < length peers
    → length (errands (take (i + 1) peers) packets) ≡ length (errands (take i peers) packets) + length (errands_for packets (get_or peers i d))
more-peers peers packets i d inside =
    ap (λ (ps : List PeerRef). length (errands ps packets)) (take_more peers i d inside)
    ∙ (ap length (flat_map-append (errands_for packets) (take i peers) (get_or peers i d ∷ []))
    ∙ (length-append (errands (take i peers) packets) (errands_for packets (get_or peers i d) ++ [])
    ∙ ap (λ (es : List Errand). length (errands (take i peers) packets) + length es) (append-nil (errands_for packets (get_or peers i d)))))

-- parts are no longer than the whole
pub part-for : (peer : PeerRef) (packets : List Outward) (i : ℕ) → length (errands_for (take i packets) peer) ≤ length (errands_for packets peer)
part-for peer packets i =
    let e : errands_for packets peer ≡ errands_for (take i packets) peer ++ errands_for (drop i packets) peer =
    ap (λ (ps : List Outward). errands_for ps peer) (sym (take-append-drop i packets)) ∙ errands_for-append peer (take i packets) (drop i packets) in
    omega (arith, ap length e, length-append (errands_for (take i packets) peer) (errands_for (drop i packets) peer))

pub part-of : (peers : List PeerRef) (packets : List Outward) (i : ℕ) → length (errands (take i peers) packets) ≤ length (errands peers packets)
part-of peers packets i =
    let e : errands peers packets ≡ errands (take i peers) packets ++ errands (drop i peers) packets =
    ap (λ (ps : List PeerRef). errands ps packets) (sym (take-append-drop i peers)) ∙ flat_map-append (errands_for packets) (take i peers) (drop i peers) in
    omega (arith, ap length e, length-append (errands (take i peers) packets) (errands (drop i peers) packets))
