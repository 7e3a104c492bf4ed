-- Packets that were carried one after another, and where they end.
use Rattle.std.proofs.Common.{◌≡◌, ℕ, ◌+◌, ◌-◌, ◌%◌, ◌<◌, ◌≤◌, ◌==◌, true, false, cond, List, [], ◌∷◌, ◌++◌, length, sym, ap, subst, ◌∙◌, inl, inr, ◌⊎◌, arith}
use Rattle.std.specs.List.{filter}
use Rattle.std.proofs.lemmas.List.{length-append}
use Rattle.std.proofs.lemmas.List.Elements.{filter-append}
use Rattle.enet_packets.specs.declared.incoming_packet.Dispatched.{Dispatched}
use Rattle.enet_receiver.specs.Members.{Has}
use Rattle.enet_senders.proofs.Sets.{slice_get-some}
use Rattle.law_connection.proofs.Runs.{less-or-not}
use Rattle.law_one_end.specs.OneEnd.{Heard}
use Rattle.law_one_end.specs.Carried.{Place, IsCarried, reliable_at, unreliable_at, AreCarried}
use Rattle.law_one_end.specs.Law.{HasNumber}

-- these packets, and what is behind then
abbrev pub RowTo : List Heard → ℕ → ℕ → ℕ → List Dispatched → ℕ → ℕ → Type 0
RowTo came channel front least [] last next = (front ≡ last) × (least ≡ next)
RowTo came channel front least (d ∷ ds) last next =
    ((count : ℕ) × IsCarried came channel (reliable_at (front + 1)) count d.body × ((d.flags == 1) ≡ true) × RowTo came channel (front + count) 0 ds last next)
    ⊎ ((own count : ℕ) × (least ≤ own) × IsCarried came channel (unreliable_at front own) count d.body × ((d.flags == 1) ≡ false) × RowTo came channel front (own + 1) ds last next)

pub row-append : (came : List Heard) (channel a b : ℕ) (ds es : List Dispatched) (c d e f : ℕ) → RowTo came channel a b ds c d → RowTo came channel c d es e f → RowTo came channel a b (ds ++ es) e f
row-append came channel a b [] es c d e f h k = subst (λ x. RowTo came channel x b es e f) (sym h.0) (subst (λ x. RowTo came channel c x es e f) (sym h.1) k)
row-append came channel a b (x ∷ ds) es c d e f (inl h) k = inl (h.0, h.1, h.2, row-append came channel (a + h.0) 0 ds es c d e f h.3 k)
row-append came channel a b (x ∷ ds) es c d e f (inr h) k = inr (h.0, h.1, h.2, h.3, h.4, row-append came channel a (h.0 + 1) ds es c d e f h.5 k)

-- the packets alone
pub row-carried : (came : List Heard) (channel a b : ℕ) (ds : List Dispatched) (c d : ℕ) → RowTo came channel a b ds c d → AreCarried came channel a b ds
row-carried came channel a b [] c d h = tt
row-carried came channel a b (x ∷ ds) c d (inl h) = inl (h.0, h.1, h.2, row-carried came channel (a + h.0) 0 ds c d h.3)
row-carried came channel a b (x ∷ ds) c d (inr h) = inr (h.0, h.1, h.2, h.3, h.4, row-carried came channel a (h.0 + 1) ds c d h.5)

-- those at the front
pub carried-front : (came : List Heard) (channel a b : ℕ) (ds es : List Dispatched) → AreCarried came channel a b (ds ++ es) → AreCarried came channel a b ds
carried-front came channel a b [] es h = tt
carried-front came channel a b (x ∷ ds) es (inl h) = inl (h.0, h.1, h.2, carried-front came channel (a + h.0) 0 ds es h.3)
carried-front came channel a b (x ∷ ds) es (inr h) = inr (h.0, h.1, h.2, h.3, h.4, carried-front came channel a (h.0 + 1) ds es h.5)

-- where more came

abbrev pub Covers : List Heard → List Heard → Type 0
Covers came more = (h : Heard) → Has came h → Has more h

pub carried-more : (came more : List Heard) (channel : ℕ) (at : Place) (count : ℕ) (body : List ℕ) → Covers came more → IsCarried came channel at count body → IsCarried more channel at count body
carried-more came more channel at count body sub h = record {
  pieces = h.pieces;
  many = h.many;
  some_piece = h.some_piece;
  brought = λ i bytes e. (let b = h.brought i bytes e in (b.0, sub b.0 b.1, b.2));
  whole = h.whole;
}

pub row-more : (came more : List Heard) (channel a b : ℕ) (ds : List Dispatched) (c d : ℕ) → Covers came more → RowTo came channel a b ds c d → RowTo more channel a b ds c d
row-more came more channel a b [] c d sub h = h
row-more came more channel a b (x ∷ ds) c d sub (inl h) = inl (h.0, carried-more came more channel (reliable_at (a + 1)) h.0 x.body sub h.1, h.2, row-more came more channel (a + h.0) 0 ds c d sub h.3)
row-more came more channel a b (x ∷ ds) c d sub (inr h) =
    inr (h.0, h.1, h.2, carried-more came more channel (unreliable_at a h.0) h.1 x.body sub h.3, h.4, row-more came more channel a (h.0 + 1) ds c d sub h.5)

pub are-carried-more : (came more : List Heard) (channel a b : ℕ) (ds : List Dispatched) → Covers came more → AreCarried came channel a b ds → AreCarried more channel a b ds
are-carried-more came more channel a b [] sub h = tt
are-carried-more came more channel a b (x ∷ ds) sub (inl h) = inl (h.0, carried-more came more channel (reliable_at (a + 1)) h.0 x.body sub h.1, h.2, are-carried-more came more channel (a + h.0) 0 ds sub h.3)
are-carried-more came more channel a b (x ∷ ds) sub (inr h) =
    inr (h.0, h.1, h.2, carried-more came more channel (unreliable_at a h.0) h.1 x.body sub h.3, h.4, are-carried-more came more channel a (h.0 + 1) ds sub h.5)

-- where a row ends

-- how many packets are reliable
abbrev pub reliable_in : List Dispatched → ℕ
reliable_in ds = length (filter (λ (d : Dispatched). d.flags == 1) ds)

pub reliable-front : (ds es : List Dispatched) → reliable_in ds ≤ reliable_in (ds ++ es)
reliable-front ds es =
    let many : reliable_in (ds ++ es) ≡ reliable_in ds + reliable_in es =
    ap (λ (l : List Dispatched). length l) (filter-append (λ (d : Dispatched). d.flags == 1) ds es) ∙ length-append (filter (λ (d : Dispatched). d.flags == 1) ds) (filter (λ (d : Dispatched). d.flags == 1) es) in
    omega arith

-- one more, or none
reliable-more : (d : Dispatched) (ds : List Dispatched) → (d.flags == 1) ≡ true → reliable_in (d ∷ ds) ≡ reliable_in ds + 1
reliable-more d ds e =
    let few : List Dispatched = filter (λ (d : Dispatched). d.flags == 1) ds in
    let is : reliable_in (d ∷ ds) ≡ length (d ∷ few) = ap (λ b. length (cond b (d ∷ few) few)) e in
    omega arith

reliable-same : (d : Dispatched) (ds : List Dispatched) → (d.flags == 1) ≡ false → reliable_in (d ∷ ds) ≡ reliable_in ds
reliable-same d ds e = (let few : List Dispatched = filter (λ (d : Dispatched). d.flags == 1) ds in ap (λ b. length (cond b (d ∷ few) few)) e)

-- it ends at or past as many numbers as it has reliable packets
pub row-reliable : (came : List Heard) (channel front least : ℕ) (ds : List Dispatched) (last next : ℕ) → RowTo came channel front least ds last next → front + reliable_in ds ≤ last
row-reliable came channel front least [] last next h = (let same : front ≡ last = h.0 in omega arith)
row-reliable came channel front least (d ∷ ds) last next (inl h) =
    let rest : front + h.0 + reliable_in ds ≤ last = row-reliable came channel (front + h.0) 0 ds last next h.3 in
    let one : reliable_in (d ∷ ds) ≡ reliable_in ds + 1 = reliable-more d ds h.2 in
    let c = h.1 in
    let some' : 1 ≤ h.0 = c.some_piece in
    omega arith
row-reliable came channel front least (d ∷ ds) last next (inr h) =
    let rest : front + reliable_in ds ≤ last = row-reliable came channel front (h.0 + 1) ds last next h.5 in
    let one : reliable_in (d ∷ ds) ≡ reliable_in ds = reliable-same d ds h.4 in
    omega arith

-- a carried packet's numbers came
carried-number : (came : List Heard) (channel front count : ℕ) (body : List ℕ) (n : ℕ) → IsCarried came channel (reliable_at (front + 1)) count body → front ≤ n → n < front + count → HasNumber came channel (n + 1)
carried-number came channel front count body n c low high =
    let many = c.many in
    let p = slice_get-some c.pieces (n - front) (omega arith) in
    let b = c.brought (n - front) p.0 p.1 in
    let is = b.2 in
    let at : front + 1 + (n - front) ≡ n + 1 = omega arith in
    (b.0, b.1, is.channel_is, is.kind, is.number ∙ ap (λ m. m % 65536) at)

-- and each number up to there came
pub row-numbers : (came : List Heard) (channel front least : ℕ) (ds : List Dispatched) (last next : ℕ) → RowTo came channel front least ds last next → (n : ℕ) → front ≤ n → n < last → HasNumber came channel (n + 1)
row-numbers came channel front least [] last next h n low high = (let same : front ≡ last = h.0 in absurd (omega arith))
row-numbers came channel front least (d ∷ ds) last next (inl h) n low high = elim (less-or-not n (front + h.0)) [
  | inl here ↦ carried-number came channel front h.0 d.body n h.1 low here
  | inr on ↦ row-numbers came channel (front + h.0) 0 ds last next h.3 n on high
]
row-numbers came channel front least (d ∷ ds) last next (inr h) n low high = row-numbers came channel front (h.0 + 1) ds last next h.5 n low high

pub number-more : (came more : List Heard) (channel number : ℕ) → Covers came more → HasNumber came channel number → HasNumber more channel number
number-more came more channel number sub h = (h.0, sub h.0 h.1, h.2, h.3, h.4)
