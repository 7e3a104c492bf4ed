-- The slot that an offer gets: a free one, or one whose peer waits for its client and is let go.
use Rattle.std.proofs.Common.{◌≡◌, ◌<◌, ◌≤◌, ℕ, ◌+◌, min, ◌⊎◌, inl, inr, Bool, true, false, cond, ltb, ◌&&◌, nat_lt, nat_le, List, refl, sym, ap, ◌∙◌, arith, Option, Some, None}
use Rattle.std.proofs.lemmas.Bool.Decides.{nat_tests}
use Rattle.std.proofs.lemmas.List.Quantifiers.{position-Some}
use Rattle.std.proofs.lemmas.Option.{get_or_from_slice_get}
use Rattle.std.specs.List.{slice_get, position}
use Rattle.enet_codec.specs.declared.address.Addr.{Addr}
use Rattle.enet_codec.specs.declared.config.Config.{Config}
use Rattle.enet_peer.specs.declared.parts.PeerState.TheVariants as state
use Rattle.enet_peer.specs.Peering.{Peering}
use Rattle.enet_peer.specs.Calls.{is_answering}
use Rattle.enet_peer.specs.Endings.{freed}
use Rattle.enet_slot.specs.Slot.{SlotState, with_peer, with_changed, greatest}
use Rattle.enet_slot.specs.Giving.{Basis, unused_slot, is_vacant, is_available}
use Rattle.enet_slot.specs.Yielding.{answers_in, yields, age, longest_of, oldest, oldest_of, is_guest_of, guests_of, yields_to, readied}
use Rattle.enet_host.specs.Opening.{available, is_most, or_oldest, seat}
use Rattle.law_network.proofs.Lists.{get-within}
use Rattle.law_network.proofs.Slots.{freed-in}

and-left : (a b : Bool) → (a && b) ≡ true → a ≡ true
and-left true b h = refl
and-left false b h = h

and-right : (a b : Bool) → (a && b) ≡ true → b ≡ true
and-right true b h = h
and-right false b h = absurd (cc)

lower : (a b : ℕ) → nat_lt a b ≡ true → a < b
lower a b h = grind (arith, nat_tests)

-- the first place that passes passes
position-passes : {X : Type 0} (p : X → Bool) (xs : List X) (j : ℕ) (x : X) → position p xs ≡ Some j → slice_get xs j ≡ Some x → p x ≡ true
position-passes p xs j x e there = ap p (sym (get_or_from_slice_get xs j x x there)) ∙ (position-Some p xs j x e).1

-- an available slot holds no peer and has a generation left
pub is_open : (c : Config) (slots : List SlotState) (j : ℕ) (s : SlotState) → available c slots ≡ Some j → slice_get slots j ≡ Some s → (s.peer ≡ None) × (s.generation < c.generations)
is_open c slots j s e there = (vacant s.peer (and-left (is_vacant s.peer) (ltb s.generation c.generations) both), lower s.generation c.generations (and-right (is_vacant s.peer) (ltb s.generation c.generations) both))
  where
    both : is_available c.generations s ≡ true
    both = position-passes (is_available c.generations) slots j s e there

    vacant : (o : Option Peering) → is_vacant o ≡ true → o ≡ None
    vacant None h = refl
    vacant (Some p) h = absurd (cc)

-- a slot that is given out is free, or its peer waits for its client; either way it has a generation left for the next
pub data IsOpen (generations : ℕ) (s : SlotState) : Type 0 where
  holds_none : s.peer ≡ None → s.generation < generations → IsOpen generations s
  holds_waiting : (p : Peering) → s.peer ≡ Some p → is_answering p.state ≡ true → s.generation + 1 < generations → IsOpen generations s

waiting : (generations : ℕ) (s : SlotState) (o : Option Peering) → s.peer ≡ o → (answers_in o && nat_lt (s.generation + 1) generations) ≡ true → IsOpen generations s
waiting generations s None e h = absurd (cc)
waiting generations s (Some p) e h =
    holds_waiting p e (and-left (is_answering p.state) (nat_lt (s.generation + 1) generations) h) (lower (s.generation + 1) generations (and-right (is_answering p.state) (nat_lt (s.generation + 1) generations) h))

-- the seat is an available slot, or the oldest of those that yield, of all or of its address
seat-by : (M : Type 0) (basis : Basis) (from : Addr) (slots : List SlotState) (j : ℕ) → seat basis from slots ≡ Some j → (available basis.config slots ≡ Some j → M)
    → ((waits : SlotState → Bool) → ((s : SlotState) → waits s ≡ true → yields basis.config.generations s ≡ true) → oldest_of waits basis.clock slots ≡ Some j → M) → M
seat-by M basis from slots j at one two = among (is_most basis.config.of_address (guests_of from.ip slots)) at
  where
    yielding : (b : Bool) → cond b (oldest basis.clock basis.config.generations slots) None ≡ Some j → M
    yielding true e = two (yields basis.config.generations) (λ s h. h) e
    yielding false e = absurd (cc)

    by : (o : Option ℕ) → available basis.config slots ≡ o → or_oldest basis slots o ≡ Some j → M
    by None e f = yielding basis.config.gives_way f
    by (Some i) e f = one (e ∙ f)

    among : (b : Bool) → cond b (oldest_of (yields_to from.ip basis.config.generations) basis.clock slots) (or_oldest basis slots (available basis.config slots)) ≡ Some j → M
    among true e = two (yields_to from.ip basis.config.generations) (λ s h. and-right (is_guest_of from.ip s) (yields basis.config.generations s) h) e
    among false e = by (available basis.config slots) refl e

pub available-there : (c : Config) (slots : List SlotState) (j : ℕ) → available c slots ≡ Some j → (s : SlotState) × (slice_get slots j ≡ Some s)
available-there c slots j at = get-within slots j (let p = position-Some (is_available c.generations) slots j unused_slot at in p.0)

pub seat-there : (basis : Basis) (from : Addr) (slots : List SlotState) (j : ℕ) → seat basis from slots ≡ Some j → (s : SlotState) × (slice_get slots j ≡ Some s)
seat-there basis from slots j at =
    seat-by ((s : SlotState) × (slice_get slots j ≡ Some s)) basis from slots j at
    (available-there basis.config slots j)
    (λ waits all e. get-within slots j (let p = position-Some (λ (s : SlotState). waits s && nat_le (longest_of waits basis.clock slots) (age basis.clock s)) slots j unused_slot e in p.0))

pub seat-open : (basis : Basis) (from : Addr) (slots : List SlotState) (j : ℕ) (s : SlotState) → seat basis from slots ≡ Some j → slice_get slots j ≡ Some s → IsOpen basis.config.generations s
seat-open basis from slots j s at there =
    seat-by (IsOpen basis.config.generations s) basis from slots j at
    (λ e. let open' = is_open basis.config slots j s e there in holds_none open'.0 open'.1)
    (λ waits all e. waiting basis.config.generations s s.peer refl (all s
    (and-left (waits s) (nat_le (longest_of waits basis.clock slots) (age basis.clock s))
    (position-passes (λ (x : SlotState). waits x && nat_le (longest_of waits basis.clock slots) (age basis.clock x)) slots j s e there))))

-- how it is readied
pub readied-free : (s : SlotState) → s.peer ≡ None → readied s ≡ s
readied-free s e = ap (λ (o : Option Peering). with_changed freed s o) e

pub readied-waits : (s : SlotState) (p : Peering) → s.peer ≡ Some p → readied s ≡ with_peer s (freed p)
readied-waits s p e = ap (λ (o : Option Peering). with_changed freed s o) e

-- whatever it did last
pub readied-left : (s : SlotState) (p q : Peering) → s.peer ≡ Some p → q.state ≡ state.Free → (with_peer s q).generation ≡ (readied s).generation
readied-left s p q held gone = ap (λ (x : SlotState). x.generation) (freed-in s q gone) ∙ ap (λ (x : SlotState). x.generation) (sym (readied-waits s p held))

pub freed-low : (n : ℕ) (s : SlotState) (p : Peering) → s.generation + 1 < n → (with_peer s (freed p)).generation < n
freed-low n s p low = let g : (with_peer s (freed p)).generation ≡ min (s.generation + 1) greatest = refl in omega arith

pub readied-low : (n : ℕ) (s : SlotState) → IsOpen n s → (readied s).generation < n
readied-low n s (holds_none none low) = let g : (readied s).generation ≡ s.generation = ap (λ (x : SlotState). x.generation) (readied-free s none) in omega arith
readied-low n s (holds_waiting p held on low) =
    let g : (readied s).generation ≡ (with_peer s (freed p)).generation = ap (λ (x : SlotState). x.generation) (readied-waits s p held) in
    let l : (with_peer s (freed p)).generation < n = freed-low n s p low in omega arith

-- a slot that its peer left has the next generation, if it has one left
pub next-generation : (s : SlotState) (q : Peering) (n : ℕ) → n ≤ greatest → q.state ≡ state.Free → (with_peer s q).generation < n → (with_peer s q).generation ≡ s.generation + 1
next-generation s q n few gone low = let g : (with_peer s q).generation ≡ min (s.generation + 1) greatest = ap (λ (x : SlotState). x.generation) (freed-in s q gone) in omega arith

-- so its name is a new one
pub readied-new : (n : ℕ) (s : SlotState) → n ≤ greatest → IsOpen n s → ((s.peer ≡ None) × ((readied s).generation ≡ s.generation)) ⊎ (s.generation < (readied s).generation)
readied-new n s few (holds_none none low) = inl (none, ap (λ (x : SlotState). x.generation) (readied-free s none))
readied-new n s few (holds_waiting p held on low) =
    let g : (readied s).generation ≡ (with_peer s (freed p)).generation = ap (λ (x : SlotState). x.generation) (readied-waits s p held) in
    let h : (with_peer s (freed p)).generation ≡ s.generation + 1 = next-generation s (freed p) n few refl (freed-low n s p low) in inr (omega arith)
