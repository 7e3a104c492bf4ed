-- What all commands weigh as one of them comes, changes or goes.
use Rattle.std.proofs.Common.{inl, inr, ◌≡◌, ◌≢◌, ℕ, zero, suc, ◌+◌, ◌*◌, ◌<◌, ◌≤◌, List, length, get_or, take, Option, Some, None, refl, sym, ap, subst, ◌∙◌, arith}
use Rattle.std.proofs.lemmas.Bool.{cases_eq, cases_lt}
use Rattle.std.proofs.lemmas.List.{get_or_past, get_or-set_other}
use Rattle.std.proofs.lemmas.List.Sums.{get_or-le-sum_by}
use Rattle.std.proofs.lemmas.Option.{same_Some}
use Rattle.std.specs.Option.{option_map}
use Rattle.slab.specs.Slab.{Slab, get, with_value, Updates}
use Rattle.enet_fragment.specs.declared.data.DataCommand.{DataCommand}
use Rattle.enet_rtt.specs.declared.transmission.Tick.{Tick}
use Rattle.enet_sender.specs.declared.sent.Sent.{Sent}
use Rattle.enet_sender.specs.Foretold.{KeepsTime}
use Rattle.enet_sender.specs.Late.{sum_at, weight_at}
use Rattle.enet_sender.specs.Outstanding.{payload}
use Rattle.enet_sender.specs.Pending.{vacant}
use Rattle.enet_sender.specs.Private.Invariant.{IsShort}
use Rattle.enet_sender.specs.Private.Outstanding.{KeepsBytes}
use Rattle.enet_sender.specs.Rings.{command_of}
use Rattle.enet_sender.specs.Sender.{marked}
use Rattle.enet_sender.proofs.Foretelling.{written-same}
use Rattle.enet_sender.proofs.Summing.{sum-suc, sum-next, sum-whole}

-- what stands past the last place weighs nothing
past-nothing : (w : Sent → ℕ) (xs : List (Option Sent)) (k : ℕ) → length xs ≤ k → weight_at w (get_or xs k None) ≡ 0
past-nothing w xs k past = ap (weight_at w) (get_or_past xs k None past)

-- the first places weigh the same where each does
front-same : (w : Sent → ℕ) (xs ys : List (Option Sent)) (n : ℕ) → ((k : ℕ) → k < n → weight_at w (get_or ys k None) ≡ weight_at w (get_or xs k None)) → sum_at w (take n ys) ≡ sum_at w (take n xs)
front-same w xs ys zero same = refl
front-same w xs ys (suc n) same =
    let e = sum-suc w ys n in
    let f = sum-suc w xs n in
    let h = front-same w xs ys n (λ k low. same k (omega arith)) in
    let here = same n (omega arith) in
    omega arith

whole-in : (w : Sent → ℕ) (xs : List (Option Sent)) (n : ℕ) → length xs ≤ n → sum_at w xs ≡ sum_at w (take n xs)
whole-in w xs n long = sum-whole w xs n (λ k more. past-nothing w xs k (omega arith))

-- so do all
pub all-same : (w : Sent → ℕ) (xs ys : List (Option Sent)) → ((k : ℕ) → weight_at w (get_or ys k None) ≡ weight_at w (get_or xs k None)) → sum_at w ys ≡ sum_at w xs
all-same w xs ys same =
    let n = length xs + length ys in
    whole-in w ys n (omega arith) ∙ front-same w xs ys n (λ k low. same k) ∙ sym (whole-in w xs n (omega arith))

-- one place changes
front-changed : (w : Sent → ℕ) (xs ys : List (Option Sent)) (key more : ℕ) → ((k : ℕ) → k ≢ key → get_or ys k None ≡ get_or xs k None)
    → sum_at w (take (key + suc more) ys) + weight_at w (get_or xs key None) ≡ sum_at w (take (key + suc more) xs) + weight_at w (get_or ys key None)
front-changed w xs ys key zero others =
    let first = front-same w xs ys key (λ k low. ap (weight_at w) (others k (omega (arith, low)))) in
    let e = sum-next w ys key in
    let f = sum-next w xs key in
    let a : sum_at w (take (key + 1) ys) ≡ sum_at w (take (key + suc 0) ys) = refl in
    omega arith
front-changed w xs ys key (suc more) others =
    let n = key + suc more in
    let next : key + suc (suc more) ≡ n + 1 = omega arith in
    let a : sum_at w (take (key + suc (suc more)) ys) ≡ sum_at w (take (n + 1) ys) = ap (λ i. sum_at w (take i ys)) next in
    let b : sum_at w (take (key + suc (suc more)) xs) ≡ sum_at w (take (n + 1) xs) = ap (λ i. sum_at w (take i xs)) next in
    let e = sum-next w ys n in
    let f = sum-next w xs n in
    let same : weight_at w (get_or ys n None) ≡ weight_at w (get_or xs n None) = ap (weight_at w) (others n (omega arith)) in
    let h = front-changed w xs ys key more others in
    omega arith

pub one-changed : (w : Sent → ℕ) (xs ys : List (Option Sent)) (key : ℕ) → ((k : ℕ) → k ≢ key → get_or ys k None ≡ get_or xs k None)
    → sum_at w ys + weight_at w (get_or xs key None) ≡ sum_at w xs + weight_at w (get_or ys key None)
one-changed w xs ys key others =
    let more = length xs + length ys in
    let e = whole-in w ys (key + suc more) (omega arith) in
    let f = whole-in w xs (key + suc more) (omega arith) in
    let h = front-changed w xs ys key more others in
    omega arith

-- where each weighs little, so do they together
weight-few : (w : Sent → ℕ) (m : ℕ) (o : Option Sent) → ((p : Sent) → o ≡ Some p → w p ≤ m) → weight_at w o ≤ m
weight-few w m None few = omega arith
weight-few w m (Some p) few = few p refl

front-few : (w : Sent → ℕ) (m n : ℕ) (xs : List (Option Sent)) → ((k : ℕ) (p : Sent) → get_or xs k None ≡ Some p → w p ≤ m) → sum_at w (take n xs) ≤ n * m
front-few w m zero xs few = omega arith
front-few w m (suc n) xs few =
    let e = sum-suc w xs n in
    let h = front-few w m n xs few in
    let one = weight-few w m (get_or xs n None) (few n) in
    omega arith

-- bodies are short, and there are few, so that all bytes fit with those of one more
pub bytes-fit : (s : Slab Sent) (moments : List (Option ℕ)) (clock bytes : ℕ) → KeepsTime s moments clock → KeepsBytes s bytes → bytes ≤ vacant * 4068
bytes-fit s moments clock bytes time h =
    let n = length moments in
    let whole = sum-whole payload s.slots n (λ k more. by k more (get s k) refl) in
    let few = front-few payload 4068 n s.slots h.short in
    let places = time.few in
    let counted = h.counted in
    omega arith
  where
    by : (k : ℕ) → length moments ≤ k → (o : Option Sent) → get s k ≡ o → weight_at payload o ≡ 0
    by k more None e = refl
    by k more (Some p) e = absurd (let inside = time.inside k p e in omega arith)

-- one comes, under a key that was free
pub bytes-come : (s t : Slab Sent) (key bytes more : ℕ) (p : Sent) → KeepsBytes s bytes → get s key ≡ None → Updates s t key (Some p) → IsShort p.command → more ≡ length p.command.body → KeepsBytes t (bytes + more)
bytes-come s t key bytes more p h none updates short is =
    let counts = one-changed payload s.slots t.slots key updates.others in
    let was : weight_at payload (get s key) ≡ 0 = ap (weight_at payload) none in
    let now : weight_at payload (get t key) ≡ length p.command.body = ap (weight_at payload) updates.changed in
    let counted = h.counted in
    record {
      counted = omega arith;
      short = λ k q there. elim (cases_eq k key) [
        | inl same ↦ let f : Some p ≡ Some q = sym updates.changed ∙ ap (get t) (sym same) ∙ there in let one : p ≡ q = cc in subst (λ (x : Sent). IsShort x.command) one short
        | inr other ↦ h.short k q (sym (updates.others k other) ∙ there)
      ];
    }

-- one goes
pub bytes-at-least : (s : Slab Sent) (key bytes : ℕ) (p : Sent) → KeepsBytes s bytes → get s key ≡ Some p → length p.command.body ≤ bytes
bytes-at-least s key bytes p h there =
    elim (cases_lt key (length s.slots)) [
      | inl inside ↦
          let le = get_or-le-sum_by (weight_at payload) s.slots key None inside in
          let is : weight_at payload (get s key) ≡ length p.command.body = ap (weight_at payload) there in
          let counted = h.counted in
          omega arith
      | inr past ↦ absurd (let f = get_or_past s.slots key None past in cc)
    ]

pub bytes-go : (s t : Slab Sent) (key bytes left : ℕ) (p : Sent) → KeepsBytes s bytes → get s key ≡ Some p → Updates s t key None → left + length p.command.body ≡ bytes → KeepsBytes t left
bytes-go s t key bytes left p h there updates is =
    let counts = one-changed payload s.slots t.slots key updates.others in
    let was : weight_at payload (get s key) ≡ length p.command.body = ap (weight_at payload) there in
    let now : weight_at payload (get t key) ≡ 0 = ap (weight_at payload) updates.changed in
    let counted = h.counted in
    record {
      counted = omega arith;
      short = λ k q stands. elim (cases_eq k key) [
        | inl same ↦ absurd (let f = sym updates.changed ∙ ap (get t) (sym same) ∙ stands in cc)
        | inr other ↦ h.short k q (sym (updates.others k other) ∙ stands)
      ];
    }

-- the same commands stand under all keys, however they were sent
same-weight : (o q : Option Sent) → option_map command_of o ≡ option_map command_of q → weight_at payload o ≡ weight_at payload q
same-weight None None e = refl
same-weight None (Some p) e = absurd (cc)
same-weight (Some p) None e = absurd (cc)
same-weight (Some p) (Some q) e = ap (λ (c : DataCommand). length c.body) (same_Some p.command q.command e)

same-short : (o : Option Sent) (q : Sent) → ((p : Sent) → o ≡ Some p → IsShort p.command) → option_map command_of o ≡ Some q.command → IsShort q.command
same-short None q short e = absurd (cc)
same-short (Some p) q short e = subst IsShort (same_Some p.command q.command e) (short p refl)

pub bytes-stay : (s t : Slab Sent) (bytes : ℕ) → KeepsBytes s bytes → ((k : ℕ) → option_map command_of (get t k) ≡ option_map command_of (get s k)) → KeepsBytes t bytes
bytes-stay s t bytes h same = record {
  counted = h.counted ∙ sym (all-same payload s.slots t.slots (λ k. same-weight (get t k) (get s k) (same k)));
  short = λ k q there. same-short (get s k) q (h.short k) (sym (same k) ∙ ap (option_map command_of) there);
}

-- nothing moves
pub bytes-still : (s t : Slab Sent) (bytes : ℕ) → KeepsBytes s bytes → t.slots ≡ s.slots → KeepsBytes t bytes
bytes-still s t bytes h same = bytes-stay s t bytes h (λ k. ap (λ (slots : List (Option Sent)). option_map command_of (get_or slots k None)) same)

-- one goes, for the first time or again
pub bytes-written : (s : Slab Sent) (key bytes : ℕ) (p q : Sent) → KeepsBytes s bytes → get s key ≡ Some p → q.command ≡ p.command → KeepsBytes (with_value s key q) bytes
bytes-written s key bytes p q h there same = bytes-stay s (with_value s key q) bytes h (λ k. elim (cases_eq k key) [
  | inl here ↦
      ap (λ (i : ℕ). option_map command_of (get (with_value s key q) i)) here ∙ ap (option_map command_of) (written-same s.slots key p q there)
      ∙ ap (λ (c : DataCommand). Some c) same ∙ sym (ap (λ (i : ℕ). option_map command_of (get s i)) here ∙ ap (option_map command_of) there)
  | inr other ↦ ap (option_map command_of) (get_or-set_other s.slots key k (Some q) None other)
])

-- what is late is marked
marked-command : (tick : Tick) (o : Option Sent) → option_map command_of (option_map (marked tick) o) ≡ option_map command_of o
marked-command tick None = refl
marked-command tick (Some p) = refl

pub bytes-marked : (s t : Slab Sent) (key bytes : ℕ) (tick : Tick) → KeepsBytes s bytes → Updates s t key (option_map (marked tick) (get s key)) → KeepsBytes t bytes
bytes-marked s t key bytes tick h updates = bytes-stay s t bytes h (λ k. elim (cases_eq k key) [
  | inl here ↦
      ap (λ (i : ℕ). option_map command_of (get t i)) here ∙ ap (option_map command_of) updates.changed ∙ marked-command tick (get s key)
      ∙ sym (ap (λ (i : ℕ). option_map command_of (get s i)) here)
  | inr other ↦ ap (option_map command_of) (updates.others k other)
])

pub bytes-all-marked : (s t : Slab Sent) (bytes : ℕ) (tick : Tick) → KeepsBytes s bytes → ((key : ℕ) → get t key ≡ option_map (marked tick) (get s key)) → KeepsBytes t bytes
bytes-all-marked s t bytes tick h marks = bytes-stay s t bytes h (λ k. ap (option_map command_of) (marks k) ∙ marked-command tick (get s k))
