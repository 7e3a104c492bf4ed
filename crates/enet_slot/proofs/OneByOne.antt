-- Slots are counted one by one.
use Rattle.std.proofs.Common.{◌≡◌, ℕ, ◌+◌, ◌<◌, ◌≤◌, Bool, if◌then◌else◌, List, length, get_or, take, sym, ap, ◌∙◌, arith}
use Rattle.std.proofs.lemmas.List.{length-take-le}
use Rattle.enet_slot.specs.declared.slot.Slot.{Slot}
use Rattle.enet_slot.specs.declared.counting.SlotCounts.{SlotCounts}
use Rattle.enet_slot.specs.declared.counting.Standing.{Standing}
use Rattle.enet_slot.specs.declared.counting.Standing.TheVariants.{Free, Spent, Connecting, Answering, Connected, Leaving}
use Rattle.enet_slot.specs.Slot.{SlotState}
use Rattle.enet_slot.specs.Counting.{standing_of, how_many, is_free, is_spent, is_connecting, is_answering, is_connected, is_leaving, Counts}
use Rattle.enet_slot.specs.Private.Counting.{with_one, counted}
use Rattle.enet_slot.specs.Slotted.{shown, all_shown}
use Rattle.enet_slot.proofs.OverAll.{count-more}
use Rattle.enet_slot.proofs.Shown.{length-shown}

-- what a test adds to a count
abbrev one_if : Bool → ℕ
one_if b = if b then 1 else 0

-- a slot that is so adds one to its count alone
record Grows (c : SlotCounts) (k : Standing) : Type 0 where
  free : (with_one c k).free ≡ c.free + one_if (is_free k)
  spent : (with_one c k).spent ≡ c.spent + one_if (is_spent k)
  connecting : (with_one c k).connecting ≡ c.connecting + one_if (is_connecting k)
  answering : (with_one c k).answering ≡ c.answering + one_if (is_answering k)
  connected : (with_one c k).connected ≡ c.connected + one_if (is_connected k)
  leaving : (with_one c k).leaving ≡ c.leaving + one_if (is_leaving k)
  all : counted (with_one c k) ≡ counted c + 1

grows : (c : SlotCounts) (k : Standing) → Grows c k
grows c Free = record { free = omega arith; spent = omega arith; connecting = omega arith; answering = omega arith; connected = omega arith; leaving = omega arith; all = omega arith }
grows c Spent = record { free = omega arith; spent = omega arith; connecting = omega arith; answering = omega arith; connected = omega arith; leaving = omega arith; all = omega arith }
grows c Connecting = record { free = omega arith; spent = omega arith; connecting = omega arith; answering = omega arith; connected = omega arith; leaving = omega arith; all = omega arith }
grows c Answering = record { free = omega arith; spent = omega arith; connecting = omega arith; answering = omega arith; connected = omega arith; leaving = omega arith; all = omega arith }
grows c Connected = record { free = omega arith; spent = omega arith; connecting = omega arith; answering = omega arith; connected = omega arith; leaving = omega arith; all = omega arith }
grows c Leaving = record { free = omega arith; spent = omega arith; connecting = omega arith; answering = omega arith; connected = omega arith; leaving = omega arith; all = omega arith }

-- of the slots counted so far and one more as many pass a test as before, and that one if it does
one-more : (is : Standing → Bool) (g : ℕ) (xs : List Slot) (i : ℕ) (x : Slot) (k : Standing) (before after : ℕ) → i < length xs → x ≡ get_or xs i x → standing_of g (shown x) ≡ k
    → before ≡ how_many is g (all_shown (take i xs)) → after ≡ before + one_if (is k) → after ≡ how_many is g (all_shown (take (i + 1) xs))
one-more is g xs i x k before after inside read same so_far grown =
    grown
    ∙ ap (λ (n : ℕ). n + one_if (is k)) so_far
    ∙ ap (λ (j : Standing). how_many is g (all_shown (take i xs)) + one_if (is j)) (sym same)
    ∙ sym (count-more (λ (s : SlotState). is (standing_of g s)) xs i x inside read)

pub counted-length : (xs : List Slot) (i : ℕ) → i ≤ length xs → length (all_shown (take i xs)) ≡ i
counted-length xs i within = length-shown (take i xs) ∙ length-take-le i xs within

pub counts-more : (g : ℕ) (xs : List Slot) (i : ℕ) (x : Slot) (c : SlotCounts) (k : Standing) → i < length xs → x ≡ get_or xs i x → standing_of g (shown x) ≡ k
    → Counts g (all_shown (take i xs)) c → Counts g (all_shown (take (i + 1) xs)) (with_one c k)
counts-more g xs i x c k inside read same so_far =
    let grown = grows c k in
    let now : length (all_shown (take i xs)) ≡ i = counted-length xs i (omega arith) in
    let next : length (all_shown (take (i + 1) xs)) ≡ i + 1 = counted-length xs (i + 1) (omega arith) in
    let all : counted c ≡ length (all_shown (take i xs)) = so_far.all in
    let more : counted (with_one c k) ≡ counted c + 1 = grown.all in
    record {
      free = one-more is_free g xs i x k c.free (with_one c k).free inside read same so_far.free grown.free;
      spent = one-more is_spent g xs i x k c.spent (with_one c k).spent inside read same so_far.spent grown.spent;
      connecting = one-more is_connecting g xs i x k c.connecting (with_one c k).connecting inside read same so_far.connecting grown.connecting;
      answering = one-more is_answering g xs i x k c.answering (with_one c k).answering inside read same so_far.answering grown.answering;
      connected = one-more is_connected g xs i x k c.connected (with_one c k).connected inside read same so_far.connected grown.connected;
      leaving = one-more is_leaving g xs i x k c.leaving (with_one c k).leaving inside read same so_far.leaving grown.leaving;
      all = more ∙ ap (λ (n : ℕ). n + 1) (all ∙ now) ∙ sym next;
    }
