-- The reliable commands of the queue, counted.
use Rattle.std.proofs.Common.{◌≡◌, ℕ, zero, suc, ◌+◌, ◌-◌, ◌≤◌, Bool, true, false, not, ◌&&◌, ◌||◌, cond, ltb, List, [], ◌∷◌, ◌++◌, length, map, drop, refl, sym, ap, ◌∙◌, arith, IsTrue, Some, None}
use Rattle.std.specs.List.{range_with_len, position, position_or_len}
use Rattle.std.specs.Option.{is_some}
use Rattle.std.proofs.lemmas.Bool.Decides.{nat_tests}
use Rattle.std.proofs.lemmas.List.Sums.{sum_by-append, sum_by-cons, count_by-le-length}
use Rattle.enet_fragment.specs.declared.data.DataCommand.{DataCommand}
use Rattle.enet_sender.specs.declared.course.Course.{Course}
use Rattle.enet_sender.specs.Private.Course.{piece_command, course_commands}
use Rattle.enet_sender.specs.Sender.{Sender, is_more, is_after_first, left}
use Rattle.enet_sender.specs.declared.outgoing.Left.{Left}
use Rattle.enet_sender.specs.Invariant.{reliable_in}

abbrev one_if : Bool → ℕ
one_if b = cond b 1 0

pub counted-head : (xs : List DataCommand) (c : DataCommand) (rest : List DataCommand) → xs ≡ c ∷ rest → reliable_in xs ≡ one_if c.reliable + reliable_in rest
counted-head xs c rest is = ap reliable_in is ∙ sum_by-cons (λ (d : DataCommand). one_if d.reliable) c rest

-- the head is taken
taken_by : (b : Bool) (n k : ℕ) → n ≡ one_if b + k → b ≡ true → 1 ≤ n
taken_by true n k e h = omega arith
taken_by false n k e h = cc

pub counted-some : (xs : List DataCommand) (c : DataCommand) (rest : List DataCommand) (n : ℕ) → xs ≡ c ∷ rest → n ≡ reliable_in xs → c.reliable ≡ true → 1 ≤ n
counted-some xs c rest n is counted head = taken_by c.reliable n (reliable_in rest) (counted ∙ counted-head xs c rest is) head

less_by : (b : Bool) (n k : ℕ) → n ≡ one_if b + k → b ≡ true → n - 1 ≡ k
less_by true n k e h = omega arith
less_by false n k e h = cc

pub counted-less : (xs : List DataCommand) (c : DataCommand) (rest : List DataCommand) (n : ℕ) → xs ≡ c ∷ rest → n ≡ reliable_in xs → c.reliable ≡ true → n - 1 ≡ reliable_in rest
counted-less xs c rest n is counted head = less_by c.reliable n (reliable_in rest) (counted ∙ counted-head xs c rest is) head

same_by : (b : Bool) (n k : ℕ) → n ≡ one_if b + k → b ≡ false → n ≡ k
same_by true n k e h = cc
same_by false n k e h = omega arith

pub counted-same : (xs : List DataCommand) (c : DataCommand) (rest : List DataCommand) (n : ℕ) → xs ≡ c ∷ rest → n ≡ reliable_in xs → c.reliable ≡ false → n ≡ reliable_in rest
counted-same xs c rest n is counted head = same_by c.reliable n (reliable_in rest) (counted ∙ counted-head xs c rest is) head

all_or_none : (b : Bool) (n : ℕ) → one_if b + cond b n 0 ≡ cond b (suc n) 0
all_or_none true n = omega arith
all_or_none false n = omega arith

counted-pieces : (s : Course) (body : List ℕ) (a n : ℕ) → reliable_in (map (piece_command s body) (range_with_len a n)) ≡ cond s.reliable n 0
counted-pieces s body a zero = same s.reliable 0
  where
    same : (b : Bool) (n : ℕ) → n ≡ cond b n n
    same true n = refl
    same false n = refl
counted-pieces s body a (suc n) =
    sum_by-cons (λ (d : DataCommand). one_if d.reliable) (piece_command s body a) (map (piece_command s body) (range_with_len (a + 1) n))
    ∙ ap (λ k. one_if s.reliable + k) (counted-pieces s body (a + 1) n) ∙ all_or_none s.reliable n

pub counted-queued : (s : Course) (body : List ℕ) (queued : List DataCommand) → reliable_in (queued ++ course_commands s body) ≡ reliable_in queued + cond s.reliable s.pieces 0
counted-queued s body queued =
    sum_by-append (λ (d : DataCommand). one_if d.reliable) queued (course_commands s body) ∙ ap (λ k. reliable_in queued + k) (counted-pieces s body 0 s.pieces)

-- a further command of an unreliable packet is not counted
pub counted-skipped : (xs ys : List DataCommand) → ((c : DataCommand) × ((rest : List DataCommand) × ((xs ≡ c ∷ rest) × IsTrue (is_more c)))) → ys ≡ drop 1 xs → reliable_in ys ≡ reliable_in xs
counted-skipped xs ys begins e =
    let c = begins.0 in
    let rest = begins.1.0 in
    let is : xs ≡ c ∷ rest = begins.1.1.0 in
    let head = counted-head xs c rest is in
    let unreliable : one_if c.reliable ≡ 0 = none c.reliable (is_after_first c.fragment) begins.1.1.1 in
    ap reliable_in (e ∙ ap (λ zs. drop 1 zs) is) ∙ sym (head ∙ ap (λ k. k + reliable_in rest) unreliable ∙ (omega arith))
  where
    none : (b d : Bool) → IsTrue (not b && d) → one_if b ≡ 0
    none true d h = cc
    none false d h = refl

pub is_some-cond : {X : Type 0} (b : Bool) (x : X) → is_some (cond b (Some x) None) ≡ b
is_some-cond true x = refl
is_some-cond false x = refl

found-step : (b : Bool) (n len count : ℕ) → ltb n len ≡ ltb 0 count → ltb (cond (not b) (1 + n) 0) (suc len) ≡ ltb 0 (one_if b + count)
found-step true n len count e = grind (arith, nat_tests)
found-step false n len count e = grind (arith, nat_tests)

found-counted : (xs : List DataCommand) → ltb (position_or_len (λ (c : DataCommand). c.reliable) xs) (length xs) ≡ ltb 0 (reliable_in xs)
found-counted [] = refl
found-counted (c ∷ xs) =
    found-step c.reliable (position_or_len (λ (d : DataCommand). d.reliable) xs) (length xs) (reliable_in xs) (found-counted xs)
    ∙ ap (λ k. ltb 0 k) (sym (counted-head (c ∷ xs) c xs refl))

-- there is a reliable command where the count is not 0
pub found_by_count : (xs : List DataCommand) → is_some (position (λ (c : DataCommand). c.reliable) xs) ≡ ltb 0 (reliable_in xs)
found_by_count xs = is_some-cond (ltb (position_or_len (λ (c : DataCommand). c.reliable) xs) (length xs)) (position_or_len (λ (c : DataCommand). c.reliable) xs) ∙ found-counted xs

pub reliable_in-le : (xs : List DataCommand) → reliable_in xs ≤ length xs
reliable_in-le xs = count_by-le-length (λ (c : DataCommand). c.reliable) xs

pub or_first : (b d : Bool) → b ≡ true → b ≡ (b || d)
or_first true d h = refl
or_first false d h = cc

pub or_second : (b d : Bool) → b ≡ false → d ≡ (b || d)
or_second true d h = cc
or_second false d h = refl

abbrev pub left_of : Bool → Bool → Left
left_of packets reliable = record { packets = packets; reliable = reliable }

-- what is left, by the count
pub left_by_count : (s : Sender) (n : ℕ) (packets reliable : Bool) → n ≡ reliable_in s.queued → packets ≡ ltb 0 (length s.queued)
    → reliable ≡ (ltb 0 n || ltb 0 (length s.sent)) → left_of packets reliable ≡ left s
left_by_count s n packets reliable counted some found =
    let reliable_is : reliable ≡ (is_some (position (λ (c : DataCommand). c.reliable) s.queued) || ltb 0 (length s.sent)) =
    found ∙ ap (λ b. b || ltb 0 (length s.sent)) (ap (λ k. ltb 0 k) counted ∙ sym (found_by_count s.queued)) in
    λ i. record { packets = some i; reliable = reliable_is i }
