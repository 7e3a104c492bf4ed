-- The commands of a course.
use Rattle.std.proofs.Common.{◌≡◌, ℕ, ◌+◌, ◌-◌, ◌*◌, ◌/◌, ◌≤◌, ◌<◌, Bool, true, false, cond, eqb, ltb, List, [], ◌∷◌, ◌++◌, length, map, take, drop, refl, sym, ap, ◌∙◌, arith, append_assoc}
use Rattle.std.specs.List.{range_with_len}
use Rattle.std.proofs.Math.Nat.{div-eq_of_lt}
use Rattle.std.proofs.lemmas.Bool.Decides.{nat_tests}
use Rattle.std.proofs.lemmas.List.FromFn.{map-range_with_len_more}
use Rattle.std.proofs.lemmas.List.{take_all}
use Rattle.enet_fragment.proofs.Cuts.{at-least}
use Rattle.enet_fragment.specs.Cutting.{piece_count, piece_length}
use Rattle.enet_fragment.specs.declared.data.DataCommand.{DataCommand}
use Rattle.enet_sender.specs.declared.course.Course.{Course}
use Rattle.enet_sender.specs.Course.{command_of}
use Rattle.enet_sender.specs.Private.Course.{piece_command, course_commands}

one_if : (empty : Bool) (n : ℕ) → n ≡ 0 → cond empty 1 (n + 1) ≡ 1
one_if true n e = refl
one_if false n e = omega arith

-- a body that fits goes in one piece
pub piece_count-one : (len mtu : ℕ) → 28 < mtu → len ≤ piece_length mtu → piece_count len mtu ≡ 1
unfolding piece_count
piece_count-one len mtu some short = one_if (eqb len 0) ((len - 1) / piece_length mtu) (div-eq_of_lt (omega (arith, at-least mtu)))

pub piece_count-some : (len mtu : ℕ) → 1 ≤ piece_count len mtu
unfolding piece_count
piece_count-some len mtu = some_if (eqb len 0) ((len - 1) / piece_length mtu)
  where
    some_if : (empty : Bool) (n : ℕ) → 1 ≤ cond empty 1 (n + 1)
    some_if true n = omega arith
    some_if false n = omega arith

-- a body that isn't longer than a piece
pub not_long : (size total len : ℕ) → total ≡ len → false ≡ ltb size total → len ≤ size
not_long size total len same short = grind (arith, nat_tests)

whole : (size : ℕ) (body : List ℕ) → length body ≤ size → take size (drop (0 * size) body) ≡ body
whole size body short =
    let none : 0 * size ≡ 0 = omega arith in
    ap (λ n. take size (drop n body)) none ∙ take_all size body short

-- and it is that piece
pub single : (s : Course) (body : List ℕ) → s.pieces ≡ 1 → length body ≤ piece_length s.mtu → command_of s 0 body ∷ [] ≡ course_commands s body
single s body one short =
    sym (ap (λ n. map (piece_command s body) (range_with_len 0 n)) one ∙ ap (λ b. command_of s 0 b ∷ []) (whole (piece_length s.mtu) body short))

-- one piece more is queued
pub one_more_queued : (s : Course) (body : List ℕ) (i : ℕ) (before now after : List DataCommand) (c : DataCommand)
    → now ≡ before ++ map (piece_command s body) (range_with_len 0 i) → c ≡ piece_command s body i → after ≡ now ++ c ∷ []
    → after ≡ before ++ map (piece_command s body) (range_with_len 0 (i + 1))
one_more_queued s body i before now after c so_far is pushed =
    pushed ∙ ap (λ xs. xs ++ c ∷ []) so_far ∙ append_assoc before (map (piece_command s body) (range_with_len 0 i)) (c ∷ [])
    ∙ ap (λ xs. before ++ xs) (ap (λ d. map (piece_command s body) (range_with_len 0 i) ++ d ∷ []) is ∙ sym (map-range_with_len_more (piece_command s body) 0 i i (omega arith)))
