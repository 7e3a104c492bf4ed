-- Contexts, and what they have for a byte.
use Rattle.std.proofs.Common.{◌≡◌, ℕ, ◌+◌, ◌-◌, ◌<◌, ◌≤◌, true, false, cond, ◌==◌, nat_lt, max, zero, suc, List, [], ◌∷◌, ◌++◌, length, take, drop, get_or, Option, Some, None, IfSome, refl, sym, ◌∙◌, ap, subst, arith, append_assoc, length-append, if◌then◌else◌}
use Rattle.std.proofs.Math.Seq.{drop-nil}
use Rattle.std.proofs.lemmas.Bool.Decides.{nat_tests}
use Rattle.enet_range_coder.specs.declared.cell.Cell.{Cell}
use Rattle.enet_range_coder.specs.declared.chain.Place.{Place}
use Rattle.enet_range_coder.specs.declared.coder.Coder.{Coder}
use Rattle.enet_range_coder.specs.declared.interval.Coded.{Coded}
use Rattle.enet_range_coder.specs.Span.{Span, Cut, coded}
use Rattle.enet_range_coder.specs.Private.Span.{IsCut}
use Rattle.enet_range_coder.specs.Context.{Context, weigh, total, find, reach, Nothing, Escape, Found, share_of, then_code, coding, aim, Pass, Leave, At, aim_at, guess}
use Rattle.enet_range_coder.specs.Private.Context.{IsShare, IsAim}
use Rattle.enet_range_coder.specs.Memory.{cell_at, chain, all_from, context_at, contexts_from}
use Rattle.enet_range_coder.specs.Private.Meant.{span_meant, place_meant, said, Puts}
use Rattle.enet_range_coder.proofs.Round.{find_within, is_share, is_aim}

pub context_other : (m : Coder) (place : ℕ) (cell : Cell) → (place ≡ 0 → ⊥) → cell ≡ cell_at m.cells place → context_at m place ≡ record { unseen = cell.unseen; bytes = chain 256 m.cells cell.first }
context_other m place cell h e = let t : (place == 0) ≡ false = grind (arith, nat_tests) in rw (t, e) refl

pub contexts_goes : (left rest : ℕ) (m : Coder) (place : ℕ) (cell : Cell) → (left ≡ 0 → ⊥) → rest ≡ (if place == 0 then 0 else left - 1) → cell ≡ cell_at m.cells place
    → contexts_from left m place ≡ context_at m place ∷ contexts_from rest m cell.shorter
unfolding contexts_from
contexts_goes zero rest m place cell h r e = absurd (h refl)
contexts_goes (suc left) rest m place cell h r e =
    let f : suc left - 1 ≡ left = omega arith in
    elim (place == 0) as (λ b. (place == 0) ≡ b → rest ≡ cond b 0 (suc left - 1) → contexts_from (suc left) m place ≡ context_at m place ∷ contexts_from rest m cell.shorter) [
      | true ↦ λ t g. rw (t, g) refl
      | false ↦ λ t g. rw (t, g, f, e) refl
    ] refl r

pub contexts_none : (left : ℕ) (m : Coder) (place : ℕ) → left ≡ 0 → contexts_from left m place ≡ []
unfolding contexts_from
contexts_none left m place e = rw e refl

pub find_all : (ws : List ℕ) (n k below : ℕ) → k < length ws → find (all_from n ws) (n + k) below ≡ Some (below + weigh (all_from n (take k ws)), max (get_or ws k 0 + 1) 1)
find_all [] n k below l = absurd (omega arith)
find_all (w ∷ ws) n zero below l =
    let t : (n == n + 0) ≡ true = grind (arith, nat_tests) in
    let z : below + 0 ≡ below = omega arith in
    rw (t, z) refl
find_all (w ∷ ws) n (suc k) below l =
    let t : (n == n + suc k) ≡ false = grind (arith, nat_tests) in
    let s : n + suc k ≡ suc n + k = omega arith in
    let r = find_all ws (suc n) k (below + max (w + 1) 1) (omega arith) in
    let z : below + max (w + 1) 1 + weigh (all_from (suc n) (take k ws)) ≡ below + (max (w + 1) 1 + weigh (all_from (suc n) (take k ws))) = omega arith in
    rw (t, s) (r ∙ ap (λ (x : ℕ). Some (x, max (get_or ws k 0 + 1) 1)) z)

pub place_within : (r : Option Place) (bs : List (ℕ × ℕ)) (byte : ℕ) → place_meant r ≡ find bs byte 0 → IfSome r (λ p. p.below + p.size ≤ weigh bs)
place_within None bs byte e = tt
place_within (Some p) bs byte e = let f = find_within bs byte 0 (p.below, p.size) (sym e) in omega (arith, f.0)

pub cut_found : (c : Context) (byte : ℕ) (k : Cut) → Found k ≡ share_of c byte → IsCut k
cut_found c byte k e = subst IsShare (sym e) (is_share c byte)

pub cut_escape : (c : Context) (byte : ℕ) (k : Cut) → Escape k ≡ share_of c byte → IsCut k
cut_escape c byte k e = subst IsShare (sym e) (is_share c byte)

pub cut_leave : (c : Context) (a : ℕ) (k : Cut) → Leave k ≡ aim_at c a → IsCut k
cut_leave c a k e = subst IsAim (sym e) (is_aim c a)

drop_more : (n k : ℕ) (bytes : List ℕ) → drop (n + k) bytes ≡ drop k (drop n bytes)
drop_more zero k bytes = let e : zero + k ≡ k = omega arith in rw e refl
drop_more (suc n) k [] = drop-nil (suc n + k) ∙ sym (drop-nil k)
drop_more (suc n) k (b ∷ bytes) = let e : suc n + k ≡ suc (n + k) = omega arith in rw e (drop_more n k bytes)

pub puts_join : (c n : Coded) (r : Option Coded) (q p : Option (List ℕ × Span)) (more : Span → Option (List ℕ × Span)) → Puts c (Some n) q → p ≡ more (span_meant n.interval) → Puts n r p → Puts c r (then_code q more)
puts_join c n None q p more b e h = rw (b.gives, ← e, h) refl
puts_join c n (Some r) q p more b e h = record {
  bytes = b.bytes ++ h.bytes;
  gives = rw (b.gives, ← e, h.gives) refl;
  says = h.says ∙ ap (λ (x : List ℕ). x ++ h.bytes) b.says ∙ append_assoc (said c) b.bytes h.bytes;
  counts = omega (arith, b.counts, h.counts, length-append b.bytes h.bytes);
}

pub code_nothing : (c : Coded) (left : ℕ) (m : Coder) (place byte : ℕ) → left ≡ 0 → Puts c None (coding (contexts_from left m place) byte (span_meant c.interval))
code_nothing c left m place byte e = rw (contexts_none left m place e) refl

pub code_found : (c : Coded) (r : Option Coded) (x : Context) (cs : List Context) (byte : ℕ) (k : Cut) → Found k ≡ share_of x byte → Puts c r (coded (span_meant c.interval) k) → Puts c r (coding (x ∷ cs) byte (span_meant c.interval))
code_found c r x cs byte k e p = rw (← e) p

pub code_pass : (c : Coded) (r : Option Coded) (x : Context) (cs : List Context) (byte : ℕ) → Nothing ≡ share_of x byte → Puts c r (coding cs byte (span_meant c.interval)) → Puts c r (coding (x ∷ cs) byte (span_meant c.interval))
code_pass c r x cs byte e p = rw (← e) p

pub code_stop : (c : Coded) (x : Context) (cs : List Context) (byte : ℕ) (k : Cut) → Escape k ≡ share_of x byte → Puts c None (coded (span_meant c.interval) k) → Puts c None (coding (x ∷ cs) byte (span_meant c.interval))
code_stop c x cs byte k e p = rw (← e, p) refl

pub code_escape : (c n : Coded) (r : Option Coded) (x : Context) (cs : List Context) (byte : ℕ) (k : Cut) → Escape k ≡ share_of x byte → Puts c (Some n) (coded (span_meant c.interval) k) → Puts n r (coding cs byte (span_meant n.interval))
    → Puts c r (coding (x ∷ cs) byte (span_meant c.interval))
code_escape c n r x cs byte k e b p = rw (← e) (puts_join c n r (coded (span_meant c.interval) k) (coding cs byte (span_meant n.interval)) (coding cs byte) b refl p)

pub guess_hit : (s : Span) (x : Context) (cs : List Context) (bytes : List ℕ) (byte : ℕ) → At byte ≡ aim_at x (aim s (total x) bytes) → Some byte ≡ guess (x ∷ cs) s bytes
guess_hit s x cs bytes byte e = rw (← e) refl

pub guess_pass : (s : Span) (x : Context) (cs : List Context) (bytes : List ℕ) (r : Option ℕ) → Pass ≡ aim_at x (aim s (total x) bytes) → r ≡ guess cs s bytes → r ≡ guess (x ∷ cs) s bytes
guess_pass s x cs bytes r e p = rw (← e) p

pub guess_stop : (c : Coded) (x : Context) (cs : List Context) (bytes : List ℕ) (k : Cut) → Leave k ≡ aim_at x (aim (span_meant c.interval) (total x) bytes) → Puts c None (coded (span_meant c.interval) k) → None ≡ guess (x ∷ cs) (span_meant c.interval) bytes
guess_stop c x cs bytes k e p = rw (← e, p) refl

pub guess_leave : (c n : Coded) (x : Context) (cs : List Context) (bytes : List ℕ) (k : Cut) (r : Option ℕ) → Leave k ≡ aim_at x (aim (span_meant c.interval) (total x) (drop c.count bytes)) → Puts c (Some n) (coded (span_meant c.interval) k)
    → r ≡ guess cs (span_meant n.interval) (drop n.count bytes) → r ≡ guess (x ∷ cs) (span_meant c.interval) (drop c.count bytes)
guess_leave c n x cs bytes k r e b p = rw (← e, b.gives) (subst (λ (x : List ℕ). r ≡ guess cs (span_meant n.interval) x) (ap (λ (i : ℕ). drop i bytes) b.counts ∙ drop_more c.count (length b.bytes) bytes) p)

-- weights don't hang on where the bytes begin
pub weigh_from : (n k : ℕ) (ws : List ℕ) → weigh (all_from n ws) ≡ weigh (all_from k ws)
weigh_from n k [] = refl
weigh_from n k (w ∷ ws) = ap (λ (x : ℕ). max (w + 1) 1 + x) (weigh_from (suc n) (suc k) ws)

-- what lies below an aim may be passed over
pub reach_skip : (k n : ℕ) (ws : List ℕ) (aim below : ℕ) → below + weigh (all_from n (take k ws)) ≤ aim
    → reach (all_from (n + k) (drop k ws)) aim (below + weigh (all_from n (take k ws))) ≡ reach (all_from n ws) aim below
reach_skip zero n ws aim below l = let a : n + 0 ≡ n = omega arith in let b : below + 0 ≡ below = omega arith in rw (a, b) refl
reach_skip (suc k) n [] aim below l = refl
reach_skip (suc k) n (w ∷ ws) aim below l =
    let t : nat_lt aim (below + max (w + 1) 1) ≡ false = grind (arith, nat_tests) in
    let a : n + suc k ≡ suc n + k = omega arith in
    let b : below + (max (w + 1) 1 + weigh (all_from (suc n) (take k ws))) ≡ below + max (w + 1) 1 + weigh (all_from (suc n) (take k ws)) = omega arith in
    rw (t, a, b) (reach_skip k (suc n) ws aim (below + max (w + 1) 1) (omega (arith, l, b)))

pub row_skips : (ws : List ℕ) (first aim below sum : ℕ) → sum ≡ weigh (all_from 0 (take 16 (drop first ws))) → below + sum ≤ aim
    → reach (all_from (first + 16) (drop (first + 16) ws)) aim (below + sum) ≡ reach (all_from first (drop first ws)) aim below
row_skips ws first aim below sum e l =
    let f : sum ≡ weigh (all_from first (take 16 (drop first ws))) = e ∙ weigh_from 0 first (take 16 (drop first ws)) in
    rw (drop_more first 16 ws, f) (reach_skip 16 first (drop first ws) aim below (rw f at l))
