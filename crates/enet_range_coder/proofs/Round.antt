use Rattle.std.proofs.Common.{◌≡◌, ℕ, ◌+◌, ◌-◌, ◌*◌, ◌/◌, ◌%◌, ◌<◌, ◌≤◌, ◌≢◌, true, false, cond, ◌&&◌, ◌==◌, nat_le, nat_lt, max, zero, suc, List, [], ◌∷◌, ◌++◌, length, drop, Option, Some, None, refl, sym, ◌∙◌, ap, subst, arith, append_assoc, append-nil}
use Rattle.std.proofs.Math.Nat.{mul-div-le, mul-le-mul, mul-le-mul_right, div-lt_iff_lt-mul}
use Rattle.std.proofs.Math.Seq.{drop-append_seam}
use Rattle.std.proofs.lemmas.Nat.{le-div}
use Rattle.std.proofs.lemmas.Bool.Decides.{nat_tests}
use Rattle.enet_range_coder.specs.Span.{Span, Cut, narrowed, is_apart, is_settled, shifted, before, put_out, coded, ending, window}
use Rattle.enet_range_coder.specs.Private.Span.{IsSpan, IsWide, IsCut}
use Rattle.enet_range_coder.specs.Body.{strip, behind, pack_on, packed, is_nothing, is_end, rest_on, strip_on, unpack_on, unpacked}
use Rattle.enet_range_coder.specs.Context.{Context, weigh, total, find, reach, serves, escape, share_of, then_code, coding, aim, Pass, Leave, At, aimed, aim_at, Nothing, Escape, Found, guess}
use Rattle.enet_range_coder.specs.Private.Context.{IsAim, IsShare}

-- the bytes lie in the interval
pub record Holds (s : Span) (bytes : List ℕ) : Type 0 where
  pub low : s.low ≤ window bytes
  pub high : window bytes < s.low + s.range

pub window_cons : (b : ℕ) (bytes : List ℕ) → window (b ∷ bytes) ≡ b % 256 * 16777216 + window bytes / 256
window_cons b bytes = omega arith

-- a part of a unit each
pub unit_some : (s : Span) (c : Cut) → IsWide s → IsCut c → 0 < s.range / c.total
unit_some s c w k = le-div 1 s.range c.total (omega (arith, k.some, k.within)) (omega (arith, w.wide, k.bound))

pub narrow_fits : (s : Span) (c : Cut) → IsCut c → c.start * (s.range / c.total) + c.size * (s.range / c.total) ≤ s.range
narrow_fits s c k =
    let e1 : c.total * (s.range / c.total) ≤ s.range = mul-div-le s.range c.total in
    let e2 : (c.start + c.size) * (s.range / c.total) ≤ c.total * (s.range / c.total) = mul-le-mul_right (s.range / c.total) k.within in
    omega arith

pub narrow_span : (s : Span) (c : Cut) → IsWide s → IsCut c → IsSpan (narrowed s c)
narrow_span s c w k =
    let e1 = narrow_fits s c k in
    let e2 : 1 * 1 ≤ c.size * (s.range / c.total) = mul-le-mul k.some (unit_some s c w k) in
    record { within = omega (arith, e1, w.within); some = omega (arith, e2) }

pub narrow_holds : (s : Span) (c : Cut) (bytes : List ℕ) → IsCut c → Holds (narrowed s c) bytes → Holds s bytes
narrow_holds s c bytes k h =
    let e1 = narrow_fits s c k in
    record { low = omega (arith, h.low); high = omega (arith, e1, h.high) }

same_room : (l r : ℕ) → l + r ≤ 4294967296 → l / 16777216 ≡ (l + r) / 16777216 → l % 16777216 * 256 + r * 256 ≤ 4294967296
same_room l r a e = omega arith

cut_room : (l r : ℕ) → l + r ≤ 4294967296 → l % 16777216 * 256 + (65536 - l % 65536) * 256 ≤ 4294967296
cut_room l r a = omega arith

cut_within : (l r : ℕ) → l / 16777216 ≢ (l + r) / 16777216 → 65536 - l % 65536 ≤ r
cut_within l r e = omega arith

-- why a span isn't settled
pub data Unsettled (s : Span) : Type 0 where
  Same : is_apart s ≡ false → s.low / 16777216 ≡ (s.low + s.range) / 16777216 → Unsettled s
  Cut_off : is_apart s ≡ true → s.low / 16777216 ≢ (s.low + s.range) / 16777216 → s.range < 65536 → Unsettled s

pub unsettled : (s : Span) → is_settled s ≡ false → Unsettled s
unsettled s e =
    elim (is_apart s) as (λ b. is_apart s ≡ b → (nat_le 65536 s.range && b) ≡ false → Unsettled s) [
      | true ↦ λ a f. Cut_off a (grind (arith, nat_tests)) (grind (arith, nat_tests))
      | false ↦ λ a f. Same a (grind (arith, nat_tests))
    ] refl e

pub shift_span : (s : Span) → IsSpan s → is_settled s ≡ false → IsSpan (shifted s)
shift_span s k e =
    elim (unsettled s e) [
      | Same a same ↦ record { within = rw a (same_room s.low s.range k.within same); some = rw a (omega (arith, k.some)) }
      | Cut_off a apart short ↦ record { within = rw a (cut_room s.low s.range k.within); some = rw a (omega arith) }
    ]

pub shift_holds : (s : Span) (bytes : List ℕ) → IsSpan s → is_settled s ≡ false → Holds (shifted s) bytes → Holds s (s.low / 16777216 ∷ bytes)
shift_holds s bytes k e h =
    elim (unsettled s e) [
      | Same a same ↦
          let low : s.low % 16777216 * 256 ≤ window bytes = h.low in
          let high : window bytes < s.low % 16777216 * 256 + s.range * 256 = rw a at h.high in
          let w = window_cons (s.low / 16777216) bytes in
          record { low = omega (arith, low, w, k.within, k.some); high = omega (arith, high, w, k.within, k.some) }
      | Cut_off a apart short ↦
          let low : s.low % 16777216 * 256 ≤ window bytes = h.low in
          let high : window bytes < s.low % 16777216 * 256 + (65536 - s.low % 65536) * 256 = rw a at h.high in
          let w = window_cons (s.low / 16777216) bytes in
          let room = cut_within s.low s.range apart in
          record { low = omega (arith, low, w, k.within, k.some); high = omega (arith, high, w, room, k.within, k.some) }
    ]

-- what came behind these bytes
pub before_some : (bytes : List ℕ) (r : Option (List ℕ × Span)) (q : List ℕ × Span) → before bytes r ≡ Some q → (p : List ℕ × Span) × (r ≡ Some p) × (q ≡ (bytes ++ p.0, p.1))
before_some bytes None q e = cc
before_some bytes (Some p) q e = (p, refl, cc)

-- what is settled is put out as it is, and else its top byte comes first
put_zero : (s : Span) (q : List ℕ × Span) → put_out 0 s ≡ Some q → (is_settled s ≡ true) × (q ≡ ([], s))
unfolding put_out
put_zero s q e = elim (is_settled s) as (λ b. cond b (Some ([], s)) None ≡ Some q → (b ≡ true) × (q ≡ ([], s))) [ true ↦ λ f. (refl, cc) | false ↦ λ f. cc ] e

pub data Step (left : ℕ) (s : Span) (q : List ℕ × Span) : Type 0 where
  Rests : is_settled s ≡ true → q ≡ ([], s) → Step left s q
  Shifts : is_settled s ≡ false → (p : List ℕ × Span) → put_out left (shifted s) ≡ Some p → q ≡ (s.low / 16777216 ∷ p.0, p.1) → Step left s q

put_suc : (left : ℕ) (s : Span) (q : List ℕ × Span) → put_out (suc left) s ≡ Some q → Step left s q
unfolding put_out
put_suc left s q e =
    elim (is_settled s) as (λ b. is_settled s ≡ b → cond b (Some ([], s)) (before (s.low / 16777216 ∷ []) (put_out left (shifted s))) ≡ Some q → Step left s q) [
      | true ↦ λ a f. Rests a cc
      | false ↦ λ a f. let g = before_some (s.low / 16777216 ∷ []) (put_out left (shifted s)) q f in Shifts a g.0 g.1 g.2
    ] refl e

settled_wide : (s : Span) → IsSpan s → is_settled s ≡ true → IsWide s
settled_wide s k e = elim (nat_le 65536 s.range) as (λ b. nat_le 65536 s.range ≡ b → (b && is_apart s) ≡ true → IsWide s) [
  | true ↦ λ a f. record { within = k.within; wide = grind (arith, nat_tests) }
  | false ↦ λ a f. cc
] refl e

-- where the rest lies in what is left, all lies in what there was
pub put_out_holds : (left : ℕ) (s : Span) (q : List ℕ × Span) (more : List ℕ) → IsSpan s → put_out left s ≡ Some q → Holds q.1 more → Holds s (q.0 ++ more)
put_out_holds zero s q more k e h = let f = put_zero s q e in rw f.1 (rw f.1 at h)
put_out_holds (suc left) s q more k e h =
    elim (put_suc left s q e) [
      | Rests a f ↦ rw f (rw f at h)
      | Shifts a p f g ↦ rw g (shift_holds s (p.0 ++ more) k a (put_out_holds left (shifted s) p more (shift_span s k a) f (rw g at h)))
    ]

pub put_out_wide : (left : ℕ) (s : Span) (q : List ℕ × Span) → IsSpan s → put_out left s ≡ Some q → IsWide q.1
put_out_wide zero s q k e = let f = put_zero s q e in rw f.1 (settled_wide s k f.0)
put_out_wide (suc left) s q k e =
    elim (put_suc left s q e) [
      | Rests a f ↦ rw f (settled_wide s k a)
      | Shifts a p f g ↦ rw g (put_out_wide left (shifted s) p (shift_span s k a) f)
    ]

pub coded_holds : (s : Span) (c : Cut) (q : List ℕ × Span) (more : List ℕ) → IsWide s → IsCut c → coded s c ≡ Some q → Holds q.1 more → Holds (narrowed s c) (q.0 ++ more)
coded_holds s c q more w k e h = put_out_holds 3 (narrowed s c) q more (narrow_span s c w k) e h

pub coded_wide : (s : Span) (c : Cut) (q : List ℕ × Span) → IsWide s → IsCut c → coded s c ≡ Some q → IsWide q.1
coded_wide s c q w k e = put_out_wide 3 (narrowed s c) q (narrow_span s c w k) e

-- the bytes aim at the part that was taken
pub aimed_at : (s : Span) (c : Cut) (bytes : List ℕ) → IsWide s → IsCut c → Holds (narrowed s c) bytes → (c.start ≤ aim s c.total bytes) × (aim s c.total bytes < c.start + c.size)
aimed_at s c bytes w k h =
    let u = s.range / c.total in
    let some : 0 < s.range / c.total = unit_some s c w k in
    let one : max (s.range / c.total) 1 ≡ s.range / c.total = omega arith in
    let low : s.low + c.start * (s.range / c.total) ≤ window bytes = h.low in
    let high : window bytes < s.low + c.start * (s.range / c.total) + c.size * (s.range / c.total) = h.high in
    let a : c.start * (s.range / c.total) ≤ window bytes - s.low = omega arith in
    let b : window bytes - s.low < (c.start + c.size) * (s.range / c.total) = omega arith in
    rw one (le-div c.start (window bytes - s.low) (s.range / c.total) some a, (div-lt_iff_lt-mul some).1 b)

-- what was found for a byte is reached by each aim at it
find_above : (bs : List (ℕ × ℕ)) (byte below : ℕ) (p : ℕ × ℕ) → find bs byte below ≡ Some p → below ≤ p.0
find_above [] byte below p e = cc
find_above (b ∷ bs) byte below p e =
    elim (b.0 == byte) as (λ t. cond t (Some (below, max b.1 1)) (find bs byte (below + max b.1 1)) ≡ Some p → below ≤ p.0) [
      | true ↦ λ f. let g : (below, max b.1 1) ≡ p = cc in rw (← g) (omega arith)
      | false ↦ λ f. let g = find_above bs byte (below + max b.1 1) p f in omega (arith, g)
    ] e

pub reach_found : (bs : List (ℕ × ℕ)) (byte below a : ℕ) (p : ℕ × ℕ) → find bs byte below ≡ Some p → p.0 ≤ a → a < p.0 + p.1 → reach bs a below ≡ Some byte
reach_found [] byte below a p e l h = cc
reach_found (b ∷ bs) byte below a p e l h =
    elim (b.0 == byte) as (λ t. (b.0 == byte) ≡ t → cond t (Some (below, max b.1 1)) (find bs byte (below + max b.1 1)) ≡ Some p → cond (nat_lt a (below + max b.1 1)) (Some b.0) (reach bs a (below + max b.1 1)) ≡ Some byte) [
      | true ↦ λ same f.
          let g : (below, max b.1 1) ≡ p = cc in
          let hit : nat_lt a (below + max b.1 1) ≡ true = let h2 = rw (← g) at h in grind (arith, nat_tests) in
          let name : b.0 ≡ byte = grind (arith, nat_tests) in
          rw hit (ap Some name)
      | false ↦ λ other f.
          let g = find_above bs byte (below + max b.1 1) p f in
          let miss : nat_lt a (below + max b.1 1) ≡ false = grind (arith, nat_tests) in
          rw miss (reach_found bs byte (below + max b.1 1) a p f l h)
    ] refl e

pub find_within : (bs : List (ℕ × ℕ)) (byte below : ℕ) (p : ℕ × ℕ) → find bs byte below ≡ Some p → (p.0 + p.1 ≤ below + weigh bs) × (0 < p.1)
find_within [] byte below p e = cc
find_within (b ∷ bs) byte below p e =
    elim (b.0 == byte) as (λ t. cond t (Some (below, max b.1 1)) (find bs byte (below + max b.1 1)) ≡ Some p → (p.0 + p.1 ≤ below + (max b.1 1 + weigh bs)) × (0 < p.1)) [
      | true ↦ λ f. let g : (below, max b.1 1) ≡ p = cc in rw (← g) (omega arith, omega arith)
      | false ↦ λ f. let g = find_within bs byte (below + max b.1 1) p f in (omega (arith, g.0), g.1)
    ] e

-- a context serves, or is passed over
pub serves_parts : (c : Context) → serves c ≡ true → (0 < c.unseen) × (total c ≤ 65536)
serves_parts c e = elim (nat_lt 0 c.unseen) as (λ b. nat_lt 0 c.unseen ≡ b → (b && nat_le (total c) 65536) ≡ true → (0 < c.unseen) × (total c ≤ 65536)) [
  | true ↦ λ a f. (grind (arith, nat_tests), grind (arith, nat_tests))
  | false ↦ λ a f. cc
] refl e

pub escape_cut : (c : Context) → serves c ≡ true → IsCut (escape c)
escape_cut c e = let p = serves_parts c e in record { some = p.0; within = omega arith; bound = p.1 }

abbrev pub found_at : Context → ℕ × ℕ → Cut
found_at c p = record { start = c.unseen + p.0; size = p.1; total = total c }

pub found_cut : (c : Context) (byte : ℕ) (p : ℕ × ℕ) → serves c ≡ true → find c.bytes byte 0 ≡ Some p → IsCut (found_at c p)
found_cut c byte p e f =
    let s = serves_parts c e in
    let w = find_within c.bytes byte 0 p f in
    record { some = w.1; within = omega (arith, w.0); bound = s.1 }

-- what a context does for a byte
pub data Does (c : Context) (byte : ℕ) : Type 0 where
  Passes : serves c ≡ false → Does c byte
  Escapes : serves c ≡ true → find c.bytes byte 0 ≡ None → Does c byte
  Finds : serves c ≡ true → (p : ℕ × ℕ) → find c.bytes byte 0 ≡ Some p → Does c byte

pub does : (c : Context) (byte : ℕ) → Does c byte
does c byte =
    elim (serves c) as (λ b. serves c ≡ b → Does c byte) [
      | false ↦ λ e. Passes e
      | true ↦ λ e. elim (find c.bytes byte 0) as (λ r. find c.bytes byte 0 ≡ r → Does c byte) [ None ↦ λ f. Escapes e f | Some p ↦ λ f. Finds e p f ] refl
    ] refl

share_passes : (c : Context) (byte : ℕ) → serves c ≡ false → share_of c byte ≡ Nothing
share_passes c byte e = rw e refl

share_escapes : (c : Context) (byte : ℕ) → serves c ≡ true → find c.bytes byte 0 ≡ None → share_of c byte ≡ Escape (escape c)
share_escapes c byte e f = rw (e, f) refl

share_finds : (c : Context) (byte : ℕ) (p : ℕ × ℕ) → serves c ≡ true → find c.bytes byte 0 ≡ Some p → share_of c byte ≡ Found (found_at c p)
share_finds c byte p e f = rw (e, f) refl

pub is_share : (c : Context) (byte : ℕ) → IsShare (share_of c byte)
is_share c byte = elim (does c byte) [
  | Passes e ↦ rw (share_passes c byte e) tt
  | Escapes e f ↦ rw (share_escapes c byte e f) (escape_cut c e)
  | Finds e p f ↦ rw (share_finds c byte p e f) (found_cut c byte p e f)
]

then_some : (r : Option (List ℕ × Span)) (more : Span → Option (List ℕ × Span)) (q : List ℕ × Span) → then_code r more ≡ Some q
    → (p : List ℕ × Span) × (r ≡ Some p) × ((x : List ℕ × Span) × (more p.1 ≡ Some x) × (q ≡ (p.0 ++ x.0, x.1)))
then_some None more q e = cc
then_some (Some p) more q e = (p, refl, before_some p.0 (more p.1) q e)

-- what is coded lies in the interval
pub record Codes (cs : List Context) (byte : ℕ) (s : Span) (q : List ℕ × Span) (more : List ℕ) : Type 0 where
  pub holds : Holds s (q.0 ++ more)
  pub guessed : guess cs s (q.0 ++ more) ≡ Some byte
  pub wide : IsWide q.1

aim_passes : (c : Context) (a : ℕ) → serves c ≡ false → aim_at c a ≡ Pass
aim_passes c a e = rw e refl

aim_leaves : (c : Context) (a : ℕ) → serves c ≡ true → a < c.unseen → aim_at c a ≡ Leave (escape c)
aim_leaves c a e l = let t : nat_lt a c.unseen ≡ true = grind (arith, nat_tests) in rw (e, t) refl

aim_finds : (c : Context) (a byte : ℕ) → serves c ≡ true → c.unseen ≤ a → reach c.bytes (a - c.unseen) 0 ≡ Some byte → aim_at c a ≡ At byte
aim_finds c a byte e l r = let t : nat_lt a c.unseen ≡ false = grind (arith, nat_tests) in rw (e, t, r) refl

drop_front : (a b : List ℕ) → drop (length a) (a ++ b) ≡ b
drop_front a b = drop-append_seam a b

escape_codes : (c : Context) (cs : List Context) (byte : ℕ) (s : Span) (p x q : List ℕ × Span) (more : List ℕ) → IsWide s → serves c ≡ true → coded s (escape c) ≡ Some p → q ≡ (p.0 ++ x.0, x.1)
    → Codes cs byte p.1 x more → Codes (c ∷ cs) byte s q more
escape_codes c cs byte s p x q more w a e f inner =
    let all : q.0 ++ more ≡ p.0 ++ (x.0 ++ more) = ap (λ (z : List ℕ × Span). z.0 ++ more) f ∙ append_assoc p.0 x.0 more in
    let cut = escape_cut c a in
    let narrow = coded_holds s (escape c) p (x.0 ++ more) w cut e inner.holds in
    let at = aimed_at s (escape c) (p.0 ++ (x.0 ++ more)) w cut narrow in
    let leaves = aim_leaves c (aim s (total c) (p.0 ++ (x.0 ++ more))) a (omega (arith, at.1)) in
    let goes_on : guess (c ∷ cs) s (p.0 ++ (x.0 ++ more)) ≡ Some byte = rw (leaves, e, drop_front p.0 (x.0 ++ more)) inner.guessed in
    record {
      holds = subst (Holds s) (sym all) (narrow_holds s (escape c) (p.0 ++ (x.0 ++ more)) cut narrow);
      guessed = subst (λ (b : List ℕ). guess (c ∷ cs) s b ≡ Some byte) (sym all) goes_on;
      wide = subst (λ (z : List ℕ × Span). IsWide z.1) (sym f) inner.wide;
    }

pub coding_codes : (cs : List Context) (byte : ℕ) (s : Span) (q : List ℕ × Span) (more : List ℕ) → IsWide s → coding cs byte s ≡ Some q → ((x : Span) → q.1 ≡ x → IsWide x → Holds x more) → Codes cs byte s q more
coding_codes [] byte s q more w e h = cc
coding_codes (c ∷ cs) byte s q more w e h =
    elim (does c byte) [
      | Passes a ↦
          let e2 : coding cs byte s ≡ Some q = rw (share_passes c byte a) at e in
          let r = coding_codes cs byte s q more w e2 h in
          record { holds = r.holds; guessed = rw (aim_passes c (aim s (total c) (q.0 ++ more)) a) r.guessed; wide = r.wide }
      | Escapes a f ↦
          let e2 : then_code (coded s (escape c)) (coding cs byte) ≡ Some q = rw (share_escapes c byte a f) at e in
          let t = then_some (coded s (escape c)) (coding cs byte) q e2 in
          let inner = coding_codes cs byte t.0.1 t.2.0 more (coded_wide s (escape c) t.0 w (escape_cut c a) t.1) t.2.1 (λ y g. h y (ap (λ (z : List ℕ × Span). z.1) t.2.2 ∙ g)) in
          escape_codes c cs byte s t.0 t.2.0 q more w a t.1 t.2.2 inner
      | Finds a p f ↦
          let e2 : coded s (found_at c p) ≡ Some q = rw (share_finds c byte p a f) at e in
          let cut = found_cut c byte p a f in
          let wide = coded_wide s (found_at c p) q w cut e2 in
          let narrow = coded_holds s (found_at c p) q more w cut e2 (h q.1 refl wide) in
          let at = aimed_at s (found_at c p) (q.0 ++ more) w cut narrow in
          let a0 = aim s (total c) (q.0 ++ more) in
          let reached = reach_found c.bytes byte 0 (a0 - c.unseen) p f (omega (arith, at.0)) (omega (arith, at.0, at.1)) in
          record {
            holds = narrow_holds s (found_at c p) (q.0 ++ more) cut narrow;
            guessed = rw (aim_finds c a0 byte a (omega (arith, at.0)) reached) refl;
            wide = wide;
          }
    ]

-- the bytes of the end
abbrev pub IsTail : ℕ → ℕ → Type 0
IsTail zero low = low ≡ 0
IsTail (suc zero) low = low % 16777216 ≡ 0
IsTail (suc (suc zero)) low = low % 65536 ≡ 0
IsTail (suc (suc (suc zero))) low = low % 256 ≡ 0
IsTail (suc (suc (suc (suc k)))) low = Unit {0}

ending_step : (left low : ℕ) → 0 < low → ending (suc left) low ≡ low / 16777216 ∷ ending left (low % 16777216 * 256)
unfolding ending
ending_step left low h = let t : (low == 0) ≡ false = grind (arith, nat_tests) in rw t refl

ending_none : (left : ℕ) → ending left 0 ≡ []
unfolding ending
ending_none zero = refl
ending_none (suc left) = refl

-- the end says `low`
window_step : (left low : ℕ) → low < 4294967296 → ((l : ℕ) → l ≡ low % 16777216 * 256 → window (ending left l) ≡ l) → window (ending (suc left) low) ≡ low
window_step left zero b h = rw ending_none refl
window_step left (suc n) b h =
    let f = h (suc n % 16777216 * 256) refl in
    rw (ending_step left (suc n) (omega arith)) (let w = window_cons (suc n / 16777216) (ending left (suc n % 16777216 * 256)) in omega (arith, w, f))

window_0 : (low : ℕ) → low < 4294967296 → low ≡ 0 → window (ending 0 low) ≡ low
window_0 low b t = rw (t, ending_none 0) refl

window_1 : (low : ℕ) → low < 4294967296 → low % 16777216 ≡ 0 → window (ending 1 low) ≡ low
window_1 low b t = window_step 0 low b (λ l e. window_0 l (omega arith) (omega arith))

window_2 : (low : ℕ) → low < 4294967296 → low % 65536 ≡ 0 → window (ending 2 low) ≡ low
window_2 low b t = window_step 1 low b (λ l e. window_1 l (omega arith) (omega arith))

window_3 : (low : ℕ) → low < 4294967296 → low % 256 ≡ 0 → window (ending 3 low) ≡ low
window_3 low b t = window_step 2 low b (λ l e. window_2 l (omega arith) (omega arith))

pub window_4 : (low : ℕ) → low < 4294967296 → window (ending 4 low) ≡ low
window_4 low b = window_step 3 low b (λ l e. window_3 l (omega arith) (omega arith))

-- so many bytes of the end are left, at most four
pub data Left (low : ℕ) (bytes : List ℕ) : Type 0 where
  Zero : low ≡ 0 → bytes ≡ ending 0 low → Left low bytes
  One : low % 16777216 ≡ 0 → bytes ≡ ending 1 low → Left low bytes
  Two : low % 65536 ≡ 0 → bytes ≡ ending 2 low → Left low bytes
  Three : low % 256 ≡ 0 → bytes ≡ ending 3 low → Left low bytes
  Four : bytes ≡ ending 4 low → Left low bytes

left_window : (low : ℕ) (bytes : List ℕ) → low < 4294967296 → Left low bytes → window bytes ≡ low
left_window low bytes b l = elim l [
  | Zero t e ↦ rw e (window_0 low b t)
  | One t e ↦ rw e (window_1 low b t)
  | Two t e ↦ rw e (window_2 low b t)
  | Three t e ↦ rw e (window_3 low b t)
  | Four e ↦ rw e (window_4 low b)
]

shift_step : (left low : ℕ) (t : ℕ) (bytes : List ℕ) → t ∷ bytes ≡ ending (suc left) low → bytes ≡ ending left (low % 16777216 * 256)
shift_step left zero t bytes e = let f = e ∙ ending_none (suc left) in cc
shift_step left (suc n) t bytes e = let f = e ∙ ending_step left (suc n) (omega arith) in cc

left_shift : (low t : ℕ) (bytes : List ℕ) → Left low (t ∷ bytes) → Left (low % 16777216 * 256) bytes
left_shift low t bytes l = elim l [
  | Zero h e ↦ let f = (rw h at e) ∙ ending_none 0 in cc
  | One h e ↦ Zero (omega arith) (shift_step 0 low t bytes e)
  | Two h e ↦ One (omega arith) (shift_step 1 low t bytes e)
  | Three h e ↦ Two (omega arith) (shift_step 2 low t bytes e)
  | Four e ↦ Three (omega arith) (shift_step 3 low t bytes e)
]

put_out_left : (left : ℕ) (s : Span) (q : List ℕ × Span) (more : List ℕ) → put_out left s ≡ Some q → Left s.low (q.0 ++ more) → Left q.1.low more
put_out_left zero s q more e l = let f = put_zero s q e in rw f.1 (rw f.1 at l)
put_out_left (suc left) s q more e l =
    elim (put_suc left s q e) [
      | Rests a f ↦ rw f (rw f at l)
      | Shifts a p f g ↦ rw g (put_out_left left (shifted s) p more f (left_shift s.low (s.low / 16777216) (p.0 ++ more) (rw g at l)))
    ]

-- no byte's code is the end
pub coding_goes_on : (cs : List Context) (byte : ℕ) (s : Span) (q : List ℕ × Span) (more : List ℕ) → IsWide s → coding cs byte s ≡ Some q → ((x : Span) → q.1 ≡ x → IsWide x → Holds x more)
    → Left s.low (q.0 ++ more) → ⊥
coding_goes_on [] byte s q more w e h l = cc
coding_goes_on (c ∷ cs) byte s q more w e h l =
    elim (does c byte) [
      | Passes a ↦
          let e2 : coding cs byte s ≡ Some q = rw (share_passes c byte a) at e in
          coding_goes_on cs byte s q more w e2 h l
      | Escapes a f ↦
          let e2 : then_code (coded s (escape c)) (coding cs byte) ≡ Some q = rw (share_escapes c byte a f) at e in
          let t = then_some (coded s (escape c)) (coding cs byte) q e2 in
          let all : q.0 ++ more ≡ t.0.0 ++ (t.2.0.0 ++ more) = ap (λ (z : List ℕ × Span). z.0 ++ more) t.2.2 ∙ append_assoc t.0.0 t.2.0.0 more in
          let same : (narrowed s (escape c)).low ≡ s.low = omega arith in
          let there : Left (narrowed s (escape c)).low (t.0.0 ++ (t.2.0.0 ++ more)) = subst (λ (n : ℕ). Left n (t.0.0 ++ (t.2.0.0 ++ more))) (sym same) (subst (Left s.low) all l) in
          coding_goes_on cs byte t.0.1 t.2.0 more (coded_wide s (escape c) t.0 w (escape_cut c a) t.1) t.2.1 (λ y g. h y (ap (λ (z : List ℕ × Span). z.1) t.2.2 ∙ g))
          (put_out_left 3 (narrowed s (escape c)) t.0 (t.2.0.0 ++ more) t.1 there)
      | Finds a p f ↦
          let e2 : coded s (found_at c p) ≡ Some q = rw (share_finds c byte p a f) at e in
          let cut = found_cut c byte p a f in
          let narrow = coded_holds s (found_at c p) q more w cut e2 (h q.1 refl (coded_wide s (found_at c p) q w cut e2)) in
          let low : s.low + (c.unseen + p.0) * (s.range / total c) ≤ window (q.0 ++ more) = narrow.low in
          let some : 0 < s.range / total c = unit_some s (found_at c p) w cut in
          let first : 1 * 1 ≤ (c.unseen + p.0) * (s.range / total c) = (let up : 1 ≤ c.unseen + p.0 = omega (arith, (serves_parts c a).0) in mul-le-mul up some) in
          let back = left_window s.low (q.0 ++ more) (omega (arith, w.within, w.wide)) l in
          omega (arith, low, first, back)
    ]

-- whole bodies
strip_all : (bytes : List ℕ) → strip bytes bytes ≡ Some []
strip_all [] = refl
strip_all (b ∷ bs) = let t : (b == b) ≡ true = grind (arith, nat_tests) in rw t (strip_all bs)

pub strip_front : (front more : List ℕ) → strip front (front ++ more) ≡ Some more
strip_front [] more = refl
strip_front (b ∷ bs) more = let t : (b == b) ≡ true = grind (arith, nat_tests) in rw t (strip_front bs more)

pub strip_some : (front bytes rest : List ℕ) → strip front bytes ≡ Some rest → bytes ≡ front ++ rest
strip_some [] bytes rest e = cc
strip_some (b ∷ bs) [] rest e = cc
strip_some (b ∷ bs) (c ∷ cs) rest e =
    elim (b == c) as (λ t. (b == c) ≡ t → cond t (strip bs cs) None ≡ Some rest → c ∷ cs ≡ b ∷ (bs ++ rest)) [
      | true ↦ λ same f. let n : b ≡ c = grind (arith, nat_tests) in let r = strip_some bs cs rest f in cc
      | false ↦ λ other f. cc
    ] refl e

nothing_left : (r : Option (List ℕ)) → is_nothing r ≡ true → r ≡ Some []
nothing_left None e = cc
nothing_left (Some []) e = refl
nothing_left (Some (b ∷ bs)) e = cc

pub end_is : (s : Span) (code : List ℕ) → is_end s code ≡ true → code ≡ ending 4 s.low
end_is s code e = strip_some (ending 4 s.low) code [] (nothing_left (strip (ending 4 s.low) code) e) ∙ append-nil (ending 4 s.low)

pub end_ends : (s : Span) → is_end s (ending 4 s.low) ≡ true
end_ends s = rw (strip_all (ending 4 s.low)) refl

pack_some : (r : Option (List ℕ × Span)) (more : Span → Option (List ℕ)) (code : List ℕ) → pack_on r more ≡ Some code → (q : List ℕ × Span) × (r ≡ Some q) × ((rest : List ℕ) × (more q.1 ≡ Some rest) × (code ≡ q.0 ++ rest))
pack_some None more code e = cc
pack_some (Some q) more code e =
    elim (more q.1) as (λ r. more q.1 ≡ r → behind q.0 r ≡ Some code → (x : List ℕ × Span) × (Some q ≡ Some x) × ((rest : List ℕ) × (more x.1 ≡ Some rest) × (code ≡ x.0 ++ rest))) [
      | None ↦ λ f g. cc
      | Some rest ↦ λ f g. (q, refl, (rest, f, cc))
    ] refl e

-- the code of a body lies in the interval, and opens to the body
pub record Opens {M : Type 0} (contexts : M → List Context) (learned : M → ℕ → M) (room : ℕ) (m : M) (s : Span) (code bytes : List ℕ) : Type 0 where
  pub holds : Holds s code
  pub opens : unpacked contexts learned room m s code ≡ Some bytes

ends_here : {M : Type 0} (contexts : M → List Context) (learned : M → ℕ → M) (room : ℕ) (m : M) (s : Span) (code : List ℕ) → code ≡ ending 4 s.low → unpacked contexts learned room m s code ≡ Some []
ends_here contexts learned zero m s code e = rw (e, end_ends s) refl
ends_here contexts learned (suc room) m s code e = rw (e, end_ends s) refl

pub goes_on : (s : Span) (code : List ℕ) → (code ≡ ending 4 s.low → ⊥) → is_end s code ≡ false
goes_on s code h = elim (is_end s code) as (λ b. is_end s code ≡ b → b ≡ false) [ true ↦ λ e. absurd (h (end_is s code e)) | false ↦ λ e. refl ] refl

next_byte : {M : Type 0} (contexts : M → List Context) (learned : M → ℕ → M) (room : ℕ) (m : M) (s : Span) (byte : ℕ) (q : List ℕ × Span) (rest bytes : List ℕ)
    → is_end s (q.0 ++ rest) ≡ false → guess (contexts m) s (q.0 ++ rest) ≡ Some byte → coding (contexts m) byte s ≡ Some q → unpacked contexts learned room (learned m byte) q.1 rest ≡ Some bytes
    → unpacked contexts learned (suc room) m s (q.0 ++ rest) ≡ Some (byte ∷ bytes)
next_byte contexts learned room m s byte q rest bytes e g c u =
    let more : Span → List ℕ → Option (List ℕ) = λ t r. unpacked contexts learned room (learned m byte) t r in
    let stripped : strip_on (Some q) (q.0 ++ rest) more ≡ Some bytes = ap (λ (r : Option (List ℕ)). rest_on r (more q.1)) (strip_front q.0 rest) ∙ u in
    rw (e, g, c) (ap (behind (byte ∷ [])) stripped)

pub opens_packed : {M : Type 0} (contexts : M → List Context) (learned : M → ℕ → M) (bytes : List ℕ) (room : ℕ) (m : M) (s : Span) (code : List ℕ) → length bytes ≤ room → IsWide s
    → packed contexts learned m s bytes ≡ Some code → Opens contexts learned room m s code bytes
opens_packed contexts learned [] room m s code l w e =
    let f : ending 4 s.low ≡ code = cc in
    let v = window_4 s.low (omega (arith, w.within, w.wide)) in
    record { holds = rw (← f) (record { low = omega (arith, v); high = omega (arith, v, w.wide) }); opens = ends_here contexts learned room m s code (sym f) }
opens_packed contexts learned (byte ∷ bytes) zero m s code l w e = absurd (omega arith)
opens_packed contexts learned (byte ∷ bytes) (suc room) m s code l w e =
    let p = pack_some (coding (contexts m) byte s) (λ t. packed contexts learned (learned m byte) t bytes) code e in
    let q = p.0 in
    let rest = p.2.0 in
    let inner : IsWide q.1 → Opens contexts learned room (learned m byte) q.1 rest bytes = λ v. opens_packed contexts learned bytes room (learned m byte) q.1 rest (omega arith) v p.2.1 in
    let there : (x : Span) → q.1 ≡ x → IsWide x → Holds x rest = λ x f v. subst (λ (y : Span). IsWide y → Holds y rest) f (λ u. (inner u).holds) v in
    let codes = coding_codes (contexts m) byte s q rest w p.1 there in
    let on = goes_on s (q.0 ++ rest) (λ f. coding_goes_on (contexts m) byte s q rest w p.1 there (Four f)) in
    record {
      holds = rw p.2.2 codes.holds;
      opens = rw p.2.2 (next_byte contexts learned room m s byte q rest bytes on codes.guessed p.1 (inner codes.wide).opens);
    }

-- what opens was packed
pub record Packs {M : Type 0} (contexts : M → List Context) (learned : M → ℕ → M) (room : ℕ) (m : M) (s : Span) (code bytes : List ℕ) : Type 0 where
  pub packs : packed contexts learned m s bytes ≡ Some code
  pub fits : length bytes ≤ room

ends_packed : {M : Type 0} (contexts : M → List Context) (learned : M → ℕ → M) (room : ℕ) (m : M) (s : Span) (code bytes : List ℕ) → is_end s code ≡ true → Some [] ≡ Some bytes → Packs contexts learned room m s code bytes
ends_packed contexts learned room m s code bytes e f =
    let b : [] ≡ bytes = cc in
    rw (← b) (record { packs = ap Some (sym (end_is s code e)); fits = omega arith })

behind_some : (byte : ℕ) (r : Option (List ℕ)) (bytes : List ℕ) → behind (byte ∷ []) r ≡ Some bytes → (rest : List ℕ) × (r ≡ Some rest) × (bytes ≡ byte ∷ rest)
behind_some byte None bytes e = cc
behind_some byte (Some rest) bytes e = (rest, refl, cc)

unpack_some : (g : Option ℕ) (more : ℕ → Option (List ℕ)) (bytes : List ℕ) → unpack_on g more ≡ Some bytes → (byte : ℕ) × (rest : List ℕ) × (g ≡ Some byte) × (more byte ≡ Some rest) × (bytes ≡ byte ∷ rest)
unpack_some None more bytes e = cc
unpack_some (Some byte) more bytes e = let f = behind_some byte (more byte) bytes e in (byte, f.0, refl, f.1, f.2)

strip_on_some : (r : Option (List ℕ × Span)) (code : List ℕ) (more : Span → List ℕ → Option (List ℕ)) (bytes : List ℕ) → strip_on r code more ≡ Some bytes
    → (q : List ℕ × Span) × (rest : List ℕ) × (r ≡ Some q) × (code ≡ q.0 ++ rest) × (more q.1 rest ≡ Some bytes)
strip_on_some None code more bytes e = cc
strip_on_some (Some q) code more bytes e =
    elim (strip q.0 code) as (λ r. strip q.0 code ≡ r → rest_on r (more q.1) ≡ Some bytes → (x : List ℕ × Span) × (rest : List ℕ) × (Some q ≡ Some x) × (code ≡ x.0 ++ rest) × (more x.1 rest ≡ Some bytes)) [
      | None ↦ λ f g. cc
      | Some rest ↦ λ f g. (q, rest, refl, strip_some q.0 code rest f, g)
    ] refl e

pack_step : {M : Type 0} (contexts : M → List Context) (learned : M → ℕ → M) (m : M) (s : Span) (byte : ℕ) (q : List ℕ × Span) (rest code bytes : List ℕ)
    → coding (contexts m) byte s ≡ Some q → code ≡ q.0 ++ rest → packed contexts learned (learned m byte) q.1 bytes ≡ Some rest → packed contexts learned m s (byte ∷ bytes) ≡ Some code
pack_step contexts learned m s byte q rest code bytes c f p = rw (c, f) (ap (behind q.0) p)

pub packs_unpacked : {M : Type 0} (contexts : M → List Context) (learned : M → ℕ → M) (room : ℕ) (m : M) (s : Span) (code bytes : List ℕ) → unpacked contexts learned room m s code ≡ Some bytes → Packs contexts learned room m s code bytes
packs_unpacked contexts learned zero m s code bytes e =
    elim (is_end s code) as (λ b. is_end s code ≡ b → cond b (Some []) None ≡ Some bytes → Packs contexts learned zero m s code bytes) [
      | true ↦ λ a f. ends_packed contexts learned zero m s code bytes a f
      | false ↦ λ a f. cc
    ] refl e
packs_unpacked contexts learned (suc room) m s code bytes e =
    elim (is_end s code) as (λ b. is_end s code ≡ b → cond b (Some []) (unpack_on (guess (contexts m) s code) (λ byte. strip_on (coding (contexts m) byte s) code (λ t rest. unpacked contexts learned room (learned m byte) t rest))) ≡ Some bytes → Packs contexts learned (suc room) m s code bytes) [
      | true ↦ λ a f. ends_packed contexts learned (suc room) m s code bytes a f
      | false ↦ λ a f.
          let u = unpack_some (guess (contexts m) s code) (λ byte. strip_on (coding (contexts m) byte s) code (λ t rest. unpacked contexts learned room (learned m byte) t rest)) bytes f in
          let t = strip_on_some (coding (contexts m) u.0 s) code (λ t rest. unpacked contexts learned room (learned m u.0) t rest) u.1 u.3 in
          let inner = packs_unpacked contexts learned room (learned m u.0) t.0.1 t.1 u.1 t.4 in
          rw u.4 (record { packs = pack_step contexts learned m s u.0 t.0 t.1 code u.1 t.2 t.3 inner.packs; fits = omega (arith, inner.fits) })
    ] refl e

pub is_aim : (c : Context) (a : ℕ) → IsAim (aim_at c a)
is_aim c a =
    elim (serves c) as (λ b. serves c ≡ b → IsAim (cond b (cond (nat_lt a c.unseen) (Leave (escape c)) (aimed c (reach c.bytes (a - c.unseen) 0))) Pass)) [
      | true ↦ λ e. elim (nat_lt a c.unseen) as (λ t. IsAim (cond t (Leave (escape c)) (aimed c (reach c.bytes (a - c.unseen) 0)))) [
        | true ↦ escape_cut c e
        | false ↦ elim (reach c.bytes (a - c.unseen) 0) as (λ r. IsAim (aimed c r)) [ None ↦ escape_cut c e | Some byte ↦ tt ]
      ]
      | false ↦ λ e. tt
    ] refl
