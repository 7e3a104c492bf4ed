-- Whole bodies, byte by byte.
use Rattle.std.proofs.Common.{◌≡◌, ℕ, ◌+◌, ◌-◌, ◌<◌, ◌≤◌, true, false, cond, ◌==◌, ◌/◌, ◌%◌, ◌*◌, zero, suc, List, [], ◌∷◌, ◌++◌, length, take, Option, Some, None, refl, sym, ◌∙◌, ap, subst, arith, append_assoc, append-nil, length-append, length-take, add-one, lit≤, slice_set, min}
use Rattle.std.proofs.Math.ListN.{length-set}
use Rattle.std.proofs.Math.Seq.{take-suc-set}
use Rattle.enet_range_coder.specs.declared.coder.Coder.{Coder}
use Rattle.enet_range_coder.specs.Span.{Span, whole, ending}
use Rattle.enet_range_coder.specs.Private.Span.{IsWide}
use Rattle.enet_range_coder.specs.Context.{Context, coding, guess}
use Rattle.enet_range_coder.specs.Body.{strip, behind, packed, is_end, rest_on, strip_on, unpacked}
use Rattle.enet_range_coder.specs.Memory.{contexts}
use Rattle.enet_range_coder.specs.Learning.{nothing_learned, learned}
use Rattle.enet_range_coder.proofs.Round.{goes_on}
use Rattle.enet_range_coder.specs.Code.{coded_whole, opened_whole}

pub whole_wide : (s : Span) → s ≡ whole → IsWide s
whole_wide s e = let h : IsWide whole = record { within = lit≤ tt; wide = lit≤ tt } in subst IsWide (sym e) h

behind_nothing : (r : Option (List ℕ)) → behind [] r ≡ r
behind_nothing None = refl
behind_nothing (Some r) = refl

pub pack_start : (m : Coder) (s : Span) (body : List ℕ) → m ≡ nothing_learned → s ≡ whole → coded_whole body ≡ behind [] (packed contexts learned m s body)
unfolding coded_whole
pack_start m s body e f = ap (λ (x : Coder). packed contexts learned x whole body) (sym e) ∙ ap (λ (x : Span). packed contexts learned m x body) (sym f) ∙ sym (behind_nothing (packed contexts learned m s body))

pub unpack_start : (m : Coder) (s : Span) (room left : ℕ) (code : List ℕ) → m ≡ nothing_learned → s ≡ whole → left ≡ room → opened_whole room code ≡ behind [] (unpacked contexts learned left m s code)
unfolding opened_whole
unpack_start m s room left code e f g = ap (λ (x : Coder). unpacked contexts learned room x whole code) (sym e) ∙ ap (λ (x : Span). unpacked contexts learned room m x code) (sym f)
    ∙ ap (λ (x : ℕ). unpacked contexts learned x m s code) (sym g) ∙ sym (behind_nothing (unpacked contexts learned left m s code))

pub refused : (b : Option (List ℕ)) (out : List ℕ) (r : Option (List ℕ)) → b ≡ behind out r → r ≡ None → None ≡ b
refused b out r e f = rw (e, f) refl

pub done : (b : Option (List ℕ)) (out : List ℕ) (r : Option (List ℕ)) → b ≡ behind out r → r ≡ Some [] → Some out ≡ b
done b out r e f = rw (e, f) (ap Some (sym (append-nil out)))

pub behind_behind : (a b : List ℕ) (r : Option (List ℕ)) → behind a (behind b r) ≡ behind (a ++ b) r
behind_behind a b None = refl
behind_behind a b (Some r) = ap Some (sym (append_assoc a b r))

pub pack_next : {M : Type 0} (contexts : M → List Context) (learned : M → ℕ → M) (m : M) (s t : Span) (byte : ℕ) (bytes body out : List ℕ)
    → Some (out, t) ≡ coding (contexts m) byte s → body ≡ byte ∷ bytes → packed contexts learned m s body ≡ behind out (packed contexts learned (learned m byte) t bytes)
pack_next contexts learned m s t byte bytes body out e f = rw (f, ← e) refl

pub pack_stuck : {M : Type 0} (contexts : M → List Context) (learned : M → ℕ → M) (m : M) (s : Span) (byte : ℕ) (bytes body : List ℕ)
    → None ≡ coding (contexts m) byte s → body ≡ byte ∷ bytes → packed contexts learned m s body ≡ None
pack_stuck contexts learned m s byte bytes body e f = rw (f, ← e) refl

pub unpack_end : {M : Type 0} (contexts : M → List Context) (learned : M → ℕ → M) (room : ℕ) (m : M) (s : Span) (code : List ℕ) → is_end s code ≡ true → unpacked contexts learned room m s code ≡ Some []
unpack_end contexts learned zero m s code e = rw e refl
unpack_end contexts learned (suc room) m s code e = rw e refl

pub unpack_full : {M : Type 0} (contexts : M → List Context) (learned : M → ℕ → M) (room : ℕ) (m : M) (s : Span) (code : List ℕ) → is_end s code ≡ false → room ≡ 0 → unpacked contexts learned room m s code ≡ None
unpack_full contexts learned zero m s code e z = rw e refl
unpack_full contexts learned (suc room) m s code e z = absurd (omega arith)

pub unpack_lost : {M : Type 0} (contexts : M → List Context) (learned : M → ℕ → M) (room : ℕ) (m : M) (s : Span) (code : List ℕ) → is_end s code ≡ false → None ≡ guess (contexts m) s code → unpacked contexts learned room m s code ≡ None
unpack_lost contexts learned zero m s code e g = rw e refl
unpack_lost contexts learned (suc room) m s code e g = rw (e, ← g) refl

pub unpack_stuck : {M : Type 0} (contexts : M → List Context) (learned : M → ℕ → M) (room : ℕ) (m : M) (s : Span) (code : List ℕ) (byte : ℕ)
    → is_end s code ≡ false → Some byte ≡ guess (contexts m) s code → None ≡ coding (contexts m) byte s → unpacked contexts learned room m s code ≡ None
unpack_stuck contexts learned zero m s code byte e g c = rw e refl
unpack_stuck contexts learned (suc room) m s code byte e g c = rw (e, ← g, ← c) refl

pub unpack_other : {M : Type 0} (contexts : M → List Context) (learned : M → ℕ → M) (room : ℕ) (m : M) (s : Span) (code : List ℕ) (byte : ℕ) (out : List ℕ) (t : Span)
    → is_end s code ≡ false → Some byte ≡ guess (contexts m) s code → Some (out, t) ≡ coding (contexts m) byte s → None ≡ strip out code → unpacked contexts learned room m s code ≡ None
unpack_other contexts learned zero m s code byte out t e g c n = rw e refl
unpack_other contexts learned (suc room) m s code byte out t e g c n =
    let more : Span → List ℕ → Option (List ℕ) = λ t r. unpacked contexts learned room (learned m byte) t r in
    let stripped : strip_on (Some (out, t)) code more ≡ None = ap (λ (r : Option (List ℕ)). rest_on r (more t)) (sym n) in
    rw (e, ← g, ← c) (ap (behind (byte ∷ [])) stripped)

pub unpack_next : {M : Type 0} (contexts : M → List Context) (learned : M → ℕ → M) (room left : ℕ) (m : M) (s : Span) (code : List ℕ) (byte : ℕ) (out : List ℕ) (t : Span) (rest : List ℕ)
    → room ≡ suc left → is_end s code ≡ false → Some byte ≡ guess (contexts m) s code → Some (out, t) ≡ coding (contexts m) byte s → Some rest ≡ strip out code
    → unpacked contexts learned room m s code ≡ behind (byte ∷ []) (unpacked contexts learned left (learned m byte) t rest)
unpack_next contexts learned room left m s code byte out t rest r e g c n =
    let more : Span → List ℕ → Option (List ℕ) = λ t x. unpacked contexts learned left (learned m byte) t x in
    let stripped : strip_on (Some (out, t)) code more ≡ more t rest = ap (λ (x : Option (List ℕ)). rest_on x (more t)) (sym n) in
    rw (r, e, ← g, ← c) (ap (behind (byte ∷ [])) stripped)

pub unpack_goes : (out first : List ℕ) (at byte : ℕ) (m n : Coder) (s t : Span) (code rest said : List ℕ) → at < length out
    → opened_whole (length out) first ≡ behind (take at out) (unpacked contexts learned (length out - at) m s code)
    → is_end s code ≡ false → Some byte ≡ guess (contexts m) s code → Some (said, t) ≡ coding (contexts m) byte s → Some rest ≡ strip said code → n ≡ learned m byte
    → opened_whole (length (slice_set out at byte)) first ≡ behind (take (at + 1) (slice_set out at byte)) (unpacked contexts learned (length (slice_set out at byte) - (at + 1)) n t rest)
unpack_goes out first at byte m n s t code rest said l b e g c r k =
    let same : length (slice_set out at byte) ≡ length out = length-set out at byte in
    let room : length out - at ≡ suc (length out - (at + 1)) = omega arith in
    let next = unpack_next contexts learned (length out - at) (length out - (at + 1)) m s code byte said t rest room e g c r in
    let front : take (at + 1) (slice_set out at byte) ≡ take at out ++ byte ∷ [] = rw add-one (take-suc-set out at byte l) in
    rw (same, front, k) (b ∙ ap (behind (take at out)) next ∙ behind_behind (take at out) (byte ∷ []) (unpacked contexts learned (length out - (at + 1)) (learned m byte) t rest))

pub pack_goes : (body front next said rest here : List ℕ) (byte : ℕ) (m n : Coder) (s t : Span) → coded_whole body ≡ behind front (packed contexts learned m s here) → here ≡ byte ∷ rest
    → Some (said, t) ≡ coding (contexts m) byte s → n ≡ learned m byte → next ≡ front ++ said → coded_whole body ≡ behind next (packed contexts learned n t rest)
pack_goes body front next said rest here byte m n s t b h c k f =
    rw (k, f) (b ∙ ap (behind front) (pack_next contexts learned m s t byte rest here said c h) ∙ behind_behind front said (packed contexts learned (learned m byte) t rest))

pub pack_ends : (body front next said here : List ℕ) (m : Coder) (s : Span) → coded_whole body ≡ behind front (packed contexts learned m s here) → here ≡ [] → said ≡ ending 4 s.low → next ≡ front ++ said → coded_whole body ≡ Some next
pack_ends body front next said here m s b h e f = b ∙ ap (λ (x : List ℕ). behind front (packed contexts learned m s x)) h ∙ ap Some (ap (λ (x : List ℕ). front ++ x) (sym e) ∙ sym f)

-- there is no room for what comes behind the front
behind_longer : (front said code : List ℕ) (r : Option (List ℕ)) → behind front (behind said r) ≡ Some code → length front + length said ≤ length code
behind_longer front said code None e = cc
behind_longer front said code (Some r) e =
    let f : front ++ (said ++ r) ≡ code = cc in
    let g = length-append front (said ++ r) in
    let h = length-append said r in
    rw (← f) (omega (arith, g, h))

pub pack_full : (body out said rest here code : List ℕ) (at byte : ℕ) (m : Coder) (s t : Span) → at ≤ length out → coded_whole body ≡ behind (take at out) (packed contexts learned m s here) → here ≡ byte ∷ rest
    → Some (said, t) ≡ coding (contexts m) byte s → length out < at + length said → coded_whole body ≡ Some code → length out < length code
pack_full body out said rest here code at byte m s t l b h c n e =
    let f = sym (b ∙ ap (behind (take at out)) (pack_next contexts learned m s t byte rest here said c h)) ∙ e in
    let g = behind_longer (take at out) said code (packed contexts learned (learned m byte) t rest) f in
    let k : length (take at out) ≡ min at (length out) = length-take at out in
    omega (arith, g, k)

pub pack_no_end : (body out said here code : List ℕ) (at : ℕ) (m : Coder) (s : Span) → at ≤ length out → coded_whole body ≡ behind (take at out) (packed contexts learned m s here) → here ≡ [] → said ≡ ending 4 s.low
    → length out < at + length said → coded_whole body ≡ Some code → length out < length code
pack_no_end body out said here code at m s l b h f n e =
    let a : coded_whole body ≡ Some (take at out ++ said) = pack_ends body (take at out) (take at out ++ said) said here m s b h f refl in
    let g : take at out ++ said ≡ code = cc in
    let k : length (take at out) ≡ min at (length out) = length-take at out in
    rw (← g) (omega (arith, k, length-append (take at out) said))

pub pack_lost : (body front rest here code : List ℕ) (byte : ℕ) (m : Coder) (s : Span) → coded_whole body ≡ behind front (packed contexts learned m s here) → here ≡ byte ∷ rest → None ≡ coding (contexts m) byte s → coded_whole body ≡ Some code → ⊥
pack_lost body front rest here code byte m s b h c e =
    let f = b ∙ ap (behind front) (pack_stuck contexts learned m s byte rest here c h) in
    cc

ending_short : (left low : ℕ) → length (ending left low) ≤ left
unfolding ending
ending_short zero low = omega arith
ending_short (suc left) low = elim (low == 0) as (λ b. length (cond b [] (low / 16777216 ∷ ending left (low % 16777216 * 256))) ≤ suc left) [
  | true ↦ omega arith
  | false ↦ let e = ending_short left (low % 16777216 * 256) in omega (arith, e)
]

-- the end has four bytes at most
pub end_short : (s : Span) (code : List ℕ) → 4 < length code → false ≡ is_end s code
end_short s code l = sym (goes_on s code (λ e. let f = ap length e in let g = ending_short 4 s.low in absurd (omega (arith, f, g))))
