-- Bytes put out, one behind another.
use Rattle.std.proofs.Common.{◌≡◌, ℕ, ◌+◌, ◌-◌, true, false, zero, suc, List, [], ◌∷◌, ◌++◌, Option, Some, None, refl, sym, ◌∙◌, ap, arith, append_assoc, append-nil, ◌/◌, ◌%◌, ◌*◌, ◌==◌, ◌⊎◌, inl, inr}
use Rattle.std.proofs.lemmas.Bool.Decides.{nat_tests}
use Rattle.enet_range_coder.specs.declared.interval.Coded.{Coded}
use Rattle.enet_range_coder.specs.Span.{Span, is_settled, shifted, before, put_out, ending}
use Rattle.enet_range_coder.specs.Private.Meant.{span_meant, said, Puts}

pub puts_rest : (left : ℕ) (c : Coded) → is_settled (span_meant c.interval) ≡ true → Puts c (Some c) (put_out left (span_meant c.interval))
unfolding put_out
puts_rest zero c e = record { bytes = []; gives = rw e refl; says = sym (append-nil (said c)); counts = omega arith }
puts_rest (suc left) c e = record { bytes = []; gives = rw e refl; says = sym (append-nil (said c)); counts = omega arith }

pub puts_none : (left : ℕ) (c : Coded) → is_settled (span_meant c.interval) ≡ false → left ≡ 0 → Puts c None (put_out left (span_meant c.interval))
unfolding put_out
puts_none zero c e l = rw e refl
puts_none (suc left) c e l = absurd (omega arith)

put_shift : (left : ℕ) (s : Span) → is_settled s ≡ false → put_out (suc left) s ≡ before (s.low / 16777216 ∷ []) (put_out left (shifted s))
unfolding put_out
put_shift left s e = rw e refl

puts_before : (c n : Coded) (r : Option Coded) (top : ℕ) (q : Option (List ℕ × Span)) → n.count ≡ c.count + 1 → said n ≡ said c ++ top ∷ [] → Puts n r q → Puts c r (before (top ∷ []) q)
puts_before c n None top q k e p = rw p refl
puts_before c n (Some r) top q k e p = record {
  bytes = top ∷ p.bytes;
  gives = rw p.gives refl;
  says = p.says ∙ ap (λ (x : List ℕ). x ++ p.bytes) e ∙ append_assoc (said c) (top ∷ []) p.bytes;
  counts = omega (arith, p.counts, k);
}

pub puts_more : (left : ℕ) (c n : Coded) (r : Option Coded) → (left ≡ 0 → ⊥) → is_settled (span_meant c.interval) ≡ false → span_meant n.interval ≡ shifted (span_meant c.interval) → n.count ≡ c.count + 1
    → said n ≡ said c ++ c.interval.low / 16777216 ∷ [] → Puts n r (put_out (left - 1) (span_meant n.interval)) → Puts c r (put_out left (span_meant c.interval))
puts_more zero c n r h e s k b p = absurd (h refl)
puts_more (suc left) c n r h e s k b p =
    let f : suc left - 1 ≡ left = omega arith in
    rw (put_shift left (span_meant c.interval) e) (puts_before c n r (c.interval.low / 16777216) (put_out left (shifted (span_meant c.interval))) k b (rw (f, s) at p))

pub ending_none : (left low : ℕ) → (left ≡ 0) ⊎ ((left ≡ 0 → ⊥) × (low ≡ 0)) → ending left low ≡ []
unfolding ending
ending_none zero low h = refl
ending_none (suc left) low h = elim h [ inl e ↦ absurd (omega arith) | inr e ↦ rw e.1 refl ]

pub ending_more : (left low : ℕ) → (left ≡ 0 → ⊥) → (low ≡ 0 → ⊥) → ending left low ≡ low / 16777216 ∷ ending (left - 1) (low % 16777216 * 256)
unfolding ending
ending_more zero low h k = absurd (h refl)
ending_more (suc left) low h k =
    let t : (low == 0) ≡ false = grind (arith, nat_tests) in
    let f : suc left - 1 ≡ left = omega arith in
    rw (t, f) refl

pub said_end : (a b : List ℕ) (left low : ℕ) (m l : ℕ) → (left ≡ 0 → ⊥) → (low ≡ 0 → ⊥) → b ≡ a ++ low / 16777216 ∷ [] → l ≡ low % 16777216 * 256 → b ++ ending (left - 1) l ≡ a ++ ending left low
said_end a b left low m l h k e f = rw (ending_more left low h k, e, f) (append_assoc a (low / 16777216 ∷ []) (ending (left - 1) (low % 16777216 * 256)))
