-- A command more in a datagram.
use Rattle.std.proofs.Common.{◌≡◌, ℕ, ◌+◌, ◌-◌, ◌*◌, ◌<◌, ◌≤◌, ◌⊎◌, inl, inr, List, [], ◌∷◌, ◌++◌, length, take, drop, get_or, flat_map, slice_range, refl, sym, ap, subst, ◌∙◌, arith, append_assoc, Bool, true, false, cond, ◌==◌, ◌≢◌, ◌||◌, ◌&&◌, nat_le, nat_lt}
use Rattle.std.specs.List.{AllByRecursion, list_any}
use Rattle.std.proofs.lemmas.Bool.{le-leb, lt-leb, lt-ltb, le-ltb, eqb-true, eqb-false}
use Rattle.std.proofs.lemmas.List.{length-append, length-take, length-drop, take_at, drop_at, drop-take, drop-append-le, get_or-drop}
use Rattle.std.proofs.lemmas.List.Concat.{flat_map-append}
use Rattle.std.proofs.lemmas.List.Folds.{list_any-append}
use Rattle.enet_codec.specs.Message.{IsMessage, Message, canonical, kind_of, bit}
use Rattle.enet_codec.specs.Writing.{Puts}
use Rattle.enet_codec.proofs.Datagrams.{kind-low}
use Rattle.enet_outbox.specs.declared.packing.Progress.{Progress}
use Rattle.enet_outbox.specs.Outbox.{Outbox}
use Rattle.enet_outbox.specs.Emission.{Filling, asks, fits, size_of, with_command, shut}
use Rattle.enet_outbox.specs.Private.Packing.{Holds, taken_in, place_in, Leads}

append-nil : {A : Type 0} (xs : List A) → xs ++ [] ≡ xs
append-nil [] = refl
append-nil (x ∷ xs) = ap (λ ys. x ∷ ys) (append-nil xs)

puts-length : {old bytes new : List ℕ} {at past : ℕ} → Puts old at bytes new past → length new ≡ length old
puts-length {old} {bytes} {new} {at} {past} p =
    let d = drop (at + length bytes) old in
    omega (arith, ap length p.is, length-append (take at old) (bytes ++ d), length-append bytes d, length-take at old, length-drop (at + length bytes) old, p.fits)

take-take : (n m : ℕ) (xs : List ℕ) → n ≤ m → take n (take m xs) ≡ take n xs
take-take n m xs h = grind (arith, Rattle.std.proofs.lemmas.Grind.common_steps)

range-front : (xs : List ℕ) (from to : ℕ) → from ≤ to → slice_range xs from to ≡ drop from (take to xs)
range-front xs from to low =
    let e : from + (to - from) ≡ to = omega arith in
    sym (drop-take from (to - from) xs) ∙ ap (λ (n : ℕ). drop from (take n xs)) e

puts-front : {old bytes new : List ℕ} {at past : ℕ} → Puts old at bytes new past → take past new ≡ take at old ++ bytes
puts-front {old} {bytes} {new} {at} {past} p =
    let d = drop (at + length bytes) old in
    let l : length (take at old ++ bytes) ≡ past = omega (arith, length-append (take at old) bytes, length-take at old, p.fits, p.ends) in
    ap (take past) (p.is ∙ sym (append_assoc (take at old) bytes d)) ∙ take_at (take at old ++ bytes) d past l

-- what stood from 4 on, and the bytes that were written
puts-range : {old bytes new : List ℕ} {at past : ℕ} → Puts old at bytes new past → 4 ≤ at → slice_range new 4 past ≡ slice_range old 4 at ++ bytes
puts-range {old} {bytes} {new} {at} {past} p low =
    let up : 4 ≤ past = omega (arith, p.ends) in
    let l : 4 ≤ length (take at old) = omega (arith, length-take at old, p.fits) in
    range-front new 4 past up ∙ ap (drop 4) (puts-front p) ∙ drop-append-le 4 (take at old) bytes l ∙ ap (λ xs. xs ++ bytes) (sym (range-front old 4 at low))

-- the first byte that was written
puts-first : {old rest new : List ℕ} {at past first : ℕ} → Puts old at (first ∷ rest) new past → get_or new at 0 ≡ first
puts-first {old} {rest} {new} {at} {past} {first} p =
    let l : length (take at old) ≡ at = omega (arith, length-take at old, p.fits) in
    let e : at + 0 ≡ at = omega arith in
    ap (λ (n : ℕ). get_or new n 0) (sym e) ∙ sym (get_or-drop at new 0 0) ∙ ap (λ (xs : List ℕ). get_or (drop at xs) 0 0) p.is
    ∙ ap (λ (xs : List ℕ). get_or xs 0 0) (drop_at (take at old) ((first ∷ rest) ++ drop (at + length (first ∷ rest)) old) at l)

flags : (unsequenced acknowledge : Bool) (kind : ℕ) → kind < 13 → nat_le 128 (kind + 64 * bit unsequenced + 128 * bit acknowledge) ≡ acknowledge
flags true true kind low = le-leb 128 _ (omega arith)
flags false true kind low = le-leb 128 _ (omega arith)
flags true false kind low = lt-leb 128 _ (omega arith)
flags false false kind low = lt-leb 128 _ (omega arith)

first-asks : (m : Message) → nat_le 128 (kind_of m.body + 64 * bit m.head.unsequenced + 128 * bit m.head.acknowledge) ≡ asks m
first-asks m = flags m.head.unsequenced m.head.acknowledge (kind_of m.body) (kind-low m.body)

-- a command that was written where there was room for it
pub fits-written : {f : Filling} {p : Progress} {from to : List ℕ} {past : ℕ} (m : Message) → Holds f p from → 0 < p.commands → Puts from p.at (canonical m) to past → fits f m ≡ true
fits-written {f} {p} {from} {to} {past} m h more w =
    let some : 0 < f.commands = omega (arith, h.more) in
    let room : size_of m ≤ f.bytes = omega (arith, h.free, w.fits) in
    ap (λ (b : Bool). b && nat_le (size_of m) f.bytes) (lt-ltb 0 f.commands some) ∙ le-leb (size_of m) f.bytes room

one-more : (ms : List Message) (m : Message) → AllByRecursion IsMessage ms → IsMessage m → AllByRecursion IsMessage (ms ++ m ∷ [])
one-more [] m all is = (is, tt)
one-more (n ∷ ms) m all is = (all.0, one-more ms m all.1 is)

pub holds-written : {f : Filling} {p : Progress} {from to : List ℕ} {past : ℕ} (m : Message) → Holds f p from → 0 < p.commands → Puts from p.at (canonical m) to past → IsMessage m →
    (o : Outbox) → Holds (with_command f m o) (taken_in p past to) to
holds-written {f} {p} {from} {to} {past} m h more w is o = record {
  begins = omega (arith, h.begins, w.ends);
  within = omega (arith, w.ends, w.fits, puts-length w);
  text = puts-range w h.begins ∙ ap (λ (xs : List ℕ). xs ++ canonical m) h.text ∙ ap (λ (xs : List ℕ). flat_map canonical f.messages ++ xs) (sym (append-nil (canonical m)))
      ∙ sym (flat_map-append canonical f.messages (m ∷ []));
  free = omega (arith, h.free, w.ends, w.fits, puts-length w);
  more = ap (λ (n : ℕ). n - 1) h.more;
  is_closed = refl;
  is_asking = list_any-append asks f.messages (m ∷ []) ∙ ap (λ (b : Bool). b || list_any asks (m ∷ [])) h.is_asking ∙ ap (λ (b : Bool). p.asks || b) (last (asks m) ∙ sym (first-asks m) ∙ ap (nat_le 128) (sym (puts-first w)));
  messages = one-more f.messages m h.messages is;
  few = omega (arith, h.few, h.more, length-append f.messages (m ∷ []));
}
  where
    last : (b : Bool) → (b || false) ≡ b
    last true = refl
    last false = refl

-- behind the end anything may stand
pub holds-back : {f : Filling} {p : Progress} {from bytes to : List ℕ} {past : ℕ} → Holds f p from → Puts from p.at bytes to past → Holds f p to
holds-back {f} {p} {from} {bytes} {to} {past} h w =
    let l : length (take p.at from) ≡ p.at = omega (arith, length-take p.at from, h.within) in
    let low : p.at ≤ past = omega (arith, w.ends) in
    let same : take p.at to ≡ take p.at from =
    sym (take-take p.at past to low) ∙ ap (take p.at) (puts-front w) ∙ take_at (take p.at from) bytes p.at l in
    record {
      begins = h.begins;
      within = omega (arith, h.within, puts-length w);
      text = range-front to 4 p.at h.begins ∙ ap (drop 4) same ∙ sym (range-front from 4 p.at h.begins) ∙ h.text;
      free = h.free ∙ ap (λ (n : ℕ). n - p.at) (sym (puts-length w));
      more = h.more;
      is_closed = h.is_closed;
      is_asking = h.is_asking;
      messages = h.messages;
      few = h.few;
    }

-- one for which there is no room
pub unfit : {f : Filling} {p : Progress} {from : List ℕ} (m : Message) → Holds f p from → (p.commands ≡ 0) ⊎ (length from < p.at + size_of m) → fits f m ≡ false
unfit {f} {p} {from} m h (inl none) =
    let e : f.commands ≤ 0 = omega (arith, h.more) in
    ap (λ (b : Bool). b && nat_le (size_of m) f.bytes) (le-ltb 0 f.commands e)
unfit {f} {p} {from} m h (inr long) =
    let e : f.bytes < size_of m = omega (arith, h.free, h.within) in
    both (nat_lt 0 f.commands) _ (lt-leb (size_of m) f.bytes e)
  where
    both : (b c : Bool) → c ≡ false → (b && c) ≡ false
    both true c e = e
    both false c e = refl

pub holds-shut : {f : Filling} {p : Progress} {buf : List ℕ} → Holds f p buf → Holds (shut f) (record p { closed = true }) buf
holds-shut {f} {p} {buf} h = record { begins = h.begins; within = h.within; text = h.text; free = h.free; more = h.more; is_closed = refl; is_asking = h.is_asking; messages = h.messages; few = h.few }

-- nothing of what the buffer shows is in the outbox
pub holds-other : {f : Filling} {p : Progress} {buf : List ℕ} (o : Outbox) → Holds f p buf → Holds (record f { outbox = o }) p buf
holds-other {f} {p} {buf} o h = record { begins = h.begins; within = h.within; text = h.text; free = h.free; more = h.more; is_closed = h.is_closed; is_asking = h.is_asking; messages = h.messages; few = h.few }

-- a stage that ends in this filling
pub leads-by : {whole last : Filling} {o : Outbox} {q : Progress} {to : List ℕ} → whole ≡ last → Holds last q to → last.outbox ≡ o → Leads whole o q to
leads-by {whole} {last} {o} {q} {to} e h s = record {
  holds = let P : Filling → Type 0 = λ g. Holds g q to in subst P (sym e) h;
  outbox = ap (λ (g : Filling). g.outbox) e ∙ s;
}

-- where a command was written, there was room for one, and it stands where the next one goes
pub place-open : (p : Progress) (from bytes to : List ℕ) (past : ℕ) → 0 < length bytes → Puts from (place_in p from) bytes to past → (0 < p.commands) × Puts from p.at bytes to past × (p.at < length to)
place-open p from bytes to past some w =
    elim (p.commands == 0) as (λ b. (p.commands == 0) ≡ b → Puts from (cond b (length from) p.at) bytes to past → (0 < p.commands) × Puts from p.at bytes to past × (p.at < length to)) [
      | true ↦ λ e x. absurd (let fits = x.fits in omega arith)
      | false ↦ λ e x. (let some : p.commands ≢ 0 = eqb-false p.commands 0 e in omega arith, x, let l = puts-length x in let fits = x.fits in omega arith)
    ] refl w

-- where one didn't fit, the datagram takes no more, or there was no room
pub place-full : (p : Progress) (from : List ℕ) (n : ℕ) → length from < place_in p from + n → (p.commands ≡ 0) ⊎ (length from < p.at + n)
place-full p from n long =
    elim (p.commands == 0) as (λ b. (p.commands == 0) ≡ b → length from < cond b (length from) p.at + n → (p.commands ≡ 0) ⊎ (length from < p.at + n)) [
      | true ↦ λ e x. inl (eqb-true p.commands 0 e)
      | false ↦ λ e x. inr x
    ] refl long
