-- The lines of what waits, after a change.
use Rattle.std.proofs.Common.{◌≡◌, ◌≢◌, ℕ, eqb, true, false, cond, refl, sym, ap, ◌∙◌, inr, ◌⊎◌, arith, Option, Some, None, unwrap_or}
use Rattle.std.specs.Ordering.{nat_cmp}
use Rattle.std.specs.FinMap.{FinMap, get, insert, remove, len, empty, empty_of_len, get-empty}
use Rattle.std.proofs.lemmas.Bool.Decides.{nat_tests}
use Rattle.enet_packets.specs.declared.incoming_packet.IncomingPacket.{IncomingPacket}
use Rattle.enet_packets.specs.Packets.{Lines, line_at, with_line}
use Rattle.enet_receiver.proofs.Maps.{get_removed, get_inserted, get-remove_other, get-remove_same, get-insert_other, get-insert_same}

abbrev pub Line : Type 0
Line = FinMap nat_cmp IncomingPacket

-- a line after a change of one
pub get_with_line : (w : Lines) (n : ℕ) (line : Line) (q : ℕ) (l : Line) → get (with_line w n line) q ≡ Some l → ((q ≡ n) × (line ≡ l)) ⊎ ((q ≢ n) × (get w q ≡ Some l))
get_with_line w n line q l e =
    elim (eqb (len line) 0) as (λ b. get (cond b (remove w n) (insert w n line)) q ≡ Some l → ((q ≡ n) × (line ≡ l)) ⊎ ((q ≢ n) × (get w q ≡ Some l))) [
      | true ↦ λ f. inr (get_removed w n q l f)
      | false ↦ λ f. get_inserted w n q line l f
    ] e

-- what is in a line
pub in_line : (o : Option Line) (k : ℕ) (c : IncomingPacket) → get (unwrap_or o empty) k ≡ Some c → (line : Line) × (o ≡ Some line) × (get line k ≡ Some c)
in_line None k c e = absurd (let f : get (empty {X = IncomingPacket} {R = nat_cmp}) k ≡ None = get-empty nat_cmp k in cc)
in_line (Some line) k c e = (line, refl, e)

pub line_at-other : (w : Lines) (n : ℕ) (line : Line) (q : ℕ) → q ≢ n → line_at (with_line w n line) q ≡ line_at w q
line_at-other w n line q apart =
    elim (eqb (len line) 0) as (λ b. unwrap_or (get (cond b (remove w n) (insert w n line)) q) empty ≡ unwrap_or (get w q) empty) [
      | true ↦ ap (λ o. unwrap_or o empty) (get-remove_other w n q apart)
      | false ↦ ap (λ o. unwrap_or o empty) (get-insert_other w n q line apart)
    ]

pub line_at-same : (w : Lines) (n : ℕ) (line : Line) → line_at (with_line w n line) n ≡ line
line_at-same w n line =
    elim (eqb (len line) 0) as (λ b. eqb (len line) 0 ≡ b → unwrap_or (get (cond b (remove w n) (insert w n line)) n) empty ≡ line) [
      | true ↦ λ t. ap (λ o. unwrap_or o empty) (get-remove_same w n) ∙ sym (empty_of_len line (grind (arith, nat_tests)))
      | false ↦ λ _. ap (λ o. unwrap_or o empty) (get-insert_same w n line)
    ] refl
