-- What reading gives where the number in the first byte is known.
use Rattle.std.proofs.Common.{◌≡◌, ℕ, ◌+◌, ◌-◌, ◌%◌, ◌≤◌, true, false, leb, List, length, slice_index, take, drop, Some, refl, arith}
use Rattle.std.specs.Prelude.{Option, None, IfSome}
use Rattle.std.specs.Int.{w16, from_be_bytes}
use Rattle.std.proofs.lemmas.Bool.{le-leb}
use Rattle.std.proofs.lemmas.List.{drop-drop, length-drop}
use Rattle.enet_codec.specs.declared.command.Head.{Head}
use Rattle.enet_codec.specs.Message.{Message, Spells, acknowledge, send_reliable, send_unreliable}
use Rattle.enet_codec.specs.declared.frequent.WholePacket.{WholePacket}
use Rattle.enet_codec.specs.Frequent.{whole_packet}
use Rattle.enet_codec.specs.Private.Reading.{head_at, message_at}
use Rattle.enet_codec.proofs.Fields.{IsBytes}
use Rattle.enet_codec.proofs.Laws.{message_takes, front_spells}

-- the head behind a first byte of 1
abbrev plain : ℕ → ℕ → Head
plain channel number = record { acknowledge = false; unsequenced = false; channel = channel; number = number }

pub plain_head : (bytes : List ℕ) (number : ℕ) → slice_index bytes 0 ≡ 1 → number ≡ from_be_bytes w16 (drop 2 bytes) → plain (slice_index bytes 1) number ≡ head_at bytes
plain_head bytes number first e = rw (first, e) refl

pub acknowledgement_at : (bytes : List ℕ) (head : Head) (number time : ℕ) → 8 ≤ length bytes → slice_index bytes 0 % 16 ≡ 1 → head ≡ head_at bytes
    → number ≡ from_be_bytes w16 (drop 4 bytes) → time ≡ from_be_bytes w16 (drop 6 bytes)
    → message_at bytes ≡ Some (record { head = head; body = acknowledge number time }, drop 8 bytes)
unfolding message_at
acknowledgement_at bytes head number time long kind h first second =
    let enough : leb 4 (length bytes) ≡ true = le-leb _ _ (omega arith) in
    let fields : leb 4 (length (drop 4 bytes)) ≡ true = le-leb _ _ (omega (arith, length-drop 4 bytes)) in
    let middle : drop 2 (drop 4 bytes) ≡ drop 6 bytes = drop-drop 2 4 bytes in
    let behind : drop 4 (drop 4 bytes) ≡ drop 8 bytes = drop-drop 4 4 bytes in
    let whole : leb 0 (length (drop 8 bytes)) ≡ true = le-leb _ _ (omega arith) in
    rw (enough, kind, fields, middle, behind, whole, h, first, second) refl

pub reliable_at : (bytes payload : List ℕ) (head : Head) (len : ℕ) → 6 + len ≤ length bytes → slice_index bytes 0 % 16 ≡ 6 → head ≡ head_at bytes
    → len ≡ from_be_bytes w16 (drop 4 bytes) → payload ≡ take len (drop 6 bytes)
    → message_at bytes ≡ Some (record { head = head; body = send_reliable payload }, drop (6 + len) bytes)
unfolding message_at
reliable_at bytes payload head len long kind h told part =
    let enough : leb 4 (length bytes) ≡ true = le-leb _ _ (omega arith) in
    let fields : leb 2 (length (drop 4 bytes)) ≡ true = le-leb _ _ (omega (arith, length-drop 4 bytes)) in
    let start : drop 2 (drop 4 bytes) ≡ drop 6 bytes = drop-drop 2 4 bytes in
    let whole : leb len (length (drop 6 bytes)) ≡ true = le-leb _ _ (omega (arith, length-drop 6 bytes)) in
    let behind : drop len (drop 6 bytes) ≡ drop (6 + len) bytes = drop-drop len 6 bytes in
    rw (enough, kind, fields, start, ← told, whole, behind, h, part) refl

pub unreliable_at : (bytes payload : List ℕ) (head : Head) (number len : ℕ) → 8 + len ≤ length bytes → slice_index bytes 0 % 16 ≡ 7 → head ≡ head_at bytes
    → number ≡ from_be_bytes w16 (drop 4 bytes) → len ≡ from_be_bytes w16 (drop 6 bytes) → payload ≡ take len (drop 8 bytes)
    → message_at bytes ≡ Some (record { head = head; body = send_unreliable number payload }, drop (8 + len) bytes)
unfolding message_at
unreliable_at bytes payload head number len long kind h first told part =
    let enough : leb 4 (length bytes) ≡ true = le-leb _ _ (omega arith) in
    let fields : leb 4 (length (drop 4 bytes)) ≡ true = le-leb _ _ (omega (arith, length-drop 4 bytes)) in
    let middle : drop 2 (drop 4 bytes) ≡ drop 6 bytes = drop-drop 2 4 bytes in
    let start : drop 4 (drop 4 bytes) ≡ drop 8 bytes = drop-drop 4 4 bytes in
    let whole : leb len (length (drop 8 bytes)) ≡ true = le-leb _ _ (omega (arith, length-drop 8 bytes)) in
    let behind : drop len (drop 8 bytes) ≡ drop (8 + len) bytes = drop-drop len 8 bytes in
    rw (enough, kind, fields, middle, start, ← told, whole, behind, h, first, part) refl

-- what reading gives is spelled by the bytes before the rest
pub at_spells : (bytes : List ℕ) (m : Message) (end : ℕ) → IsBytes bytes → end ≤ length bytes → message_at bytes ≡ Some (m, drop end bytes) → Spells (take end bytes) m
at_spells bytes m end fits within e =
    let len : length bytes - length (drop end bytes) ≡ end = omega (arith, length-drop end bytes) in
    rw len at (front_spells bytes m (drop end bytes) (message_takes bytes (m, drop end bytes) fits e))

-- the same of what a reader of whole packets answers, where it does
pub if_spells : (bytes : List ℕ) (found : Option (WholePacket × ℕ)) → IsBytes bytes → IfSome found (λ x. (1 ≤ x.1) × (x.1 ≤ length bytes))
    → IfSome found (λ x. message_at bytes ≡ Some (whole_packet x.0, drop x.1 bytes)) → IfSome found (λ x. Spells (take x.1 bytes) (whole_packet x.0))
if_spells bytes None fits length e = tt
if_spells bytes (Some x) fits length e = at_spells bytes (whole_packet x.0) x.1 fits length.1 e
