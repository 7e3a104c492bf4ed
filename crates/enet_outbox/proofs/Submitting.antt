-- What submitting a packet comes to.
use Rattle.std.proofs.Common.{◌≡◌, ℕ, zero, suc, ◌<◌, ◌≤◌, Bool, true, false, not, ◌&&◌, cond, ltb, List, [], ◌∷◌, length, refl, sym, ap, ◌∙◌, arith, Some, Result, Ok, Err, IfErr, IsErrAnd}
use Rattle.std.specs.List.{slice_get, slice_set}
use Rattle.std.proofs.lemmas.Bool.{and_parts, ltb-false}
use Rattle.enet_codec.specs.declared.refusal.Refusal.{Refusal}
use Rattle.enet_codec.specs.declared.refusal.Refusal.TheVariants.{Memory, TooLarge}
use Rattle.enet_fragment.specs.Cutting.{piece_length, piece_count}
use Rattle.enet_sender.proofs.Courses.{piece_count-one}
use Rattle.enet_sender.specs.CommandChoice.{Packet, fragment_limit}
use Rattle.enet_sender.specs.Due.{SendingEnd, with_submitted}
use Rattle.enet_outbox.specs.Outbox.{Outbox, is_unsequenced, submitted, with_sequenced, with_unsequenced}

pub there : {X : Type 0} (xs : List X) (i : ℕ) → i < length xs → (x : X) × (slice_get xs i ≡ Some x)
there [] i inside = absurd (omega arith)
there (x ∷ xs) zero inside = (x, refl)
there (x ∷ xs) (suc i) inside = there xs i (omega arith)

-- a packet that isn't unsequenced goes to its channel
pub submitted-on : (o : Outbox) (mtu channel : ℕ) (q : Packet) (s : SendingEnd) (new : List SendingEnd) → is_unsequenced mtu q ≡ false
    → slice_get o.senders channel ≡ Some s → new ≡ slice_set o.senders channel (with_submitted mtu s q.flags q.body)
    → record o { senders = new } ≡ submitted o mtu channel q
submitted-on o mtu channel q s new plain is queued =
    let after : Outbox = record o { senders = new } in
    let e : with_sequenced o mtu channel q (slice_get o.senders channel) ≡ after =
    ap (with_sequenced o mtu channel q) is ∙ ap (λ (senders : List SendingEnd). record o { senders = senders }) (sym queued) in
    sym (ap (λ b. cond b (with_unsequenced o channel q) (with_sequenced o mtu channel q (slice_get o.senders channel))) plain ∙ e)

pub submitted-unsequenced : (o : Outbox) (mtu channel : ℕ) (q : Packet) → is_unsequenced mtu q ≡ true → with_unsequenced o channel q ≡ submitted o mtu channel q
submitted-unsequenced o mtu channel q goes =
    sym (ap (λ b. cond b (with_unsequenced o channel q) (with_sequenced o mtu channel q (slice_get o.senders channel))) goes)

-- a packet that goes unsequenced is one piece
pub one_piece : (asks : Bool) (len mtu : ℕ) → 576 ≤ mtu → (asks && not (ltb (piece_length mtu) len)) ≡ true → fragment_limit < piece_count len mtu → ⊥
one_piece asks len mtu low goes many =
    let short : ltb (piece_length mtu) len ≡ false = not_true (ltb (piece_length mtu) len) (and_parts asks (not (ltb (piece_length mtu) len)) goes).1 in
    let one : piece_count len mtu ≡ 1 = piece_count-one len mtu (omega arith) (ltb-false (piece_length mtu) len short) in
    omega arith
  where
    not_true : (b : Bool) → not b ≡ true → b ≡ false
    not_true true e = cc
    not_true false e = refl

-- want of memory isn't a packet that is too large
pub other_refusal : {X : Type 0} (r : Result X Refusal) → IfErr r (λ why. why ≡ Memory) → IsErrAnd r (λ why. why ≡ TooLarge) → ⊥
other_refusal (Ok x) memory large = large
other_refusal (Err e) memory large = let h : Memory ≡ TooLarge = sym memory ∙ large in cc
