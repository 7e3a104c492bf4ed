-- A bit of a packet's flags, read by a mask.
use Rattle.std.proofs.Common.{◌≡◌, ℕ, ◌/◌, ◌%◌, not, nat_eq, ap, ◌∙◌, arith}
use Rattle.std.specs.Prelude.{bit_and}
use Rattle.std.proofs.lemmas.Nat.Bits.{bit_at_lowest}
use Rattle.enet_codec.proofs.Arms.{flag}

pub asks-reliable : (flags : ℕ) → not (nat_eq (bit_and flags 1) 0) ≡ nat_eq (flags % 2) 1
asks-reliable flags = flag flags 0 (omega arith) ∙ ap (λ n. nat_eq n 1) (bit_at_lowest flags)

pub asks-unsequenced : (flags : ℕ) → not (nat_eq (bit_and flags 2) 0) ≡ nat_eq (flags / 2 % 2) 1
asks-unsequenced flags = flag flags 1 (omega arith)

pub asks-fragments : (flags : ℕ) → not (nat_eq (bit_and flags 8) 0) ≡ nat_eq (flags / 8 % 2) 1
asks-fragments flags = flag flags 3 (omega arith)
