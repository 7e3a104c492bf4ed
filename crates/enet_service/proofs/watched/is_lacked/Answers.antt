use Rattle.std.proofs.Common.{◌≡◌, ◌%◌, not, nat_eq, ap, ◌∙◌, rules, arith}
use Rattle.std.specs.Prelude.{bit_and}
use Rattle.std.proofs.lemmas.Nat.Bits.{bit_at_lowest}
use Rattle.enet_codec.proofs.Arms.{flag}
use Rattle.enet_service.proofs.watched.is_lacked.Goals as goal

pub returns-in-Full : goal.returns-in-Full
returns-in-Full c =
    let reliable : not (nat_eq (bit_and c.args.flags 1) 0) ≡ nat_eq (c.args.flags % 2) 1 = flag c.args.flags 0 (omega arith) ∙ ap (λ n. nat_eq n 1) (bit_at_lowest c.args.flags) in
    search rules
