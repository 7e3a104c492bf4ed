use Rattle.std.proofs.Common.{◌≡◌, ◌%◌, slice_index, arith, ap, rules}
use Rattle.enet_codec.proofs.KnownKinds.{plain_head, acknowledgement_at, at_spells}
use Rattle.enet_codec.proofs.frequent.read_acknowledged.Goals as goal

pub returns-clause-found : goal.returns-clause-found
returns-clause-found c =
    let bytes = c.args.bytes.now in
    let first : slice_index bytes 0 ≡ 1 = search rules in
    let head = plain_head bytes c.u16_at.result first c.u16_at.ensures in
    at_spells bytes _ 8 (λ i. omega (arith, c.type_inv.bytes i)) (omega arith)
    (acknowledgement_at bytes _ c.u16_at-2.result c.u16_at-3.result (omega arith) (ap (λ n. n % 16) first) head c.u16_at-2.ensures c.u16_at-3.ensures)
