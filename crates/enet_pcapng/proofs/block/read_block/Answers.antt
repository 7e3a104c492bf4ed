use Rattle.std.proofs.Common.{◌≡◌, ◌≤◌, ◌+◌, ◌∙◌, length, take, drop, sym, ap, subst, rules}
use Rattle.enet_pcapng.proofs.Places.{enough}
use Rattle.enet_pcapng.proofs.block.read_block.Goals as goal

pub returns-clause-block : goal.returns-clause-block
returns-clause-block c =
    let bytes = c.args.rest.now in
    let inside = c.in_ok-inside.ensures.cases in
    let body = c.in_ok-body.ensures.cases in
    let behind = c.in_ok-behind.ensures.cases in
    let n = c.in_ok-checked_sub.field-0 in
    let same : c.in_ok-len.len ≡ c.in_ok-u32_at.field-0 = search rules in
    let less : n + 12 ≡ c.in_ok-len.len = search rules in
    let rest : c.in_ok-body.behind.now ≡ drop n (drop 8 bytes) = body.2 ∙ ap (drop n) inside.2 in
    record {
      kind_is = c.in_ok-kind.ensures.1;
      order_is = search rules;
      len_is = ap (λ m. m + 12) body.3 ∙ less ∙ same ∙ c.in_ok-u32_at.ensures.1;
      is_within = subst (λ m. m + 12 ≤ length bytes) (sym body.3) (enough bytes c.in_ok-behind.field-0-0.now n (behind.1 ∙ ap (take 4) rest) behind.3);
      body_is = body.1 ∙ ap (take n) inside.2 ∙ ap (λ m. take m (drop 8 bytes)) (sym body.3);
      behind_is = behind.2 ∙ ap (drop 4) rest ∙ ap (λ m. drop 4 (drop m (drop 8 bytes))) (sym body.3);
    }
