use Rattle.std.proofs.Common.{◌++◌, ap, ◌∙◌, append_assoc, arith, refl, List, ℕ}
use Rattle.std.specs.String.{string_bytes}
use Rattle.hex.specs.Hex.{encode_lower}
use Rattle.enet_text.proofs.Digits.{encode_split, some_bytes}
use Rattle.enet_text.proofs.pushing.push_bytes.Goals as goal

pub loop-rest-init : goal.loop-rest-init
loop-rest-init c = refl

pub loop-rest-smaller : goal.loop-rest-smaller
loop-rest-smaller c = omega (arith, c.split_at.ensures.back_len, c.loop-rest-test.true)

pub loop-rest-preserved : goal.loop-rest-preserved
loop-rest-preserved c =
    ap (λ (l : List ℕ). l ++ encode_lower c.split_at.result.1.now) c.in_ok-push_chunk.ensures
    ∙ append_assoc (string_bytes c.loop-rest.text) (encode_lower c.split_at.result.0.now) (encode_lower c.split_at.result.1.now)
    ∙ ap (λ (l : List ℕ). string_bytes c.loop-rest.text ++ l)
    (encode_split 64 c.loop-rest.rest.now c.split_at.result.0.now c.split_at.result.1.now c.split_at.ensures.front c.split_at.ensures.back)
    ∙ c.loop-rest.invariant

pub returns : goal.returns
returns c =
    c.in_ok-push_chunk-2.ensures ∙ c.loop-rest.invariant ∙ ap (λ (l : List ℕ). string_bytes c.args.text.now ++ l) (some_bytes c.args.bytes.now c.is_empty.result c.is_empty.ensures c.if-is_empty.false)
