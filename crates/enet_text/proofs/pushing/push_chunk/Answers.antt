use Rattle.std.proofs.Common.{sym, subst}
use Rattle.std.specs.Str.{IsUtf8}
use Rattle.enet_text.proofs.Digits.{IsUtf8-encode_lower, is_read}
use Rattle.enet_text.proofs.pushing.push_chunk.Goals as goal

pub unwrap-requires : goal.unwrap-requires
unwrap-requires c = is_read _ _ _ c.from_utf8.ensures.cases (λ e bad. bad.0 (subst IsUtf8 (sym c.write_digits.ensures) (IsUtf8-encode_lower c.args.bytes.now)))
