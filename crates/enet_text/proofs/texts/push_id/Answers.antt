use Rattle.std.proofs.Common.{refl, append_assoc}
use Rattle.enet_text.proofs.texts.push_id.Goals as goal

pub returns : goal.returns
returns c =
    simp (append_assoc, c.in_ok-push_bytes.ensures, c.in_ok-push_str.ensures.bytes, c.to_be_bytes.ensures) refl
