use Rattle.std.proofs.Common.{refl, append_assoc}
use Rattle.enet_text.proofs.texts.push_payload.Goals as goal

pub returns : goal.returns
returns c =
    simp (append_assoc, c.in_ok-push_body.ensures, c.in_ok-push_str.ensures.bytes, c.in_ok-push_number.ensures) refl
