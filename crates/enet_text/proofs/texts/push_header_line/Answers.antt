use Rattle.std.proofs.Common.{refl, append_assoc}
use Rattle.enet_text.proofs.texts.push_header_line.Goals as goal

pub returns : goal.returns
returns c =
    simp (append_assoc, c.in_ok-push_str-2.ensures.bytes, c.in_ok-push_sent.ensures, c.in_ok-push_flag.ensures, c.in_ok-push_number.ensures, c.in_ok-push_peer.ensures, c.in_ok-push_str.ensures.bytes) refl
