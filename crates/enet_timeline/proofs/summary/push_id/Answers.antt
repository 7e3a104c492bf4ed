use Rattle.std.proofs.Common.{refl, append_assoc}
use Rattle.enet_timeline.specs.Summaries.{id_text}
use Rattle.enet_timeline.proofs.summary.push_id.Goals as goal

pub returns : goal.returns
unfolding id_text
returns c =
    simp (append_assoc, c.in_ok-push_str-3.ensures.bytes, c.in_ok-push_str-2.ensures.bytes, c.in_ok-push_str.ensures.bytes, c.as_str.ensures.value, c.in_ok-id.ensures, c.to_be_bytes.ensures) refl
