use Rattle.std.proofs.Common.{◌≡◌, ap, ◌∙◌}
use Rattle.std.specs.String.{string_bytes}
use Rattle.std.proofs.lemmas.List.{append_assoc}
use Rattle.enet_text.specs.Texts.{bytes_text}
use Rattle.enet_text.proofs.answers.receive_text.Goals as goal

pub returns : goal.returns
returns c =
    let body : string_bytes c.in_ok-body.body ≡ bytes_text c.args.packet.now.body = c.in_ok-body.ensures ∙ ap bytes_text c.as_slice.ensures in
    simp (append_assoc, ← body) c.format.ensures.ok
