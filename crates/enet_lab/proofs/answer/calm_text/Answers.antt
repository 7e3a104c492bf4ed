use Rattle.std.proofs.Common.{◌≡◌}
use Rattle.std.specs.String.{string_bytes}
use Rattle.std.proofs.lemmas.List.{append_assoc}
use Rattle.enet_lab.specs.Answers.{share_text}
use Rattle.enet_lab.proofs.answer.calm_text.Goals as goal

pub returns : goal.returns
returns c =
    let a : string_bytes c.in_ok-a.a ≡ share_text c.args.told.a = c.in_ok-a.ensures in
    let b : string_bytes c.in_ok-b.b ≡ share_text c.args.told.b = c.in_ok-b.ensures in
    simp (append_assoc, ← a, ← b) c.format.ensures.ok
