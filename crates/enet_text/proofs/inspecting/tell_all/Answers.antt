use Rattle.std.proofs.Common.{◌≡◌, false, inl, rules}
use Rattle.std.specs.Prelude.{is_some}
use Rattle.enet_text.specs.Captures.{magic_of}
use Rattle.enet_text.proofs.Inputs.{not_some}
use Rattle.enet_text.proofs.Joins.{if_ok}
use Rattle.enet_text.proofs.inspecting.tell_all.Goals as goal

pub returns-else-is_capture-clause-whole : goal.returns-else-is_capture-clause-whole
returns-else-is_capture-clause-whole g c =
    let unseen : is_some (magic_of c.args.input.now) ≡ false = search rules in
    if_ok c.tell_lines.result (λ wrote. (wrote.0, wrote.1, inl (not_some _ unseen, wrote.2))) c.tell_lines.ensures.whole
