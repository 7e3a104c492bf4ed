use Rattle.std.proofs.Common.{append_assoc, rules}
use Rattle.enet_text.proofs.answers.push_address.Goals as goal

pub returns : goal.returns
returns c =
    simp (append_assoc, c.in_ok-push_number-5.ensures, c.in_ok-push_number-4.ensures, c.in_ok-push_number-3.ensures, c.in_ok-push_number-2.ensures, c.in_ok-push_number.ensures)
    (search rules)
