use Rattle.std.proofs.Common.{◌≡◌}
use Rattle.std.specs.String.{string_bytes}
use Rattle.std.proofs.lemmas.List.{append_assoc}
use Rattle.enet_text.specs.Texts.{bytes_text}
use Rattle.enet_lab.specs.Answers.{to_text}
use Rattle.enet_lab.specs.Hosts.{host_text}
use Rattle.enet_lab.proofs.answer.datagram_text.Goals as goal

pub returns : goal.returns
returns c =
    let bytes : string_bytes c.in_ok-bytes.bytes ≡ bytes_text c.args.bytes.now = c.in_ok-bytes.ensures in
    let name : string_bytes c.in_ok-name.name ≡ host_text c.args.host = c.in_ok-name.ensures in
    let to : string_bytes c.in_ok-to.to ≡ to_text c.args.to = c.in_ok-to.ensures in
    simp (append_assoc, ← bytes, ← name, ← to) c.format.ensures.ok
