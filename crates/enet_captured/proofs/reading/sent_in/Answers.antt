use Rattle.std.proofs.Common.{sym, ap, take, drop}
use Rattle.std.proofs.lemmas.List.{take-append-drop}
use Rattle.enet_captured.proofs.reading.sent_in.Goals as goal

pub returns-in-Some : goal.returns-in-Some
returns-in-Some c =
    let datagram = c.args.datagram.now in
    let len = c.in-Some.field-0-1 in (
      λ h front rest split spelled. ap (λ h. h.sent) (c.in-Some.ensures.only h front rest split spelled).0,
      λ none. absurd (none c.in-Some.header (take len datagram) (drop len datagram) (sym (take-append-drop len datagram)) c.in-Some.ensures.found),
    )
