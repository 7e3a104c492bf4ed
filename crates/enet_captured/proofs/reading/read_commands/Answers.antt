use Rattle.std.proofs.Common.{[], sym, append-nil, subst, Some}
use Rattle.enet_captured.specs.Private.Readings.{Says, unread}
use Rattle.enet_captured.proofs.Steps.{if_ok, is_compressed, is_plain}
use Rattle.enet_captured.proofs.reading.read_commands.Goals as goal

pub returns-in_default : goal.returns-in_default
returns-in_default c =
    ([], sym (append-nil c.args.told.now.items), subst (λ s. Says c.args.datagram.now [] (Some s)) (sym c.why_unread.ensures) (unread c.in_default.ensures.none))

pub returns-then-header : goal.returns-then-header
returns-then-header c =
    ([], sym (append-nil c.args.told.now.items), is_compressed c.args.datagram.now c.in-Some.header c.in-Some.len c.in-Some.ensures.found c.if-header.true)

pub returns : goal.returns
returns c = if_ok c.read_rest.result
    (λ why says. (
      says.0,
      says.1,
      is_plain c.args.datagram.now c.in-Some.header c.in-Some.len says.0 why c.in-Some.ensures.found c.if-header.false says.2,
    )) c.read_rest.ensures
