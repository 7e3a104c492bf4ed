use Rattle.std.proofs.Common.{◌∙◌}
use Rattle.std.proofs.lemmas.List.{take_rest}
use Rattle.enet_codec.specs.Message.{view}
use Rattle.enet_guard.proofs.Ids.{asks_if, asks_not, asks_else, if_none}
use Rattle.enet_guard.proofs.asking.asks.Goals as goal

pub returns-in_err-command-clause-only : goal.returns-in_err-command-clause-only
returns-in_err-command-clause-only c = if_none _ _ c.from_residual-in_err-command.ensures (λ connect_id a.
    let same = c.in_ok-header.ensures.only a.header a.header_text _ a.bytes_are a.header_spelled in
    c.in_err-command.ensures.none _ a.command_text a.rest (take_rest c.args.bytes.now c.in_ok-header.len ∙ asks_else c.args.bytes.now c.in_ok-header.len connect_id a same.1) a.command_spelled)

pub returns-clause-asks : goal.returns-clause-asks
returns-clause-asks c =
    asks_if c.connect_id_of.result c.args.bytes.now c.in_ok-header.header c.in_ok-header.len _ (view c.in_ok-command.command) c.in_ok-command.field-0-1 c.connect_id_of.ensures
    (take_rest c.args.bytes.now c.in_ok-header.len) c.in_ok-header.ensures.found c.if-header-ne-NO_PEER.false c.in_ok-command.ensures.found

pub returns-clause-only : goal.returns-clause-only
returns-clause-only c = asks_not c.connect_id_of.result c.args.bytes.now (view c.in_ok-command.command) c.connect_id_of.ensures
    (λ connect_id a.
    let same = c.in_ok-header.ensures.only a.header a.header_text _ a.bytes_are a.header_spelled in
    (c.in_ok-command.ensures.only _ a.command_text a.rest (take_rest c.args.bytes.now c.in_ok-header.len ∙ asks_else c.args.bytes.now c.in_ok-header.len connect_id a same.1) a.command_spelled).0)
