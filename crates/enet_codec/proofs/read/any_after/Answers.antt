use Rattle.std.proofs.lemmas.List.{take_rest}
use Rattle.enet_codec.proofs.Arms.{reads}
use Rattle.enet_codec.proofs.read.any_after.Goals as goal

pub returns : goal.returns
returns c =
    let split = c.in_ok-payload.ensures.cases in
    let bytes = c.args.bytes.now in
    let row = c.in_ok-row.row in
    reads c.args.kind c.payload_len.result row c.args.head bytes _ _ _ _ c.in_ok-row.ensures.known c.if-bytes-row.false (take_rest bytes row.fields) c.payload_len.ensures split.0 split.1 split.2 c.command.ensures
