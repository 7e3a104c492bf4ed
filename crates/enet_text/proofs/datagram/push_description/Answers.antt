use Rattle.std.proofs.Common.{◌++◌, List, ℕ, refl, ap, ◌∙◌}
use Rattle.std.specs.String.{string_bytes}
use Rattle.enet_codec.specs.declared.stop.Stop.TheVariants as stop
use Rattle.enet_text.specs.InspectTexts.{header_line, stop_line}
use Rattle.enet_text.specs.Described.{why_unread, unread}
use Rattle.enet_text.proofs.Whole.{is_compressed, is_plain}
use Rattle.enet_text.proofs.Joins.{behind, if_ok}
use Rattle.enet_text.proofs.datagram.push_description.Goals as goal

pub returns-in_default : goal.returns-in_default
returns-in_default c =
    let d = c.args.datagram.now in
    if_ok c.push_stop_line.result (λ is. (
      stop_line (why_unread d) 0 d,
      is ∙ ap (λ s. string_bytes c.args.text.now ++ stop_line s 0 d) c.why_unread.ensures,
      unread c.in_default.ensures.none,
    )) c.push_stop_line.ensures

pub returns-then-header : goal.returns-then-header
returns-then-header c =
    let d = c.args.datagram.now in
    let line : List ℕ = header_line c.in-Some.header in
    let text : List ℕ = stop_line stop.Compressed c.in-Some.len c.bytes_after.result.now in
    if_ok c.push_stop_line-then-header.result (λ is. (
      line ++ text,
      behind (string_bytes c.args.text.now) line text (string_bytes c.push_header_line.new.text) (string_bytes c.push_stop_line-then-header.new.text)
          c.in_ok-push_header_line.ensures is,
      is_compressed c.args.bodies d c.bytes_after.result.now line text c.in-Some.header c.in-Some.len c.in-Some.ensures.found c.in-Some.ensures.length
          c.bytes_after.ensures c.if-header.true refl refl,
    )) c.push_stop_line-then-header.ensures

pub returns : goal.returns
returns c =
    let d = c.args.datagram.now in
    let line : List ℕ = header_line c.in-Some.header in
    if_ok c.push_commands.result (λ told. (
      line ++ told.0,
      behind (string_bytes c.args.text.now) line told.0 (string_bytes c.push_header_line.new.text) (string_bytes c.push_commands.new.text)
          c.in_ok-push_header_line.ensures told.1,
      is_plain c.args.bodies d line told.0 c.in-Some.header c.in-Some.len c.in-Some.ensures.found c.in-Some.ensures.length c.if-header.false refl told.2,
    )) c.push_commands.ensures
