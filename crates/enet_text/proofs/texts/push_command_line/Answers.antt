use Rattle.std.proofs.Common.{◌++◌, codes, List, ℕ, ap, ◌∙◌}
use Rattle.std.specs.String.{string_bytes}
use Rattle.enet_codec.specs.Message.{view}
use Rattle.enet_text.specs.InspectTexts.{fields_text, head_text, name_of}
use Rattle.enet_text.proofs.Joins.{behind}
use Rattle.enet_text.proofs.texts.push_command_line.Goals as goal

pub returns : goal.returns
returns c =
    let start : List ℕ = string_bytes c.args.text.now in
    let message = view c.args.command.now in
    let name : List ℕ = name_of message.body in
    let head : List ℕ = head_text message.head in
    let fields : List ℕ = fields_text c.args.bodies message.body in
    let one : List ℕ = string_bytes c.push_str.new.self in
    let two : List ℕ = string_bytes c.push_str-2.new.self in
    let three : List ℕ = string_bytes c.push_head.new.text in
    let four : List ℕ = string_bytes c.push_fields.new.text in
    let e2 = behind start (codes "  ") name one two c.in_ok-push_str.ensures.bytes
    (c.in_ok-push_str-2.ensures.bytes ∙ ap (λ (l : List ℕ). one ++ l) c.named.ensures.name) in
    let e3 = behind start (codes "  " ++ name) head two three e2 (c.in_ok-push_head.ensures ∙ ap (λ h. two ++ head_text h) c.named.ensures.head) in
    let e4 = behind start (codes "  " ++ name ++ head) fields three four e3 c.in_ok-push_fields.ensures in
    behind start (codes "  " ++ name ++ head ++ fields) (codes "\n") four (string_bytes c.push_str-3.new.self) e4 c.in_ok-push_str-3.ensures.bytes
