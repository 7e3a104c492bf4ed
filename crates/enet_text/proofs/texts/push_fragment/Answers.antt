use Rattle.std.proofs.Common.{◌++◌, codes, List, ℕ, ◌∙◌, append_assoc}
use Rattle.std.specs.Fmt.{decimal}
use Rattle.std.specs.String.{string_bytes}
use Rattle.enet_text.specs.InspectTexts.{payload_text}
use Rattle.enet_text.proofs.Joins.{behind, named_behind}
use Rattle.enet_text.proofs.texts.push_fragment.Goals as goal

pub returns : goal.returns
returns c =
    let f = c.args.fragment in
    let start : List ℕ = string_bytes c.args.text.now in
    let one : List ℕ = codes " start " ++ decimal f.start in
    let two : List ℕ = one ++ codes " fragment " ++ decimal f.number in
    let three : List ℕ = two ++ codes " count " ++ decimal f.count in
    let four : List ℕ = three ++ codes " offset " ++ decimal f.offset in
    let five : List ℕ = four ++ codes " total " ++ decimal f.total in
    let e1 = c.in_ok-push_number.ensures ∙ append_assoc start (codes " start ") (decimal f.start) in
    let e2 = named_behind start one (codes " fragment ") (decimal f.number) (string_bytes c.push_number.new.text)
    (string_bytes c.push_number-2.new.text) e1 c.in_ok-push_number-2.ensures in
    let e3 = named_behind start two (codes " count ") (decimal f.count) (string_bytes c.push_number-2.new.text)
    (string_bytes c.push_number-3.new.text) e2 c.in_ok-push_number-3.ensures in
    let e4 = named_behind start three (codes " offset ") (decimal f.offset) (string_bytes c.push_number-3.new.text)
    (string_bytes c.push_number-4.new.text) e3 c.in_ok-push_number-4.ensures in
    let e5 = named_behind start four (codes " total ") (decimal f.total) (string_bytes c.push_number-4.new.text)
    (string_bytes c.push_number-5.new.text) e4 c.in_ok-push_number-5.ensures in
    behind start five (payload_text c.args.bodies c.args.payload.now) (string_bytes c.push_number-5.new.text) (string_bytes c.push_payload.new.text) e5
    c.in_ok-push_payload.ensures
