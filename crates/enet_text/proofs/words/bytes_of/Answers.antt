use Rattle.std.proofs.Common.{◌≡◌, ◌-◌, length, take, drop, Some, IfOk, sym, ap, subst, ◌∙◌, arith, length-drop, false}
use Rattle.std.specs.Prelude.{bytes_eq, codes}
use Rattle.std.proofs.lemmas.List.{take_all}
use Rattle.enet_text.specs.Words.{letter, unquoted, bytes_of}
use Rattle.enet_text.proofs.WordLemmas.{bytes_of-hex, bytes_of-none, bytes_of-text, bytes_of-bad}
use Rattle.enet_text.proofs.words.bytes_of.Goals as goal

pub returns-then-eq : goal.returns-then-eq
returns-then-eq c = ap Some c.from_static.ensures ∙ sym (bytes_of-none c.args.word.now (c.if-eq.ensures ∙ ap (bytes_eq c.args.word.now) c.as_slice.ensures))

pub returns-then-starts_with : goal.returns-then-starts_with
returns-then-starts_with c =
    let other : false ≡ bytes_eq c.args.word.now (codes "-") = c.if-eq.ensures ∙ ap (bytes_eq c.args.word.now) c.as_slice.ensures in
    let rest : take (length c.args.word.now - 1) (drop 1 c.args.word.now) ≡ drop 1 c.args.word.now = take_all _ _ (omega (arith, length-drop 1 c.args.word.now)) in
    let same : unquoted letter (take (length c.args.word.now - 1) (drop 1 c.args.word.now)) ≡ bytes_of c.args.word.now =
    ap (unquoted letter) rest ∙ sym (bytes_of-text c.args.word.now other c.if-starts_with.ensures.value) in
    subst (λ spelled. IfOk c.unquoted.result (λ read. read ≡ spelled)) same c.unquoted.ensures

pub returns-in_ok-from_vec-in-Ok : goal.returns-in_ok-from_vec-in-Ok
returns-in_ok-from_vec-in-Ok c = ap Some c.in_ok-from_vec-in-Ok.ensures.ok ∙ sym (bytes_of-hex c.args.word.now _
    (c.if-eq.ensures ∙ ap (bytes_eq c.args.word.now) c.as_slice.ensures) c.if-starts_with.ensures.value c.in-Ok.ensures.ok)

pub returns-in-Err-OddLength : goal.returns-in-Err-OddLength
returns-in-Err-OddLength c = bytes_of-bad c.args.word.now c.in-Err-OddLength.field-0 (c.if-eq.ensures ∙ ap (bytes_eq c.args.word.now) c.as_slice.ensures)
    c.if-starts_with.ensures.value (λ memory. cc) c.in-Err-OddLength.ensures.err

pub returns-in-Err-InvalidStringLength : goal.returns-in-Err-InvalidStringLength
returns-in-Err-InvalidStringLength c = bytes_of-bad c.args.word.now c.in-Err-InvalidStringLength.field-0
    (c.if-eq.ensures ∙ ap (bytes_eq c.args.word.now) c.as_slice.ensures) c.if-starts_with.ensures.value (λ memory. cc) c.in-Err-InvalidStringLength.ensures.err

pub returns-in-Err-InvalidHexCharacter : goal.returns-in-Err-InvalidHexCharacter
returns-in-Err-InvalidHexCharacter c = bytes_of-bad c.args.word.now c.in-Err-InvalidHexCharacter.field-0
    (c.if-eq.ensures ∙ ap (bytes_eq c.args.word.now) c.as_slice.ensures) c.if-starts_with.ensures.value (λ memory. cc) c.in-Err-InvalidHexCharacter.ensures.err
