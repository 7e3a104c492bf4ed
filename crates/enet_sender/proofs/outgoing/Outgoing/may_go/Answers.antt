use Rattle.std.proofs.Common.{◌≡◌, ◌&&◌, true, false, ltb, length, sym, ap, ◌∙◌, arith}
use Rattle.std.proofs.lemmas.Bool.{lt-ltb, le-ltb}
use Rattle.enet_sender.specs.Sender.{may_begin}
use Rattle.enet_sender.specs.Rings.{rings_of}
use Rattle.enet_sender.proofs.Sending.{may_go-is}
use Rattle.enet_sender.proofs.outgoing.Outgoing.may_go.Goals as goal

pub returns-then-len-lt-SPAN-clause-value : goal.returns-then-len-lt-SPAN-clause-value
returns-then-len-lt-SPAN-clause-value c = λ at keeps numbers.
    let o = c.args.self.now in
    let d = c.args.command.now in
    let reliable : d.reliable ≡ true = c.if-not-command.false in
    let low : ltb (length o.sent.items) 8192 ≡ true = lt-ltb (length o.sent.items) 8192 (omega (arith, c.if-len-lt-SPAN.true, c.len.ensures, o.sent.ok.0)) in
    c.may_begin.ensures ∙ sym (may_go-is at (rings_of o) c.args.occasion d keeps (numbers reliable) reliable ∙ ap (λ b. b && may_begin c.args.occasion d) low)

pub returns-else-len-lt-SPAN-clause-value : goal.returns-else-len-lt-SPAN-clause-value
returns-else-len-lt-SPAN-clause-value c = λ at keeps numbers.
    let o = c.args.self.now in
    let d = c.args.command.now in
    let reliable : d.reliable ≡ true = c.if-not-command.false in
    let low : ltb (length o.sent.items) 8192 ≡ false = le-ltb (length o.sent.items) 8192 (omega (arith, c.if-len-lt-SPAN.false, c.len.ensures, o.sent.ok.0)) in
    ap (λ n. ltb n 8192) (c.len.ensures ∙ o.sent.ok.0) ∙ low
    ∙ sym (may_go-is at (rings_of o) c.args.occasion d keeps (numbers reliable) reliable ∙ ap (λ b. b && may_begin c.args.occasion d) low)
