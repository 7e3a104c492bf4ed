use Rattle.std.proofs.Common.{◌∷◌, [], rules, subst}
use Rattle.enet_console.specs.Inputs.{Goes}
use Rattle.enet_console.proofs.Coming.{reads_on-begin, reads_on-quiet, reads_on-byte, reads_line-feed}
use Rattle.enet_console.proofs.control.Control.next.Goals as goal

pub bytes-init : goal.bytes-init
bytes-init c = reads_on-begin c.args.self.now

pub returns-in_err-byte : goal.returns-in_err-byte
returns-in_err-byte c =
    rw c.from_residual.ensures (reads_on-quiet c.args.self.now c.bytes.self c.next.new.self c.bytes._count c.bytes.invariant c.in_err-byte.ensures)

pub returns-in-10 : goal.returns-in-10
returns-in-10 c =
    reads_line-feed c.args.self.now c.bytes.self c.end_line.new.self c.next.new.self c.end_line.result c.bytes._count c.bytes.invariant
    (subst (λ b. Goes c.bytes.self.input c.next.new.self (b ∷ [])) c.in-10.is c.in_ok-byte.ensures) c.end_line.ensures.input c.end_line.ensures.word
    c.end_line.ensures.line

pub bytes-preserved : goal.bytes-preserved
bytes-preserved c =
    reads_on-byte c.args.self.now c.bytes.self c.add.new.self c.next.new.self c.in_ok-byte.byte c.bytes._count c.bytes.invariant c.in_ok-byte.ensures (search rules)
    c.add.ensures.input c.add.ensures.line
