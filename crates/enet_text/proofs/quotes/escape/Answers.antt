use Rattle.std.proofs.Common.{None, refl}
use Rattle.enet_text.specs.Words.{escape, high}
use Rattle.enet_text.proofs.QuoteLemmas.{leads, escape-nothing, escape-hex, escape-none, escape-read}
use Rattle.enet_text.proofs.quotes.escape.Goals as goal

pub returns-in_err-letter-clause-reads : goal.returns-in_err-letter-clause-reads
returns-in_err-letter-clause-reads c = rw c.from_residual.ensures (escape-nothing c.args.text.now c.in_err-letter.ensures.cases)

pub returns-then-letter-eq120-clause-reads : goal.returns-then-letter-eq120-clause-reads
returns-then-letter-eq120-clause-reads c =
    leads escape high c.args.text.now c.in_ok-letter.rest.now None None c.hex_byte.result
    (escape-hex c.args.text.now _ _ c.in_ok-letter.ensures.cases.0 c.if-letter-eq120.true) refl c.hex_byte.ensures.reads

pub returns-in_err-escape_of-clause-reads : goal.returns-in_err-escape_of-clause-reads
returns-in_err-escape_of-clause-reads c = rw c.from_residual-in_err-escape_of.ensures
    (escape-none c.args.text.now _ _ c.in_ok-letter.ensures.cases.0 c.if-letter-eq120.false c.in_err-escape_of.ensures)

pub returns-clause-reads : goal.returns-clause-reads
returns-clause-reads c = escape-read c.args.text.now _ _ c.in_ok-letter.ensures.cases.0 c.in_ok-escape_of.field-0 c.if-letter-eq120.false c.in_ok-escape_of.ensures
