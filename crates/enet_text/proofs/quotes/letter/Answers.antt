use Rattle.std.proofs.Common.{None}
use Rattle.enet_text.specs.Words.{letter, escape}
use Rattle.enet_text.specs.Private.Pieces.{ended}
use Rattle.enet_text.proofs.QuoteLemmas.{leads, letter-nothing, letter-quote, letter-control, letter-backslash, letter-plain, not-ended}
use Rattle.enet_text.proofs.quotes.letter.Goals as goal

pub returns-in_err-first-clause-reads : goal.returns-in_err-first-clause-reads
returns-in_err-first-clause-reads c = rw c.from_residual.ensures (letter-nothing c.args.text.now c.in_err-first.ensures.cases)

pub returns-then-byte-eq34-clause-reads : goal.returns-then-byte-eq34-clause-reads
returns-then-byte-eq34-clause-reads c = letter-quote c.args.text.now _ _ c.in_ok-first.ensures.cases.0 c.if-byte-eq34.true

pub returns-then-byte-lt32-clause-reads : goal.returns-then-byte-lt32-clause-reads
returns-then-byte-lt32-clause-reads c = letter-control c.args.text.now _ _ c.in_ok-first.ensures.cases.0 c.if-byte-eq34.false c.if-byte-lt32.true

pub returns-then-byte-eq92-clause-reads : goal.returns-then-byte-eq92-clause-reads
returns-then-byte-eq92-clause-reads c =
    let cut = c.in_ok-first.ensures.cases.0 in
    leads letter escape c.args.text.now c.in_ok-first.rest.now None (ended c.args.text.now) c.escape.result (letter-backslash c.args.text.now _ _ cut c.if-byte-eq92.true)
    (not-ended c.args.text.now _ _ cut c.if-byte-eq34.false) c.escape.ensures.reads

pub returns-clause-reads : goal.returns-clause-reads
returns-clause-reads c = letter-plain c.args.text.now _ _ c.in_ok-first.ensures.cases.0 c.if-byte-eq34.false c.if-byte-lt32.false c.if-byte-eq92.false
