use Rattle.std.proofs.Common.{◌∙◌}
use Rattle.enet_text.proofs.QuoteLemmas.{high-nothing, high-alone, high-none, high-low, low-none, low-read}
use Rattle.enet_text.proofs.quotes.hex_byte.Goals as goal

pub returns-in_err-high-clause-reads : goal.returns-in_err-high-clause-reads
returns-in_err-high-clause-reads c = rw c.from_residual.ensures (high-nothing c.args.text.now c.in_err-high.ensures.cases)

pub returns-in_err-low-clause-reads : goal.returns-in_err-low-clause-reads
returns-in_err-low-clause-reads c = rw c.from_residual-in_err-low.ensures
    (high-alone c.args.text.now c.in_ok-high.rest.now _ c.in_ok-high.ensures.cases.0 c.in_err-low.ensures.cases)

pub returns-in_err-high-2-clause-reads : goal.returns-in_err-high-2-clause-reads
returns-in_err-high-2-clause-reads c = rw c.from_residual-in_err-high-2.ensures
    (high-none c.args.text.now c.in_ok-high.rest.now _ c.in_ok-high.ensures.cases.0 c.in_err-high-2.ensures.value)

pub returns-in_err-low-2-clause-reads : goal.returns-in_err-low-2-clause-reads
returns-in_err-low-2-clause-reads c = rw c.from_residual-in_err-low-2.ensures
    (high-low c.args.text.now c.in_ok-high.rest.now _ c.in_ok-high.ensures.cases.0 c.in_ok-high-2.high c.in_ok-high-2.ensures.value
    ∙ low-none c.in_ok-high.rest.now c.in_ok-low.rest.now _ c.in_ok-low.ensures.cases.0 c.in_ok-high-2.high c.in_err-low-2.ensures.value)

pub returns-clause-reads : goal.returns-clause-reads
returns-clause-reads c =
    high-low c.args.text.now c.in_ok-high.rest.now _ c.in_ok-high.ensures.cases.0 c.in_ok-high-2.high c.in_ok-high-2.ensures.value
    ∙ low-read c.in_ok-high.rest.now _ _ c.in_ok-low.ensures.cases.0 c.in_ok-high-2.high c.in_ok-low-2.low c.in_ok-low-2.ensures.value
