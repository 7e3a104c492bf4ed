use Rattle.std.proofs.Common.{◌≡◌, ◌≢◌, slice_get, None, sym, subst, rules}
use Rattle.enet_pcapng.specs.Interfaces.{Finds, IsOption, no_more, ended, found, another}
use Rattle.enet_pcapng.proofs.interface.exponent_in.Goals as goal

pub returns-then-code-eq-END : goal.returns-then-code-eq-END
returns-then-code-eq-END c =
    let value = c.in-Some.value.now in
    let behind = c.in-Some.behind.now in
    let rest = c.options.rest.now in
    let is : c.in-Some.code ≡ 0 = search rules in
    c.options.invariant None (ended rest value behind (subst (λ code. IsOption c.args.order rest code value behind) is c.in-Some.ensures.option))

pub returns-then-code-eq-UNIT : goal.returns-then-code-eq-UNIT
returns-then-code-eq-UNIT c =
    let value = c.in-Some.value.now in
    let behind = c.in-Some.behind.now in
    let rest = c.options.rest.now in
    let is : c.in-Some.code ≡ 9 = search rules in
    let first : c.copied.result ≡ slice_get value 0 = search rules in
    subst (λ exponent. Finds c.args.order c.args.options.now exponent) (sym first)
    (c.options.invariant _ (found rest value behind (subst (λ code. IsOption c.args.order rest code value behind) is c.in-Some.ensures.option)))

pub options-preserved : goal.options-preserved
options-preserved c =
    let value = c.in-Some.value.now in
    let behind = c.in-Some.behind.now in
    let rest = c.options.rest.now in
    let goes_on : c.in-Some.code ≢ 0 = search rules in
    let other : c.in-Some.code ≢ 9 = search rules in
    λ exponent finds. c.options.invariant exponent (another rest value behind c.in-Some.code exponent c.in-Some.ensures.option goes_on other finds)

pub returns : goal.returns
returns c = c.options.invariant None (no_more c.options.rest.now c.in_default.ensures.none)
