use Rattle.std.proofs.Common.{◌^◌, lit≤}
use Rattle.enet_text.proofs.WordLemmas.{number_below-narrow, number_below-no}
use Rattle.enet_text.proofs.words.u32_of.Goals as goal

pub returns-in_err-number : goal.returns-in_err-number
returns-in_err-number c = number_below-no (2 ^ 32) _ _ (lit≤ tt) c.from_residual.ensures c.in_err-number.ensures

pub returns : goal.returns
returns c = number_below-narrow _ _ _ _ _ c.in_ok-number.ensures.0.0 c.in_ok-number.ensures.1 c.try_from.ensures c.ok.ensures.value
