use Rattle.law_headline.proofs.Page.{holds-behind}
use Rattle.law_headline.proofs.headline_of_less.Goals as goal

pub returns : goal.returns
returns c = holds-behind
