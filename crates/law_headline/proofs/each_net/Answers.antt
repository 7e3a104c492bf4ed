use Rattle.law_headline.proofs.Net.{headline-net, delivered-net}
use Rattle.law_headline.proofs.each_net.Goals as goal

pub returns-clause-headline : goal.returns-clause-headline
returns-clause-headline c = headline-net

pub returns-clause-delivered : goal.returns-clause-delivered
returns-clause-delivered c = delivered-net
