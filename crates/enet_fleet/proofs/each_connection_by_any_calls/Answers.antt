use Rattle.enet_fleet.proofs.Series.{lawful-series, headline-series, delivered-series, across-series, alone-among, settings-happen}
use Rattle.enet_fleet.proofs.each_connection_by_any_calls.Goals as goal

pub returns-clause-lawful : goal.returns-clause-lawful
returns-clause-lawful c = lawful-series

pub returns-clause-headline : goal.returns-clause-headline
returns-clause-headline c = headline-series

pub returns-clause-delivered : goal.returns-clause-delivered
returns-clause-delivered c = delivered-series

pub returns-clause-across : goal.returns-clause-across
returns-clause-across c = across-series

pub returns-clause-alone : goal.returns-clause-alone
returns-clause-alone c = alone-among

pub returns-clause-settings : goal.returns-clause-settings
returns-clause-settings c = settings-happen
