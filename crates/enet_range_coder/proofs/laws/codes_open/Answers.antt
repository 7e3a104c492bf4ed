use Rattle.enet_range_coder.proofs.Codes.{round_trip, strict, within, some}
use Rattle.enet_range_coder.proofs.laws.codes_open.Goals as goal

pub returns-clause-round_trip : goal.returns-clause-round_trip
returns-clause-round_trip c = round_trip

pub returns-clause-strict : goal.returns-clause-strict
returns-clause-strict c = strict

pub returns-clause-within : goal.returns-clause-within
returns-clause-within c = within

pub returns-clause-some : goal.returns-clause-some
returns-clause-some c = some
