-- The rests after which a client counts itself.
use Rattle.std.specs.Prelude.{Bool, ◌+◌, ◌==◌, min}
use Rattle.enet_demo.specs.declared.patience.Patience.{Patience}

abbrev pub rested : Patience → Patience
rested patience = record { rests = min (patience.rests + 1) 4294967295 }

-- the last rest that is waited for was the hundredth
abbrev pub is_last : Patience → Bool
is_last patience = patience.rests == 100
