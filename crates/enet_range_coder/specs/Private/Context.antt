-- Shares and aims that have something to code.
use Rattle.enet_range_coder.specs.Private.Span.{IsCut}
use Rattle.enet_range_coder.specs.Context.{Share, Aim, Nothing, Escape, Found, Pass, Leave, At}

-- what is coded is a part
abbrev pub IsShare : Share → Type 0
IsShare Nothing = Unit {0}
IsShare (Escape c) = IsCut c
IsShare (Found c) = IsCut c

abbrev pub IsAim : Aim → Type 0
IsAim Pass = Unit {0}
IsAim (Leave c) = IsCut c
IsAim (At byte) = Unit {0}
