-- What the code's values mean.
use Rattle.std.specs.Prelude.{◌≡◌, ℕ, ◌+◌, List, ◌++◌, length, take, Option, Some, None}
use Rattle.std.specs.Borrow.{Bor}
use Rattle.enet_range_coder.specs.declared.chain.Place.{Place}
use Rattle.enet_range_coder.specs.declared.interval.Interval.{Interval}
use Rattle.enet_range_coder.specs.declared.interval.Coded.{Coded}
use Rattle.enet_range_coder.specs.declared.context.Part.{Part}
use Rattle.enet_range_coder.specs.declared.context.Share.{Share as ShareHere}
use Rattle.enet_range_coder.specs.declared.context.Share.TheVariants.{Nothing as NothingHere, Escape as EscapeHere, Found as FoundHere}
use Rattle.enet_range_coder.specs.declared.context.Aim.{Aim as AimHere}
use Rattle.enet_range_coder.specs.declared.context.Aim.TheVariants.{Pass as PassHere, Leave as LeaveHere, At as AtHere}
use Rattle.enet_range_coder.specs.Span.{Span, Cut}
use Rattle.enet_range_coder.specs.Context.{Share, Nothing, Escape, Found, Aim, Pass, Leave, At}

abbrev pub span_meant : Interval → Span
span_meant i = record { low = i.low; range = i.range }

abbrev pub cut_meant : Part → Cut
cut_meant p = record { start = p.start; size = p.size; total = p.total }

abbrev pub share_meant : ShareHere → Share
share_meant NothingHere = Nothing
share_meant (EscapeHere p) = Escape (cut_meant p)
share_meant (FoundHere p) = Found (cut_meant p)

abbrev pub aim_meant : AimHere → Aim
aim_meant PassHere = Pass
aim_meant (LeaveHere p) = Leave (cut_meant p)
aim_meant (AtHere byte) = At byte

abbrev pub place_meant : Option Place → Option (ℕ × ℕ)
place_meant None = None
place_meant (Some p) = Some (p.below, p.size)

-- the bytes that were put out
abbrev pub said : Coded → List ℕ
said c = take c.count c.bytes

-- these bytes come behind those that were put out, and the interval is this
pub record Behind (c : Coded) (r : Coded) (q : Option (List ℕ × Span)) : Type 0 where
  pub bytes : List ℕ
  pub gives : q ≡ Some (bytes, span_meant r.interval)
  pub says : said r ≡ said c ++ bytes
  pub counts : r.count ≡ c.count + length bytes

abbrev pub Puts : Coded → Option Coded → Option (List ℕ × Span) → Type 0
Puts c None q = q ≡ None
Puts c (Some r) q = Behind c r q

-- the bytes that were put out, and what interval is left
abbrev pub put_of : Option Coded → Option (List ℕ × Span)
put_of None = None
put_of (Some r) = Some (said r, span_meant r.interval)

abbrev pub rest_meant : Option (Bor (List ℕ)) → Option (List ℕ)
rest_meant None = None
rest_meant (Some r) = Some r.now
