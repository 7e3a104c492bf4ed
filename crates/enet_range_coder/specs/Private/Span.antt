-- What may be narrowed, and by what.
use Rattle.std.specs.Prelude.{◌+◌, ◌≤◌, ◌<◌}
use Rattle.enet_range_coder.specs.Span.{Span, Cut}

-- numbers of 32 bits
pub record IsSpan (s : Span) : Type 0 where
  pub within : s.low + s.range ≤ 4294967296
  pub some : 0 < s.range

-- what a part may be taken of
pub record IsWide (s : Span) : Type 0 where
  pub within : s.low + s.range ≤ 4294967296
  pub wide : 65536 ≤ s.range

pub record IsCut (c : Cut) : Type 0 where
  pub some : 0 < c.size
  pub within : c.start + c.size ≤ c.total
  pub bound : c.total ≤ 65536
