-- Sizes, in bytes, on which two ends agree.
use Rattle.std.specs.Prelude.{ℕ, min, max}

-- The least of both mtus and 4,096, at least 576.
abbrev pub mtu_of : ℕ → ℕ → ℕ
mtu_of one other = max 576 (min (min one other) 4096)

-- The lesser of two windows, 4,096 to 65,536.
abbrev pub window_within : ℕ → ℕ → ℕ
window_within one other = max 4096 (min (min one other) 65536)
