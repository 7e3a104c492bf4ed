-- How reliable numbers go on: on the wire modulo 65536, or without bound.
use Rattle.std.specs.Prelude.{ℕ, ◌+◌, ◌-◌, ◌%◌, Option, Some, None, if◌then◌else◌}
use Rattle.enet_seq.specs.Windows.{in_window, fragment_in_window}
use Rattle.enet_seq.specs.Windows as windows

-- `after` is the number so many past another, `ahead` how many numbers lie from a front up to a number that isn't below it
pub record Numbering : Type 0 where
  pub after : ℕ → ℕ → ℕ
  pub ahead : ℕ → ℕ → ℕ

-- those that a datagram has
abbrev pub wire : Numbering
wire = record { after = windows.after; ahead = windows.ahead }

-- those that were meant
abbrev pub unbounded : Numbering
unbounded = record { after = λ number count. number + count; ahead = λ front number. number - front }

-- the number that a wire number stands for where it is looked at
abbrev pub number_read : Numbering → ℕ → ℕ → Option ℕ
number_read g front number =
    if in_window (front % 65536) number then Some (g.after front (windows.ahead (front % 65536) number)) else None

-- the start that a fragment's wire numbers stand for where it is looked at
abbrev pub start_read : Numbering → ℕ → ℕ → ℕ → Option ℕ
start_read g front start own =
    if fragment_in_window (front % 65536) start own then Some (g.after front (windows.ahead (front % 65536) start)) else None
