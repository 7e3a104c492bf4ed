-- What the lists of a control channel keep.
use Rattle.std.specs.Prelude.{ℕ, ◌+◌, ◌-◌, ◌≤◌, min}

-- For how many more commands there is room without memory: each takes a place in the queue, and then one among what is
-- sent, where what is queued already has its places.
abbrev pub room_of : ℕ → ℕ → ℕ → ℕ → ℕ
room_of queued_len queued_capacity sent_len sent_capacity = min (queued_capacity - queued_len) (sent_capacity - (sent_len + queued_len))

-- What is queued has its room among what is sent, and a channel without commands has room for one.
pub record KeepsRoom (queued_len queued_capacity sent_len sent_capacity : ℕ) : Type 0 where
  pub room : sent_len + queued_len ≤ sent_capacity
  pub one_queued : 1 ≤ queued_capacity
  pub one_sent : 1 ≤ sent_capacity
