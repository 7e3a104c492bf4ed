-- The packet throttle of a peer. Times are in milliseconds.
use Rattle.std.specs.Prelude.{◌≡◌, ℕ, zero, suc, ◌<◌, ◌≤◌, ◌+◌, ◌-◌, ◌*◌, ◌/◌, ◌%◌, ◌^◌, min, max, Bool, true, false, not, ◌||◌, nat_le, nat_lt, if◌then◌else◌}

-- The throttle and its limit, of 32; the counter that shares out the packets; the interval in milliseconds and by how
-- much a sample moves the throttle; whether a sample was taken, and when the interval began; what was kept of the
-- intervals before, and the lowest round trip and highest variance of this one.
pub record Throttling : Type 0 where
  pub value : ℕ
  pub limit : ℕ
  pub counter : ℕ
  pub interval : ℕ
  pub acceleration : ℕ
  pub deceleration : ℕ
  pub sampled : Bool
  pub began : ℕ
  pub last_round_trip : ℕ
  pub last_variance : ℕ
  pub lowest_round_trip : ℕ
  pub highest_variance : ℕ

-- The throttle of a new peer.
abbrev pub start : Throttling
start = record {
  value = 32;
  limit = 32;
  counter = 0;
  interval = 5000;
  acceleration = 2;
  deceleration = 2;
  sampled = false;
  began = 0;
  last_round_trip = 500;
  last_variance = 0;
  lowest_round_trip = 500;
  highest_variance = 0;
}

-- Where a sample moves the throttle: to the limit where the round trip was no greater than its variance; else up by the
-- acceleration, at most to the limit, where the sample is no longer; else down by the deceleration, at most to 0, where
-- it is longer by more than twice the variance.
abbrev pub moved : Throttling → ℕ → ℕ
moved t r =
    if nat_le t.last_round_trip t.last_variance then t.limit
    else (if nat_le r t.last_round_trip then min (t.value + t.acceleration) t.limit
    else (if nat_lt (t.last_round_trip + 2 * t.last_variance) r then t.value - t.deceleration else t.value))

-- The lowest round trip and the highest variance of this interval, with those of now.
abbrev pub lowest : Throttling → ℕ → ℕ
lowest t round_trip = min t.lowest_round_trip round_trip

abbrev pub highest : Throttling → ℕ → ℕ
highest t variance = max t.highest_variance variance

-- From the moment `since` until now, on a clock modulo 2^32.
abbrev pub elapsed_time : ℕ → ℕ → ℕ
elapsed_time now since = (now + 2 ^ 32 - since) % 2 ^ 32

-- An interval ends with the first sample, and later with one that comes at least so many milliseconds after it began.
abbrev pub ends : Throttling → ℕ → Bool
ends t now = not t.sampled || nat_le t.interval (elapsed_time now t.began)

-- A sample moves the throttle, unless it is the first; then what was lowest and highest is kept where the interval ends.
abbrev pub after_sample : Throttling → ℕ → ℕ → ℕ → ℕ → Throttling
after_sample t now r round_trip variance = record t {
  value = if t.sampled then moved t r else t.value;
  sampled = true;
  began = if ends t now then now else t.began;
  last_round_trip = if ends t now then lowest t round_trip else t.last_round_trip;
  last_variance = if ends t now then max 1 (highest t variance) else t.last_variance;
  lowest_round_trip = if ends t now then round_trip else lowest t round_trip;
  highest_variance = if ends t now then variance else highest t variance;
}

-- The counter goes on by 7, modulo 32; a packet goes out where it isn't above the throttle.
abbrev pub next_counter : Throttling → ℕ
next_counter t = (t.counter + 7) % 32

abbrev pub is_admitted : Throttling → Bool
is_admitted t = nat_le (next_counter t) t.value

abbrev pub with_interval : Throttling → ℕ → ℕ → ℕ → Throttling
with_interval t interval acceleration deceleration =
    record t { interval = interval; acceleration = acceleration; deceleration = deceleration }

-- The limit, at most 32, and the throttle cut to it.
abbrev pub limited : Throttling → ℕ → Throttling
limited t limit = record t { limit = min limit 32; value = min t.value (min limit 32) }

-- How many bytes of reliable packets may be in transit: of the window as much as the limit says, at least the mtu.
abbrev pub transit : Throttling → ℕ → ℕ → ℕ
transit t window mtu = max (t.limit * window / 32) mtu

-- How many of the next packets go out, while the throttle stands still.
unfoldable pub admitted_of : ℕ → Throttling → ℕ
admitted_of zero t = 0
admitted_of (suc n) t =
    (if is_admitted t then 1 else 0) + admitted_of n (record t { counter = next_counter t })

-- Of 32 packets in a row go out one more than the throttle says, and all from 31 on.
abbrev pub SharesOut : Type 0
SharesOut = (t : Throttling) → t.value ≤ 32 → t.counter < 32 → admitted_of 32 t ≡ min (t.value + 1) 32
