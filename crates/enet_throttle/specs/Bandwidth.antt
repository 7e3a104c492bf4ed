-- What follows from bandwidths, in bytes per second: windows in bytes, shares, and the throttle's limit.
use Rattle.std.specs.Prelude.{ℕ, ◌*◌, ◌/◌, min, max, Option, Some, None, ◌==◌, ◌&&◌, nat_le, if◌then◌else◌}

-- The window for a bandwidth: 4,096 bytes for each whole 65,536 bytes per second, 4,096 to 65,536.
abbrev pub window_for : ℕ → ℕ
window_for b = max 4096 (min ((b / 65536) * 4096) 65536)

-- The window for the own outgoing bandwidth and the other's incoming one. A bandwidth of 0 isn't known.
abbrev pub window_size : ℕ → ℕ → ℕ
window_size outgoing incoming =
    if outgoing == 0 && incoming == 0 then 65536
    else (if outgoing == 0 then window_for incoming
    else (if incoming == 0 then window_for outgoing
    else window_for (min outgoing incoming)))

-- An equal share of a bandwidth, at least 1. No peers count as one.
abbrev pub share : ℕ → ℕ → ℕ
share outgoing peers = max 1 (outgoing / max 1 peers)

-- The lesser of a peer's share and its own incoming bandwidth, as far as they are known.
abbrev pub budget : ℕ → ℕ → ℕ → Option ℕ
budget outgoing peers incoming =
    if outgoing == 0 && incoming == 0 then None
    else (if outgoing == 0 then Some incoming
    else (if incoming == 0 then Some (share outgoing peers)
    else Some (min (share outgoing peers) incoming)))

-- The throttle's limit for the bytes that were sent: of 32 as much as the budget is of the bytes, at least 1.
abbrev pub throttle_limit : ℕ → Option ℕ → ℕ
throttle_limit sent None = 32
throttle_limit sent (Some b) = if nat_le sent b then 32 else max 1 (32 * b / sent)
