-- Counts and last places, one step further.
use Rattle.std.proofs.Common.{◌≡◌, ◌<◌, ◌+◌, ℕ, Bool, true, false, List, length, Option, Some, None, get_or, ap, arith, below_more}
use Rattle.std.proofs.lemmas.Option.{slice_get-get_or}
use Rattle.enet_codec.specs.declared.address.Addr.{Addr}
use Rattle.enet_captured.specs.declared.timeline.Connection.{Connection}
use Rattle.enet_captured.specs.Private.Belonging.{IsLast, holds_at, is_between, is_between_at}

-- what the connection at a place says is what is said of the place
pub at_read : (connections : List Connection) (from to : Addr) (i : ℕ) (d : Connection) → i < length connections
    → is_between_at connections from to i ≡ is_between (get_or connections i d) from to
at_read connections from to i d within = ap (λ (o : Option Connection). holds_at o from to) (slice_get-get_or connections i d within)

-- the last place so far, where the next one is it
pub last_here : (test : ℕ → Bool) (n : ℕ) → test n ≡ true → IsLast test (n + 1) (Some n)
last_here test n here = (omega arith, here, λ k above below. absurd (omega arith))

-- and where it isn't
pub last_before : (test : ℕ → Bool) (n : ℕ) (found : Option ℕ) → test n ≡ false → IsLast test n found → IsLast test (n + 1) found
last_before test n None isnt h = below_more (λ (k : ℕ). test k ≡ false) n h isnt
last_before test n (Some last) isnt h =
    let within : last < n + 1 = omega (arith, h.0) in
    (within, h.1, λ k above below. below_more (λ (j : ℕ). last < j → test j ≡ false) n (λ j b a. h.2 j a b) (λ a. isnt) k below above)
