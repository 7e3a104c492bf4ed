-- What may be dispatched of what was submitted.
use Rattle.std.specs.Prelude.{◌≡◌, ℕ, false, ◌+◌, if◌then◌else◌, List, [], ◌∷◌, ◌⊎◌}
use Rattle.enet_sender.specs.CommandChoice.{Packet, ChosenPacket, carried}

-- the number of reliable commands that packets take
abbrev pub command_count : List ChosenPacket → ℕ
command_count [] = 0
command_count (c ∷ cs) = if c.reliable then command_count cs + c.pieces else command_count cs

-- how many unreliable packets went since the last reliable one, `count` having gone before
abbrev pub count_after : ℕ → List ChosenPacket → ℕ
count_after count [] = count
count_after count (c ∷ cs) = count_after (if c.reliable then 0 else count + 1) cs

-- what is dispatched follows what was submitted: a subsequence, which leaves out no reliable packet before its last
abbrev pub FollowsCarried : List ChosenPacket → List (List ℕ) → Type 0
FollowsCarried cs [] = Unit {0}
FollowsCarried [] (r ∷ rs) = ⊥
FollowsCarried (c ∷ cs) (r ∷ rs) = ((c.packet.body ≡ r) × FollowsCarried cs rs) ⊎ ((c.reliable ≡ false) × FollowsCarried cs (r ∷ rs))

-- the same of packets, each carried as in datagrams of at most `mtu` bytes
abbrev pub Follows : ℕ → List Packet → List (List ℕ) → Type 0
Follows mtu submitted dispatched = FollowsCarried (carried mtu submitted) dispatched
