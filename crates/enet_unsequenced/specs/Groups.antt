-- The groups of unsequenced packets that a receiver has dispatched, by ENet 1.3's rule.
--
-- Groups go over the wire modulo 65536. They are 64 blocks of 1,024; the receiver remembers the groups of
-- one block, whose first group is its base.
use Rattle.std.specs.Prelude.{ℕ, Bool, ◌+◌, ◌-◌, ◌*◌, ◌/◌, ◌%◌, ◌&&◌, ◌==◌, nat_lt, not, if◌then◌else◌, List, [], ◌∷◌, refl}
use Rattle.std.specs.Ordering.{nat_cmp}
use Rattle.std.specs.FinSet as set
use Rattle.std.specs.Coded.{Coded, code_by, coded×, coded_ℕ}

pub record Seen : Type 0 where
  pub base : ℕ  -- the first group of the block that is remembered
  pub marks : set.FinSet nat_cmp  -- the groups of that block that were dispatched

abbrev pub seen_code : Coded Seen
seen_code = code_by (ℕ × set.FinSet nat_cmp) (coded× coded_ℕ (set.code coded_ℕ)) (λ s. (s.base, s.marks)) (λ p. record { base = p.0; marks = p.1 }) (λ _. refl)

-- what a receiver has seen at first
abbrev pub nothing_seen : Seen
nothing_seen = record { base = 0; marks = set.empty }

-- the first group of the block in which a group stands
abbrev pub block_of : ℕ → ℕ
block_of group = group / 1024 * 1024

-- how far a group lies past the base; a group less than the base counts as 65536 more
abbrev pub past_base : ℕ → ℕ → ℕ
past_base base group = if nat_lt group base then group + 65536 - base else group - base

-- whether a packet of this group is dispatched: it lies less than 32,768 past the base and isn't marked
abbrev pub dispatches : Seen → ℕ → Bool
dispatches seen group = nat_lt (past_base seen.base group) 32768 && not (set.contains seen.marks group)

-- once it is dispatched: a group of another block moves the base to its block and clears the marks
abbrev pub mark : Seen → ℕ → Seen
mark seen group = record {
  base = block_of group;
  marks = set.insert (if block_of group == seen.base then seen.marks else set.empty) group;
}

-- the groups dispatched, where these groups come one after another; they are numbered without bound, and go
-- over the wire modulo 65536
abbrev pub dispatched : Seen → List ℕ → List ℕ
dispatched seen [] = []
dispatched seen (group ∷ groups) =
    if dispatches seen (group % 65536) then group ∷ dispatched (mark seen (group % 65536)) groups else dispatched seen groups
