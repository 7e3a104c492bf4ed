-- Who may ask for a connection, and what clients may send. Times are in milliseconds.
use Rattle.std.specs.Prelude.{◌≡◌, ◌⊎◌, ℕ, ◌+◌, eqb, nat_lt, Bool, true, false, ◌&&◌, ◌||◌, not, if◌then◌else◌, List, [], ◌∷◌, ◌++◌, length, count_by, Option, Some, None, is_some, slice_get, slice_set, min, replicate}
use Rattle.std.specs.List.{filter, list_any}
use Rattle.enet_codec.specs.declared.address.Addr.{Addr}
use Rattle.enet_guard.specs.declared.guard.Rules.{Rules}
use Rattle.enet_guard.specs.declared.guard.Asked.{Asked}
use Rattle.enet_guard.specs.declared.guard.Seated.{Seated}
use Rattle.enet_guard.specs.declared.loads.Load.{Load}
use Rattle.enet_guard.specs.declared.share.Spent.{Spent}
use Rattle.enet_guard.specs.Loads.{Carries}
use Rattle.enet_guard.specs.Shares.{unspent, spent_at, spent_more, has_left, is_client}

-- what a guard goes by: its rules, the addresses that are banned, who is connected in each slot as it was last told, what the client of each
-- slot has spent of its share, the CONNECTs that it let pass, for 8 seconds and for one, and the time
pub record Guarding : Type 0 where
  pub rules : Rules
  pub banned : List ℕ
  pub seats : List (Option Seated)
  pub spent : List Spent
  pub passed : List Asked
  pub recent : List Asked
  pub clock : ℕ

-- what only an operator changes: the rules, and the addresses that are banned
pub record Ruling : Type 0 where
  pub rules : Rules
  pub banned : List ℕ

abbrev pub ruling : Guarding → Ruling
ruling g = record { rules = g.rules; banned = g.banned }

abbrev pub no_rules : Rules
no_rules = record { connects_of_address = None; connects = None; packets_of_client = None; bytes_of_client = None }

-- a guard to which nothing came, of a host of so many slots
abbrev pub new_guard : Rules → ℕ → Guarding
new_guard rules slots = record { rules = rules; banned = []; seats = replicate slots None; spent = replicate slots (unspent 0); passed = []; recent = []; clock = 0 }

-- fewer than a limit, if there is one
abbrev pub is_below : ℕ → Option ℕ → Bool
is_below count None = true
is_below count (Some most) = nat_lt count most

abbrev pub is_other : ℕ → ℕ → Bool
is_other ip banned = not (eqb banned ip)

-- a client has a share
abbrev pub has_share : Rules → Bool
has_share rules = is_some rules.packets_of_client || is_some rules.bytes_of_client

-- no rule, and nobody is banned
abbrev pub has_no_rule : Guarding → Bool
has_no_rule g = not (is_some g.rules.connects_of_address) && not (is_some g.rules.connects) && not (has_share g.rules) && eqb (length g.banned) 0

-- what is too old is noted no more
abbrev pub is_kept : ℕ → Asked → Bool
is_kept clock asked = nat_lt clock asked.until

abbrev pub forgotten : Guarding → Guarding
forgotten g = record g { passed = filter (is_kept g.clock) g.passed; recent = filter (is_kept g.clock) g.recent }

-- a CONNECT that passed is sent again
abbrev pub is_again : Guarding → Addr → ℕ → Bool
is_again g from connect_id = list_any (λ a. eqb a.address.ip from.ip && (eqb a.address.port from.port && eqb a.connect_id connect_id)) g.passed

-- whether the rules leave room for another CONNECT of this address, and so does what is noted at most
abbrev pub has_room : Guarding → ℕ → Bool
has_room g ip = is_below (count_by (λ a. eqb a.address.ip ip) g.recent) g.rules.connects_of_address
    && is_below (length g.recent) g.rules.connects && nat_lt (length g.passed) 16384 && nat_lt (length g.recent) 16384

-- whether a CONNECT from there passes: the address isn't banned, and it passed before, or there is room
abbrev pub may_pass : Guarding → Addr → ℕ → Bool
may_pass g from connect_id = not (list_any (λ ip. eqb ip from.ip) g.banned) && (if is_again g from connect_id then true else has_room g from.ip)

-- a moment later; the clock stops at the last one
abbrev pub later : ℕ → ℕ → ℕ
later clock ms = min (clock + ms) 18446744073709551615

abbrev pub ticked : Guarding → ℕ → Guarding
ticked g ms = record g { clock = later g.clock ms }

-- a CONNECT that passes is known again for 8 seconds, and counts for one
abbrev pub noted : Guarding → Addr → ℕ → Guarding
noted g from connect_id = record g {
  passed = g.passed ++ record { address = from; connect_id = connect_id; until = later g.clock 8000 } ∷ [];
  recent = g.recent ++ record { address = from; connect_id = connect_id; until = later g.clock 1000 } ∷ [];
}

-- what a guard says of a CONNECT: what is too old is forgotten first, and one that passes for the first time is noted
pub record Judges (old : Guarding) (from : Addr) (connect_id : ℕ) (passes : Bool) (new : Guarding) : Type 0 where
  pub passes_so : passes ≡ may_pass (forgotten old) from connect_id
  pub state : new ≡ (if passes && not (is_again (forgotten old) from connect_id) then noted (forgotten old) from connect_id else forgotten old)

-- who is connected in a slot now; somebody new there has spent nothing
abbrev pub seated_now : Guarding → ℕ → Option Seated → Guarding
seated_now g slot None = record g { seats = slice_set g.seats slot None }
seated_now g slot (Some there) = record g { seats = slice_set g.seats slot (Some there); spent = slice_set g.spent slot (unspent g.clock) }

abbrev pub is_same : Seated → Seated → Bool
is_same a b = eqb a.address.ip b.address.ip && eqb a.address.port b.address.port && eqb a.generation b.generation

-- whether that is said of a slot already, or there is no such slot
abbrev pub is_known : Option (Option Seated) → Option Seated → Bool
is_known None there = true
is_known (Some None) None = true
is_known (Some None) (Some there) = false
is_known (Some (Some before)) None = false
is_known (Some (Some before)) (Some there) = is_same before there

abbrev pub seated : Guarding → ℕ → Option Seated → Guarding
seated g slot there = if is_known (slice_get g.seats slot) there then g else seated_now g slot there

-- who is connected in these slots, one after another
abbrev pub Learns : Guarding → List (ℕ × Option Seated) → Guarding → Type 0
Learns old [] new = new ≡ old
Learns old (t ∷ ts) new = Learns (seated old t.0 t.1) ts new

abbrev pub HasLearned : Guarding → Guarding → Type 0
HasLearned old new = (ts : List (ℕ × Option Seated)) × Learns old ts new

-- a wait of so many milliseconds: time goes on, and the guard is told who is connected in some slots
abbrev pub Waits : Guarding → ℕ → Guarding → Type 0
Waits old ms new = HasLearned (ticked old ms) new

-- who pays for what a datagram from there brings to a slot: the client that is connected there, if it brings packets; else nobody
abbrev pub payer : Guarding → Addr → ℕ → Load → Option Spent
payer g from slot load = if has_share g.rules && (nat_lt 0 load.packets && is_client (slice_get g.seats slot) from) then slice_get g.spent slot else None

abbrev pub spent_now : Guarding → Spent → Spent
spent_now g s = spent_at s g.rules.packets_of_client g.rules.bytes_of_client g.clock

-- it passes if nobody pays for it, or if the client has something left, of packets and of bytes
abbrev pub can_pay : Guarding → Option Spent → Bool
can_pay g None = true
can_pay g (Some s) = has_left (spent_now g s).packets g.rules.packets_of_client && has_left (spent_now g s).bytes g.rules.bytes_of_client

-- what passes counts, and may be more than was left
abbrev pub charged : Guarding → ℕ → Load → Option Spent → Guarding
charged g slot load None = g
charged g slot load (Some s) = record g { spent = slice_set g.spent slot (spent_more (spent_now g s) load) }

-- what a guard says of a datagram that is no CONNECT: where clients have a share, it goes by what the datagram carries
abbrev pub Charges : Guarding → Addr → List ℕ → Bool → Guarding → Type 0
Charges old from bytes passes new =
    ((has_share old.rules ≡ false) × (passes ≡ true) × (new ≡ old))
    ⊎ ((((slot : ℕ) (load : Load) → Carries bytes slot load → ⊥) × (passes ≡ true) × (new ≡ old))
    ⊎ ((slot : ℕ) × (load : Load) × Carries bytes slot load × (passes ≡ can_pay old (payer old from slot load))
    × (new ≡ (if passes then charged old slot load (payer old from slot load) else old))))
