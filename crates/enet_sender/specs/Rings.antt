-- One channel's rings of keys, and the sender that they name.
use Rattle.std.specs.Prelude.{◌≡◌, ℕ, ◌+◌, ◌-◌, ◌<◌, ◌≤◌, Bool, true, false, if◌then◌else◌, List, [], ◌∷◌, ◌++◌, length, map, All, Option, Some, None, slice_index_or, slice_get}
use Rattle.std.specs.VecDeque.{deque_len, deque_capacity}
use Rattle.slab.specs.Slab.{Slab, get}
use Rattle.enet_seq.specs.Windows.{ahead, after}
use Rattle.enet_fragment.specs.declared.data.DataCommand.{DataCommand}
use Rattle.enet_sender.specs.declared.sent.Sent.{Sent}
use Rattle.enet_sender.specs.Sender.{Sender}
use Rattle.enet_sender.specs.Due.{SendingEnd}
use Rattle.enet_sender.specs.Invariant.{reliable_in}
use Rattle.enet_sender.specs.declared.outgoing.Outgoing.{Outgoing}
use Rattle.enet_sender.specs.declared.pending.Pending.{Pending}
use Rattle.enet_sender.specs.Pending.{vacant, named, times, held, Passes}

-- what the fields of a channel say
pub record Rings : Type 0 where
  pub number : ℕ  -- the last reliable number given
  pub unreliable : ℕ  -- the last unreliable number given since
  pub passed : ℕ  -- the last reliable number that went for the first time
  pub reliable : ℕ  -- how many reliable commands are queued
  pub due_from : ℕ  -- no place of the second ring before this one is due to go again
  pub queued : List ℕ
  pub sent : List ℕ

-- those of a channel to which nothing was submitted
abbrev pub no_rings : Rings
no_rings = record { number = 0; unreliable = 0; passed = 0; reliable = 0; due_from = 0; queued = []; sent = [] }

abbrev pub rings_of : Outgoing → Rings
rings_of o = record {
  number = o.number;
  unreliable = o.unreliable;
  passed = o.passed;
  reliable = o.reliable_queued;
  due_from = o.due_from;
  queued = o.queued.items;
  sent = o.sent.items;
}

abbrev pub keys_of : Rings → List ℕ
keys_of r = r.queued ++ r.sent

abbrev pub command_of : Sent → DataCommand
command_of p = p.command

abbrev pub commands_at : (ℕ → Option Sent) → List ℕ → List DataCommand
commands_at at keys = map command_of (named at keys)

-- the list model of a sender that the rings name
abbrev pub sender_of : (ℕ → Option Sent) → Rings → Sender
sender_of at r = record { number = r.number; unreliable = r.unreliable; queued = commands_at at r.queued; sent = named at r.sent }

abbrev pub end_of : Slab Sent → Outgoing → SendingEnd
end_of s o = record { channel = o.channel; sender = sender_of (get s) (rings_of o) }

-- the command of a place
abbrev pub at_place : (ℕ → Option Sent) → List ℕ → ℕ → Option Sent
at_place at ring place = at (slice_index_or ring place vacant)

-- whether the command of a place is due to go again
abbrev pub is_due : Option Sent → Bool
is_due None = false
is_due (Some p) = p.transmission.due

-- from one place on no command is due before another
abbrev pub NoneDue : (ℕ → Option Sent) → List ℕ → ℕ → ℕ → Type 0
NoneDue at sent from until = (place : ℕ) → from ≤ place → place < until → is_due (at_place at sent place) ≡ false

-- The second ring has a place for each number up to the last that went, so a number tells its place. Before one place nothing is due.
pub record KeepsSent (at : ℕ → Option Sent) (passed due_from : ℕ) (sent : List ℕ) : Type 0 where
  pub few : length sent ≤ 8192
  pub numbered : (place : ℕ) (p : Sent) → at_place at sent place ≡ Some p → p.command.number ≡ ahead (length sent - (place + 1)) passed
  pub not_due : NoneDue at sent 0 due_from
  pub fits : All (λ (key : ℕ). key ≤ vacant) sent

-- reliable commands go on from a number, one by one, up to another
abbrev pub GoesOn : ℕ → List DataCommand → ℕ → Type 0
GoesOn passed [] number = passed ≡ number
GoesOn passed (c ∷ cs) number =
    (c.reliable ≡ true → c.number ≡ after passed 1) × GoesOn (if c.reliable then c.number else passed) cs number

-- Each key of the rings stands in them once, and a command stands under it. Bodies are short. What is queued stands as if it were due.
pub record Keeps (at : ℕ → Option Sent) (r : Rings) : Type 0 where
  pub nothing : at vacant ≡ None
  pub short : (key : ℕ) (p : Sent) → at key ≡ Some p → length p.command.body ≤ 4068
  pub names : (key : ℕ) → key < vacant → times key (keys_of r) ≤ held at key
  pub keys : All (λ (key : ℕ). key < vacant) r.queued
  pub sent : KeepsSent at r.passed r.due_from r.sent
  pub first : (key : ℕ) → slice_get r.sent 0 ≡ Some key → key < vacant
  pub passed : r.passed < 65536
  pub goes_on : GoesOn r.passed (commands_at at r.queued) r.number
  pub counted : r.reliable ≡ reliable_in (commands_at at r.queued)
  pub waits : All (λ (p : Sent). p.transmission.due ≡ true) (named at r.queued)

-- What clauses show of a channel and of the commands of its peer: the sender, that its rings and they fit, that a call leaves what stands under the keys
-- of others, and that all that is queued has a place among what is sent.
abbrev pub end_in : Pending → Outgoing → SendingEnd
end_in p o = end_of p.slab o

abbrev pub sender_in : Pending → Outgoing → Sender
sender_in p o = sender_of (get p.slab) (rings_of o)

abbrev pub KeepsIn : Pending → Outgoing → Type 0
KeepsIn p o = Keeps (get p.slab) (rings_of o)

abbrev pub PassesIn : Pending → Outgoing → Pending → Outgoing → Type 0
PassesIn p old q new = Passes (get p.slab) (get q.slab) (keys_of (rings_of old)) (keys_of (rings_of new))

abbrev pub HasRoom : Outgoing → Type 0
HasRoom o = deque_len o.sent + deque_len o.queued ≤ deque_capacity o.sent

-- nothing is kept
abbrev pub IsEmpty : Pending → Type 0
IsEmpty p = p.slab.slots ≡ []
