-- Unsequenced packets of a connection: those that an end's user submitted, the commands that came to the other end, and what its user took.
use Rattle.std.specs.Prelude.{◌≡◌, ℕ, ◌+◌, ◌%◌, ◌==◌, List, [], ◌∷◌, ◌++◌, length, filter}
use Rattle.enet_codec.specs.declared.packet.Packet.{Packet}
use Rattle.enet_codec.specs.Message.{Message, Body, send_unsequenced}
use Rattle.enet_outbox.specs.declared.parts.Unsequenced.{Unsequenced}
use Rattle.enet_outbox.specs.Outbox.{is_unsequenced}
use Rattle.law_connection.specs.Connection.{End, packets_of}
use Rattle.law_connection.specs.Law.{mtu_of}
use Rattle.law_connection.specs.Steps.{Side, One, Two, Event, Come}

-- the packets that go unsequenced, in datagrams of at most `mtu` bytes
abbrev pub going_unsequenced : ℕ → List Packet → List Packet
going_unsequenced mtu qs = filter (λ (q : Packet). is_unsequenced mtu (record { flags = q.flags; body = q.body })) qs

-- the packets that came so: they have the flags 2
abbrev pub come_unsequenced : List Packet → List Packet
come_unsequenced qs = filter (λ (q : Packet). q.flags == 2) qs

-- what an end's user submitted unsequenced, on all channels, in order
abbrev pub submitted_by : End → List Packet
submitted_by e = going_unsequenced (mtu_of e) e.submitted

-- what an end's user took unsequenced
abbrev pub taken_by : End → List Packet
taken_by e = come_unsequenced (packets_of e.events)

-- the unsequenced packet that a command carries, with its group
abbrev pub carried_in : ℕ → Body → List Unsequenced
carried_in channel (send_unsequenced group payload) = (record { channel = channel; group = group; body = payload }) ∷ []
carried_in channel _ = []

abbrev pub carried : Message → List Unsequenced
carried m = carried_in m.head.channel m.body

-- those that came to a side, one after another
abbrev pub come_by : Event → List Unsequenced
come_by (Come put now sent) = carried put.message
come_by _ = []

abbrev pub come_at : Side → Side → Event → List Unsequenced
come_at One One e = come_by e
come_at Two Two e = come_by e
come_at _ _ e = []

abbrev pub come_to : Side → List (Side × Event) → List Unsequenced
come_to side [] = []
come_to side (e ∷ es) = come_at side e.0 e.1 ++ come_to side es

-- the n-th of the submitted packets, the first having the number 1, is this one: on its channel, whole
pub record IsNth (submitted : List Packet) (n channel : ℕ) (body : List ℕ) : Type 0 where
  pub before : List Packet
  pub packet : Packet
  pub later : List Packet
  pub split : submitted ≡ before ++ packet ∷ later
  pub number : n ≡ length before + 1
  pub channel_is : packet.channel ≡ channel
  pub body_is : packet.body ≡ body

-- a packet that was taken is the n-th
abbrev pub TakenAs : List Packet → ℕ → Packet → Type 0
TakenAs submitted n q = IsNth submitted n q.channel q.body

-- a command that came carries the n-th, in the group of that number
abbrev pub ComeAs : List Packet → ℕ → Unsequenced → Type 0
ComeAs submitted n u = (n % 65536 ≡ u.group) × IsNth submitted n u.channel u.body

-- one by one
abbrev pub Each : {X Y : Type 0} → (X → Y → Type 0) → List X → List Y → Type 0
Each R [] [] = Unit {0}
Each R (x ∷ xs) (y ∷ ys) = R x y × Each R xs ys
Each R [] (y ∷ ys) = ⊥
Each R (x ∷ xs) [] = ⊥
