-- What holds of the unsequenced packets of every connection, whatever happens to it.
use Rattle.std.specs.Prelude.{◌≡◌, ◌≢◌, ℕ, ◌+◌, ◌≤◌, true, List, AllPairs}
use Rattle.enet_codec.specs.declared.command.Offer.{Offer}
use Rattle.enet_codec.specs.declared.packet.Packet.{Packet}
use Rattle.enet_outbox.specs.declared.parts.Unsequenced.{Unsequenced}
use Rattle.enet_outbox.specs.Outbox.{is_unsequenced}
use Rattle.enet_peer.specs.declared.parts.Limits.{Limits}
use Rattle.law_connection.specs.LinkSteps.{Has}
use Rattle.law_connection.specs.Connection.{End, Connection, packets_of}
use Rattle.law_connection.specs.Law.{mtu_of}
use Rattle.law_connection.specs.Steps.{Side, One, Two, Event, Runs, JoinedEnd, joined_pair, asking_pair}
use Rattle.law_unsequenced.specs.Unsequenced.{submitted_by, taken_by, come_to, TakenAs, ComeAs, Each}

-- the numbers of the packets that came, in the order of their coming: none is more than 32,768 below one before it
abbrev pub AreInTime : List ℕ → Type 0
AreInTime numbers = AllPairs (λ earlier later. earlier ≤ later + 32768) numbers

abbrev pub AreDistinct : List ℕ → Type 0
AreDistinct numbers = AllPairs (λ earlier later. earlier ≢ later) numbers

-- a packet that goes unsequenced, in datagrams of at most `mtu` bytes, comes as another: on its channel, whole
pub record GoesAs (mtu : ℕ) (p q : Packet) : Type 0 where
  pub unsequenced : is_unsequenced mtu (record { flags = p.flags; body = p.body }) ≡ true
  pub channel : p.channel ≡ q.channel
  pub body : p.body ≡ q.body

-- each unsequenced packet that the user of one end took was submitted by the user of the other
abbrev pub EachSubmitted : End → End → Type 0
EachSubmitted from to = (q : Packet) → Has (packets_of to.events) q → q.flags ≡ 2 → (p : Packet) × Has from.submitted p × GoesAs (mtu_of from) p q

-- from one end to another, to which these commands came
pub record IsFair (from to : End) (come : List Unsequenced) : Type 0 where
  pub taken : EachSubmitted from to
  -- each command that came carries a packet that was submitted
  pub came : (numbers : List ℕ) × Each (ComeAs (submitted_by from)) numbers come
  -- and where none comes over 32,768 late, each is taken at most once
  pub once : (numbers : List ℕ) → Each (ComeAs (submitted_by from)) numbers come → AreInTime numbers
      → (took : List ℕ) × Each (TakenAs (submitted_by from)) took (taken_by to) × AreDistinct took

-- both ways
abbrev pub AreFair : List (Side × Event) → Connection → Type 0
AreFair events c = IsFair c.one c.two (come_to Two events) × IsFair c.two c.one (come_to One events)

-- after every run of a pair that is connected from the start, whose ends have mtus from 576 bytes on and at most 255 channels
abbrev pub JoinedLaw : Type 0
JoinedLaw = (one two : JoinedEnd) (events : List (Side × Event)) (c : Connection)
    → 576 ≤ one.terms.mtu → 576 ≤ two.terms.mtu → one.terms.channels ≤ 255 → two.terms.channels ≤ 255
    → Runs events (joined_pair one two) c → AreFair events c

-- after every run of a client that asks and a host that knows nothing of it
abbrev pub AskingLaw : Type 0
AskingLaw = (now offset : ℕ) (offer : Offer) (limits : Limits) (events : List (Side × Event)) (c : Connection)
    → Runs events (asking_pair now offset offer limits) c → AreFair events c
