-- What a call across the border makes of what a handle holds.
use Rattle.std.specs.Prelude.{◌≡◌, ◌⊎◌, ◌<◌, ◌≤◌, ◌++◌, ℕ, Bool, true, false, Option, Some, None, Result, Ok, Err, List, [], ◌∷◌, length, drop, is_ok}
use Rattle.std.specs.Option.{option_and_then}
use Rattle.std.specs.List.{list_any}
use Rattle.enet_codec.specs.declared.address.Addr.{Addr}
use Rattle.enet_codec.specs.declared.config.Config.{Config}
use Rattle.enet_codec.specs.declared.config.Secret.{Secret}
use Rattle.enet_codec.specs.declared.event.Event.{Event}
use Rattle.enet_codec.specs.declared.event.Outward.{Outward}
use Rattle.enet_codec.specs.declared.event.PeerRef.{PeerRef}
use Rattle.enet_codec.specs.declared.event.Received.{Received}
use Rattle.enet_codec.specs.declared.refusal.Refusal.{Refusal}
use Rattle.enet_codec.specs.Outward.{errands}
use Rattle.enet_codec.specs.Config.{is_admissible}
use Rattle.enet_codec.specs.declared.config.Admission.{Admission}
use Rattle.enet_outbox.specs.declared.parts.SendLimit.{SendLimit}
use Rattle.enet_sender.specs.CommandChoice.{Packet}
use Rattle.enet_slot.specs.declared.giving.Question.{Question}
use Rattle.enet_slot.specs.Slot.{SlotState}
use Rattle.enet_slot.specs.Calls.{submission, unless_full}
use Rattle.enet_slot.specs.Sharing.{wants_room}
use Rattle.enet_host.specs.Host.{Host}
use Rattle.enet_host.specs.Broadcast.{SubmitsEach}
use Rattle.enet_host.specs.Calls.{on_named, with_admission, with_bandwidth, with_secret, with_send_limit, Takes}
use Rattle.enet_host.specs.Foretelling.{body_of}
use Rattle.enet_host.specs.Opening.{host_basis, Opens, Connects, opened}
use Rattle.enet_host.specs.Receiving.{Receives}
use Rattle.enet_host.specs.Serving.{Serves}
use Rattle.enet_c.specs.Numbers.{answered_by}
use Rattle.enet_c.specs.Shapes.{name_shown, received_shown, no_datagram, datagram_shown, event_shown, reading_named, allowance_named, line_named, traffic_named}
use Rattle.enet_c.specs.declared.held.Held.{Held}
use Rattle.enet_c.specs.declared.shapes.CoreDatagram.{CoreDatagram}
use Rattle.enet_c.specs.declared.shapes.CoreEvent.{CoreEvent}
use Rattle.enet_c.specs.declared.shapes.CoreLine.{CoreLine}
use Rattle.enet_c.specs.declared.shapes.CorePeer.{CorePeer}
use Rattle.enet_c.specs.declared.shapes.CoreReading.{CoreReading}
use Rattle.enet_c.specs.declared.shapes.CoreReceived.{CoreReceived}
use Rattle.enet_c.specs.declared.shapes.CoreTraffic.{CoreTraffic}

-- what the border itself answers: a handle without a host, one that has a host already, a short buffer, no staged body, no
-- packet told
abbrev pub closed : ℕ
closed = 32

abbrev pub open_already : ℕ
open_already = 33

abbrev pub short_buffer : ℕ
short_buffer = 34

abbrev pub unstaged : ℕ
unstaged = 35

abbrev pub untold : ℕ
untold = 36

-- a call on what an open handle holds: that before it, the number that it answers, and that after it
pub record Crossing : Type 0 where
  pub before : Held
  pub number : ℕ
  pub after : Held

-- P says of the call on what the handle held; a closed handle stays closed
abbrev pub Crosses : (Crossing → Type 0) → Option Held → ℕ → Option Held → Type 0
Crosses P None number None = number ≡ closed
Crosses P (Some before) number (Some after) = P (record { before = before; number = number; after = after })
Crosses P (Some before) number None = ⊥
Crosses P None number (Some after) = ⊥

-- what a call leaves
abbrev pub left_by : {S : Type 0} → Result S Refusal → S → S
left_by (Ok new) old = new
left_by (Err why) old = old

-- a call on slots: the number is that of its outcome, and it changed the slots alone, as the outcome says
abbrev pub Settles : (List SlotState → Result (List SlotState) Refusal) → Crossing → Type 0
Settles call c = (c.number ≡ answered_by (call c.before.host.slots))
    × (c.after ≡ record c.before { host = record c.before.host { slots = left_by (call c.before.host.slots) c.before.host.slots } })

-- the same of a call that takes memory: it may be refused by 1 where nothing else is refused, and that changes nothing
abbrev pub SettlesWithMemory : (List SlotState → Result (List SlotState) Refusal) → Crossing → Type 0
SettlesWithMemory call c =
    Settles call c ⊎ ((c.number ≡ 1) × (is_ok (call c.before.host.slots) ≡ true) × (c.after ≡ c.before))

-- a call that reads: it answers 0, and nothing changes
abbrev pub Reads : Crossing → Type 0
Reads c = (c.number ≡ 0) × (c.after ≡ c.before)

-- what is read of a peer, or 2 where there is none of this name
abbrev pub IsReading : {A : Type 0} → Option A → A → A → ℕ → Type 0
IsReading None old new number = (number ≡ 2) × (new ≡ old)
IsReading (Some found) old new number = (number ≡ 0) × (new ≡ found)

abbrev pub ReadsPeer : PeerRef → CoreReading → CoreReading → Crossing → Type 0
ReadsPeer name old new c = IsReading (reading_named c.before.host.slots name) old new c.number × (c.after ≡ c.before)

abbrev pub ReadsAllowance : PeerRef → ℕ → ℕ → Crossing → Type 0
ReadsAllowance name old new c = IsReading (allowance_named c.before.host.slots name) old new c.number × (c.after ≡ c.before)

abbrev pub ReadsLine : PeerRef → CoreLine → CoreLine → Crossing → Type 0
ReadsLine name old new c = IsReading (line_named c.before.host.slots name) old new c.number × (c.after ≡ c.before)

abbrev pub ReadsTraffic : PeerRef → CoreTraffic → CoreTraffic → Crossing → Type 0
ReadsTraffic name old new c = IsReading (traffic_named c.before.host.slots name) old new c.number × (c.after ≡ c.before)

-- a packet is submitted to the peer of this name, by the host's limit on what is queued or unacknowledged
abbrev pub SubmitsTo : PeerRef → ℕ → Packet → Crossing → Type 0
SubmitsTo name channel q c =
    SettlesWithMemory (λ slots. on_named slots name (unless_full c.before.host.send_limit (submission channel q))) c

-- a body is staged, or memory is refused
abbrev pub Stages : List ℕ → Crossing → Type 0
Stages body c =
    ((c.number ≡ 0) × (c.after ≡ record c.before { staged = Some body })) ⊎ ((c.number ≡ 1) × (c.after ≡ c.before))

-- the staged body is submitted in a packet of these flags, if there is one
abbrev pub SubmitsBody : PeerRef → ℕ → ℕ → Option (List ℕ) → Crossing → Type 0
SubmitsBody name channel flags None c = (c.number ≡ unstaged) × (c.after ≡ c.before)
SubmitsBody name channel flags (Some body) c = SubmitsTo name channel (record { flags = flags; body = body }) c

abbrev pub SubmitsStaged : PeerRef → ℕ → ℕ → Crossing → Type 0
SubmitsStaged name channel flags c = SubmitsBody name channel flags c.before.staged c

-- a packet is submitted to each of these peers, or memory for its copy is refused
pub record SubmitsToEach (names : List PeerRef) (packet : Outward) (c : Crossing) : Type 0 where
  pub answer : Result (Unit {0}) Refusal
  pub submits : SubmitsEach c.before.host.send_limit (errands names (packet ∷ [])) answer c.before.host.slots c.after.host.slots
  pub told : c.number ≡ answered_by answer
  pub rest : c.after ≡ record c.before { host = record c.before.host { slots = c.after.host.slots } }

abbrev pub Broadcasts : List PeerRef → Outward → Crossing → Type 0
Broadcasts names packet c = SubmitsToEach names packet c ⊎ ((c.number ≡ 1) × (c.after ≡ c.before))

-- a packet is submitted to these peers, one after another, and each number is what that submission answered
abbrev pub SubmitsInTurn : ℕ → Packet → List PeerRef → List ℕ → Held → Held → Type 0
SubmitsInTurn channel q [] [] before after = after ≡ before
SubmitsInTurn channel q (name ∷ names) (number ∷ numbers) before after =
    (between : Held) × SubmitsTo name channel q (record { before = before; number = number; after = between }) × SubmitsInTurn channel q names numbers between after
SubmitsInTurn channel q [] (number ∷ numbers) before after = ⊥
SubmitsInTurn channel q (name ∷ names) [] before after = ⊥

-- they go to the front of a buffer. Nothing is submitted where that is too short for them, or memory for the packet's copy is refused
pub record AnswersEach (names : List PeerRef) (channel : ℕ) (q : Packet) (old new : List ℕ) (c : Crossing) : Type 0 where
  pub numbers : List ℕ
  pub submits : SubmitsInTurn channel q names numbers c.before c.after
  pub room : length names ≤ length old
  pub written : new ≡ numbers ++ drop (length names) old
  pub done : c.number ≡ 0

abbrev pub AnswersNone : List PeerRef → List ℕ → List ℕ → Crossing → Type 0
AnswersNone names old new c = ((c.number ≡ 1) ⊎ ((length old < length names) × (c.number ≡ short_buffer))) × (new ≡ old) × (c.after ≡ c.before)

abbrev pub BroadcastsEach : List PeerRef → ℕ → Packet → List ℕ → List ℕ → Crossing → Type 0
BroadcastsEach names channel q old new c = AnswersEach names channel q old new c ⊎ AnswersNone names old new c

-- new bandwidths, or 1 where a peer that must be told wants memory for it
abbrev pub SetsBandwidth : ℕ → ℕ → Crossing → Type 0
SetsBandwidth incoming outgoing c =
    ((c.number ≡ 0) × (c.after ≡ record c.before { host = with_bandwidth c.before.host incoming outgoing }))
    ⊎ ((c.number ≡ 1) × (list_any wants_room c.before.host.slots ≡ true) × (c.after ≡ c.before))

-- what peers that begin from now on draw by
abbrev pub SetsSecret : Secret → Crossing → Type 0
SetsSecret secret c = (c.number ≡ 0) × (c.after ≡ record c.before { host = with_secret c.before.host secret })

-- how much may be queued or unacknowledged for a peer from now on
abbrev pub SetsSendLimit : SendLimit → Crossing → Type 0
SetsSendLimit limit c = (c.number ≡ 0) × (c.after ≡ record c.before { host = with_send_limit c.before.host limit })

-- whom the host lets in from now on, or 8, with nothing changed, where that is out of its range
abbrev pub AdmitsIf : Bool → Admission → Crossing → Type 0
AdmitsIf true what c = (c.number ≡ 0) × (c.after ≡ record c.before { host = with_admission c.before.host what })
AdmitsIf false what c = (c.number ≡ 8) × (c.after ≡ c.before)

abbrev pub SetsAdmission : Admission → Crossing → Type 0
SetsAdmission what c = AdmitsIf (is_admissible c.before.host.config what) what c

-- a host begins with these settings, unless the handle holds one or the host is refused
abbrev pub new_held : Host → Held
new_held host = record { host = host; staged = None; told = None }

abbrev pub held_by : Result Host Refusal → Option Held
held_by (Ok host) = Some (new_held host)
held_by (Err why) = None

pub record Makes (c : Config) (number : ℕ) (after : Option Held) : Type 0 where
  pub answer : Result Host Refusal
  pub opens : Opens c answer (opened c)
  pub told : number ≡ answered_by answer
  pub left : after ≡ held_by answer

abbrev pub Begins : Config → Option Held → ℕ → Option Held → Type 0
Begins c None number after = Makes c number after
Begins c (Some held) number after = (number ≡ open_already) × (after ≡ Some held)

-- a connection is asked for, whose peer is named where the answer is 0
abbrev pub named_by : Result PeerRef Refusal → CorePeer → CorePeer
named_by (Ok name) old = name_shown name
named_by (Err why) old = old

pub record Asks (question : Question) (old new : CorePeer) (c : Crossing) : Type 0 where
  pub answer : Result PeerRef Refusal
  pub connects : Connects (host_basis c.before.host) c.before.host.slots question answer c.after.host.slots
  pub told : c.number ≡ answered_by answer
  pub named : new ≡ named_by answer old
  pub rest : c.after ≡ record c.before { host = record c.before.host { slots = c.after.host.slots } }

-- a datagram comes
pub record TakesIn (from : Addr) (bytes : List ℕ) (shown : CoreReceived) (c : Crossing) : Type 0 where
  pub answer : Received
  pub receives : Receives c.before.host from bytes answer c.after.host
  pub is_shown : shown ≡ received_shown answer
  pub rest : c.after ≡ record c.before { host = c.after.host }

-- a datagram goes, or the buffer is too short for any
pub record Sends (old new : List ℕ) (datagram : CoreDatagram) (c : Crossing) : Type 0 where
  pub gave : Option (PeerRef × Addr × ℕ)
  pub front : List ℕ
  pub serves : Serves c.before.host gave front c.after.host
  pub room : 4096 ≤ length old
  pub written : new ≡ front ++ drop 4096 old
  pub shown : datagram ≡ datagram_shown gave
  pub done : c.number ≡ 0
  pub rest : c.after ≡ record c.before { host = c.after.host }

abbrev pub SendsNothing : List ℕ → List ℕ → CoreDatagram → Crossing → Type 0
SendsNothing old new datagram c =
    (length old < 4096) × (c.number ≡ short_buffer) × (datagram ≡ no_datagram) × (new ≡ old) × (c.after ≡ c.before)

abbrev pub PutsOut : List ℕ → List ℕ → CoreDatagram → Crossing → Type 0
PutsOut old new datagram c = SendsNothing old new datagram c ⊎ Sends old new datagram c

-- the next event is told, and the body of its packet is kept
pub record Tells (shown : CoreEvent) (c : Crossing) : Type 0 where
  pub event : Option Event
  pub takes : Takes event c.before.host c.after.host
  pub is_shown : shown ≡ event_shown event
  pub done : c.number ≡ 0
  pub rest : c.after ≡ record c.before { host = c.after.host; told = option_and_then body_of event }

-- a body that is kept goes to the front of a buffer
pub data Copies : Option (List ℕ) → List ℕ → ℕ → List ℕ → Type 0 where
  nothing : (old : List ℕ) → Copies None old untold old
  short : (body old : List ℕ) → length old < length body → Copies (Some body) old short_buffer old
  copied : (body old new : List ℕ) → length body ≤ length old → new ≡ body ++ drop (length body) old → Copies (Some body) old 0 new
