-- Packets that are submitted to several peers.
use Rattle.std.specs.Prelude.{◌≡◌, Bool, true, false, if◌then◌else◌, Option, Result, Ok, Err, List, [], ◌∷◌}
use Rattle.enet_codec.specs.declared.refusal.Refusal.{Refusal}
use Rattle.enet_codec.specs.declared.refusal.Refusal.TheVariants.{NoSuchPeer, NotConnected}
use Rattle.enet_codec.specs.Outward.{Errand}
use Rattle.enet_outbox.specs.declared.parts.SendLimit.{SendLimit}
use Rattle.enet_slot.specs.Slot.{SlotState}
use Rattle.enet_slot.specs.Calls.{DoesWithMemory, submission, unless_full}
use Rattle.enet_host.specs.Calls.{on_named}

-- an errand is carried out: the submission of its packet, with its answer
abbrev pub CarriesOut : Option SendLimit → Errand → Result (Unit {0}) Refusal → List SlotState → List SlotState → Type 0
CarriesOut limit e answer old new =
    DoesWithMemory answer (on_named old e.peer (unless_full limit (submission e.packet.channel (record { flags = e.packet.flags; body = e.packet.body })))) old new

-- each of the errands is carried out, one after another, whatever was answered to those before it
abbrev pub CarriesOutAll : Option SendLimit → List Errand → List (Result (Unit {0}) Refusal) → List SlotState → List SlotState → Type 0
CarriesOutAll limit [] [] old new = new ≡ old
CarriesOutAll limit (e ∷ es) (answer ∷ answers) old new =
    (between : List SlotState) × CarriesOut limit e answer old between × CarriesOutAll limit es answers between new
CarriesOutAll limit [] (answer ∷ answers) old new = ⊥
CarriesOutAll limit (e ∷ es) [] old new = ⊥

-- a refusal is told unless the peer has gone or isn't connected
abbrev pub is_told : Refusal → Bool
is_told NoSuchPeer = false
is_told NotConnected = false
is_told why = true

-- the first refusal of these answers that is told
abbrev pub first_told : List (Result (Unit {0}) Refusal) → Result (Unit {0}) Refusal
first_told [] = Ok tt
first_told (Ok done ∷ answers) = first_told answers
first_told (Err why ∷ answers) = if is_told why then Err why else first_told answers

-- what was told of errands that were carried out
pub record SubmitsEach (limit : Option SendLimit) (es : List Errand) (told : Result (Unit {0}) Refusal) (old new : List SlotState) : Type 0 where
  pub answers : List (Result (Unit {0}) Refusal)
  pub done : CarriesOutAll limit es answers old new
  pub first : told ≡ first_told answers
