-- The two lists between a service and a relay that share a thread.
use Rattle.std.specs.Prelude.{◌≡◌, ◌⊎◌, ℕ, ◌<◌, sum_by, List, [], ◌∷◌, ◌++◌, length, Bool, true, false, Option, Some, None}
use Rattle.enet_codec.specs.declared.event.Event.{Event}
use Rattle.enet_codec.specs.declared.event.Event.TheVariants.{Connect, Receive, Disconnect, Refused}
use Rattle.enet_submit.specs.declared.order.Order.{Order}
use Rattle.enet_submit.specs.declared.order.Submission.{Submission}

-- the first order is given, or there is none
abbrev pub IsGiven : List Order → Option Submission → List Order → Type 0
IsGiven before (Some x) after = before ≡ x.order ∷ after
IsGiven before None after = (before ≡ []) × (after ≡ [])

-- whether an event tells of a refused order, and else comes from the host
abbrev pub is_refused : Event → Bool
is_refused (Connect peer info) = false
is_refused (Receive peer packet) = false
is_refused (Disconnect peer info) = false
is_refused (Refused seat number why) = true

-- how many bytes of a packet an event brings
abbrev pub length_of : Event → ℕ
length_of (Connect peer info) = 0
length_of (Receive peer packet) = length packet.body
length_of (Disconnect peer info) = 0
length_of (Refused seat number why) = 0

-- fewer than 256 events and fewer than 1 MiB wait
abbrev pub HasRoom : List Event → Type 0
HasRoom events = (length events < 256) × (sum_by length_of events < 1048576)

-- an event is put last, one of the host only where there is room; or it is handed back
abbrev pub IsPut : List Event → Event → Bool → List Event → Type 0
IsPut before event true after = (after ≡ before ++ event ∷ []) × ((is_refused event ≡ true) ⊎ HasRoom before)
IsPut before event false after = after ≡ before
