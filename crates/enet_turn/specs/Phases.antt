-- The phases of a turn, over any host. `left` is how many of their steps may still come; a turn begins each with 256. `losses` is how
-- many datagrams may still be lost at their sending; a turn begins with 16. What was put is a list of the events that were offered, each
-- with whether it was taken.
use Rattle.std.specs.Prelude.{◌≡◌, ◌⊎◌, ℕ, ◌-◌, ◌<◌, Bool, true, false, List, [], ◌∷◌, ◌++◌, Option, Some, None, IsSome}
use Rattle.enet_codec.specs.declared.address.Addr.{Addr}
use Rattle.enet_codec.specs.declared.event.Event.{Event}
use Rattle.enet_codec.specs.declared.event.Event.TheVariants.{Refused}
use Rattle.enet_codec.specs.declared.refusal.Refusal.{Refusal}
use Rattle.enet_submit.specs.declared.order.Submission.{Submission}
use Rattle.enet_wire.specs.declared.told.Told.{Told}
use Rattle.enet_wire.specs.declared.told.Told.TheVariants.{Came, NothingCame, Went, Lost, Blocked}
use Rattle.enet_turn.specs.declared.service.Service.{Service}
use Rattle.enet_turn.specs.declared.waiting.Waiting.{Waiting}
use Rattle.enet_turn.specs.Calls.{Calls}

-- steps one after another
abbrev pub Chain : {S A : Type 0} → (S → A → S → Type 0) → S → List A → S → Type 0
Chain step old [] new = new ≡ old
Chain {S} step old (x ∷ xs) new = (between : S) × step old x between × Chain step between xs new

-- what a phase of orders leaves: the service, and the events that it offered
pub record Ordered (H : Type 0) : Type 0 where
  pub service : Service H
  pub puts : List (Event × Bool)

-- what a phase of datagrams leaves: the host, and whether the wire failed
pub record Wired (H : Type 0) : Type 0 where
  pub host : H
  pub failed : Bool

-- an event that was offered and not taken waits
abbrev pub left_over : Event → Bool → Option Event
left_over event true = None
left_over event false = Some event

-- an event, if there is one, is offered once
abbrev pub Offers : Option Event → List (Event × Bool) → Option Event → Type 0
Offers None puts after = (puts ≡ []) × (after ≡ None)
Offers (Some event) puts after = (taken : Bool) × (puts ≡ (event, taken) ∷ []) × (after ≡ left_over event taken)

-- what waits is offered once: first the refusal, and then the host's event, whether or not that was taken
abbrev pub OffersWaiting : Waiting → List (Event × Bool) → Waiting → Type 0
OffersWaiting old puts new =
    (first : List (Event × Bool)) × (second : List (Event × Bool)) × Offers old.refusal first new.refusal × Offers old.event second new.event × (puts ≡ first ++ second)

-- no event and no refusal
abbrev pub nothing_waits : Waiting
nothing_waits = record { event = None; refusal = None }

-- the event by which a refused order is told
abbrev pub refusal_event : Submission → Option Refusal → Option Event
refusal_event x None = None
refusal_event x (Some why) = Some (Refused x.seat x.number why)

-- an order is one call of the host. A refused one becomes an event, which is offered at once, whether or not an event of the host waits
pub record AppliesSubmission {H : Type 0} (calls : Calls H) (old : Service H) (x : Submission) (puts : List (Event × Bool)) (new : Service H) : Type 0 where
  pub why : Option Refusal
  pub applied : calls.applies old.host x.order why new.host
  pub told : Offers (refusal_event x why) puts new.waiting.refusal
  pub stays : new.waiting.event ≡ old.waiting.event

-- orders one after another, until the source gives none; also while an event of the host waits, but not while a refusal does, which has the
-- place that is kept for the next one
abbrev pub Orders : {H : Type 0} → Calls H → ℕ → Service H → List (Option Submission) → Ordered H → Type 0
Orders calls left old [] after = (IsSome old.waiting.refusal ⊎ (left ≡ 0)) × (after.puts ≡ []) × (after.service ≡ old)
Orders calls left old (None ∷ rest) after = (old.waiting.refusal ≡ None) × (0 < left) × (rest ≡ []) × (after.puts ≡ []) × (after.service ≡ old)
Orders {H} calls left old (Some x ∷ rest) after =
    (old.waiting.refusal ≡ None) × (0 < left) × (first : List (Event × Bool)) × (others : List (Event × Bool)) × (after.puts ≡ first ++ others)
    × (between : Service H) × AppliesSubmission calls old x first between × Orders calls (left - 1) between rest (record after { puts = others })

-- datagrams in, one after another, until the wire gives none or fails
abbrev pub ReceivesAll : {H : Type 0} → Calls H → ℕ → H → List Told → Wired H → Type 0
ReceivesAll calls left old [] after = (((left ≡ 0) × (after.failed ≡ false)) ⊎ ((0 < left) × (after.failed ≡ true))) × (after.host ≡ old)
ReceivesAll calls left old (NothingCame ∷ rest) after = (0 < left) × (rest ≡ []) × (after.failed ≡ false) × (after.host ≡ old)
ReceivesAll {H} calls left old (Came from bytes ∷ rest) after =
    (0 < left) × (between : H) × calls.receives old (from, bytes) between × ReceivesAll calls (left - 1) between rest after
ReceivesAll calls left old (_ ∷ rest) after = ⊥

-- the sending ends where a limit is reached or the host has no datagram, or with a datagram whose send failed
pub data EndsEmitting {H : Type 0} (calls : Calls H) (left losses : ℕ) (old : H) (after : Wired H) : Type 0 where
  at_limit : (left ≡ 0) ⊎ (losses ≡ 0) → after.failed ≡ false → after.host ≡ old → EndsEmitting calls left losses old after
  has_none : 0 < left → 0 < losses → after.failed ≡ false → calls.emits old None after.host → EndsEmitting calls left losses old after
  fails : 0 < left → 0 < losses → after.failed ≡ true → (to : Addr) (bytes : List ℕ) → calls.emits old (Some (to, bytes)) after.host → EndsEmitting calls left losses old after

-- datagrams out, one after another, until the host has none, so many were lost, a send would block or the wire fails. After one that is
-- lost the next one comes; the one whose send would block or failed is the last, and lost, too
abbrev pub EmitsAll : {H : Type 0} → Calls H → ℕ → ℕ → H → List Told → Wired H → Type 0
EmitsAll calls left losses old [] after = EndsEmitting calls left losses old after
EmitsAll {H} calls left losses old (Went to bytes ∷ rest) after =
    (0 < left) × (0 < losses) × (between : H) × calls.emits old (Some (to, bytes)) between × EmitsAll calls (left - 1) losses between rest after
EmitsAll {H} calls left losses old (Lost to bytes ∷ rest) after =
    (0 < left) × (0 < losses) × (between : H) × calls.emits old (Some (to, bytes)) between × EmitsAll calls (left - 1) (losses - 1) between rest after
EmitsAll {H} calls left losses old (Blocked to bytes ∷ rest) after =
    (0 < left) × (0 < losses) × calls.emits old (Some (to, bytes)) after.host × (rest ≡ []) × (after.failed ≡ false)
EmitsAll calls left losses old (_ ∷ rest) after = ⊥

-- events of the host, each offered in its turn, until it has none or one waits
abbrev pub TellsAll : {H : Type 0} → Calls H → Service H → List (Event × Bool) → Service H → Type 0
TellsAll calls old [] new = (IsSome old.waiting.event × (new ≡ old)) ⊎ ((old.waiting.event ≡ None) × calls.gives_event old.host None new.host × (new.waiting ≡ old.waiting))
TellsAll {H} calls old (x ∷ rest) new =
    (old.waiting.event ≡ None) × (between : H) × calls.gives_event old.host (Some x.0) between
    × TellsAll calls (record { host = between; waiting = record { event = left_over x.0 x.1; refusal = old.waiting.refusal } }) rest new
