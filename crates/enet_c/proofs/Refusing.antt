-- A call on slots that is refused as it was foretold.
use Rattle.std.proofs.Common.{◌≡◌, ℕ, Option, Some, None, Result, Ok, Err, List, is_some, refl, sym, ap, ◌∙◌, inl}
use Rattle.std.proofs.lemmas.Bool.{false≢true}
use Rattle.enet_codec.specs.declared.refusal.Refusal.{Refusal}
use Rattle.enet_slot.specs.Slot.{SlotState}
use Rattle.enet_host.specs.Foretelling.{refusal_of}
use Rattle.enet_c.specs.declared.held.Held.{Held}
use Rattle.enet_c.specs.Numbers.{answered_by, number_of}
use Rattle.enet_c.specs.Border.{SettlesWithMemory, left_by}

abbrev number_or : Option Refusal → ℕ
number_or None = 0
number_or (Some why) = number_of why

told : (r : Result (List SlotState) Refusal) → number_or (refusal_of r) ≡ answered_by r
told (Ok slots) = refl
told (Err why) = refl

left : (r : Result (List SlotState) Refusal) (why : Refusal) (old : List SlotState) → Some why ≡ refusal_of r → left_by r old ≡ old
left (Ok slots) why old e = absurd (false≢true (sym (ap (λ (o : Option Refusal). is_some o) e)))
left (Err other) why old e = refl

pub settles-refused : (call : List SlotState → Result (List SlotState) Refusal) (before : Held) (why : Refusal) (number : ℕ) → Some why ≡ refusal_of (call before.host.slots) → number ≡ number_of why
    → SettlesWithMemory call (record { before = before; number = number; after = before })
settles-refused call before why number foretold is =
    inl (
      is ∙ ap number_or foretold ∙ told (call before.host.slots),
      sym (ap (λ (slots : List SlotState). record before { host = record before.host { slots = slots } }) (left (call before.host.slots) why before.host.slots foretold)),
    )
