-- How a sending goes on and ends, by what became of a datagram.
use Rattle.std.proofs.Common.{◌≡◌, ℕ, ◌+◌, ◌-◌, ◌<◌, List, [], ◌∷◌, ◌++◌, true, false, Option, Some, Ok, inr, refl, sym, subst, add-zero, arith}
use Rattle.std.proofs.lemmas.Bool.Decides.{nat_tests}
use Rattle.std.proofs.lemmas.List.{append-nil}
use Rattle.enet_codec.specs.declared.address.Addr.{Addr}
use Rattle.enet_wire.specs.declared.told.Told.{Told}
use Rattle.enet_wire.specs.declared.told.Told.TheVariants.{Went, Lost, Blocked}
use Rattle.enet_wire.specs.declared.wire.SendOutcome.{SendOutcome}
use Rattle.enet_wire.specs.declared.wire.SendOutcome.TheVariants as outcome
use Rattle.enet_wire.specs.Wires.{also, unless_spent, went}
use Rattle.enet_turn.specs.declared.emitting.Sent.{Sent}
use Rattle.enet_turn.specs.Calls.{Calls}
use Rattle.enet_turn.specs.Counts.{went_in, lost_in, count_of}
use Rattle.enet_turn.specs.Phases.{EmitsAll, at_limit}
use Rattle.enet_turn.specs.Private.Ending.{ends_sending, sent_by, lost_by}
use Rattle.enet_turn.proofs.PhaseSteps.{SendsOn, sends_on, loses_on}
use Rattle.enet_turn.proofs.Tellings.{went_more, lost_more}

abbrev pub Comes : {H K : Type 0} → Calls H → H → H → Option (List Told) → Option (List Told) → ℕ → ℕ → K → K → Sent → Type 0
Comes calls old host o o_1 f f_1 k k_1 r =
    (told : List Told) × (o_1 ≡ also o (unless_spent f told)) × EmitsAll calls 256 16 old told (record { host = host; failed = r.failed }) × (r.sent ≡ went_in told)
    × (r.lost ≡ lost_in told + count_of r.failed) × (f_1 ≡ f + count_of r.failed) × (k_1 ≡ k)

pub comes_soundly : {H K : Type 0} (calls : Calls H) (old host : H) (o o_1 : Option (List Told)) (f f_1 : ℕ) (k k_1 : K) (r : Sent) (sent lost : ℕ)
    → r ≡ record { sent = sent; lost = lost; failed = false }
    → Comes calls old host o o_1 f f_1 k k_1 (record { sent = sent; lost = lost; failed = false }) → Comes calls old host o o_1 f f_1 k k_1 r
comes_soundly calls old host o o_1 f f_1 k k_1 r sent lost is h = subst (λ (x : Sent). Comes calls old host o o_1 f f_1 k k_1 x) (sym is) h

-- what was counted
pub went_by : (told : List Told) (to : Addr) (bytes : List ℕ) (became : SendOutcome) → went_in (told ++ went to bytes (Ok became)) ≡ went_in told + sent_by became
went_by told to bytes outcome.Sent = went_more told (Went to bytes ∷ [])
went_by told to bytes outcome.Lost = went_more told (Lost to bytes ∷ [])
went_by told to bytes outcome.Blocked = went_more told (Blocked to bytes ∷ [])

pub kept_by : (told : List Told) (to : Addr) (bytes : List ℕ) (became : SendOutcome) → lost_in (told ++ went to bytes (Ok became)) ≡ lost_in told + lost_by became
kept_by told to bytes outcome.Sent = lost_more told (Went to bytes ∷ [])
kept_by told to bytes outcome.Lost = lost_more told (Lost to bytes ∷ [])
kept_by told to bytes outcome.Blocked = lost_more told (Blocked to bytes ∷ [])

-- it goes on
pub few_by : (lost : ℕ) (became : SendOutcome) → lost < 16 → ends_sending became (lost + lost_by became) ≡ false → lost + lost_by became < 16
few_by lost outcome.Sent few on = omega arith
few_by lost outcome.Lost few on = grind (arith, nat_tests)
few_by lost outcome.Blocked few on = absurd (cc)

pub goes_by : {H : Type 0} (calls : Calls H) (turn lost : ℕ) (initial old host : H) (told : List Told) (to : Addr) (bytes : List ℕ) (became : SendOutcome)
    → turn < 256 → lost < 16 → SendsOn calls turn lost initial told old → calls.emits old (Some (to, bytes)) host → ends_sending became (lost + lost_by became) ≡ false
    → SendsOn calls (turn + 1) (lost + lost_by became) initial (told ++ went to bytes (Ok became)) host
goes_by calls turn lost initial old host told to bytes outcome.Sent l few k h on =
    subst (λ (n : ℕ). SendsOn calls (turn + 1) n initial (told ++ Went to bytes ∷ []) host) (sym (add-zero lost)) (sends_on calls turn lost initial old host told to bytes l few k h)
goes_by calls turn lost initial old host told to bytes outcome.Lost l few k h on = loses_on calls turn lost initial old host told to bytes l few k h
goes_by calls turn lost initial old host told to bytes outcome.Blocked l few k h on = absurd (cc)

-- it ends
last : (lost : ℕ) → ends_sending outcome.Lost (lost + 1) ≡ true → 16 - (lost + 1) ≡ 0
last lost ends = grind (arith, nat_tests)

pub ends_by : {H : Type 0} (calls : Calls H) (turn lost : ℕ) (initial old host : H) (told : List Told) (to : Addr) (bytes : List ℕ) (became : SendOutcome)
    → turn < 256 → lost < 16 → SendsOn calls turn lost initial told old → calls.emits old (Some (to, bytes)) host → ends_sending became (lost + lost_by became) ≡ true
    → EmitsAll calls 256 16 initial (told ++ went to bytes (Ok became)) (record { host = host; failed = false })
ends_by calls turn lost initial old host told to bytes outcome.Sent l few k h ends = absurd (cc)
ends_by calls turn lost initial old host told to bytes outcome.Lost l few k h ends =
    subst (λ (xs : List Told). EmitsAll calls 256 16 initial xs (record { host = host; failed = false })) (append-nil (told ++ Lost to bytes ∷ []))
    (loses_on calls turn lost initial old host told to bytes l few k h [] (record { host = host; failed = false }) (at_limit (inr (last lost ends)) refl refl))
ends_by calls turn lost initial old host told to bytes outcome.Blocked l few k h ends =
    k (Blocked to bytes ∷ []) (record { host = host; failed = false }) (omega arith, omega arith, h, refl, refl)
