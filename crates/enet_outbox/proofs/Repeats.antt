-- A step that is repeated.
use Rattle.std.proofs.Common.{◌≡◌, ℕ, zero, suc, ◌-◌, ◌<◌, Bool, true, false, not, ◌&&◌, cond, List, [], ◌∷◌, Some, refl, ap, ◌∙◌, arith}
use Rattle.std.specs.List.{slice_get}
use Rattle.enet_outbox.specs.declared.parts.Pace.{Pace}
use Rattle.enet_outbox.specs.Emission.{Filling, has_gone, keeping, shut, turn_ended, unless_closed, repeated, channel_turns, wants_room_on, with_channel, with_one_data, with_channels}

closed-stays : (step : Filling → Filling) (f : Filling) → f.closed ≡ true → unless_closed step f ≡ f
closed-stays step f e = ap (λ (b : Bool). cond b f (step f)) e

open-goes : (step : Filling → Filling) (f : Filling) → f.closed ≡ false → unless_closed step f ≡ step f
open-goes step f e = ap (λ (b : Bool). cond b f (step f)) e

-- what a step leaves as it is stays so
stays : (times : ℕ) (step : Filling → Filling) (f : Filling) → unless_closed step f ≡ f → repeated times step f ≡ f
stays zero step f e = refl
stays (suc times) step f e = ap (repeated times step) e ∙ stays times step f e

pub repeated-closed : (times : ℕ) (step : Filling → Filling) (f : Filling) → f.closed ≡ true → repeated times step f ≡ f
repeated-closed times step f e = stays times step f (closed-stays step f e)

pub repeated-idle : (times : ℕ) (step : Filling → Filling) (f : Filling) → f.closed ≡ false → step f ≡ f → repeated times step f ≡ f
repeated-idle times step f opened e = stays times step f (open-goes step f opened ∙ e)

pub repeated-go : (times : ℕ) (step : Filling → Filling) (f g : Filling) → 0 < times → f.closed ≡ false → step f ≡ g → repeated times step f ≡ repeated (times - 1) step g
repeated-go zero step f g some opened e = absurd (omega arith)
repeated-go (suc times) step f g some opened e =
    let j : times ≡ suc times - 1 = omega arith in
    ap (repeated times step) (open-goes step f opened ∙ e) ∙ ap (λ (n : ℕ). repeated n step g) j

pub repeated-shut : (times : ℕ) (step : Filling → Filling) (f : Filling) → 0 < times → f.closed ≡ false → step f ≡ shut f → repeated times step f ≡ shut f
repeated-shut times step f some opened e = repeated-go times step f (shut f) some opened e ∙ repeated-closed (times - 1) step (shut f) refl

-- a turn in a closed datagram, and one in which nothing goes
pub turn-closed : (pace : Pace) (channel : ℕ) (f : Filling) → f.closed ≡ true → with_channel pace f channel ≡ f
turn-closed pace channel f e =
    ap (turn_ended pace channel f) (repeated-closed (channel_turns f.outbox channel) (with_one_data pace channel) f e) ∙ closed-stays (keeping pace channel f) f e

pub turn-idle : (pace : Pace) (channel : ℕ) (f : Filling) → f.closed ≡ false → with_one_data pace channel f ≡ f → wants_room_on pace channel f.outbox (slice_get f.outbox.senders channel) ≡ false → with_channel pace f channel ≡ f
turn-idle pace channel f opened idle wants =
    let keeps : Filling = record f { outbox = record f.outbox { kept = Some channel } } in
    ap (turn_ended pace channel f) (repeated-idle (channel_turns f.outbox channel) (with_one_data pace channel) f opened idle)
    ∙ open-goes (keeping pace channel f) f opened ∙ ap (λ (b : Bool). cond (b && not (has_gone f f)) keeps f) wants

-- a closed datagram goes past all channels
pub channels-closed : (pace : Pace) (order : List ℕ) (f : Filling) → f.closed ≡ true → with_channels pace order f ≡ f
channels-closed pace [] f e = refl
channels-closed pace (i ∷ order) f e =
    ap (with_channels pace order) (turn-closed pace i f e) ∙ channels-closed pace order f e

-- what a step keeps, its repetition keeps
pub by-repeated : (P : Filling → Type 0) (times : ℕ) (step : Filling → Filling) → ((f : Filling) → P f → P (step f)) → (f : Filling) → P f → P (repeated times step f)
by-repeated P zero step h f a = a
by-repeated P (suc times) step h f a = by-repeated P times step h (unless_closed step f) (by f.closed)
  where
    by : (b : Bool) → P (cond b f (step f))
    by true = a
    by false = h f a
