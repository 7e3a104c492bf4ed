-- Whether an acknowledgement matches a server's answer, or any command of channel 0xFF.
use Rattle.std.proofs.Common.{◌≡◌, ◌≢◌, ℕ, ◌==◌, Bool, false, cond, Option, None, Some, slice_get, refl, sym, ap, ◌∙◌, arith}
use Rattle.std.proofs.lemmas.Bool.Decides.{nat_tests}
use Rattle.std.specs.Prelude.{is_some}
use Rattle.enet_sender.specs.declared.outgoing.Acknowledged.{Acknowledged}
use Rattle.enet_senders.specs.declared.control.Control.{Control}
use Rattle.enet_senders.specs.Controlling.{acknowledged_control}
use Rattle.enet_outbox.specs.Outbox.{Outbox, as_control, as_data, is_answer, is_control, matched_by, matched_on, told_on}

data-no : (o : Option Acknowledged) → is_answer (as_data o) ≡ false
data-no None = refl
data-no (Some told) = refl

-- one of a data command doesn't
pub not-data : (o : Outbox) (channel number time : ℕ) → channel ≢ 255 → false ≡ is_answer (matched_by o channel number time)
not-data o channel number time other =
    let e : (channel == 255) ≡ false = grind (arith, nat_tests, other) in
    sym (ap (λ (b : Bool). is_answer (cond b (as_control (acknowledged_control o.control number time)) (matched_on (slice_get o.senders channel) number time))) e ∙ data-no (told_on (slice_get o.senders channel) number time))

data-no-control : (o : Option Acknowledged) → is_control (as_data o) ≡ false
data-no-control None = refl
data-no-control (Some told) = refl

-- nor any command of channel 0xFF
pub not-control : (o : Outbox) (channel number time : ℕ) → channel ≢ 255 → false ≡ is_control (matched_by o channel number time)
not-control o channel number time other =
    let e : (channel == 255) ≡ false = grind (arith, nat_tests, other) in
    sym (ap (λ (b : Bool). is_control (cond b (as_control (acknowledged_control o.control number time)) (matched_on (slice_get o.senders channel) number time))) e ∙ data-no-control (told_on (slice_get o.senders channel) number time))

pub some-control : (o : Option Control) → is_some o ≡ is_control (as_control o)
some-control None = refl
some-control (Some what) = refl
