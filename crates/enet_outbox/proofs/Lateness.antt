-- What a moment brings, by what it brings to the channels and to channel 0xFF.
use Rattle.std.proofs.Common.{◌≡◌, ℕ, Bool, true, false, ◌||◌, cond, List, refl, sym, ap, ap₂, ◌∙◌, ◌&&◌, if◌then◌else◌}
use Rattle.std.specs.List.{list_any}
use Rattle.enet_rtt.specs.Expiry.{gives_up}
use Rattle.enet_rtt.specs.declared.expiry.Patience.{Patience}
use Rattle.enet_rtt.specs.declared.expiry.Expiry.TheVariants.{No, Resend, End}
use Rattle.enet_senders.specs.Controlling as controlling
use Rattle.enet_senders.specs.declared.control.SentControl.{SentControl}
use Rattle.enet_sender.specs.Due.{SendingEnd}
use Rattle.enet_sender.specs.Sender as sender
use Rattle.enet_sender.proofs.Rounds.{any-weaker, no-end}
use Rattle.enet_outbox.specs.Outbox.{Outbox, has_ended, has_late, lateness}

-- a sent command of a channel is late, or has ended its peer
abbrev pub any_late : ℕ → List SendingEnd → Bool
any_late now senders = list_any (λ (s : SendingEnd). list_any (sender.is_late now) s.sender.sent) senders

abbrev pub any_ends : ℕ → Patience → ℕ → List SendingEnd → Bool
any_ends now patience heard senders = list_any (λ (s : SendingEnd). list_any (sender.ends now patience heard) s.sender.sent) senders

-- where none is late, none has ended its peer
pub none-ends : (now : ℕ) (patience : Patience) (heard : ℕ) (senders : List SendingEnd) → any_late now senders ≡ false → any_ends now patience heard senders ≡ false
none-ends now patience heard senders none =
    any-weaker (λ (s : SendingEnd). list_any (sender.ends now patience heard) s.sender.sent) (λ (s : SendingEnd). list_any (sender.is_late now) s.sender.sent) (λ s calm. no-end now patience heard s.sender.sent calm) senders none

-- nothing ends the peer
pub lateness-by : (o : Outbox) (now : ℕ) (patience : Patience) (heard : ℕ) (late : Bool) → list_any (controlling.ends now patience heard) o.control.sent ≡ false → any_ends now patience heard o.senders ≡ false → late ≡ has_late o now
    → cond late Resend No ≡ lateness o now patience heard
lateness-by o now patience heard late control channels is = ap (λ (b : Bool). cond b Resend No) is ∙ sym (ap₂ (λ (x y : Bool). cond (x || y) End (cond (has_late o now) Resend No)) control channels)

-- whether something is late, where it is known of the channels
pub late-there : (control channels : Bool) → channels ≡ true → true ≡ (control || channels)
late-there true channels e = refl
late-there false channels e = sym e

pub late-elsewhere : (control channels : Bool) → channels ≡ false → control ≡ (control || channels)
late-elsewhere true channels e = refl
late-elsewhere false channels e = sym e

-- where nothing is late, a moment brings nothing
neither-left : (b c : Bool) → (b || c) ≡ false → b ≡ false
neither-left true c e = e
neither-left false c e = refl

neither-right : (b c : Bool) → (b || c) ≡ false → c ≡ false
neither-right true c e = absurd (let y : true ≡ false = e in cc)
neither-right false c e = e

control-ends : (now : ℕ) (patience : Patience) (heard : ℕ) (sent : List SentControl) → list_any (controlling.is_late now) sent ≡ false → list_any (controlling.ends now patience heard) sent ≡ false
control-ends now patience heard sent none =
    any-weaker (controlling.ends now patience heard) (controlling.is_late now)
    (λ (p : SentControl) (calm : controlling.is_late now p ≡ false). ap (λ (b : Bool). b && gives_up patience now heard p.transmission) calm) sent none

pub nothing-late : (o : Outbox) (now : ℕ) (patience : Patience) (heard : ℕ) → has_late o now ≡ false → lateness o now patience heard ≡ No
nothing-late o now patience heard none =
    let late = list_any (controlling.is_late now) o.control.sent in
    let ended : has_ended o now patience heard ≡ false =
    ap₂ (λ (a b : Bool). a || b) (control-ends now patience heard o.control.sent (neither-left late (any_late now o.senders) none)) (none-ends now patience heard o.senders (neither-right late (any_late now o.senders) none)) in
    ap₂ (λ (a b : Bool). if a then End else (if b then Resend else No)) ended none
