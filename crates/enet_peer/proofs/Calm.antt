-- A moment that brings a peer nothing.
use Rattle.std.proofs.Common.{◌≡◌, ℕ, ◌≤◌, Bool, true, false, ◌||◌, ◌&&◌, if◌then◌else◌, refl, ap, ap₂, ◌∙◌, arith}
use Rattle.enet_rtt.specs.Clock.{HappensIn}
use Rattle.enet_rtt.specs.declared.expiry.Expiry.{Expiry}
use Rattle.enet_rtt.specs.declared.expiry.Expiry.TheVariants.{No, End}
use Rattle.enet_senders.specs.declared.control.Control.TheVariants as control
use Rattle.enet_outbox.specs.Outbox.{has_late, lateness, with_control}
use Rattle.enet_outbox.proofs.Lateness.{nothing-late}
use Rattle.enet_peer.specs.Peering.{Peering}
use Rattle.enet_peer.specs.Calls.{after_timeouts_by, expiry_of, held_back, is_answering, is_due, is_over, is_pinged, is_resend, moved, pinged, ticked}

neither-left : (b c : Bool) → (b || c) ≡ false → b ≡ false
neither-left true c e = e
neither-left false c e = refl

neither-right : (b c : Bool) → (b || c) ≡ false → c ≡ false
neither-right true c e = absurd (let y : true ≡ false = e in cc)
neither-right false c e = e

nothing-comes : (p : Peering) (now : ℕ) → is_due p now ≡ false → expiry_of p now ≡ No
nothing-comes p now none =
    let calm = neither-left (is_over p now || has_late p.outbox now) (is_pinged p now) none in
    ap (λ (b : Bool). if b then End else lateness p.outbox now p.patience p.heard) (neither-left (is_over p now) (has_late p.outbox now) calm)
    ∙ nothing-late p.outbox now p.patience p.heard (neither-right (is_over p now) (has_late p.outbox now) calm)

pub nothing-due : (p : Peering) (now : ℕ) → is_due p now ≡ false → ticked p now ≡ p
nothing-due p now none =
    ap (λ (e : Expiry). pinged (after_timeouts_by e p now) now) (nothing-comes p now none)
    ∙ ap (λ (b : Bool). if b then record p { outbox = with_control p.outbox control.Ping } else p) (neither-right (is_over p now || has_late p.outbox now) (is_pinged p now) none)

none-of : (b : Bool) → (b && false) ≡ false
none-of true = refl
none-of false = refl

-- nor where an answer may not go
pub nothing-moved : (short : Bool) (p : Peering) (now : ℕ) → is_due p now ≡ false → moved short p now ≡ p
nothing-moved short p now none =
    ap (λ (e : Expiry). if short && is_answering p.state && is_resend e then held_back p now else ticked p now) (nothing-comes p now none)
    ∙ ap (λ (b : Bool). if b then held_back p now else ticked p now) (none-of (short && is_answering p.state)) ∙ nothing-due p now none

-- a peer that awaits no ping is not pinged, and one that does is where the time has come
pub none-pinged : (connected quiet passed : Bool) → (connected && quiet) ≡ false → (connected && quiet && passed) ≡ false
none-pinged true true passed e = absurd (let y : true ≡ false = e in cc)
none-pinged true false passed e = refl
none-pinged false quiet passed e = refl

pub some-pinged : (connected quiet passed : Bool) → (connected && quiet) ≡ true → passed ≡ (connected && quiet && passed)
some-pinged true true passed e = refl
some-pinged true false passed e = absurd (let y : false ≡ true = e in cc)
some-pinged false quiet passed e = absurd (let y : false ≡ true = e in cc)

not-pinged : (connected quiet passed : Bool) → passed ≡ false → (connected && quiet && passed) ≡ false
not-pinged true true passed e = e
not-pinged true false passed e = refl
not-pinged false quiet passed e = refl

-- what is late by the time that a ping could be wanted comes first
pub late-first : (late passed : ℕ → Bool) (connected quiet : Bool) (now a b : ℕ) → HappensIn late now a → HappensIn passed now b → a ≤ b
    → HappensIn (λ (later : ℕ). late later || (connected && quiet && passed later)) now a
late-first late passed connected quiet now a b h k sooner = record {
  before = λ later l less. ap₂ (λ (x y : Bool). x || y) (h.before later l less) (not-pinged connected quiet (passed later) (k.before later l (omega arith)));
  first = λ some later l is. ap (λ (x : Bool). x || (connected && quiet && passed later)) (h.first some later l is);
}
