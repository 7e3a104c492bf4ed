-- What a moment brings a peer, whether or not its address sent too little for another answer.
use Rattle.std.proofs.Common.{◌≡◌, ℕ, ◌&&◌, Bool, true, false, cond, refl, sym, ap, ◌∙◌}
use Rattle.enet_rtt.specs.declared.expiry.Expiry.{Expiry}
use Rattle.enet_rtt.specs.declared.expiry.Expiry.TheVariants.{No, Resend, End}
use Rattle.enet_outbox.specs.Outbox.{has_ended, has_late}
use Rattle.enet_peer.specs.declared.parts.PeerState.{PeerState}
use Rattle.enet_peer.specs.declared.parts.PeerState.TheVariants as state
use Rattle.enet_peer.specs.Peering.{Peering}
use Rattle.enet_peer.specs.Calls.{expiry_of, held_back, is_answering, is_held_back, is_over, is_resend, moved, ticked}

-- no command has ended its peer, and its wait for a client isn't over
abbrev pub Lasting : Peering → ℕ → Type 0
Lasting p n = (has_ended p.outbox n p.patience p.heard ≡ false) × (is_over p n ≡ false)

-- the peer's end, resends where something is late, or nothing
pub by-expiry : (P : Expiry → Type 0) (p : Peering) (n : ℕ) → P End → (Lasting p n → has_late p.outbox n ≡ true → P Resend) → (Lasting p n → has_late p.outbox n ≡ false → P No) → P (expiry_of p n)
by-expiry P p n end again none = go (is_over p n) refl (has_ended p.outbox n p.patience p.heard) refl (has_late p.outbox n) refl
  where
    go : (o : Bool) → is_over p n ≡ o → (e : Bool) → has_ended p.outbox n p.patience p.heard ≡ e → (late : Bool) → has_late p.outbox n ≡ late → P (cond o End (cond e End (cond late Resend No)))
    go true over e f late g = end
    go false over true f late g = end
    go false over false f true g = again (f, over) g
    go false over false f false g = none (f, over) g

pub and-both : (a b : Bool) → (a && b) ≡ true → (a ≡ true) × (b ≡ true)
and-both true b e = (refl, e)
and-both false b e = absurd (cc)

answers-in : (s : PeerState) → is_answering s ≡ true → s ≡ state.Answering
answers-in state.Answering e = refl
answers-in state.Free e = absurd (cc)
answers-in state.Connecting e = absurd (cc)
answers-in state.Connected e = absurd (cc)
answers-in state.DisconnectLater e = absurd (cc)
answers-in state.Disconnecting e = absurd (cc)
answers-in state.AckDisconnect e = absurd (cc)
answers-in state.Parting e = absurd (cc)
answers-in state.Ended e = absurd (cc)

-- a tick; or an answer that is late is held back, and the peer hasn't ended
pub by-moved : (P : Peering → Type 0) (short : Bool) (p : Peering) (n : ℕ) → P (ticked p n) → (p.state ≡ state.Answering → Lasting p n → P (held_back p n)) → P (moved short p n)
by-moved P short p n tick held = go (is_held_back short p n) refl
  where
    lasts : is_resend (expiry_of p n) ≡ true → Lasting p n
    lasts = by-expiry (λ e. is_resend e ≡ true → Lasting p n) p n (λ e. absurd (cc)) (λ f g e. f) (λ f g e. f)

    go : (b : Bool) → is_held_back short p n ≡ b → P (cond b (held_back p n) (ticked p n))
    go false e = tick
    go true e =
        let all = and-both (short && is_answering p.state) (is_resend (expiry_of p n)) e in
        let answers = and-both short (is_answering p.state) all.0 in
        held (answers-in p.state answers.1) (lasts all.1)

-- but where it answers a client, it is a tick
pub moved-elsewhere : (short : Bool) (p : Peering) (n : ℕ) → is_answering p.state ≡ false → moved short p n ≡ ticked p n
moved-elsewhere short p n e = by-moved (λ (x : Peering). x ≡ ticked p n) short p n refl (λ at lasts. absurd (let f : true ≡ false = sym (ap is_answering at) ∙ e in cc))
