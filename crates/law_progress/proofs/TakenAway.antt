-- An acknowledgement that comes for a command of channel 0xFF takes it away.
use Rattle.std.proofs.Common.{◌≡◌, ℕ, zero, suc, ◌%◌, ◌^◌, ◌+◌, ◌==◌, eqb, cond, true, List, [], ◌∷◌, length, map, refl, sym, ap, subst, ◌∙◌, arith, Option, Some, None}
use Rattle.std.proofs.lemmas.Bool.Decides.{nat_tests}
use Rattle.std.specs.List.{position, slice_get, remove}
use Rattle.enet_rtt.specs.Clock.{meant_time}
use Rattle.enet_senders.specs.Controlling as controlling
use Rattle.enet_senders.specs.declared.control.SentControl.{SentControl}
use Rattle.enet_receiver.specs.Members.{Has}
use Rattle.enet_outbox.specs.declared.parts.Acknowledgement.{Acknowledgement}
use Rattle.enet_outbox.specs.declared.parts.Matched.{Matched}
use Rattle.enet_outbox.specs.declared.parts.Matched.TheVariants as matched
use Rattle.enet_outbox.specs.Outbox.{as_control}
use Rattle.enet_outbox.specs.Emission.{acknowledgement_of}
use Rattle.enet_peer.specs.declared.parts.PeerState.TheVariants as state
use Rattle.enet_peer.specs.Peering.{Peering}
use Rattle.enet_peer.specs.CommandEffect.{obeyed, on_match, acknowledged}
use Rattle.law_progress.specs.Peers.{IsTakenAway, ControlWentThen}
use Rattle.law_progress.proofs.Found.{found}
use Rattle.law_progress.proofs.Waiting.{Has-at, Has-mapped}

one-less : {X : Type 0} (xs : List X) (i : ℕ) (x : X) → slice_get xs i ≡ Some x → length (remove xs i) + 1 ≡ length xs
one-less [] i x e = absurd (cc)
one-less (y ∷ ys) zero x e = omega arith
one-less (y ∷ ys) (suc i) x e = let rest = one-less ys i x e in omega arith

pub taken-away : (p : Peering) (now : ℕ) (sent : Option ℕ) (number told : ℕ) → p.state ≡ state.Connected → Has (map (λ (t : SentControl). t.command.number) p.outbox.control.sent) number → ControlWentThen p.outbox.control.sent number (meant_time told (p.offset % 2 ^ 16))
    → IsTakenAway p number (obeyed p now sent (acknowledgement_of (record { channel = 0xFF; number = number; time = told })))
taken-away p now sent number told connected h went_all = subst (λ (x : Peering). IsTakenAway x number (obeyed x now sent (acknowledgement_of a))) at (goes (as_control (controlling.acknowledged_control p.outbox.control number time)) is)
  where
    time : ℕ
    time = meant_time told (p.offset % 2 ^ 16)

    open' : Peering
    open' = record p { state = state.Connected }

    at : open' ≡ p
    at = ap (λ s. record p { state = s }) (sym connected)

    a : Acknowledgement
    a = record { channel = 0xFF; number = number; time = told }

    same : (m n : ℕ) → m ≡ n → eqb m n ≡ true
    same m n e = grind (arith, nat_tests)

    place : (i : ℕ) × (position (λ (t : SentControl). t.command.number == number) p.outbox.control.sent ≡ Some i) × (t : SentControl) × (slice_get p.outbox.control.sent i ≡ Some t) × ((t.command.number == number) ≡ true)
    place = let w = Has-mapped (λ (t : SentControl). t.command.number) p.outbox.control.sent number h in found (λ (t : SentControl). t.command.number == number) p.outbox.control.sent w.0 w.1 (same w.0.command.number number w.2)

    is-equal : (m n : ℕ) → (m == n) ≡ true → m ≡ n
    is-equal m n t = grind (arith, nat_tests)

    went : controlling.went_at time place.2 ≡ true
    went = went_all place.2 (Has-at p.outbox.control.sent place.0 place.2 place.3) (is-equal place.2.command.number number place.4)

    is : as_control (controlling.acknowledged_control p.outbox.control number time) ≡ matched.Control place.2.command.control
    is = ap (λ o. as_control (controlling.control_at time p.outbox.control.sent o)) place.1 ∙ ap (λ o. as_control (controlling.control_of time o)) place.3 ∙ ap (λ b. as_control (cond b (Some place.2.command.control) None)) went

    gone : Peering
    gone = acknowledged open' now 0xFF number time

    less : length (controlling.without_place p.outbox.control.sent (controlling.position_of number p.outbox.control.sent)) + 1 ≡ length p.outbox.control.sent
    less = ap (λ o. length (controlling.without_place p.outbox.control.sent o) + 1) place.1 ∙ one-less p.outbox.control.sent place.0 place.2 place.3

    goes : (m : Matched) → m ≡ matched.Control place.2.command.control → IsTakenAway open' number (record { stop = None; after = on_match m open' gone })
    goes m e = subst (λ (x : Matched). IsTakenAway open' number (record { stop = None; after = on_match x open' gone })) (sym e) (record { stop = refl; connected = refl; control = refl; less = less })
