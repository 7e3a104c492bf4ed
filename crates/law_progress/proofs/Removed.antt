-- An acknowledgement that comes takes its command away.
use Rattle.std.proofs.Common.{◌≡◌, ℕ, zero, suc, ◌%◌, ◌^◌, ◌+◌, ◌<◌, ◌&&◌, ◌==◌, not, true, false, cond, List, [], ◌∷◌, length, map, refl, sym, ap, subst, ◌∙◌, arith, Option, Some, None}
use Rattle.std.proofs.lemmas.Bool.{eq-eqb}
use Rattle.std.proofs.lemmas.Bool.Decides.{nat_tests}
use Rattle.std.specs.List.{slice_get, slice_set, remove}
use Rattle.enet_codec.specs.Message.{Message, acknowledge}
use Rattle.enet_rtt.specs.Clock.{meant_time}
use Rattle.enet_rtt.specs.Transmission.{went_at}
use Rattle.enet_sender.specs.Sender.{position_of, without_place, after_acknowledgement, matching_at, matching, told_of}
use Rattle.enet_sender.specs.declared.sent.Sent.{Sent}
use Rattle.enet_sender.specs.declared.outgoing.Acknowledged.{Acknowledged}
use Rattle.enet_sender.specs.Due.{SendingEnd}
use Rattle.enet_outbox.specs.declared.parts.Matched.TheVariants as matched
use Rattle.enet_outbox.specs.Outbox.{Outbox, matched_on, as_data, acknowledged_on}
use Rattle.enet_outbox.specs.Outbox as outbox
use Rattle.enet_peer.specs.declared.parts.PeerState.TheVariants as state
use Rattle.enet_peer.specs.Endings.{is_later, settled, disconnecting}
use Rattle.enet_peer.specs.Peering.{Peering}
use Rattle.enet_peer.specs.CommandEffect.{obeyed, is_allowed, stopped, answered, on_acknowledge, on_match, sampled}
use Rattle.enet_peer.specs.CommandEffect as effect
use Rattle.law_connection.specs.LinkSteps.{Has}
use Rattle.law_progress.specs.Peers.{IsRemoved, WentThen}
use Rattle.law_progress.proofs.Found.{found}
use Rattle.law_progress.proofs.Waiting.{Has-at, Has-mapped}
use Rattle.law_progress.proofs.SomethingGoes.{set-same}

one-less : {X : Type 0} (xs : List X) (i : ℕ) (x : X) → slice_get xs i ≡ Some x → length (remove xs i) + 1 ≡ length xs
one-less [] i x e = absurd (cc)
one-less (y ∷ ys) zero x e = omega arith
one-less (y ∷ ys) (suc i) x e = let rest = one-less ys i x e in omega arith

pub removed-at : (p : Peering) (now : ℕ) (sent : Option ℕ) (m : Message) (number told : ℕ) (s : SendingEnd) → p.state ≡ state.Connected → m.head.acknowledge ≡ false → m.body ≡ acknowledge number told → m.head.channel < 255
    → slice_get p.outbox.senders m.head.channel ≡ Some s → (i : ℕ) (t : Sent) → position_of number s.sender.sent ≡ Some i → slice_get s.sender.sent i ≡ Some t → went_at (meant_time told (p.offset % 2 ^ 16)) t.transmission ≡ true
    → IsRemoved p m.head.channel number s (obeyed p now sent m)
removed-at p now sent m number told s connected quiet body low there i t place at went = by-message
  where
    time : ℕ
    time = meant_time told (p.offset % 2 ^ 16)

    channel : ℕ
    channel = m.head.channel

    apart : (channel == 255) ≡ false
    apart = unlike channel low
      where
        unlike : (k : ℕ) → k < 255 → (k == 255) ≡ false
        unlike k l = grind (arith, nat_tests)

    -- the sender without it
    after : SendingEnd
    after = record s { sender = after_acknowledgement s.sender number }

    less : length after.sender.sent + 1 ≡ length s.sender.sent
    less = ap (λ o. length (without_place s.sender.sent o) + 1) place ∙ one-less s.sender.sent i t at

    told_is : Option Acknowledged
    told_is = outbox.told_by p.outbox channel number time

    gone : Peering
    gone = sampled (record p { outbox = outbox.with_growth (record p.outbox { senders = slice_set p.outbox.senders channel after; kept = outbox.still_kept p.outbox.kept channel after.sender }) told_is }) now time

    Good : Peering → Type 0
    Good q = IsRemoved p channel number s (answered q m sent true)

    good-gone : Good gone
    good-gone = subst (λ b. IsRemoved p channel number s (cond (b && true && effect.is_answered_in gone.state m.body) (effect.answered_at gone m.head sent) (record { stop = None; after = gone }))) (sym quiet)
        (record { stop = refl; connected = connected; after = after; there = set-same p.outbox.senders channel after s there; is = refl; less = less })

    -- a connected peer isn't settled
    good-settled : Good (settled gone)
    good-settled = subst (λ b. Good (cond (b && outbox.is_done gone.outbox) (disconnecting gone gone.info) gone)) (sym (ap is_later connected)) good-gone

    outbox-after : outbox.after_acknowledgement p.outbox channel number ≡ record p.outbox { senders = slice_set p.outbox.senders channel after; kept = outbox.still_kept p.outbox.kept channel after.sender }
    outbox-after = ap (λ b. cond b (record p.outbox { control = Rattle.enet_senders.specs.Controlling.after_acknowledgement p.outbox.control number }) (acknowledged_on p.outbox channel number (slice_get p.outbox.senders channel))) apart
        ∙ ap (acknowledged_on p.outbox channel number) there

    matches : outbox.matched_by p.outbox channel number time ≡ matched.Data
    matches =
        ap (λ b. cond b (outbox.as_control (Rattle.enet_senders.specs.Controlling.acknowledged_control p.outbox.control number time)) (matched_on (slice_get p.outbox.senders channel) number time)) apart
        ∙ ap (λ o. matched_on o number time) there
        ∙ ap as_data (ap (matching_at time s.sender.sent) place ∙ ap (matching time) at ∙ ap (λ b. cond b (Some (told_of time t)) None) went)

    good-accepted : Good (effect.accepted p now channel number time)
    good-accepted = subst (λ x. Good (on_match x p (effect.acknowledged p now channel number time))) (sym matches)
        (subst (λ (o : Outbox). Good (settled (sampled (record p { outbox = outbox.with_growth o told_is }) now time))) (sym outbox-after) good-settled)

    good : Good (on_acknowledge p now channel number told)
    good = subst (λ t. Good (cond (effect.is_connecting t) p (effect.accepted p now channel number time))) (sym connected) good-accepted

    -- it is no server's answer, and asks for no acknowledgement, so it isn't refused
    unasked : effect.is_unasked p m.body ≡ false
    unasked = ap (effect.is_unasked p) body

    plain : (t : Rattle.enet_peer.specs.declared.parts.PeerState.PeerState) (b : Rattle.enet_codec.specs.Message.Body)
        → IsRemoved p channel number s (effect.by_body p now sent m b)
        → IsRemoved p channel number s (cond (effect.is_unasked p m.body) (stopped p Rattle.enet_codec.specs.declared.stop.Stop.TheVariants.NotConnected)
        (cond (m.head.acknowledge && not (effect.drops_acknowledgements t m.body) && outbox.is_crowded p.outbox) (stopped p Rattle.enet_codec.specs.declared.stop.Stop.TheVariants.Waiting) (effect.by_body p now sent m b)))
    plain t b h =
        subst (λ u. IsRemoved p channel number s (cond u (stopped p Rattle.enet_codec.specs.declared.stop.Stop.TheVariants.NotConnected) (cond (m.head.acknowledge && not (effect.drops_acknowledgements t m.body) && outbox.is_crowded p.outbox) (stopped p Rattle.enet_codec.specs.declared.stop.Stop.TheVariants.Waiting) (effect.by_body p now sent m b)))) (sym unasked)
        (subst (λ a. IsRemoved p channel number s (cond (a && not (effect.drops_acknowledgements t m.body) && outbox.is_crowded p.outbox) (stopped p Rattle.enet_codec.specs.declared.stop.Stop.TheVariants.Waiting) (effect.by_body p now sent m b))) (sym quiet) h)

    by-message : IsRemoved p channel number s (obeyed p now sent m)
    by-message = subst (λ b. IsRemoved p channel number s (cond (effect.is_connect b) (stopped p Rattle.enet_codec.specs.declared.stop.Stop.TheVariants.BadCommand) (cond (is_allowed p.state b) (effect.unless_refused p m (effect.by_body p now sent m b)) (stopped p Rattle.enet_codec.specs.declared.stop.Stop.TheVariants.NotConnected)))) (sym body)
        (subst (λ t. IsRemoved p channel number s (cond (is_allowed t (acknowledge number told)) (effect.unless_refused p m (effect.by_body p now sent m (acknowledge number told))) (stopped p Rattle.enet_codec.specs.declared.stop.Stop.TheVariants.NotConnected))) (sym connected)
        (plain p.state (acknowledge number told) good))

pub removed : (p : Peering) (now : ℕ) (sent : Option ℕ) (m : Message) (number told : ℕ) (s : SendingEnd) → p.state ≡ state.Connected → m.head.acknowledge ≡ false → m.body ≡ acknowledge number told → m.head.channel < 255
    → slice_get p.outbox.senders m.head.channel ≡ Some s → Has (map (λ (x : Sent). x.command.number) s.sender.sent) number → WentThen s.sender.sent number (meant_time told (p.offset % 2 ^ 16)) → IsRemoved p m.head.channel number s (obeyed p now sent m)
removed p now sent m number told s connected quiet body low there h went =
    let x = Has-mapped (λ (x : Sent). x.command.number) s.sender.sent number h in
    let f = found (λ (x : Sent). x.command.number == number) s.sender.sent x.0 x.1 (eq-eqb x.0.command.number number x.2) in
    removed-at p now sent m number told s connected quiet body low there f.0 f.2 f.1 f.3 (went f.2 (Has-at s.sender.sent f.0 f.2 f.3) (is-equal f.2.command.number number f.4))
  where
    is-equal : (m n : ℕ) → (m == n) ≡ true → m ≡ n
    is-equal m n t = grind (arith, nat_tests)
