-- Where a datagram would have nothing in it, no command of channel 0xFF is due or queued.
use Rattle.std.proofs.Common.{◌≡◌, ℕ, suc, ◌+◌, ◌-◌, ◌≤◌, true, cond, List, [], ◌∷◌, length, refl, sym, ap, subst, ◌∙◌, inl, inr, ◌⊎◌, arith, Option, Some, None}
use Rattle.std.specs.List.{position}
use Rattle.enet_codec.specs.Message.{Message}
use Rattle.enet_senders.specs.Controlling as controlling
use Rattle.enet_senders.specs.declared.control.Numbered.{Numbered}
use Rattle.enet_senders.specs.declared.control.SentControl.{SentControl}
use Rattle.enet_outbox.specs.declared.parts.Acknowledgement.{Acknowledgement}
use Rattle.enet_outbox.specs.declared.parts.Pace.{Pace}
use Rattle.enet_outbox.specs.Outbox.{Outbox}
use Rattle.enet_outbox.specs.Emission.{Filling, empty_datagram, size_of, fits, with_command, shut, repeated, acknowledgement_of, acknowledgement_step, with_one_acknowledgement, with_acknowledgements, control_step, with_one_control, with_controls, control_turns, with_one_unsequenced, with_unsequenced, turn_order, filled}
use Rattle.enet_outbox.proofs.Repeats.{by-repeated}
use Rattle.law_progress.proofs.Filling.{le-leb, control-size, Filled, filled-with, if-filled, unsequenced-filled, order-filled}

-- while acknowledgements are put in, a datagram is empty or has a command
abbrev Begun : Filling → Filling → Type 0
Begun f0 f = (f ≡ f0) ⊎ Filled f

acknowledgements-begun : (pace : Pace) (o : Outbox) → 576 ≤ pace.mtu → Begun (empty_datagram pace o) (with_acknowledgements (empty_datagram pace o))
acknowledgements-begun pace o big = by-repeated (Begun f0) (length o.acknowledgements) with_one_acknowledgement (λ f g. one f f.outbox.acknowledgements g) f0 (inl refl)
  where
    f0 : Filling
    f0 = empty_datagram pace o

    room : (a : Acknowledgement) → fits f0 (acknowledgement_of a) ≡ true
    room a = le-leb (size_of (acknowledgement_of a)) (pace.mtu - 4) (let z : size_of (acknowledgement_of a) ≤ 8 = omega arith in omega arith)

    one : (f : Filling) (xs : List Acknowledgement) → Begun f0 f → Begun f0 (acknowledgement_step f xs)
    one f [] g = g
    one f (a ∷ rest) (inl e) =
        inr (subst (λ (x : Filling). Filled (cond (fits x (acknowledgement_of a)) (with_command x (acknowledgement_of a) (record x.outbox { acknowledgements = rest })) (shut x))) (sym e)
        (subst (λ b. Filled (cond b (with_command f0 (acknowledgement_of a) (record o { acknowledgements = rest })) (shut f0))) (sym (room a)) (filled-with f0 (acknowledgement_of a) (record o { acknowledgements = rest }))))
    one f (a ∷ rest) (inr h) =
        inr (if-filled (fits f (acknowledgement_of a)) (with_command f (acknowledgement_of a) (record f.outbox { acknowledgements = rest })) (shut f) (filled-with f (acknowledgement_of a) (record f.outbox { acknowledgements = rest })) h)

-- a command of channel 0xFF that is due or queued goes, or an acknowledgement before it
pub controls-begin : (pace : Pace) (o : Outbox) (n : controlling.Next) → 576 ≤ pace.mtu → controlling.next pace.now pace.timeout o.control ≡ Some n → Filled (filled pace o)
controls-begin pace o n big due = by (acknowledgements-begun pace o big)
  where
    f0 : Filling
    f0 = empty_datagram pace o

    m : Message
    m = controlling.message_of n.command

    room : fits f0 m ≡ true
    room = le-leb (size_of m) (pace.mtu - 4) (let z = control-size n.command in omega arith)

    one : Filled (with_one_control pace f0)
    one = subst (λ (x : Option controlling.Next). Filled (control_step f0 x)) (sym due)
        (subst (λ b. Filled (cond b (with_command f0 m (record o { control = n.commands })) (shut f0))) (sym room) (filled-with f0 m (record o { control = n.commands })))

    step : (f : Filling) (x : Option controlling.Next) → Filled f → Filled (control_step f x)
    step f None g = g
    step f (Some x) g = if-filled (fits f (controlling.message_of x.command)) (with_command f (controlling.message_of x.command) (record f.outbox { control = x.commands })) (shut f) (filled-with f (controlling.message_of x.command) (record f.outbox { control = x.commands })) g

    turns : (q : List Numbered) (s : List SentControl) → o.control.queued ≡ q → o.control.sent ≡ s → (j : ℕ) × (control_turns o ≡ suc j)
    turns [] [] e h =
        let none : controlling.next pace.now pace.timeout o.control ≡ None =
        ap (λ (l : List SentControl). controlling.next_of pace.now pace.timeout o.control (position (λ (p : SentControl). p.transmission.due) l)) h
        ∙ ap (controlling.next_queued pace.now pace.timeout o.control) e in
        absurd (let f : Some n ≡ None = sym due ∙ none in cc)
    turns [] (x ∷ s) e h = (length s, (let a : length o.control.queued ≡ 0 = ap (λ (l : List Numbered). length l) e in let b : length o.control.sent ≡ suc (length s) = ap (λ (l : List SentControl). length l) h in omega arith))
    turns (x ∷ q) s e h = (length q + length s, (let a : length o.control.queued ≡ suc (length q) = ap (λ (l : List Numbered). length l) e in let b : length o.control.sent ≡ length s = ap (λ (l : List SentControl). length l) h in omega arith))

    first : Filled (with_controls pace f0)
    first =
        let j = turns o.control.queued o.control.sent refl refl in
        subst (λ times. Filled (repeated times (with_one_control pace) f0)) (sym j.1)
        (by-repeated Filled j.0 (with_one_control pace) (λ f g. step f (controlling.next pace.now pace.timeout f.outbox.control) g) (with_one_control pace f0) one)

    later : (f : Filling) → Filled (with_controls pace f) → Filled (Rattle.enet_outbox.specs.Emission.with_channels pace (turn_order o) (with_unsequenced (with_controls pace f)))
    later f g =
        let f2 = with_controls pace f in
        order-filled pace (turn_order o) (with_unsequenced f2) (by-repeated Filled (length f2.outbox.unsequenced) with_one_unsequenced unsequenced-filled f2 g)

    by : Begun f0 (with_acknowledgements f0) → Filled (filled pace o)
    by (inl e) = later (with_acknowledgements f0) (subst (λ (f : Filling). Filled (with_controls pace f)) (sym e) first)
    by (inr h) =
        let f1 = with_acknowledgements f0 in
        later f1 (by-repeated Filled (control_turns f1.outbox) (with_one_control pace) (λ f g. step f (controlling.next pace.now pace.timeout f.outbox.control) g) f1 h)

-- so where nothing is left to be put out, none of them is due or queued
pub nothing-left : (pace : Pace) (o : Outbox) → 576 ≤ pace.mtu → (filled pace o).messages ≡ [] → controlling.next pace.now pace.timeout o.control ≡ None
nothing-left pace o big none = by (controlling.next pace.now pace.timeout o.control) refl
  where
    by : (x : Option controlling.Next) → controlling.next pace.now pace.timeout o.control ≡ x → controlling.next pace.now pace.timeout o.control ≡ None
    by None e = e
    by (Some n) e = (let h = controls-begin pace o n big e in absurd (subst (λ (l : List Message). Rattle.enet_receiver.specs.Members.Has l h.0) none h.1))
