-- Putting out all at one moment comes to where nothing may go, and what was ready before was put out.
use Rattle.std.proofs.Common.{◌≡◌, ℕ, zero, suc, ◌+◌, ◌≤◌, true, false, List, [], ◌∷◌, ◌++◌, refl, sym, subst, ◌∙◌, inl, inr, arith}
use Rattle.enet_codec.specs.Message.{Message}
use Rattle.enet_senders.specs.Controlling as controlling
use Rattle.enet_fragment.specs.DataCommand.{message_of}
use Rattle.enet_outbox.specs.declared.parts.Acknowledgement.{Acknowledgement}
use Rattle.enet_outbox.specs.declared.parts.Pace.{Pace}
use Rattle.enet_outbox.specs.Outbox.{Outbox}
use Rattle.enet_outbox.specs.Emission.{Filling, acknowledgement_of, filled}
use Rattle.enet_receiver.specs.Members.{Has}
use Rattle.enet_sender.specs.declared.sent.Sent.{Sent}
use Rattle.law_progress.specs.Outboxes.{AllFit, NothingMayGo, GoOrStay, put_out, IsPutOut, ready}
use Rattle.law_progress.proofs.Found.{controls-rest}
use Rattle.law_progress.proofs.Blocked.{none-sent, some-in-transit}
use Rattle.law_progress.proofs.Kept.{go-or-stay}
use Rattle.law_progress.proofs.PutsOut.{less-ready}
use Rattle.law_progress.proofs.Spent.{nothing-may-go, filled-fits}

Has-left : {X : Type 0} (xs ys : List X) (x : X) → Has xs x → Has (xs ++ ys) x
Has-left [] ys x h = absurd h
Has-left (z ∷ xs) ys x (inl e) = inl e
Has-left (z ∷ xs) ys x (inr h) = inr (Has-left xs ys x h)

Has-right : {X : Type 0} (xs ys : List X) (x : X) → Has ys x → Has (xs ++ ys) x
Has-right [] ys x h = h
Has-right (z ∷ xs) ys x h = inr (Has-right xs ys x h)

-- where nothing may go, nothing is left to be put out, but for what is due while something is in transit
none-out : (pace : Pace) (o : Outbox) → AllFit pace o → NothingMayGo pace o → IsPutOut pace o zero
none-out pace o fit r = record {
  rests = r;
  acknowledgements = λ a h. absurd (subst (λ (l : List Acknowledgement). Has l a) r.acknowledgements h);
  due = λ i s there p h due reliable. inr (
    (s, there, h),
    elim (some-in-transit o.senders) [
      | inl all ↦ absurd (subst (λ (l : List Sent). Has l p) (none-sent pace o fit all r i s there) h)
      | inr some ↦ some
    ],
  );
  controls = λ p h due. absurd (let z : true ≡ false = sym due ∙ controls-rest pace.now pace.timeout o.control r.controls p h in cc);
}

-- one datagram, and the further ones
more-out : (pace : Pace) (o : Outbox) (n : ℕ) → IsPutOut pace (filled pace o).outbox n → IsPutOut pace o (suc n)
more-out pace o n r = record {
  rests = r.rests;
  acknowledgements = λ a h. elim (k.acknowledgements a h) [ inl stays ↦ later (acknowledgement_of a) (r.acknowledgements a stays) | inr went ↦ now (acknowledgement_of a) went ];
  due = λ i s there p h due reliable. (let t = k.there i s there in elim (k.due i s t.0 there t.1 p h reliable) [
    | inl stays ↦ elim (r.due i t.0 t.1 p stays due reliable) [
      | inl went ↦ inl (later (message_of s.channel p.command) (subst (λ j. Has (put_out pace n f.outbox) (message_of j p.command)) t.2 went))
      | inr still ↦ inr still
    ]
    | inr went ↦ inl (now (message_of s.channel p.command) went)
  ]);
  controls = λ p h due. elim (k.due_controls p h) [ inl stays ↦ later (controlling.message_of p.command) (r.controls p stays due) | inr went ↦ now (controlling.message_of p.command) went ];
}
  where
    f : Filling
    f = filled pace o

    k : GoOrStay o f
    k = go-or-stay pace o

    now : (m : Message) → Has f.messages m → Has (f.messages ++ put_out pace n f.outbox) m
    now m h = Has-left f.messages (put_out pace n f.outbox) m h

    later : (m : Message) → Has (put_out pace n f.outbox) m → Has (f.messages ++ put_out pace n f.outbox) m
    later m h = Has-right f.messages (put_out pace n f.outbox) m h

all-out : (most : ℕ) (pace : Pace) (o : Outbox) → AllFit pace o → ready o ≤ most → (n : ℕ) × (n ≤ most + 1) × IsPutOut pace o n
all-out zero pace o fit few = by (filled pace o).messages refl
  where
    by : (ms : List Message) → (filled pace o).messages ≡ ms → (n : ℕ) × (n ≤ zero + 1) × IsPutOut pace o n
    by [] none = (suc zero, omega arith, more-out pace o zero (none-out pace (filled pace o).outbox (filled-fits pace o fit) (nothing-may-go pace o fit none)))
    by (m ∷ ms) e = absurd (let less = less-ready pace o (m, subst (λ (l : List Message). Has l m) (sym e) (inl refl)) in omega arith)
all-out (suc most) pace o fit few = by (filled pace o).messages refl (λ less. all-out most pace (filled pace o).outbox (filled-fits pace o fit) less)
  where
    by : (ms : List Message) → (filled pace o).messages ≡ ms → (ready (filled pace o).outbox ≤ most → (n : ℕ) × (n ≤ most + 1) × IsPutOut pace (filled pace o).outbox n) → (n : ℕ) × (n ≤ suc most + 1) × IsPutOut pace o n
    by [] none rest = (suc zero, omega arith, more-out pace o zero (none-out pace (filled pace o).outbox (filled-fits pace o fit) (nothing-may-go pace o fit none)))
    by (m ∷ ms) e rest =
        let less = less-ready pace o (m, subst (λ (l : List Message). Has l m) (sym e) (inl refl)) in
        let r = rest (omega arith) in
        let short : r.0 ≤ most + 1 = r.1 in
        (suc r.0, omega arith, more-out pace o r.0 r.2)

pub puts-out-all : (pace : Pace) (o : Outbox) → AllFit pace o → (n : ℕ) × (n ≤ ready o + 1) × IsPutOut pace o n
puts-out-all pace o fit = all-out (ready o) pace o fit (omega arith)
