-- Each command that goes leaves less to send, so the turns of a stage are enough.
use Rattle.std.proofs.Common.{◌≡◌, ℕ, zero, suc, ◌+◌, ◌<◌, ◌≤◌, ◌⊎◌, inl, inr, Bool, true, false, not, ◌&&◌, ◌||◌, cond, nat_le, List, [], ◌∷◌, ◌++◌, length, refl, sym, ap, subst, ◌∙◌, arith, Option, Some, None, slice_set}
use Rattle.std.specs.List.{position, slice_get}
use Rattle.std.proofs.lemmas.Bool.{and_parts, leb-true}
use Rattle.std.proofs.lemmas.List.Quantifiers.{position-Some}
use Rattle.std.proofs.lemmas.Option.{get_or_from_slice_get}
use Rattle.enet_seq.specs.Numbering.{Numbering}
use Rattle.enet_fragment.specs.declared.data.DataCommand.{DataCommand}
use Rattle.enet_sender.specs.declared.sent.Sent.{Sent}
use Rattle.enet_sender.specs.declared.outgoing.Occasion.{Occasion}
use Rattle.enet_sender.specs.Sender.{Sender, Next, next, next_of, next_queued, next_resent, first_sent, resent, begun, again, has_room, may_begin, may_go, is_in_span, bytes_of, price_of, is_more, skipped, with_skipped}
use Rattle.enet_senders.specs.declared.control.Numbered.{Numbered}
use Rattle.enet_senders.specs.declared.control.SentControl.{SentControl}
use Rattle.enet_senders.specs.Controlling as control

abbrev pub one_if : Bool → ℕ
one_if true = 1
one_if false = 0

-- how many are due to go again
abbrev pub due_in : {X : Type 0} → (X → Bool) → List X → ℕ
due_in p [] = 0
due_in p (x ∷ xs) = one_if (p x) + due_in p xs

due-push : {X : Type 0} (p : X → Bool) (xs : List X) (x : X) → p x ≡ false → due_in p (xs ++ x ∷ []) ≡ due_in p xs
due-push p [] x e = ap (λ (b : Bool). one_if b + 0) e
due-push p (y ∷ xs) x e = ap (λ n. one_if (p y) + n) (due-push p xs x e)

due-set : {X : Type 0} (p : X → Bool) (xs : List X) (i : ℕ) (x y : X) → slice_get xs i ≡ Some x → p x ≡ true → p y ≡ false → due_in p (slice_set xs i y) < due_in p xs
due-set p [] i x y there e n = cc
due-set p (z ∷ xs) zero x y there e n =
    let is : z ≡ x = cc in
    let one : one_if (p z) ≡ 1 = ap one_if (ap p is ∙ e) in
    let none : one_if (p y) ≡ 0 = ap one_if n in
    omega arith
due-set p (z ∷ xs) (suc i) x y there e n = let h = due-set p xs i x y there e n in omega arith

pub due-most : {X : Type 0} (p : X → Bool) (xs : List X) → due_in p xs ≤ length xs
due-most p [] = omega arith
due-most p (x ∷ xs) = let h = due-most p xs in by (p x) h
  where
    by : (b : Bool) → due_in p xs ≤ length xs → one_if b + due_in p xs ≤ suc (length xs)
    by true h = omega arith
    by false h = omega arith

-- what is due is found
found-due : {X : Type 0} (p : X → Bool) (xs : List X) (i : ℕ) (x : X) → position p xs ≡ Some i → slice_get xs i ≡ Some x → p x ≡ true
found-due p xs i x e there = sym (ap p (get_or_from_slice_get xs i x x there)) ∙ (position-Some p xs i x e).1

if-some : {X : Type 0} (P : X → Type 0) (x n : X) → P x → Some x ≡ Some n → P n
if-some P x n h e = let is : x ≡ n = cc in subst P is h

pub if-goes : {X : Type 0} (P : X → Type 0) (b : Bool) (x n : X) → (b ≡ true → P x) → cond b (Some x) None ≡ Some n → P n
if-goes P true x n h e = if-some P x n (h refl) e
if-goes P false x n h e = cc

-- what a channel has left to send
abbrev pub left_of : Sender → ℕ
left_of s = length s.queued + due_in (λ (p : Sent). p.transmission.due) s.sent

pub left-most : (s : Sender) → left_of s ≤ length s.queued + length s.sent
left-most s = let h = due-most (λ (p : Sent). p.transmission.due) s.sent in omega arith

-- a fact of what is due next: of each first send and of each resend
pub by-next : (P : Next → Type 0) (g : Numbering) (occasion : Occasion) (s : Sender) (n : Next)
    → ((c : DataCommand) (rest : List DataCommand) → s.queued ≡ c ∷ rest → may_go g s.sent occasion c ≡ true → P (first_sent occasion.now occasion.timeout s c rest))
    → ((i : ℕ) (p : Sent) → slice_get s.sent i ≡ Some p → p.transmission.due ≡ true → has_room occasion p.command ≡ true → P (resent occasion.now s i p))
    → next g occasion s ≡ Some n → P n
by-next P g occasion s n first again_ e = by-place (position (λ (p : Sent). p.transmission.due) s.sent) refl e
  where
    by-queue : (queued : List DataCommand) → s.queued ≡ queued → next_queued g occasion s queued ≡ Some n → P n
    by-queue [] is e = cc
    by-queue (c ∷ rest) is e = if-goes P (may_go g s.sent occasion c) (first_sent occasion.now occasion.timeout s c rest) n (first c rest is) e

    by-sent : (i : ℕ) → position (λ (p : Sent). p.transmission.due) s.sent ≡ Some i → (o : Option Sent) → slice_get s.sent i ≡ o → next_resent occasion s i o ≡ Some n → P n
    by-sent i found None is e = cc
    by-sent i found (Some p) is e = if-goes P (has_room occasion p.command) (resent occasion.now s i p) n (again_ i p is (found-due (λ (p : Sent). p.transmission.due) s.sent i p found is)) e

    by-place : (o : Option ℕ) → position (λ (p : Sent). p.transmission.due) s.sent ≡ o → next_of g occasion s o ≡ Some n → P n
    by-place None found e = by-queue s.queued refl e
    by-place (Some i) found e = by-sent i found (slice_get s.sent i) refl e

sent-first : (b : Bool) (sent : List Sent) (q : Sent) → q.transmission.due ≡ false → due_in (λ (p : Sent). p.transmission.due) (cond b (sent ++ q ∷ []) sent) ≡ due_in (λ (p : Sent). p.transmission.due) sent
sent-first true sent q e = due-push (λ (p : Sent). p.transmission.due) sent q e
sent-first false sent q e = refl

pub left-falls : (g : Numbering) (occasion : Occasion) (s : Sender) (n : Next) → next g occasion s ≡ Some n → left_of n.sender < left_of s
left-falls g occasion s n e =
    by-next (λ (m : Next). left_of m.sender < left_of s) g occasion s n
    (λ c rest is goes. let d = sent-first c.reliable s.sent (begun occasion.now occasion.timeout c) refl in let l = ap (λ (cs : List DataCommand). length cs) is in omega arith)
    (λ i p there due room. let d = due-set (λ (p : Sent). p.transmission.due) s.sent i p (again occasion.now p) there due refl in omega arith) e

-- what is new in transit fits what may be
pub record AddsFit (occasion : Occasion) (n : Next) : Type 0 where
  pub bytes : (n.added ≡ 0) ⊎ (occasion.transit + n.added ≤ occasion.most)
  pub prices : (n.price ≡ 0) ⊎ (occasion.prices + n.price ≤ occasion.dearest)

room-fits : (occasion : Occasion) (bytes price : ℕ) → (nat_le (occasion.transit + bytes) occasion.most && nat_le (occasion.prices + price) occasion.dearest) ≡ true
    → (occasion.transit + bytes ≤ occasion.most) × (occasion.prices + price ≤ occasion.dearest)
room-fits occasion bytes price goes = by (nat_le (occasion.transit + bytes) occasion.most) (nat_le (occasion.prices + price) occasion.dearest) refl refl goes
  where
    by : (a b : Bool) → nat_le (occasion.transit + bytes) occasion.most ≡ a → nat_le (occasion.prices + price) occasion.dearest ≡ b → (a && b) ≡ true
        → (occasion.transit + bytes ≤ occasion.most) × (occasion.prices + price ≤ occasion.dearest)
    by true true e f goes = (leb-true (occasion.transit + bytes) occasion.most e, leb-true (occasion.prices + price) occasion.dearest f)
    by true false e f goes = absurd (cc)
    by false b e f goes = absurd (cc)

pub added-fits : (g : Numbering) (occasion : Occasion) (s : Sender) (n : Next) → next g occasion s ≡ Some n → AddsFit occasion n
added-fits g occasion s n e =
    by-next (AddsFit occasion) g occasion s n
    (λ c rest is goes. first c rest c.reliable refl (is_in_span g s.sent c.number) goes)
    (λ i p there due room. let r = room-fits occasion (bytes_of p.command) (price_of p.command) room in record { bytes = inr r.0; prices = inr r.1 }) e
  where
    first : (c : DataCommand) (rest : List DataCommand) (reliable : Bool) → c.reliable ≡ reliable → (span : Bool) → (not reliable || (span && may_begin occasion c)) ≡ true
        → AddsFit occasion (first_sent occasion.now occasion.timeout s c rest)
    first c rest false is span goes = record { bytes = inl (ap (λ (b : Bool). cond b (length c.body) 0) is); prices = inl (ap (λ (b : Bool). cond b (length c.body + 28) 0) is) }
    first c rest true is false goes = absurd (cc)
    first c rest true is true goes = let r = room-fits occasion (bytes_of c) (price_of c) (and_parts (not occasion.barred) (has_room occasion c) goes).1 in record { bytes = inr r.0; prices = inr r.1 }

-- an unreliable command adds nothing
pub added-none : (g : Numbering) (occasion : Occasion) (s : Sender) (n : Next) → next g occasion s ≡ Some n → n.command.reliable ≡ false → (n.added ≡ 0) × (n.price ≡ 0)
added-none g occasion s n e =
    by-next (λ (m : Next). m.command.reliable ≡ false → (m.added ≡ 0) × (m.price ≡ 0)) g occasion s n
    (λ c rest is goes unreliable. nothing c unreliable)
    (λ i p there due room unreliable. nothing p.command unreliable) e
  where
    nothing : (c : DataCommand) → c.reliable ≡ false → (bytes_of c ≡ 0) × (price_of c ≡ 0)
    nothing c unreliable = (ap (λ (b : Bool). cond b (length c.body) 0) unreliable, ap (λ (b : Bool). cond b (length c.body + 28) 0) unreliable)

skipped-most : (cs : List DataCommand) → length (skipped cs) ≤ length cs
skipped-most [] = omega arith
skipped-most (c ∷ cs) = by (is_more c) (skipped-most cs)
  where
    by : (b : Bool) → length (skipped cs) ≤ length cs → length (cond b (skipped cs) (c ∷ cs)) ≤ suc (length cs)
    by true h = omega arith
    by false h = omega arith

pub left-skipped : (s : Sender) → left_of (with_skipped s) ≤ left_of s
left-skipped s = let h = skipped-most s.queued in omega arith

-- what channel 0xFF has left to send
abbrev pub control_left : control.Commands → ℕ
control_left c = length c.queued + due_in (λ (p : SentControl). p.transmission.due) c.sent

pub control-most : (c : control.Commands) → control_left c ≤ length c.queued + length c.sent
control-most c = let h = due-most (λ (p : SentControl). p.transmission.due) c.sent in omega arith

control-first : (b : Bool) (sent : List SentControl) (q : SentControl) → q.transmission.due ≡ false → due_in (λ (p : SentControl). p.transmission.due) (cond b (sent ++ q ∷ []) sent) ≡ due_in (λ (p : SentControl). p.transmission.due) sent
control-first true sent q e = due-push (λ (p : SentControl). p.transmission.due) sent q e
control-first false sent q e = refl

pub control-falls : (now timeout : ℕ) (c : control.Commands) (n : control.Next) → control.next now timeout c ≡ Some n → control_left n.commands < control_left c
control-falls now timeout c n e = by-place (position (λ (p : SentControl). p.transmission.due) c.sent) refl e
  where
    by-queue : (queued : List Numbered) → c.queued ≡ queued → control.next_queued now timeout c queued ≡ Some n → control_left n.commands < control_left c
    by-queue [] is e = cc
    by-queue (x ∷ rest) is e =
        let d = control-first (control.is_reliable x.control) c.sent (control.begun now timeout x) refl in
        let l = ap (λ (cs : List Numbered). length cs) is in
        if-goes (λ (m : control.Next). control_left m.commands < control_left c) (control.is_in_span c.sent x.number) _ n (λ goes. omega arith) e

    by-sent : (i : ℕ) → position (λ (p : SentControl). p.transmission.due) c.sent ≡ Some i → (o : Option SentControl) → slice_get c.sent i ≡ o → control.next_resent now c i o ≡ Some n → control_left n.commands < control_left c
    by-sent i found None is e = cc
    by-sent i found (Some p) is e =
        let d = due-set (λ (p : SentControl). p.transmission.due) c.sent i p (control.again now p) is (found-due (λ (p : SentControl). p.transmission.due) c.sent i p found is) refl in
        if-some (λ (m : control.Next). control_left m.commands < control_left c) _ n (omega arith) e

    by-place : (o : Option ℕ) → position (λ (p : SentControl). p.transmission.due) c.sent ≡ o → control.next_of now timeout c o ≡ Some n → control_left n.commands < control_left c
    by-place None found e = by-queue c.queued refl e
    by-place (Some i) found e = by-sent i found (slice_get c.sent i) refl e
