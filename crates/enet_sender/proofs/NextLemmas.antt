-- What is due next, case by case.
use Rattle.std.proofs.Common.{◌≡◌, ℕ, suc, zero, ◌<◌, Bool, not, ◌&&◌, true, false, cond, List, [], ◌∷◌, length, get_or, drop, refl, sym, ap, subst, ◌∙◌, arith, Option, Some, None}
use Rattle.std.specs.List.{slice_get}
use Rattle.enet_seq.specs.Numbering.{wire}
use Rattle.enet_fragment.specs.declared.data.DataCommand.{DataCommand}
use Rattle.enet_sender.specs.declared.outgoing.Occasion.{Occasion}
use Rattle.enet_sender.specs.declared.sent.Sent.{Sent}
use Rattle.enet_sender.specs.declared.outgoing.Due.{Due}
use Rattle.enet_sender.specs.declared.outgoing.Due.TheVariants as due
use Rattle.enet_sender.specs.Due.{Did, SendingEnd}
use Rattle.enet_sender.specs.Sender.{Sender, Next, next_queued, next_resent, first_sent, resent, has_room, head_lacks, lacks_room, may_go}

pub not-true : (b : Bool) → not b ≡ true → b ≡ false
not-true true e = sym e
not-true false e = refl

-- a list by its head
pub by_head : {X : Type 0} (xs : List X) (x : X) → 0 < length xs → x ≡ get_or xs 0 x → xs ≡ x ∷ drop 1 xs
by_head [] x low is = absurd (omega arith)
by_head (y ∷ xs) x low is = ap (λ z. z ∷ xs) (sym is)

-- a read inside
pub slice_get-inside : {X : Type 0} (xs : List X) (i : ℕ) (x : X) → i < length xs → x ≡ get_or xs i x → slice_get xs i ≡ Some x
slice_get-inside [] i x low is = absurd (omega arith)
slice_get-inside (y ∷ xs) zero x low is = ap (λ z. Some z) (sym is)
slice_get-inside (y ∷ xs) (suc i) x low is = slice_get-inside xs i x (omega arith) is

pub next_queued-empty : (occasion : Occasion) (s : Sender) → length s.queued ≡ 0 → next_queued wire occasion s s.queued ≡ None
next_queued-empty occasion s none = go s.queued none
  where
    go : (cs : List DataCommand) → length cs ≡ 0 → next_queued wire occasion s cs ≡ None
    go [] e = refl
    go (c ∷ cs) e = absurd (omega arith)

pub next_queued-blocked : (occasion : Occasion) (s : Sender) (c : DataCommand) → s.queued ≡ c ∷ drop 1 s.queued
    → may_go wire s.sent occasion c ≡ false → next_queued wire occasion s s.queued ≡ None
next_queued-blocked occasion s c is blocked =
    let goes : Option Next = Some (first_sent occasion.now occasion.timeout s c (drop 1 s.queued)) in
    ap (next_queued wire occasion s) is ∙ ap (λ b. cond b goes None) blocked

pub next_queued-goes : (occasion : Occasion) (s : Sender) (c : DataCommand) → s.queued ≡ c ∷ drop 1 s.queued
    → may_go wire s.sent occasion c ≡ true → next_queued wire occasion s s.queued ≡ Some (first_sent occasion.now occasion.timeout s c (drop 1 s.queued))
next_queued-goes occasion s c is goes =
    let next : Option Next = Some (first_sent occasion.now occasion.timeout s c (drop 1 s.queued)) in
    ap (next_queued wire occasion s) is ∙ ap (λ b. cond b next None) goes

-- what is due to go again goes where there is room for it
pub next_resent-blocked : (occasion : Occasion) (s : Sender) (i : ℕ) (p : Sent) → has_room occasion p.command ≡ false → next_resent occasion s i (Some p) ≡ None
next_resent-blocked occasion s i p blocked =
    let goes : Option Next = Some (resent occasion.now s i p) in
    ap (λ b. cond b goes None) blocked

pub next_resent-goes : (occasion : Occasion) (s : Sender) (i : ℕ) (p : Sent) → has_room occasion p.command ≡ true → next_resent occasion s i (Some p) ≡ Some (resent occasion.now s i p)
next_resent-goes occasion s i p goes =
    let next : Option Next = Some (resent occasion.now s i p) in
    ap (λ b. cond b next None) goes

-- what finds no room is stopped for want of room alone, unless the room is kept for another channel
pub lacks_room-is : (o : Occasion) (c : DataCommand) → has_room o c ≡ false → lacks_room o c ≡ not o.barred
lacks_room-is o c e = ap (λ b. not b && not o.barred) e

-- where nothing goes, the answer tells whether the room is to be kept
pub did-stopped : (n : Option Next) (wants : Bool) (d : Due) (e : SendingEnd) (buf : List ℕ) (at : ℕ) → n ≡ None → d ≡ cond wants due.Full due.Nothing
    → Did n wants d e e (record { old = buf; at = at; new = buf })
did-stopped n wants d e buf at none is =
    let P : Option Next → Due → Type 0 = λ m k. Did m wants k e e (record { old = buf; at = at; new = buf }) in
    subst (λ (m : Option Next). P m d) (sym none) (subst (P None) (sym is) (by wants))
  where
    by : (b : Bool) → Did None b (cond b due.Full due.Nothing) e e (record { old = buf; at = at; new = buf })
    by true = (refl, refl, refl)
    by false = (refl, refl, refl)

pub head_lacks-empty : (o : Occasion) (sent : List Sent) (queued : List DataCommand) → queued ≡ [] → head_lacks o sent queued ≡ false
head_lacks-empty o sent queued none = ap (head_lacks o sent) none ∙ by sent
  where
    by : (ps : List Sent) → head_lacks o ps [] ≡ false
    by [] = refl
    by (p ∷ ps) = refl
