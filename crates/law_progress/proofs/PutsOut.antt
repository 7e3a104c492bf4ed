-- A datagram with a command leaves less that is ready to go, so putting out all comes to an end.
use Rattle.std.proofs.Common.{◌≡◌, ℕ, zero, suc, ◌+◌, ◌<◌, ◌≤◌, ltb, not, Bool, true, false, cond, List, [], ◌∷◌, ◌++◌, length, refl, sym, ap, ◌∙◌, arith, Option, Some, None}
use Rattle.std.proofs.lemmas.Bool.Decides.{nat_tests}
use Rattle.std.proofs.lemmas.List.{length-append}
use Rattle.std.specs.List.{position, prefix_len, slice_get, slice_set}
use Rattle.enet_codec.specs.Message.{Message}
use Rattle.enet_seq.specs.Numbering.{wire}
use Rattle.enet_senders.specs.Controlling.{Commands}
use Rattle.enet_senders.specs.Controlling as controlling
use Rattle.enet_senders.specs.declared.control.Numbered.{Numbered}
use Rattle.enet_senders.specs.declared.control.SentControl.{SentControl}
use Rattle.enet_fragment.specs.declared.data.DataCommand.{DataCommand}
use Rattle.enet_sender.specs.declared.sent.Sent.{Sent}
use Rattle.enet_sender.specs.declared.outgoing.Occasion.{Occasion}
use Rattle.enet_sender.specs.Sender.{Sender, Next, next, next_of, next_queued, next_resent, may_go, has_room, first_sent, resent, again, begun, with_skipped}
use Rattle.enet_sender.specs.Due.{SendingEnd}
use Rattle.enet_outbox.specs.declared.parts.Acknowledgement.{Acknowledgement}
use Rattle.enet_outbox.specs.declared.parts.Unsequenced.{Unsequenced}
use Rattle.enet_outbox.specs.declared.parts.Pace.{Pace}
use Rattle.enet_outbox.specs.Outbox.{Outbox}
use Rattle.enet_outbox.specs.Emission.{Filling, filled}
use Rattle.enet_outbox.proofs.Filled.{Keeps, by-filling}
use Rattle.law_connection.specs.LinkSteps.{Has}
use Rattle.law_progress.specs.Outboxes.{AreSome, due_count, due_controls, ready_at, ready_over, ready_controls, ready}
use Rattle.law_progress.proofs.SomethingGoes.{skipped-length}

-- what is found passes the test
pub found-passes : {X : Type 0} (f : X → Bool) (xs : List X) (i : ℕ) (p : X) → position f xs ≡ Some i → slice_get xs i ≡ Some p → f p ≡ true
found-passes f [] i p e t = absurd (cc)
found-passes {X} f (x ∷ xs) i p e t = go (f x) refl (λ j k h. found-passes f xs j p k h)
  where
    before : ℕ
    before = prefix_len (λ (q : X). not (f q)) xs

    some_place : (m : ℕ) → ltb 0 (suc m) ≡ true
    some_place m = grind (arith, nat_tests)

    below : (m n : ℕ) → ltb (1 + m) (suc n) ≡ true → ltb m n ≡ true
    below m n h = grind (arith, nat_tests)

    go : (b : Bool) → f x ≡ b → ((j : ℕ) → position f xs ≡ Some j → slice_get xs j ≡ Some p → f p ≡ true) → f p ≡ true
    go true d rest =
        let first : position f (x ∷ xs) ≡ Some 0 =
        ap (λ b. let k : ℕ = cond (not b) (1 + before) 0 in cond (ltb k (suc (length xs))) (Some k) None) d ∙ ap (λ c. cond c (Some 0) None) (some_place (length xs)) in
        let at : Some i ≡ Some 0 = sym e ∙ first in
        let is : i ≡ 0 = cc in
        let same : Some x ≡ Some p = ap (slice_get (x ∷ xs)) (sym is) ∙ t in
        let it : x ≡ p = cc in
        ap f (sym it) ∙ d
    go false d rest =
        by (ltb (1 + before) (suc (length xs))) refl
        (ap (λ b. let k : ℕ = cond (not b) (1 + before) 0 in cond (ltb k (suc (length xs))) (Some k) None) (sym d) ∙ e)
      where
        by : (b : Bool) → ltb (1 + before) (suc (length xs)) ≡ b → cond b (Some (1 + before)) None ≡ Some i → f p ≡ true
        by true l h =
            let is : 1 + before ≡ i = cc in
            let place : i ≡ suc before = omega arith in
            rest before (ap (λ c. cond c (Some before) None) (below before (length xs) l)) (ap (slice_get (x ∷ xs)) (sym place) ∙ t)
        by false l h = absurd (cc)

-- what is given under a test
pub if-some : {X : Type 0} (b : Bool) (x y : X) → cond b (Some x) None ≡ Some y → x ≡ y
if-some {X} true x y e = cc
if-some {X} false x y e = absurd (cc)

-- how many are due
count-set : (xs : List Sent) (i : ℕ) (p q : Sent) → slice_get xs i ≡ Some p → p.transmission.due ≡ true → q.transmission.due ≡ false → due_count (slice_set xs i q) + 1 ≡ due_count xs
count-set [] i p q t d f = absurd (cc)
count-set (x ∷ xs) zero p q t d f =
    let it : x ≡ p = cc in
    let a : due_count (q ∷ xs) ≡ due_count xs = ap (λ b. cond b (due_count xs + 1) (due_count xs)) f in
    let b : due_count (x ∷ xs) ≡ due_count xs + 1 = ap (λ b. cond b (due_count xs + 1) (due_count xs)) (ap (λ (y : Sent). y.transmission.due) it ∙ d) in
    omega arith
count-set (x ∷ xs) (suc i) p q t d f =
    let rest = count-set xs i p q t d f in
    elim x.transmission.due as (λ b. cond b (due_count (slice_set xs i q) + 1) (due_count (slice_set xs i q)) + 1 ≡ cond b (due_count xs + 1) (due_count xs)) [ true ↦ omega arith | false ↦ omega arith ]

count-push : (xs : List Sent) (q : Sent) → q.transmission.due ≡ false → due_count (xs ++ q ∷ []) ≡ due_count xs
count-push [] q f = ap (λ b. cond b (0 + 1) 0) f
count-push (x ∷ xs) q f = ap (λ n. cond x.transmission.due (n + 1) n) (count-push xs q f)

controls-set : (xs : List SentControl) (i : ℕ) (p q : SentControl) → slice_get xs i ≡ Some p → p.transmission.due ≡ true → q.transmission.due ≡ false → due_controls (slice_set xs i q) + 1 ≡ due_controls xs
controls-set [] i p q t d f = absurd (cc)
controls-set (x ∷ xs) zero p q t d f =
    let it : x ≡ p = cc in
    let a : due_controls (q ∷ xs) ≡ due_controls xs = ap (λ b. cond b (due_controls xs + 1) (due_controls xs)) f in
    let b : due_controls (x ∷ xs) ≡ due_controls xs + 1 = ap (λ b. cond b (due_controls xs + 1) (due_controls xs)) (ap (λ (y : SentControl). y.transmission.due) it ∙ d) in
    omega arith
controls-set (x ∷ xs) (suc i) p q t d f =
    let rest = controls-set xs i p q t d f in
    elim x.transmission.due as (λ b. cond b (due_controls (slice_set xs i q) + 1) (due_controls (slice_set xs i q)) + 1 ≡ cond b (due_controls xs + 1) (due_controls xs)) [ true ↦ omega arith | false ↦ omega arith ]

controls-push : (xs : List SentControl) (q : SentControl) → q.transmission.due ≡ false → due_controls (xs ++ q ∷ []) ≡ due_controls xs
controls-push [] q f = ap (λ b. cond b (0 + 1) 0) f
controls-push (x ∷ xs) q f = ap (λ n. cond x.transmission.due (n + 1) n) (controls-push xs q f)

-- a sender that is asked
pub ready-next : (o : Occasion) (s : Sender) (n : Next) → next wire o s ≡ Some n → ready_at n.sender + 1 ≤ ready_at s
ready-next o s n e = go (position (λ (p : Sent). p.transmission.due) s.sent) refl e
  where
    from_queue : (q : List DataCommand) → s.queued ≡ q → next_queued wire o s q ≡ Some n → ready_at n.sender + 1 ≤ ready_at s
    from_queue [] t k = absurd (cc)
    from_queue (c ∷ rest) t k =
        elim (may_go wire s.sent o c) as (λ b. cond b (Some (first_sent o.now o.timeout s c rest)) None ≡ Some n → ready_at n.sender + 1 ≤ ready_at s) [
          | true ↦ λ f.
              let is : first_sent o.now o.timeout s c rest ≡ n = cc in
              let len : length s.queued ≡ suc (length rest) = ap (λ (l : List DataCommand). length l) t in
              let due : due_count (cond c.reliable (s.sent ++ begun o.now o.timeout c ∷ []) s.sent) ≡ due_count s.sent =
              elim c.reliable as (λ b. due_count (cond b (s.sent ++ begun o.now o.timeout c ∷ []) s.sent) ≡ due_count s.sent) [ true ↦ count-push s.sent (begun o.now o.timeout c) refl | false ↦ refl ] in
              let same : ready_at n.sender ≡ length rest + due_count (cond c.reliable (s.sent ++ begun o.now o.timeout c ∷ []) s.sent) = ap (λ (x : Next). ready_at x.sender) (sym is) in
              omega arith
          | false ↦ λ f. absurd (cc)
        ] k

    from_sent : (i : ℕ) → position (λ (p : Sent). p.transmission.due) s.sent ≡ Some i → (p : Option Sent) → slice_get s.sent i ≡ p → next_resent o s i p ≡ Some n → ready_at n.sender + 1 ≤ ready_at s
    from_sent i w None t k = absurd (cc)
    from_sent i w (Some p) t k =
        let is : resent o.now s i p ≡ n = if-some (has_room o p.command) (resent o.now s i p) n k in
        let due = found-passes (λ (q : Sent). q.transmission.due) s.sent i p w t in
        let less = count-set s.sent i p (again o.now p) t due refl in
        let same : ready_at n.sender ≡ length s.queued + due_count (slice_set s.sent i (again o.now p)) = ap (λ (x : Next). ready_at x.sender) (sym is) in
        omega arith

    go : (w : Option ℕ) → position (λ (p : Sent). p.transmission.due) s.sent ≡ w → next_of wire o s w ≡ Some n → ready_at n.sender + 1 ≤ ready_at s
    go None w k = from_queue s.queued refl k
    go (Some i) w k = from_sent i w (slice_get s.sent i) refl k

controls-next : (now timeout : ℕ) (c : Commands) (n : controlling.Next) → controlling.next now timeout c ≡ Some n → ready_controls n.commands + 1 ≤ ready_controls c
controls-next now timeout c n e = go (position (λ (p : SentControl). p.transmission.due) c.sent) refl e
  where
    from_queue : (q : List Numbered) → c.queued ≡ q → controlling.next_queued now timeout c q ≡ Some n → ready_controls n.commands + 1 ≤ ready_controls c
    from_queue [] t k = absurd (cc)
    from_queue (x ∷ rest) t k =
        elim (controlling.is_in_span c.sent x.number) as (λ b. cond b (Some (record { command = x; commands = record c { queued = rest; sent = cond (controlling.is_reliable x.control) (c.sent ++ controlling.begun now timeout x ∷ []) c.sent } })) None ≡ Some n → ready_controls n.commands + 1 ≤ ready_controls c) [
          | true ↦ λ f.
              let is : ◌≡◌ {A = controlling.Next} (record { command = x; commands = record c { queued = rest; sent = cond (controlling.is_reliable x.control) (c.sent ++ controlling.begun now timeout x ∷ []) c.sent } }) n = cc in
              let len : length c.queued ≡ suc (length rest) = ap (λ (l : List Numbered). length l) t in
              let due : due_controls (cond (controlling.is_reliable x.control) (c.sent ++ controlling.begun now timeout x ∷ []) c.sent) ≡ due_controls c.sent =
              elim (controlling.is_reliable x.control) as (λ b. due_controls (cond b (c.sent ++ controlling.begun now timeout x ∷ []) c.sent) ≡ due_controls c.sent) [ true ↦ controls-push c.sent (controlling.begun now timeout x) refl | false ↦ refl ] in
              let same : ready_controls n.commands ≡ length rest + due_controls (cond (controlling.is_reliable x.control) (c.sent ++ controlling.begun now timeout x ∷ []) c.sent) = ap (λ (y : controlling.Next). ready_controls y.commands) (sym is) in
              omega arith
          | false ↦ λ f. absurd (cc)
        ] k

    from_sent : (i : ℕ) → position (λ (p : SentControl). p.transmission.due) c.sent ≡ Some i → (p : Option SentControl) → slice_get c.sent i ≡ p → controlling.next_resent now c i p ≡ Some n → ready_controls n.commands + 1 ≤ ready_controls c
    from_sent i w None t k = absurd (cc)
    from_sent i w (Some p) t k =
        let due = found-passes (λ (q : SentControl). q.transmission.due) c.sent i p w t in
        let less = controls-set c.sent i p (controlling.again now p) t due refl in
        let is : ◌≡◌ {A = controlling.Next} (record { command = p.command; commands = record c { sent = slice_set c.sent i (controlling.again now p) } }) n = cc in
        let same : ready_controls n.commands ≡ length c.queued + due_controls (slice_set c.sent i (controlling.again now p)) = ap (λ (y : controlling.Next). ready_controls y.commands) (sym is) in
        omega arith

    go : (w : Option ℕ) → position (λ (p : SentControl). p.transmission.due) c.sent ≡ w → controlling.next_of now timeout c w ≡ Some n → ready_controls n.commands + 1 ≤ ready_controls c
    go None w k = from_queue c.queued refl k
    go (Some i) w k = from_sent i w (slice_get c.sent i) refl k

-- all channels, where one changed
over-set : (xs : List SendingEnd) (k : ℕ) (x y : SendingEnd) → slice_get xs k ≡ Some x → ready_over (slice_set xs k y) + ready_at x.sender ≡ ready_over xs + ready_at y.sender
over-set [] k x y t = absurd (cc)
over-set (z ∷ zs) zero x y t =
    let it : z ≡ x = cc in
    let same : ready_at z.sender ≡ ready_at x.sender = ap (λ (s : SendingEnd). ready_at s.sender) it in
    omega arith
over-set (z ∷ zs) (suc k) x y t = let rest = over-set zs k x y t in omega arith

-- each command that is put in makes less ready
abbrev Less : ℕ → Filling → Type 0
Less most f = ready f.outbox + length f.messages ≤ most

less-kept : (pace : Pace) (most : ℕ) → Keeps pace (Less most)
less-kept pace most = record {
  closes = λ f g. g;
  acknowledges = λ f a rest e g. (
      let k : length f.outbox.acknowledgements ≡ suc (length rest) = ap (λ (l : List Acknowledgement). length l) e in
      let m = length-append f.messages (Rattle.enet_outbox.specs.Emission.acknowledgement_of a ∷ []) in omega arith);
  controls = λ f n e g. (
      let k = controls-next pace.now pace.timeout f.outbox.control n e in
      let m = length-append f.messages (controlling.message_of n.command ∷ []) in omega arith);
  puts_unsequenced = λ f u rest t e g. (
      let k : length f.outbox.unsequenced ≡ suc (length rest) = ap (λ (l : List Unsequenced). length l) e in
      let m = length-append f.messages (Rattle.enet_outbox.specs.Emission.unsequenced_of u ∷ []) in omega arith);
  drops_unsequenced = λ f u rest t e g. (let k : length f.outbox.unsequenced ≡ suc (length rest) = ap (λ (l : List Unsequenced). length l) e in omega arith);
  puts_data = λ f k s n t there due g. (
      let less = ready-next _ s.sender n due in
      let over = over-set f.outbox.senders k s (record s { sender = n.sender }) there in
      let m = length-append f.messages (Rattle.enet_fragment.specs.DataCommand.message_of s.channel n.command ∷ []) in omega arith);
  drops_data = λ f k s n t there due kind g. (
      let less = ready-next _ s.sender n due in
      let short = skipped-length n.sender.queued in
      let over = over-set f.outbox.senders k s (record s { sender = with_skipped n.sender }) there in omega arith);
  keeps_room = λ f i x there wants g. g;
  gives_room = λ f i x n there due g. g;
}

pub less-ready : (pace : Pace) (o : Outbox) → AreSome (filled pace o).messages → ready (filled pace o).outbox < ready o
less-ready pace o h =
    let all : Less (ready o) (filled pace o) = by-filling pace o (Less (ready o)) (less-kept pace (ready o)) (omega arith) in
    let one = some-long (filled pace o).messages h.0 h.1 in
    omega arith
  where
    some-long : (ms : List Message) (m : Message) → Has ms m → 0 < length ms
    some-long [] m h = absurd h
    some-long (x ∷ xs) m h = omega arith
