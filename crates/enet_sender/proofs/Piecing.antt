-- The pieces of a long packet are queued one by one.
use Rattle.std.proofs.Common.{inl, inr, ◌≡◌, ℕ, suc, ◌+◌, ◌-◌, ◌<◌, true, false, cond, List, [], ◌∷◌, ◌++◌, map, Option, sym, ap, ◌∙◌, arith}
use Rattle.std.specs.List.{range_with_len}
use Rattle.std.proofs.lemmas.Bool.{cases_Bool}
use Rattle.slab.specs.Slab.{Slab, get}
use Rattle.enet_seq.specs.Windows.{after}
use Rattle.enet_fragment.specs.declared.data.DataCommand.{DataCommand}
use Rattle.enet_sender.specs.declared.course.Course.{Course}
use Rattle.enet_sender.specs.declared.sent.Sent.{Sent}
use Rattle.enet_sender.specs.Due.{SendingEnd}
use Rattle.enet_sender.specs.Private.Course.{piece_command}
use Rattle.enet_sender.proofs.Courses.{one_more_queued}
use Rattle.enet_sender.specs.declared.outgoing.Outgoing.{Outgoing}
use Rattle.enet_sender.specs.Pending.{Passes}
use Rattle.enet_sender.specs.Rings.{Keeps, rings_of, keys_of, commands_at, sender_of, end_of}
use Rattle.enet_sender.specs.Private.Queues.{Queues}
use Rattle.enet_sender.proofs.Submitting.{passes-then}

-- the next piece, and those after it
pub pieces-next : (piece : ℕ → List ℕ) (i n : ℕ) (items rest : List (List ℕ)) (x : List ℕ) → i < n → items ≡ x ∷ rest → items ≡ map piece (range_with_len i (n - i))
    → (x ≡ piece i) × (rest ≡ map piece (range_with_len (i + 1) (n - (i + 1))))
pieces-next piece i n items rest x low is made =
    let e : n - i ≡ suc (n - (i + 1)) = omega arith in
    let h : x ∷ rest ≡ piece i ∷ map piece (range_with_len (i + 1) (n - (i + 1))) = sym is ∙ made ∙ ap (λ k. map piece (range_with_len i k)) e in
    (cc, cc)

after-more : (n k : ℕ) → after (after n k) 1 ≡ after n (k + 1)
after-more n k = omega arith

pub queues-more : (course : Course) (body : List ℕ) (i : ℕ) (before : ℕ → Option Sent) (old : Outgoing) (s t : Slab Sent) (mid new : Outgoing) (c : DataCommand)
    → Queues course body i (record { outgoing = old; at = before }) (record { outgoing = mid; at = get s }) → c ≡ piece_command course body i → course.number ≡ old.number → Keeps (get t) (rings_of new) → Passes (get s) (get t) (keys_of (rings_of mid)) (keys_of (rings_of new))
    → end_of t new ≡ record (end_of s mid) { sender = record (sender_of (get s) (rings_of mid)) { number = cond c.reliable c.number mid.number; queued = commands_at (get s) mid.queued.items ++ c ∷ [] } }
    → Queues course body (i + 1) (record { outgoing = old; at = before }) (record { outgoing = new; at = get t })
queues-more course body i before old s t mid new c h is number_is kept passes ends =
    let n : new.number ≡ cond c.reliable c.number mid.number = ap (λ (e : SendingEnd). e.sender.number) ends in
    let reliable : c.reliable ≡ course.reliable = ap (λ (d : DataCommand). d.reliable) is in
    let number : c.number ≡ cond course.reliable (after course.number (i + 1)) course.number = ap (λ (d : DataCommand). d.number) is in
    let goes : course.reliable ≡ true → new.number ≡ after old.number (i + 1) = λ r.
    n ∙ ap (λ b. cond b c.number mid.number) (reliable ∙ r) ∙ number ∙ ap (λ b. cond b (after course.number (i + 1)) course.number) r ∙ ap (λ k. after k (i + 1)) number_is in
    let stays : course.reliable ≡ false → new.number ≡ old.number = λ r. n ∙ ap (λ b. cond b c.number mid.number) (reliable ∙ r) ∙ h.plain r in
    record {
      kept = kept;
      passes = passes-then before (get s) (get t) (keys_of (rings_of old)) (keys_of (rings_of mid)) (keys_of (rings_of new)) h.passes passes;
      channel = ap (λ (e : SendingEnd). e.channel) ends ∙ h.channel;
      queued = one_more_queued course body i (commands_at before old.queued.items) (commands_at (get s) mid.queued.items) (commands_at (get t) new.queued.items) c h.queued is (ap (λ (e : SendingEnd). e.sender.queued) ends);
      sent = ap (λ (e : SendingEnd). e.sender.sent) ends ∙ h.sent;
      next = λ r. ap (λ k. after k 1) (goes r) ∙ after-more old.number (i + 1);
      last = λ some. elim (cases_Bool course.reliable) [
        | inl r ↦ goes r ∙ sym (ap (λ b. cond b (after old.number (i + 1)) old.number) r)
        | inr r ↦ stays r ∙ sym (ap (λ b. cond b (after old.number (i + 1)) old.number) r)
      ];
      plain = stays;
    }
