-- Where a test first passes.
use Rattle.std.proofs.Common.{◌≡◌, ℕ, zero, suc, ◌+◌, ◌==◌, not, ltb, Bool, true, false, cond, List, [], ◌∷◌, length, refl, sym, ap, subst, ◌∙◌, inl, inr, ◌⊎◌, arith, Some, None}
use Rattle.std.proofs.lemmas.Bool.{eq-eqb}
use Rattle.std.proofs.lemmas.Bool.Decides.{nat_tests}
use Rattle.std.specs.List.{position, prefix_len, slice_get, remove}
use Rattle.enet_senders.specs.Controlling as controlling
use Rattle.enet_senders.specs.Controlling.{Commands}
use Rattle.enet_senders.specs.declared.control.SentControl.{SentControl}
use Rattle.enet_receiver.specs.Members.{Has}
use Rattle.enet_sender.specs.declared.sent.Sent.{Sent}
use Rattle.enet_sender.specs.Sender as sender
use Rattle.law_connection.proofs.Firsts.{drop_first, without-first}
use Rattle.law_progress.proofs.Controls.{some-is}
use Rattle.law_progress.proofs.Waiting.{Rests}

-- what passes a test is found
pub found : {X : Type 0} (f : X → Bool) (xs : List X) (x : X) → Has xs x → f x ≡ true → (i : ℕ) × (position f xs ≡ Some i) × (y : X) × (slice_get xs i ≡ Some y) × (f y ≡ true)
found f [] x h k = absurd h
found {X} f (y ∷ ys) x h k = go (f y) refl h (λ m. found f ys x m k)
  where
    Found : List X → Type 0
    Found l = (i : ℕ) × (position f l ≡ Some i) × (z : X) × (slice_get l i ≡ Some z) × (f z ≡ true)

    before : ℕ
    before = prefix_len (λ (q : X). not (f q)) ys

    some_place : (m : ℕ) → ltb 0 (suc m) ≡ true
    some_place m = grind (arith, nat_tests)

    up : (m n : ℕ) → ltb m n ≡ true → ltb (1 + m) (suc n) ≡ true
    up m n e = grind (arith, nat_tests)

    go : (b : Bool) → f y ≡ b → Has (y ∷ ys) x → (Has ys x → Found ys) → Found (y ∷ ys)
    go true d h rest = (0, ap (λ b. let i : ℕ = cond (not b) (1 + before) 0 in cond (ltb i (suc (length ys))) (Some i) None) d ∙ ap (λ c. cond c (Some 0) None) (some_place (length ys)), y, refl, d)
    go false d (inl same) rest = absurd (let z : true ≡ false = sym k ∙ ap f (sym same) ∙ d in cc)
    go false d (inr m) rest = by (ltb before (length ys)) refl (rest m)
      where
        by : (b : Bool) → ltb before (length ys) ≡ b → Found ys → Found (y ∷ ys)
        by true l w =
            let is : Some before ≡ Some w.0 = sym (ap (λ c. cond c (Some before) None) l) ∙ w.1 in
            let same : before ≡ w.0 = some-is is in
            let at : Some (1 + before) ≡ Some (suc w.0) = ap Some (omega arith) in
            (suc w.0, ap (λ b. let i : ℕ = cond (not b) (1 + before) 0 in cond (ltb i (suc (length ys))) (Some i) None) d ∙ ap (λ c. cond c (Some (1 + before)) None) (up before (length ys) l) ∙ at, w.2, w.3, w.4)
        by false l w = absurd (let z : None ≡ Some w.0 = sym (ap (λ c. cond c (Some before) None) l) ∙ w.1 in cc)

-- what stands in a list stands at a place, or is there still without what stands at it
at-or-else : {X : Type 0} (xs : List X) (i : ℕ) (y x : X) → slice_get xs i ≡ Some y → Has xs x → (y ≡ x) ⊎ Has (remove xs i) x
at-or-else [] i y x e h = absurd h
at-or-else (z ∷ zs) zero y x e (inl same) = inl (let is : z ≡ y = some-is e in sym is ∙ same)
at-or-else (z ∷ zs) zero y x e (inr k) = inr k
at-or-else (z ∷ zs) (suc i) y x e (inl same) = inr (inl same)
at-or-else (z ∷ zs) (suc i) y x e (inr k) = elim (at-or-else zs i y x e k) [ inl is ↦ inl is | inr m ↦ inr (inr m) ]

-- a sent command whose number no other has is the one that is found by it
pub placed : (sent : List Sent) (t : Sent) → Has sent t → ((u : Sent) → Has (drop_first (λ (q : Sent). q.command.number == t.command.number) sent) u → u.command.number ≡ t.command.number → ⊥)
    → (i : ℕ) × (sender.position_of t.command.number sent ≡ Some i) × (slice_get sent i ≡ Some t)
placed sent t h none =
    let w = found test sent t h (eq-eqb t.command.number t.command.number refl) in
    elim (at-or-else sent w.0 w.2 t w.3 h) [
      | inl is ↦ (w.0, w.1, w.3 ∙ ap Some is)
      | inr behind ↦ absurd (none t (subst (λ (l : List Sent). Has l t) (sym (ap (sender.without_place sent) w.1) ∙ without-first test sent) behind) refl)
    ]
  where
    test : Sent → Bool
    test q = q.command.number == t.command.number

-- where nothing of channel 0xFF goes next, nothing of it is due to go again
pub controls-rest : (now wait : ℕ) (c : Commands) → controlling.next now wait c ≡ None → (t : SentControl) → Has c.sent t → Rests t.transmission
controls-rest now wait c none t h = by t.transmission.due refl
  where
    by : (b : Bool) → t.transmission.due ≡ b → Rests t.transmission
    by false e = e
    by true e =
        let w = found (λ (p : SentControl). p.transmission.due) c.sent t h e in
        let goes : controlling.next now wait c ≡ controlling.next_resent now c w.0 (Some w.2) = ap (controlling.next_of now wait c) w.1 ∙ ap (controlling.next_resent now c w.0) w.3 in
        absurd (let z : None ≡ Some _ = sym none ∙ goes in cc)
