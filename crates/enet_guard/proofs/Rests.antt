-- What a guarded wire tells, call by call.
use Rattle.std.proofs.Common.{◌≡◌, ◌⊎◌, ℕ, Bool, true, false, List, [], ◌∷◌, ◌++◌, length, Option, Some, None, Result, Ok, Err, refl, ap, sym, ◌∙◌, append_assoc, cond, inl, inr}
use Rattle.std.specs.List.{All}
use Rattle.std.proofs.lemmas.List.{append-nil}
use Rattle.std.proofs.lemmas.List.Elements.{All-nil, All-cons, All-append}
use Rattle.enet_codec.specs.declared.address.Addr.{Addr}
use Rattle.enet_codec.specs.declared.refusal.Refusal.{Refusal}
use Rattle.enet_wire.specs.declared.told.Told.{Told}
use Rattle.enet_wire.specs.declared.told.Told.TheVariants.{NothingCame}
use Rattle.enet_wire.specs.Wires.{also, unless_spent, is_spent, came}
use Rattle.enet_guard.specs.Guarding.{Guarding}
use Rattle.enet_guard.specs.Journals.{Call, IsCall, IsPassedOver, inside_of, told_inside, told_outside, TellsTheRest}
use Rattle.enet_guard.specs.Passing.{PassesOver, Gives, Receives}
use Rattle.enet_guard.proofs.Paying.{passed_over_so}

inside_more : (calls : List Call) (c : Call) → told_inside (calls ++ c ∷ []) ≡ told_inside calls ++ inside_of c
inside_more [] c = append-nil (inside_of c)
inside_more (x ∷ xs) c = ap (λ (l : List Told). inside_of x ++ l) (inside_more xs c) ∙ sym (append_assoc (inside_of x) (told_inside xs) (inside_of c))

outside_more : (calls : List Call) (c : Call) → told_outside (calls ++ c ∷ []) ≡ told_outside calls ++ c.told
outside_more [] c = append-nil c.told
outside_more (x ∷ xs) c = ap (λ (l : List Told). x.told ++ l) (outside_more xs c) ∙ sym (append_assoc x.told (told_outside xs) c.told)

also_also : (o : Option (List Told)) (xs ys : List Told) → also (also o xs) ys ≡ also o (xs ++ ys)
also_also None xs ys = refl
also_also (Some l) xs ys = ap Some (append_assoc l xs ys)

also_nil : (o : Option (List Told)) → also o [] ≡ o
also_nil None = refl
also_nil (Some l) = ap Some (append-nil l)

-- one call more, which says nothing where the wire is spent
tells_by : (spent : Bool) (inside inside_1 : Option (List Told)) (told told_1 : List Told) (c : Call) → IsCall c → TellsTheRest inside told
    → inside_1 ≡ also inside (cond spent [] (inside_of c)) → told_1 ≡ told ++ cond spent [] c.told → TellsTheRest inside_1 told_1
tells_by true inside inside_1 told told_1 c is t e f = record {
  before = t.before;
  calls = t.calls;
  are_calls = t.are_calls;
  inside_is = e ∙ (also_nil inside ∙ t.inside_is);
  told_is = f ∙ (append-nil told ∙ t.told_is);
}
tells_by false inside inside_1 told told_1 c is t e f = record {
  before = t.before;
  calls = t.calls ++ c ∷ [];
  are_calls = All-append IsCall t.calls (c ∷ []) t.are_calls (All-cons IsCall c [] is (All-nil IsCall));
  inside_is = e ∙ (ap (λ (o : Option (List Told)). also o (inside_of c)) t.inside_is
      ∙ (also_also t.before (told_inside t.calls) (inside_of c) ∙ ap (also t.before) (sym (inside_more t.calls c))));
  told_is = f ∙ (ap (λ (l : List Told). l ++ c.told) t.told_is ∙ sym (outside_more t.calls c));
}

-- nothing was told yet
pub rest_new : (inside : Option (List Told)) (told : List Told) → told ≡ [] → TellsTheRest inside told
rest_new inside told none = record { before = inside; calls = []; are_calls = All-nil IsCall; inside_is = sym (also_nil inside); told_is = none }

nothing_by : (spent : Bool) (told : List Told) → told ≡ told ++ cond spent [] []
nothing_by true told = sym (append-nil told)
nothing_by false told = sym (append-nil told)

-- and nothing more
pub nothing_more : (f : ℕ) (told : List Told) → told ≡ told ++ unless_spent f []
nothing_more f told = nothing_by (is_spent f) told

-- both told the same
pub rest_alike : (inside inside_1 : Option (List Told)) (f : ℕ) (told told_1 more : List Told) → TellsTheRest inside told
    → inside_1 ≡ also inside (unless_spent f more) → told_1 ≡ told ++ unless_spent f more → TellsTheRest inside_1 told_1
rest_alike inside inside_1 f told told_1 more t e g =
    tells_by (is_spent f) inside inside_1 told told_1 (record { over = []; behind = more; told = more }) (record { passed_over = All-nil IsPassedOver; as_inside = inl refl }) t e g

over_so : (old new : Guarding) (over : List (Addr × List ℕ)) → PassesOver old over new → All IsPassedOver over
over_so old new [] h = All-nil IsPassedOver
over_so old new (d ∷ ds) h = All-cons IsPassedOver d ds (passed_over_so old h.0 d h.1) (over_so h.0 new ds h.2)

gives_so : (over : List (Addr × List ℕ)) (old new : Guarding) (result : Result (Option (Addr × ℕ)) Refusal) (buf : List ℕ) (told : List Told) → Gives over old result buf told new
    → (came result buf ≡ told) ⊎ ((told ≡ []) × (came result buf ≡ NothingCame ∷ []) × (length over ≡ 64))
gives_so over old new (Ok None) buf told (same, inl is) = inl (sym is)
gives_so over old new (Ok None) buf told (same, inr is) = inr (is.0, refl, is.1)
gives_so over old new (Ok (Some d)) buf told h = inl (sym h.0)
gives_so over old new (Err why) buf told h = inl (sym h.0)

-- a reception
pub rest_received : (inside inside_1 : Option (List Told)) (f : ℕ) (old new : Guarding) (result : Result (Option (Addr × ℕ)) Refusal) (buf : List ℕ) (told told_1 : List Told)
    → TellsTheRest inside told → Receives inside f old result buf inside_1 new → told_1 ≡ told ++ unless_spent f (came result buf) → TellsTheRest inside_1 told_1
rest_received inside inside_1 f old new result buf told told_1 t r g =
    let c : Call = record { over = r.over; behind = r.told; told = came result buf } in
    tells_by (is_spent f) inside inside_1 told told_1 c
    (record { passed_over = over_so old r.between r.over r.passed_over; as_inside = gives_so r.over r.between new result buf r.told r.gives }) t r.inside_tells g
