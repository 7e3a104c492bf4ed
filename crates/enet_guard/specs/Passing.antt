-- What a wire behind a guard gives.
use Rattle.std.specs.Prelude.{◌≡◌, ◌⊎◌, ℕ, true, false, List, [], ◌∷◌, ◌++◌, length, map, take, Option, Some, None, Result, Ok, Err}
use Rattle.enet_codec.specs.declared.address.Addr.{Addr}
use Rattle.enet_codec.specs.declared.refusal.Refusal.{Refusal}
use Rattle.enet_wire.specs.declared.told.Told.{Told}
use Rattle.enet_wire.specs.declared.told.Told.TheVariants.{Came, NothingCame}
use Rattle.enet_wire.specs.Wires.{also, unless_spent}
use Rattle.enet_guard.specs.Asking.{Asks}
use Rattle.enet_guard.specs.Guarding.{Guarding, Judges, Charges, has_no_rule}

abbrev pub IsNoConnect : List ℕ → Type 0
IsNoConnect bytes = (connect_id : ℕ) → Asks bytes connect_id → ⊥

-- a datagram passes: there is no rule, and the guard stays as it is; or the guard lets the CONNECT pass; or it is none, and its client can pay
abbrev pub Lets : Guarding → Addr → List ℕ → Guarding → Type 0
Lets old from bytes new =
    ((has_no_rule old ≡ true) × (new ≡ old))
    ⊎ (((connect_id : ℕ) × Asks bytes connect_id × Judges old from connect_id true new) ⊎ (IsNoConnect bytes × Charges old from bytes true new))

-- a datagram is passed over: it is a CONNECT, and the guard doesn't let it pass; or it is none, and its client can't pay
abbrev pub Refuses : Guarding → Addr → List ℕ → Guarding → Type 0
Refuses old from bytes new =
    (has_no_rule old ≡ false)
    × (((connect_id : ℕ) × Asks bytes connect_id × Judges old from connect_id false new) ⊎ (IsNoConnect bytes × Charges old from bytes false new))

-- datagrams that are passed over, one after another
abbrev pub PassesOver : Guarding → List (Addr × List ℕ) → Guarding → Type 0
PassesOver old [] new = new ≡ old
PassesOver old (d ∷ ds) new = (between : Guarding) × Refuses old d.0 d.1 between × PassesOver between ds new

-- after those it gives what the wire inside gave: nothing, where that gave nothing or 64 were passed over; a datagram, untouched, that passes;
-- or its fault
abbrev pub Gives : List (Addr × List ℕ) → Guarding → Result (Option (Addr × ℕ)) Refusal → List ℕ → List Told → Guarding → Type 0
Gives over old (Ok None) buf told new = (new ≡ old) × ((told ≡ NothingCame ∷ []) ⊎ ((told ≡ []) × (length over ≡ 64)))
Gives over old (Ok (Some d)) buf told new = (told ≡ Came d.0 (take d.1 buf) ∷ []) × Lets old d.0 (take d.1 buf) new
Gives over old (Err why) buf told new = (told ≡ []) × (new ≡ old)

-- a reception: what the wire inside told is what was passed over, and what is given
pub record Receives (inside : Option (List Told)) (faults : ℕ) (old : Guarding) (result : Result (Option (Addr × ℕ)) Refusal) (buf : List ℕ) (inside_after : Option (List Told)) (new : Guarding) : Type 0 where
  pub over : List (Addr × List ℕ)
  pub between : Guarding
  pub told : List Told
  pub passed_over : PassesOver old over between
  pub gives : Gives over between result buf told new
  pub inside_tells : inside_after ≡ also inside (unless_spent faults (map (λ d. Came d.0 d.1) over ++ told))
