-- What a wire behind a guard tells.
use Rattle.std.specs.Prelude.{◌≡◌, ◌⊎◌, ℕ, ◌<◌, List, [], ◌∷◌, ◌++◌, length, map, Option}
use Rattle.std.specs.List.{All}
use Rattle.enet_codec.specs.declared.address.Addr.{Addr}
use Rattle.enet_wire.specs.declared.told.Told.{Told}
use Rattle.enet_wire.specs.declared.told.Told.TheVariants.{Came, NothingCame}
use Rattle.enet_wire.specs.Wires.{also}
use Rattle.enet_guard.specs.Asking.{Asks}
use Rattle.enet_guard.specs.Guarding.{Guarding}
use Rattle.enet_guard.specs.Loads.{Carries}
use Rattle.enet_guard.specs.declared.loads.Load.{Load}

-- what is seen of a wire behind a guard: the wire inside, what the guard goes by, and what the guarded wire tells of its own calls, in order
pub record BehindGuard (N : Type 0) : Type 0 where
  pub wire : N
  pub guard : Guarding
  pub told : List Told

abbrev pub told_of : {N : Type 0} → BehindGuard N → List Told
told_of guarded = guarded.told

-- a call: the datagrams that it passed over, what the wire inside told behind them, and what is told of the call
pub record Call : Type 0 where
  pub over : List (Addr × List ℕ)
  pub behind : List Told
  pub told : List Told

-- a CONNECT, or what brings packets
abbrev pub IsPassedOver : (Addr × List ℕ) → Type 0
IsPassedOver d = ((connect_id : ℕ) × Asks d.1 connect_id) ⊎ ((slot : ℕ) × (load : Load) × Carries d.1 slot load × (0 < load.packets))

-- such datagrams alone are passed over, and what the wire inside told behind them is told; but after 64 of them, where it is asked no more, it is
-- told that nothing came
pub record IsCall (c : Call) : Type 0 where
  pub passed_over : All IsPassedOver c.over
  pub as_inside : (c.told ≡ c.behind) ⊎ ((c.behind ≡ []) × (c.told ≡ NothingCame ∷ []) × (length c.over ≡ 64))

-- what the wire inside told in some calls
abbrev pub inside_of : Call → List Told
inside_of c = map (λ d. Came d.0 d.1) c.over ++ c.behind

abbrev pub told_inside : List Call → List Told
told_inside [] = []
told_inside (c ∷ calls) = inside_of c ++ told_inside calls

-- and what is told of them
abbrev pub told_outside : List Call → List Told
told_outside [] = []
told_outside (c ∷ calls) = c.told ++ told_outside calls

-- what is told is what the wire inside told since it is behind the guard, less what was passed over
pub record TellsTheRest (inside : Option (List Told)) (told : List Told) : Type 0 where
  pub before : Option (List Told)
  pub calls : List Call
  pub are_calls : All IsCall calls
  pub inside_is : inside ≡ also before (told_inside calls)
  pub told_is : told ≡ told_outside calls
