-- Turns of one kind are turns of either.
use Rattle.std.proofs.Common.{◌≡◌, ◌⊎◌, inl, inr, List, [], ◌∷◌, sym, subst}
use Rattle.enet_turn.specs.declared.service.Service.{Service}
use Rattle.enet_turn.specs.Calls.{Calls}
use Rattle.enet_turn.specs.LoneTurn.{Kind, beside, lone, either, AreAmong, TurnOf, RoundsOf}
use Rattle.enet_turn.specs.Turn.{Round}

of_either : {H : Type 0} (kind : Kind) (calls : Calls H) (old : Service H) (r : Round) (new : Service H) → TurnOf kind calls old r new → TurnOf either calls old r new
of_either beside calls old r new t = inl t
of_either lone calls old r new t = inr t
of_either either calls old r new t = t

turn_among : {H : Type 0} (one kind : Kind) → AreAmong one kind → (calls : Calls H) (old : Service H) (r : Round) (new : Service H) → TurnOf one calls old r new → TurnOf kind calls old r new
turn_among one kind (inl same) calls old r new t = subst (λ (k : Kind). TurnOf k calls old r new) same t
turn_among one kind (inr is) calls old r new t = subst (λ (k : Kind). TurnOf k calls old r new) (sym is) (of_either one calls old r new t)

pub rounds_among : {H : Type 0} (one kind : Kind) → AreAmong one kind → (calls : Calls H) (old : Service H) (rounds : List Round) (new : Service H) → RoundsOf one calls old rounds new → RoundsOf kind calls old rounds new
rounds_among one kind among calls old [] new h = h
rounds_among one kind among calls old (r ∷ rounds) new h = (h.0, turn_among one kind among calls old r h.0 h.1, rounds_among one kind among calls h.0 rounds new h.2)
