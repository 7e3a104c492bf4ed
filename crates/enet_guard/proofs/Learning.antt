-- What a guard is told, slot by slot.
use Rattle.std.proofs.Common.{◌≡◌, ℕ, List, [], ◌∷◌, ◌++◌, Option, ap, subst, sym}
use Rattle.enet_guard.specs.declared.guard.Seated.{Seated}
use Rattle.enet_guard.specs.Guarding.{Guarding, seated, Learns, HasLearned}

learns_more : (old between : Guarding) (ts : List (ℕ × Option Seated)) (slot : ℕ) (there : Option Seated) → Learns old ts between → Learns old (ts ++ (slot, there) ∷ []) (seated between slot there)
learns_more old between [] slot there h = ap (λ (g : Guarding). seated g slot there) h
learns_more old between (t ∷ ts) slot there h = learns_more (seated old t.0 t.1) between ts slot there h

-- one slot more
pub learned_more : (old between new : Guarding) (slot : ℕ) (there : Option Seated) → HasLearned old between → new ≡ seated between slot there → HasLearned old new
learned_more old between new slot there h now =
    (h.0 ++ (slot, there) ∷ [], subst (λ (g : Guarding). Learns old (h.0 ++ (slot, there) ∷ []) g) (sym now) (learns_more old between h.0 slot there h.1))
