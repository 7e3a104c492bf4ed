-- Two lists of orders, among each other.
use Rattle.std.proofs.Common.{List, [], ◌∷◌, ◌++◌, refl, sym, ap, subst, append-nil, inl, inr}
use Rattle.enet_submit.specs.declared.order.Order.{Order}
use Rattle.enet_submit.specs.declared.order.Order.TheVariants as order
use Rattle.law_relay.specs.Relay.{AreEnds, AreMerged}

pub ends-both : (xs ys : List Order) → AreEnds xs → AreEnds ys → AreEnds (xs ++ ys)
ends-both [] ys p q = q
ends-both (order.Connect addr channels info word ∷ xs) ys p q = absurd p
ends-both (order.Submit to number flags body ∷ xs) ys p q = absurd p
ends-both (order.Disconnect to how info ∷ xs) ys p q = ends-both xs ys p q

pub only-first : (xs : List Order) → AreMerged xs [] xs
only-first [] = (refl, refl)
only-first (x ∷ xs) = inl (xs, refl, only-first xs)

pub only-second : (ys : List Order) → AreMerged [] ys ys
only-second [] = (refl, refl)
only-second (y ∷ ys) = inr (ys, refl, only-second ys)

pub merged-both : (xs ys zs : List Order) (us vs ws : List Order) → AreMerged xs ys zs → AreMerged us vs ws → AreMerged (xs ++ us) (ys ++ vs) (zs ++ ws)
merged-both xs ys [] us vs ws p q =
    subst (λ (l : List Order). AreMerged (l ++ us) (ys ++ vs) ws) (sym p.0) (subst (λ (l : List Order). AreMerged us (l ++ vs) ws) (sym p.1) q)
merged-both xs ys (z ∷ zs) us vs ws (inl p) q = inl (p.0 ++ us, ap (λ (l : List Order). l ++ us) p.1, merged-both p.0 ys zs us vs ws p.2 q)
merged-both xs ys (z ∷ zs) us vs ws (inr p) q = inr (p.0 ++ vs, ap (λ (l : List Order). l ++ vs) p.1, merged-both xs p.0 zs us vs ws p.2 q)

-- more of the first behind all
pub merged-more : (xs ys zs us : List Order) → AreMerged xs ys zs → AreMerged (xs ++ us) ys (zs ++ us)
merged-more xs ys zs us p = subst (λ (l : List Order). AreMerged (xs ++ us) l (zs ++ us)) (append-nil ys) (merged-both xs ys zs us [] us p (only-first us))
