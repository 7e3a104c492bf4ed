-- Packets for several peers that were submitted.
use Rattle.std.proofs.Common.{◌≡◌, ℕ, ◌+◌, List, [], ◌∷◌, ◌++◌, length, refl, sym, ap, ◌∙◌, append-nil, length-append}
use Rattle.std.proofs.lemmas.List.{map-append, length-map}
use Rattle.enet_submit.specs.declared.order.Order.{Order}
use Rattle.enet_submit.specs.declared.order.Submission.{Submission}
use Rattle.enet_submit.specs.Parcels.{numbered}
use Rattle.enet_bridge.specs.Ends.{orders}

-- the orders of numbered orders
pub orders-numbered : (s k : ℕ) (os : List Order) → orders (numbered s k os) ≡ os
orders-numbered s k [] = refl
orders-numbered s k (o ∷ os) = ap (λ (zs : List Order). o ∷ zs) (orders-numbered s (k + 1) os)

-- what was asked, where nothing waits and these were submitted
pub asked-more : (old new : List Submission) (waits left : List Order) (s k : ℕ) (os : List Order) → waits ≡ [] → left ≡ [] → new ≡ old ++ numbered s k os
    → orders new ++ left ≡ (orders old ++ waits) ++ os
asked-more old new waits left s k os none still is =
    ap (λ (zs : List Order). orders new ++ zs) still
    ∙ (append-nil (orders new)
    ∙ (ap orders is
    ∙ (map-append (λ (x : Submission). x.order) old (numbered s k os)
    ∙ (ap (λ (zs : List Order). orders old ++ zs) (orders-numbered s k os)
    ∙ ap (λ (zs : List Order). zs ++ os) (sym (ap (λ (zs : List Order). orders old ++ zs) none ∙ append-nil (orders old)))))))

-- how many were asked
pub asked-length : (sent : List Submission) (waits : List Order) → length (orders sent ++ waits) ≡ length sent + length waits
asked-length sent waits = length-append (orders sent) waits ∙ ap (λ (n : ℕ). n + length waits) (length-map sent (λ (x : Submission). x.order))
