-- Runs of a link, and small facts of lists.
use Rattle.std.proofs.Common.{◌≡◌, ◌≢◌, ℕ, zero, suc, List, [], ◌∷◌, ◌++◌, refl, sym, ap, subst, Some, slice_set, ◌<◌, ◌≤◌, Bool, true, false, ◌&&◌, ◌⊎◌, inl, inr, arith, length, map, take}
use Rattle.std.proofs.lemmas.List.{length-set, length-take}
use Rattle.std.specs.List.{slice_get}
use Rattle.enet_codec.specs.Message.{Message}
use Rattle.law_connection.specs.WireLink.{WireLink}
use Rattle.law_connection.specs.LinkSteps.{Event, Happens, Runs}
use Rattle.law_connection.specs.Connection.{counted, reached}

-- one event more
pub Runs-push : (mtu : ℕ) (es : List Event) (e : Event) (u v w : WireLink) → Runs mtu es u v → Happens mtu e v w → Runs mtu (es ++ e ∷ []) u w
Runs-push mtu [] e u v w r h = (w, subst (λ x. Happens mtu e x w) (sym r) h, refl)
Runs-push mtu (d ∷ es) e u v w r h = (r.0, r.1, Runs-push mtu es e r.0 v w r.2 h)

-- a run after another
pub Runs-append : (mtu : ℕ) (es ds : List Event) (u v w : WireLink) → Runs mtu es u v → Runs mtu ds v w → Runs mtu (es ++ ds) u w
Runs-append mtu [] ds u v w r s = subst (λ x. Runs mtu ds x w) (sym r) s
Runs-append mtu (d ∷ es) ds u v w r s = (r.0, r.1, Runs-append mtu es ds r.0 v w r.2 s)

pub reached-push : (channel greatest : ℕ) (ms : List Message) (m : Message) → reached channel greatest (ms ++ m ∷ []) ≡ counted channel (reached channel greatest ms) m
unfolding reached
reached-push channel greatest [] m = refl
reached-push channel greatest (x ∷ ms) m = reached-push channel (counted channel greatest x) ms m

pub reached-none : (channel greatest : ℕ) → reached channel greatest [] ≡ greatest
unfolding reached
reached-none channel greatest = refl

pub reached-append : (channel greatest : ℕ) (ms ns : List Message) → reached channel greatest (ms ++ ns) ≡ reached channel (reached channel greatest ms) ns
unfolding reached
reached-append channel greatest [] ns = refl
reached-append channel greatest (x ∷ ms) ns = reached-append channel (counted channel greatest x) ms ns

-- what stands elsewhere stays
pub get-set-other : {A : Type 0} (xs : List A) (i j : ℕ) (y : A) → i ≢ j → slice_get (slice_set xs i y) j ≡ slice_get xs j
get-set-other [] i j y n = refl
get-set-other (x ∷ xs) zero zero y n = absurd (n refl)
get-set-other (x ∷ xs) zero (suc j) y n = refl
get-set-other (x ∷ xs) (suc i) zero y n = refl
get-set-other (x ∷ xs) (suc i) (suc j) y n = get-set-other xs i j y (λ e. n (ap suc e))

pub get-set : {A : Type 0} (xs : List A) (i : ℕ) (x y : A) → slice_get xs i ≡ Some x → slice_get (slice_set xs i y) i ≡ Some y
get-set [] i x y e = cc
get-set (z ∷ xs) zero x y e = refl
get-set (z ∷ xs) (suc i) x y e = get-set xs i x y e

pub inside : {X : Type 0} (xs : List X) (k : ℕ) (x : X) → slice_get xs k ≡ Some x → k < length xs
inside [] k x e = absurd (cc)
inside (y ∷ xs) zero x e = omega arith
inside (y ∷ xs) (suc k) x e = let h = inside xs k x e in omega arith

pub get-map : {X Y : Type 0} (f : X → Y) (xs : List X) (i : ℕ) (y : Y) → slice_get (map f xs) i ≡ Some y → (x : X) × (slice_get xs i ≡ Some x) × (f x ≡ y)
get-map f [] i y e = cc
get-map f (x ∷ xs) zero y e = (x, refl, (let d : Some (f x) ≡ Some y = e in cc))
get-map f (x ∷ xs) (suc i) y e = get-map f xs i y e

pub few-set : {X : Type 0} (xs : List X) (k : ℕ) (y : X) → length xs ≤ 255 → length (slice_set xs k y) ≤ 255
few-set xs k y h = subst (λ n. n ≤ 255) (sym (length-set xs k y)) h

pub take-few : {X : Type 0} (n : ℕ) (xs : List X) → length xs ≤ 255 → length (take n xs) ≤ 255
take-few n xs h = let l = length-take n xs in omega arith

-- tests

pub either : (b : Bool) → (b ≡ true) ⊎ (b ≡ false)
either true = inl refl
either false = inr refl

pub less-or-not : (a b : ℕ) → (a < b) ⊎ (b ≤ a)
less-or-not a b = grind arith

pub and-left : (a b : Bool) → (a && b) ≡ true → a ≡ true
and-left true b h = refl
and-left false b h = absurd (cc)

pub and-right : (a b : Bool) → (a && b) ≡ true → b ≡ true
and-right true b h = h
and-right false b h = absurd (cc)
