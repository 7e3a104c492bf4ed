-- Some elements of a list, in their order, and lists that go together one by one.
use Rattle.std.proofs.Common.{◌≡◌, ℕ, suc, List, [], ◌∷◌, ◌++◌, map, refl, sym, ap, subst, ◌∙◌, inl, inr, ◌⊎◌, arith}
use Rattle.std.specs.List.{All, AllPairs}
use Rattle.std.proofs.lemmas.List.Elements.{All-nil, All-cons}
use Rattle.std.proofs.lemmas.List.Kept.{AllPairs-cons}
use Rattle.std.proofs.lemmas.List.{append_assoc}
use Rattle.enet_codec.specs.declared.packet.Packet.{Packet}
use Rattle.law_connection.specs.LinkSteps.{Has}
use Rattle.law_unsequenced.specs.Unsequenced.{IsNth, Each}

-- some of the elements
abbrev pub IsPart : {X : Type 0} → List X → List X → Type 0
IsPart [] ys = Unit {0}
IsPart (x ∷ xs) [] = ⊥
IsPart (x ∷ xs) (y ∷ ys) = ((x ≡ y) × IsPart xs ys) ⊎ IsPart (x ∷ xs) ys

pub part-skip : {X : Type 0} (xs ys : List X) (y : X) → IsPart xs ys → IsPart xs (y ∷ ys)
part-skip [] ys y h = tt
part-skip (x ∷ xs) ys y h = inr h

-- one more, on either side
pub part-more : {X : Type 0} (xs ys zs : List X) → IsPart xs ys → IsPart xs (ys ++ zs)
part-more [] ys zs h = tt
part-more (x ∷ xs) [] zs h = absurd h
part-more (x ∷ xs) (y ∷ ys) zs (inl k) = inl (k.0, part-more xs ys zs k.1)
part-more (x ∷ xs) (y ∷ ys) zs (inr k) = inr (part-more (x ∷ xs) ys zs k)

pub part-push : {X : Type 0} (xs ys : List X) (z : X) → IsPart xs ys → IsPart (xs ++ z ∷ []) (ys ++ z ∷ [])
part-push [] [] z h = inl (refl, tt)
part-push [] (y ∷ ys) z h = inr (part-push [] ys z tt)
part-push (x ∷ xs) [] z h = absurd h
part-push (x ∷ xs) (y ∷ ys) z (inl k) = inl (k.0, part-push xs ys z k.1)
part-push (x ∷ xs) (y ∷ ys) z (inr k) = inr (part-push (x ∷ xs) ys z k)

-- those at the front
pub part-front : {X : Type 0} (xs zs ys : List X) → IsPart (xs ++ zs) ys → IsPart xs ys
part-front [] zs ys h = tt
part-front (x ∷ xs) zs [] h = absurd h
part-front (x ∷ xs) zs (y ∷ ys) (inl k) = inl (k.0, part-front xs zs ys k.1)
part-front (x ∷ xs) zs (y ∷ ys) (inr k) = inr (part-front (x ∷ xs) zs ys k)

pub part-has : {X : Type 0} (xs ys : List X) (x : X) → IsPart xs ys → Has xs x → Has ys x
part-has [] ys x h t = absurd t
part-has (z ∷ xs) [] x h t = absurd h
part-has (z ∷ xs) (y ∷ ys) x (inl k) (inl e) = inl (sym k.0 ∙ e)
part-has (z ∷ xs) (y ∷ ys) x (inl k) (inr t) = inr (part-has xs ys x k.1 t)
part-has (z ∷ xs) (y ∷ ys) x (inr k) t = inr (part-has (z ∷ xs) ys x k t)

-- of a list's image
pub part-of_map : {X Y : Type 0} (f : X → Y) (ys : List Y) (xs : List X) → IsPart ys (map f xs) → (zs : List X) × IsPart zs xs × (map f zs ≡ ys)
part-of_map f [] xs h = ([], tt, refl)
part-of_map f (y ∷ ys) [] h = absurd h
part-of_map f (y ∷ ys) (x ∷ xs) (inl k) = (let r = part-of_map f ys xs k.1 in (x ∷ r.0, inl (refl, r.1), (let e : y ≡ f x = k.0 in let d : map f r.0 ≡ ys = r.2 in cc)))
part-of_map f (y ∷ ys) (x ∷ xs) (inr k) = (let r = part-of_map f (y ∷ ys) xs k in (r.0, part-skip r.0 xs x r.1, r.2))

-- what goes one by one with a list has a part that goes with each part of it
pub each-part : {X Y : Type 0} (R : X → Y → Type 0) (xs : List X) (ys zs : List Y) → Each R xs ys → IsPart zs ys → (ws : List X) × IsPart ws xs × Each R ws zs
each-part R xs ys [] e h = ([], tt, tt)
each-part R [] [] (z ∷ zs) e h = absurd h
each-part R [] (y ∷ ys) (z ∷ zs) e h = absurd e
each-part R (x ∷ xs) [] (z ∷ zs) e h = absurd h
each-part R (x ∷ xs) (y ∷ ys) (z ∷ zs) e (inl k) =
    let r = each-part R xs ys zs e.1 k.1 in (x ∷ r.0, inl (refl, r.1), (subst (R x) (sym k.0) e.0, r.2))
each-part R (x ∷ xs) (y ∷ ys) (z ∷ zs) e (inr k) = (let r = each-part R xs ys (z ∷ zs) e.1 k in (r.0, part-skip r.0 xs x r.1, r.2))

pub each-map : {X Y Z : Type 0} (R : X → Z → Type 0) (S : X → Y → Type 0) (f : Y → Z) → ((x : X) (y : Y) → S x y → R x (f y)) → (xs : List X) (ys : List Y) → Each S xs ys → Each R xs (map f ys)
each-map R S f to [] [] e = tt
each-map R S f to [] (y ∷ ys) e = absurd e
each-map R S f to (x ∷ xs) [] e = absurd e
each-map R S f to (x ∷ xs) (y ∷ ys) e = (to x y e.0, each-map R S f to xs ys e.1)

-- each element has one that goes with it
pub each-found : {X Y : Type 0} (R : X → Y → Type 0) (ys : List Y) → ((y : Y) → Has ys y → (x : X) × R x y) → (xs : List X) × Each R xs ys
each-found R [] f = ([], tt)
each-found R (y ∷ ys) f = (let one = f y (inl refl) in let rest = each-found R ys (λ z h. f z (inr h)) in (one.0 ∷ rest.0, (one.1, rest.1)))

-- what holds of all holds of a part

all-part : {X : Type 0} (P : X → Type 0) (xs ys : List X) → IsPart xs ys → All P ys → All P xs
all-part P [] ys h a = All-nil P
all-part P (x ∷ xs) [] h a = absurd h
all-part P (x ∷ xs) (y ∷ ys) (inl k) a = All-cons P x xs (subst P (sym k.0) (a 0 y (omega arith))) (all-part P xs ys k.1 (λ i d low. a (suc i) d (omega arith)))
all-part P (x ∷ xs) (y ∷ ys) (inr k) a = all-part P (x ∷ xs) ys k (λ i d low. a (suc i) d (omega arith))

pub pairs-part : {X : Type 0} (R : X → X → Type 0) (xs ys : List X) → IsPart xs ys → AllPairs R ys → AllPairs R xs
pairs-part R [] ys h a = λ i j d low within. absurd (omega arith)
pairs-part R (x ∷ xs) [] h a = absurd h
pairs-part R (x ∷ xs) (y ∷ ys) (inl k) a =
    AllPairs-cons R x xs (all-part (R x) xs ys k.1 (subst (λ z. All (R z) ys) (sym k.0) (λ i d low. a 0 (suc i) d (omega arith) (omega arith))))
    (pairs-part R xs ys k.1 (λ i j d low within. a (suc i) (suc j) d (omega arith) (omega arith)))
pairs-part R (x ∷ xs) (y ∷ ys) (inr k) a = pairs-part R (x ∷ xs) ys k (λ i j d low within. a (suc i) (suc j) d (omega arith) (omega arith))

-- the n-th of a list is so of a longer one
pub nth-more : (qs more : List Packet) (n channel : ℕ) (body : List ℕ) → IsNth qs n channel body → IsNth (qs ++ more) n channel body
nth-more qs more n channel body h = record {
  before = h.before;
  packet = h.packet;
  later = h.later ++ more;
  split = ap (λ l. l ++ more) h.split ∙ append_assoc h.before (h.packet ∷ h.later) more;
  number = h.number;
  channel_is = h.channel_is;
  body_is = h.body_is;
}
