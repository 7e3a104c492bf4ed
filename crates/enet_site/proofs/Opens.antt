-- Hosts are opened one by one.
use Rattle.std.proofs.Common.{◌≡◌, ◌<◌, ℕ, ◌+◌, Bool, true, false, List, [], ◌∷◌, ◌++◌, length, take, get_or, refl, sym, ap, ◌∙◌, arith}
use Rattle.std.proofs.lemmas.List.{take_more, length-take}
use Rattle.std.proofs.lemmas.List.Folds.{list_all_at}
use Rattle.std.specs.List.{list_all}
use Rattle.enet_codec.specs.declared.address.Addr.{Addr}
use Rattle.enet_codec.specs.declared.config.Config.{Config}
use Rattle.law_network.specs.Places.{Place, opened_at, all_opened}

opened-last : (address : ℕ → Addr) (i : ℕ) (configs : List Config) (c : Config) → all_opened address i (configs ++ c ∷ []) ≡ all_opened address i configs ++ opened_at (address (i + length configs)) c ∷ []
opened-last address i [] c = ap (λ (n : ℕ). opened_at (address n) c ∷ []) (let same : i ≡ i + 0 = omega arith in same)
opened-last address i (x ∷ configs) c =
    ap (λ (l : List Place). opened_at (address i) x ∷ l)
    (opened-last address (i + 1) configs c ∙ ap (λ (n : ℕ). all_opened address (i + 1) configs ++ opened_at (address n) c ∷ []) (let same : i + 1 + length configs ≡ i + length (x ∷ configs) = omega arith in same))

-- of a list of which each passes, so does each that is read
pub all-at : {X : Type 0} (p : X → Bool) (xs : List X) (i : ℕ) (d : X) → list_all p xs ≡ true → i < length xs → p (get_or xs i d) ≡ true
all-at p xs i d all low = by (p (get_or xs i d)) refl
  where
    by : (b : Bool) → p (get_or xs i d) ≡ b → p (get_or xs i d) ≡ true
    by true is = is
    by false is = absurd (let y : true ≡ false = sym all ∙ list_all_at p xs i d low is in cc)

-- one more is opened
pub opened-more : (address : ℕ → Addr) (configs : List Config) (n : ℕ) (d : Config) (place : Place) (places after : List Place) → n < length configs → places ≡ all_opened address 0 (take n configs)
    → place ≡ opened_at (address n) (get_or configs n d) → after ≡ places ++ place ∷ [] → after ≡ all_opened address 0 (take (n + 1) configs)
opened-more address configs n d place places after low before is grown =
    let c : Config = get_or configs n d in
    let at : n ≡ 0 + length (take n configs) = (let l = length-take n configs in omega (arith, l)) in
    grown
    ∙ (λ i. before i ++ (is ∙ ap (λ (m : ℕ). opened_at (address m) c) at) i ∷ [])
    ∙ sym (opened-last address 0 (take n configs) c)
    ∙ ap (all_opened address 0) (sym (take_more configs n d low))
