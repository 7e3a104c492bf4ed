-- Each list that was played is that of a run; each front of it has the page, and a connection keeps its name.
use Rattle.std.proofs.Common.{◌≡◌, ◌≤◌, ◌&&◌, ℕ, zero, suc, Bool, true, false, List, [], ◌∷◌, ◌++◌, take, refl, sym, ap, subst, ◌∙◌, arith, Option, Some, None, Result, Ok, Err, IfOk, slice_get}
use Rattle.std.specs.Prelude.{zip}
use Rattle.std.proofs.lemmas.Grind.{flat_map-append}
use Rattle.enet_codec.specs.declared.config.Config.{Config}
use Rattle.enet_codec.specs.declared.event.PeerRef.{PeerRef}
use Rattle.enet_codec.specs.declared.refusal.Refusal.{Refusal}
use Rattle.enet_codec.specs.declared.refusal.Refusal.TheVariants.{BadConfig}
use Rattle.enet_codec.specs.Config.{is_in_range}
use Rattle.law_network.specs.declared.event.Answer.{Answer}
use Rattle.law_network.specs.declared.event.Side.{Side}
use Rattle.law_network.specs.declared.event.WorldEvent.{WorldEvent}
use Rattle.law_network.specs.Headline.{HasHeadline}
use Rattle.law_network.specs.Network.{end_of}
use Rattle.law_network.specs.World.{World, site_of, other, side_of, Steps, Runs, open_world}
use Rattle.law_network.proofs.Headlines.{headline-list}
use Rattle.law_network.proofs.Runs.{sound-list}
use Rattle.law_headline.proofs.Page.{called, called-some, has-end}
use Rattle.law_headline.proofs.Telling.{get-front, zip-take, front-run, front-keeps}
use Rattle.enet_world.specs.Transcript.{Happened, asks, asked, IsOnEachFront}
use Rattle.enet_world.proofs.Told.{HasEndOf, end-stays, each-told, here_by, IsOn, on-transcript}

-- a longer front begins with a shorter one, and so with its connections
take-front : {X : Type 0} (n m : ℕ) → n ≤ m → (xs : List X) → (rest : List X) × (take m xs ≡ take n xs ++ rest)
take-front zero m le xs = (take m xs, refl)
take-front (suc n) zero le xs = absurd (let l : suc n ≤ 0 = le in omega arith)
take-front (suc n) (suc m) le [] = ([], refl)
take-front (suc n) (suc m) le (x ∷ xs) = (let r = take-front n m (let l : suc n ≤ suc m = le in omega arith) xs in (r.0, ap (λ (l : List _). x ∷ l) r.1))

asked-stays : (n m : ℕ) → n ≤ m → (hs : List Happened) (x : ℕ) (a : Side × PeerRef) → slice_get (asked (take n hs)) x ≡ Some a → slice_get (asked (take m hs)) x ≡ Some a
asked-stays n m le hs x a is =
    let r = take-front n m le hs in
    let more : asked (take m hs) ≡ asked (take n hs) ++ asked r.0 = ap asked r.1 ∙ flat_map-append (λ (h : Happened). asks h.0 h.1) (take n hs) r.0 in
    ap (λ (l : List (Side × PeerRef)). slice_get l x) more ∙ get-front (asked (take n hs)) (asked r.0) x a is

end-steps : (x : ℕ) (s : Side) (name : PeerRef) (w v : World) (event : WorldEvent) (answer : Result Answer Refusal) → Steps w event answer v → HasEndOf w x s name → HasEndOf v x s name
end-steps x s name w v event (Ok answer) r k = end-stays (side_of event) r.0 w v r.2 x s name k
end-steps x s name w v event (Err why) r k = subst (λ (z : World). HasEndOf z x s name) (sym r.1) k

on-each-front : (a b : Config) → (is_in_range a && is_in_range b) ≡ true → (events : List WorldEvent) (given : List (Result Answer Refusal)) (w : World) → Runs (open_world a b) events given w → IsOnEachFront (zip events given)
on-each-front a b fits events given w r = record { front = λ n. (page n).0; stays = keeps }
  where
    at : (n : ℕ) → (v : World) × Runs (open_world a b) (take n events) (take n given) v
    at n = front-run Steps n events given (open_world a b) w r

    page : (n : ℕ) → IsOn (at n).0 (take n (zip events given))
    page n = subst (IsOn (at n).0) (zip-take n events given)
        (on-transcript (at n).0 (zip (take n events) (take n given)) (sound-list a b fits (take n events) (take n given) (at n).0 (at n).1) (headline-list a b fits (take n events) (take n given) (at n).0 (at n).1)
        (each-told a b fits (take n events) (take n given) (at n).0 (at n).1))

    -- an end with its name stays
    later : (n m x : ℕ) (s : Side) (p : PeerRef) → n ≤ m → called (end_of x (site_of (at n).0 s).ends) ≡ Some p → called (end_of x (site_of (at m).0 s).ends) ≡ Some p
    later n m x s p le is =
        let t = called-some (end_of x (site_of (at n).0 s).ends) p is in
        let h = has-end x (site_of (at n).0 s).ends t.0 t.1 in
        let k : HasEndOf (at m).0 x s p = front-keeps Steps (λ (z : World). HasEndOf z x s p) (end-steps x s p) n m le events given (open_world a b) w r (t.0, h.0, h.1, t.2) in
        let head : HasHeadline false (at m).0 = headline-list a b fits (take m events) (take m given) (at m).0 (at m).1 in
        let only : end_of k.0.connection (site_of (at m).0 s).ends ≡ Some k.0 = (head.hosts s).only k.0 k.1 in
        ap called (subst (λ (y : ℕ). end_of y (site_of (at m).0 s).ends ≡ Some k.0) k.2 only) ∙ ap (λ (q : PeerRef). Some q) k.3

    keeps : (n m x : ℕ) (p : PeerRef) → n ≤ m → (page n).0.here x ≡ Some p → (page m).0.here x ≡ Some p
    keeps n m x p le is = by (slice_get (asked (take n (zip events given))) x) refl (sym ((page n).1 x) ∙ is)
      where
        by : (o : Option (Side × PeerRef)) → slice_get (asked (take n (zip events given))) x ≡ o → here_by (at n).0 x o ≡ Some p → (page m).0.here x ≡ Some p
        by None none e = absurd (let y : ◌≡◌ {A = Option PeerRef} None (Some p) = e in cc)
        by (Some b) some e = (page m).1 x ∙ ap (here_by (at m).0 x) (asked-stays n m le (zip events given) x b some) ∙ later n m x (other b.0) p le e

pub answered : {V : Type 0} (items : V → List (Result Answer Refusal)) (a b : Config) (events : List WorldEvent) (r : Result V Refusal) (first w : World) → (is_in_range a && is_in_range b) ≡ true → first ≡ open_world a b
    → IfOk r (λ v. Runs first events (items v) w) → IfOk r (λ v. IsOnEachFront (zip events (items v)))
answered items a b events (Ok v) first w fits fresh runs = on-each-front a b fits events (items v) w (subst (λ (z : World). Runs z events (items v) w) fresh runs)
answered items a b events (Err why) first w fits fresh runs = tt

pub stepped : {V : Type 0} (items : V → List (Result Answer Refusal)) (a b : Config) (events : List WorldEvent) (r : Result V Refusal) (first w : World) → first ≡ open_world a b
    → IfOk r (λ v. Runs first events (items v) w) → IfOk r (λ v. (z : World) × Runs (open_world a b) events (items v) z)
stepped items a b events (Ok v) first w fresh runs = (w, subst (λ (z : World). Runs z events (items v) w) fresh runs)
stepped items a b events (Err why) first w fresh runs = tt

-- settings by which something else than that refusal came
pub fitted : {V : Type 0} (b : Bool) (r : Result V Refusal) (v : V) → (b ≡ false → r ≡ Err BadConfig) → r ≡ Ok v → b ≡ true
fitted true r v refused ok = refl
fitted false r v refused ok = absurd (let z : ◌≡◌ {A = Result _ Refusal} (Ok v) (Err BadConfig) = sym ok ∙ refused refl in cc)
