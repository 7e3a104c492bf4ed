-- Lists of events with their answers, which go on one by one: what they tell of a host is what is kept of it.
use Rattle.std.proofs.Common.{◌≡◌, ℕ, zero, suc, ◌+◌, ◌≤◌, ◌⊎◌, inl, inr, Bool, true, false, List, [], ◌∷◌, ◌++◌, map, length, take, refl, sym, ap, subst, ◌∙◌, append-nil, append_assoc, arith, Option, Some, None, slice_get}
use Rattle.std.specs.Prelude.{zip, flat_map}
use Rattle.std.proofs.lemmas.Grind.{flat_map-append}
use Rattle.enet_codec.specs.declared.address.Addr.{Addr}
use Rattle.enet_codec.specs.declared.event.Event.{Event}
use Rattle.enet_codec.specs.declared.event.PeerRef.{PeerRef}
use Rattle.enet_codec.specs.declared.packet.Packet.{Packet}
use Rattle.law_network.specs.Headline as owned
use Rattle.law_network.specs.Network.{Site}
use Rattle.law_network.specs.Running.{RunsBy}
use Rattle.law_network.specs.Steps.{Around, Happening, HappensAmong}
use Rattle.law_network.proofs.Running.{runs-keep}
use Rattle.law_network.proofs.Submitting.{same-some}
use Rattle.law_headline.specs.Kept.{submitted_by, taken_by, is_guest, IsRecorded, IsCovered, and_submitted, and_taken}
use Rattle.law_headline.proofs.Kept.{stays-recorded}
use Rattle.law_headline.proofs.Covered.{stays-covered}

-- lists

pub length-mapped : {X Y : Type 0} (g : X → Y) (xs : List X) → length (map g xs) ≡ length xs
length-mapped g [] = refl
length-mapped g (x ∷ xs) = ap (λ (n : ℕ). suc n) (length-mapped g xs)

pub get-unmapped : {X Y : Type 0} (g : X → Y) (xs : List X) (k : ℕ) (y : Y) → slice_get (map g xs) k ≡ Some y → (x : X) × (slice_get xs k ≡ Some x) × (g x ≡ y)
get-unmapped g [] k y h = absurd (let e : ◌≡◌ {A = Option _} None (Some y) = h in cc)
get-unmapped g (z ∷ xs) zero y h = (z, refl, same-some (g z) y h)
get-unmapped g (z ∷ xs) (suc k) y h = get-unmapped g xs k y h

-- of two lists, one after the other
pub get-either : {X : Type 0} (xs ys : List X) (k : ℕ) (x : X) → slice_get (xs ++ ys) k ≡ Some x → (slice_get xs k ≡ Some x) ⊎ ((j : ℕ) × (slice_get ys j ≡ Some x) × (k ≡ length xs + j))
get-either [] ys k x h = inr (k, h, (let e : k ≡ 0 + k = omega arith in e))
get-either (z ∷ xs) ys zero x h = inl h
get-either (z ∷ xs) ys (suc k) x h = elim (get-either xs ys k x h) [ inl e ↦ inl e | inr e ↦ inr (e.0, e.1, (let s : k ≡ length xs + e.0 = e.2 in omega arith)) ]

-- what the first of two lists has, both have
pub get-front : {X : Type 0} (xs ys : List X) (k : ℕ) (x : X) → slice_get xs k ≡ Some x → slice_get (xs ++ ys) k ≡ Some x
get-front [] ys k x h = absurd (let e : ◌≡◌ {A = Option _} None (Some x) = h in cc)
get-front (z ∷ xs) ys zero x h = h
get-front (z ∷ xs) ys (suc k) x h = get-front xs ys k x h

pub zip-take : {E A : Type 0} (n : ℕ) (es : List E) (xs : List A) → zip (take n es) (take n xs) ≡ take n (zip es xs)
zip-take zero es xs = refl
zip-take (suc n) [] xs = refl
zip-take (suc n) (e ∷ es) [] = refl
zip-take (suc n) (e ∷ es) (x ∷ xs) = ap (λ (l : List (_ × _)). (e, x) ∷ l) (zip-take n es xs)

-- what one more adds
pub push : {X Y : Type 0} (g : X → List Y) (hs : List X) (h : X) → flat_map g (hs ++ h ∷ []) ≡ flat_map g hs ++ g h
push g hs h = flat_map-append g hs (h ∷ []) ∙ ap (λ (l : List _). flat_map g hs ++ l) (append-nil (g h))

-- steps with lists that go on: what holds of the lists so far and of where they lead holds of all of them in the end
pub runs-on : {W E A : Type 0} (S : W → E → A → W → Type 0) (P : List (E × A) → W → Type 0) → ((hs : List (E × A)) (w v : W) (e : E) (a : A) → S w e a v → P hs w → P (hs ++ (e, a) ∷ []) v)
    → (es : List E) (xs : List A) (hs : List (E × A)) (w v : W) → RunsBy S w es xs v → P hs w → P (hs ++ zip es xs) v
runs-on S P step [] [] hs w v r k = subst (λ (l : List (_ × _)). P l v) (sym (append-nil hs)) (subst (P hs) (sym r) k)
runs-on S P step [] (x ∷ xs) hs w v r k = absurd r
runs-on S P step (e ∷ es) [] hs w v r k = absurd r
runs-on S P step (e ∷ es) (x ∷ xs) hs w v r k =
    subst (λ (l : List (_ × _)). P l v) (append_assoc hs ((e, x) ∷ []) (zip es xs)) (runs-on S P step es xs (hs ++ (e, x) ∷ []) r.0 v r.2 (step hs w r.0 e x r.1 k))

-- a front of a run is a run
pub front-run : {W E A : Type 0} (S : W → E → A → W → Type 0) (n : ℕ) (es : List E) (xs : List A) (w v : W) → RunsBy S w es xs v → (u : W) × RunsBy S w (take n es) (take n xs) u
front-run S zero es xs w v r = (w, refl)
front-run S (suc n) [] [] w v r = (w, refl)
front-run S (suc n) [] (x ∷ xs) w v r = absurd r
front-run S (suc n) (e ∷ es) [] w v r = absurd r
front-run S (suc n) (e ∷ es) (x ∷ xs) w v r = (let k = front-run S n es xs r.0 v r.2 in (k.0, (r.0, r.1, k.1)))

-- and what each step keeps, and holds after one front, holds after each longer one
pub front-keeps : {W E A : Type 0} (S : W → E → A → W → Type 0) (P : W → Type 0) → ((w v : W) (e : E) (a : A) → S w e a v → P w → P v)
    → (n m : ℕ) → n ≤ m → (es : List E) (xs : List A) (w v : W) (r : RunsBy S w es xs v) → P (front-run S n es xs w v r).0 → P (front-run S m es xs w v r).0
unfolding front-run
front-keeps S P step zero m le es xs w v r k = (let f = front-run S m es xs w v r in runs-keep S P step (take m es) (take m xs) w f.0 f.1 k)
front-keeps S P step (suc n) zero le es xs w v r k = absurd (let l : suc n ≤ 0 = le in omega arith)
front-keeps S P step (suc n) (suc m) le [] [] w v r k = k
front-keeps S P step (suc n) (suc m) le [] (x ∷ xs) w v r k = absurd r
front-keeps S P step (suc n) (suc m) le (e ∷ es) [] w v r k = absurd r
front-keeps S P step (suc n) (suc m) le (e ∷ es) (x ∷ xs) w v r k = front-keeps S P step n m (let l : suc n ≤ suc m = le in omega arith) es xs r.0 v r.2 k

-- what is told of a host, by what each thing adds to the submissions and the events of a name

module _ {X : Type 0} (submits : PeerRef → ℕ → X → List Packet) (takes : PeerRef → X → List Event) where
  abbrev pub IsToldAt : List X → Site → Type 0
  IsToldAt hs s = IsRecorded (λ q channel. flat_map (submits q channel) hs) (λ q. flat_map (takes q) hs) s

  abbrev pub IsCoveredAt : (Addr → Bool) → List X → Site → Type 0
  IsCoveredAt is_host hs s = IsCovered is_host (λ q channel. flat_map (submits q channel) hs) (λ q. flat_map (takes q) hs) s

  more-submitted : (hs : List X) (h : X) (more : PeerRef → ℕ → List Packet) → ((q : PeerRef) (channel : ℕ) → submits q channel h ≡ more q channel)
      → ◌≡◌ {A = PeerRef → ℕ → List Packet} (λ q channel. flat_map (submits q channel) hs ++ more q channel) (λ q channel. flat_map (submits q channel) (hs ++ h ∷ []))
  more-submitted hs h more is i q channel = sym (push (submits q channel) hs h ∙ ap (λ (l : List Packet). flat_map (submits q channel) hs ++ l) (is q channel)) i

  more-taken : (hs : List X) (h : X) (more : PeerRef → List Event) → ((q : PeerRef) → takes q h ≡ more q)
      → ◌≡◌ {A = PeerRef → List Event} (λ q. flat_map (takes q) hs ++ more q) (λ q. flat_map (takes q) (hs ++ h ∷ []))
  more-taken hs h more is i q = sym (push (takes q) hs h ∙ ap (λ (l : List Event). flat_map (takes q) hs ++ l) (is q)) i

  none-submitted : (hs : List X) (h : X) → ((q : PeerRef) (channel : ℕ) → submits q channel h ≡ [])
      → ◌≡◌ {A = PeerRef → ℕ → List Packet} (λ q channel. flat_map (submits q channel) hs) (λ q channel. flat_map (submits q channel) (hs ++ h ∷ []))
  none-submitted hs h none i q channel = sym (push (submits q channel) hs h ∙ ap (λ (l : List Packet). flat_map (submits q channel) hs ++ l) (none q channel) ∙ append-nil (flat_map (submits q channel) hs)) i

  none-taken : (hs : List X) (h : X) → ((q : PeerRef) → takes q h ≡ [])
      → ◌≡◌ {A = PeerRef → List Event} (λ q. flat_map (takes q) hs) (λ q. flat_map (takes q) (hs ++ h ∷ []))
  none-taken hs h none i q = sym (push (takes q) hs h ∙ ap (λ (l : List Event). flat_map (takes q) hs ++ l) (none q) ∙ append-nil (flat_map (takes q) hs)) i

  -- where nothing is added
  pub told-stays : (hs : List X) (h : X) (s : Site) → ((q : PeerRef) (channel : ℕ) → submits q channel h ≡ []) → ((q : PeerRef) → takes q h ≡ []) → IsToldAt hs s → IsToldAt (hs ++ h ∷ []) s
  told-stays hs h s a b k =
      subst (λ (r : PeerRef → ℕ → List Packet). IsRecorded r (λ q. flat_map (takes q) (hs ++ h ∷ [])) s) (none-submitted hs h a)
      (subst (λ (r : PeerRef → List Event). IsRecorded (λ q channel. flat_map (submits q channel) hs) r s) (none-taken hs h b) k)

  pub covered-stays : (is_host : Addr → Bool) (hs : List X) (h : X) (s : Site) → ((q : PeerRef) (channel : ℕ) → submits q channel h ≡ []) → ((q : PeerRef) → takes q h ≡ []) → IsCoveredAt is_host hs s
      → IsCoveredAt is_host (hs ++ h ∷ []) s
  covered-stays is_host hs h s a b k =
      subst (λ (r : PeerRef → ℕ → List Packet). IsCovered is_host r (λ q. flat_map (takes q) (hs ++ h ∷ [])) s) (none-submitted hs h a)
      (subst (λ (r : PeerRef → List Event). IsCovered is_host (λ q channel. flat_map (submits q channel) hs) r s) (none-taken hs h b) k)

  -- where a thing happens that adds the same
  pub told-goes : (hs : List X) (h : X) (w : Around) (from old new : Site) (what : Happening) → ((q : PeerRef) (channel : ℕ) → submits q channel h ≡ submitted_by q channel what)
      → ((q : PeerRef) → takes q h ≡ taken_by q what) → HappensAmong w from what old new → IsToldAt hs old → IsToldAt (hs ++ h ∷ []) new
  told-goes hs h w from old new what a b happens k =
      subst (λ (r : PeerRef → ℕ → List Packet). IsRecorded r (λ q. flat_map (takes q) (hs ++ h ∷ [])) new) (more-submitted hs h (λ q channel. submitted_by q channel what) a)
      (subst (λ (r : PeerRef → List Event). IsRecorded (and_submitted (λ q channel. flat_map (submits q channel) hs) what) r new) (more-taken hs h (λ q. taken_by q what) b)
      (stays-recorded (λ q channel. flat_map (submits q channel) hs) (λ q. flat_map (takes q) hs) w from old new what happens k))

  pub covered-goes : (hs : List X) (h : X) (w : Around) (from old new : Site) (what : Happening) → ((q : PeerRef) (channel : ℕ) → submits q channel h ≡ submitted_by q channel what)
      → ((q : PeerRef) → takes q h ≡ taken_by q what) → HappensAmong w from what old new → is_guest what ≡ false → w.is_host from.address ≡ true → owned.AreEnds w.is_host old
      → IsCoveredAt w.is_host hs old → IsCoveredAt w.is_host (hs ++ h ∷ []) new
  covered-goes hs h w from old new what a b happens none host ends k =
      subst (λ (r : PeerRef → ℕ → List Packet). IsCovered w.is_host r (λ q. flat_map (takes q) (hs ++ h ∷ [])) new) (more-submitted hs h (λ q channel. submitted_by q channel what) a)
      (subst (λ (r : PeerRef → List Event). IsCovered w.is_host (and_submitted (λ q channel. flat_map (submits q channel) hs) what) r new) (more-taken hs h (λ q. taken_by q what) b)
      (stays-covered (λ q channel. flat_map (submits q channel) hs) (λ q. flat_map (takes q) hs) w from old new what happens none host ends k))
