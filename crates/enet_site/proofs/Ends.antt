-- The ends of a host, each by its name and by its connection.
use Rattle.std.proofs.Common.{◌≡◌, ◌≢◌, ◌<◌, ℕ, zero, suc, ◌==◌, ◌&&◌, Bool, true, false, cond, List, [], ◌∷◌, length, get_or, unwrap_or, refl, sym, ap, subst, ◌∙◌, inl, inr, arith, Option, Some, None, slice_get, slice_set}
use Rattle.std.specs.List.{position}
use Rattle.std.proofs.lemmas.Bool.Decides.{nat_tests}
use Rattle.std.proofs.lemmas.List.Quantifiers.{position-Some}
use Rattle.std.proofs.lemmas.Option.{slice_get-get_or}
use Rattle.enet_codec.specs.declared.event.PeerRef.{PeerRef}
use Rattle.law_connection.specs.LinkSteps.{Has}
use Rattle.law_network.specs.Network.{HostEnd, is_same_name, with_end, end_of}
use Rattle.law_connection.proofs.Lists.{Has-slice_get}
use Rattle.enet_site.specs.Records.{AreApart, HasEnd}
use Rattle.enet_site.proofs.RecordPlaces.{none-passes}

-- names

both-left : (a b : Bool) → (a && b) ≡ true → a ≡ true
both-left true b h = refl
both-left false b h = h

both-right : (a b : Bool) → (a && b) ≡ true → b ≡ true
both-right true b h = h
both-right false b h = absurd (cc)

equal : (m n : ℕ) → (m == n) ≡ true → m ≡ n
equal m n h = grind (arith, nat_tests)

pub same-names : (a b : PeerRef) → is_same_name a b ≡ true → a ≡ b
same-names a b h =
    let slot : a.slot ≡ b.slot = equal a.slot b.slot (both-left (a.slot == b.slot) (a.generation == b.generation) h) in
    let generation : a.generation ≡ b.generation = equal a.generation b.generation (both-right (a.slot == b.slot) (a.generation == b.generation) h) in
    (λ i. record { slot = slot i; generation = generation i })

same-self : (n : ℕ) → (n == n) ≡ true
same-self n = grind (arith, nat_tests)

pub named-so : (a b : PeerRef) → a ≡ b → is_same_name a b ≡ true
named-so a b e = subst (λ (c : PeerRef). is_same_name a c ≡ true) e (ap (λ (x : Bool). x && (a.generation == a.generation)) (same-self a.slot) ∙ same-self a.generation)

pub is-named : (ends : List HostEnd) (name : PeerRef) (i : ℕ) (e : HostEnd) → position (λ (f : HostEnd). is_same_name f.name name) ends ≡ Some i → e ≡ get_or ends i e → e.name ≡ name
is-named ends name i e found is =
    let p = position-Some (λ (f : HostEnd). is_same_name f.name name) ends i e found in
    same-names e.name name (subst (λ (f : HostEnd). is_same_name f.name name ≡ true) (sym is) p.1)

-- the end of a name that is there is found
pub is-found : (ends : List HostEnd) (name : PeerRef) (e : HostEnd) → Has ends e → e.name ≡ name → position (λ (f : HostEnd). is_same_name f.name name) ends ≡ None → ⊥
is-found ends name e there is none =
    let z : false ≡ true = sym (none-passes (λ (f : HostEnd). is_same_name f.name name) ends e none there) ∙ named-so e.name name is in
    absurd (cc)

-- what is changed of the ends of a name is changed of the one end of that name

apart-later : (x : HostEnd) (ends : List HostEnd) → AreApart (x ∷ ends) → AreApart ends
apart-later x ends h i j e f there also same = grind (arith, h (suc i) (suc j) e f there also same)

others-stay : (change : HostEnd → HostEnd) (name : PeerRef) (ends : List HostEnd) → ((j : ℕ) (f : HostEnd) → slice_get ends j ≡ Some f → f.name ≢ name) → with_end change name ends ≡ ends
others-stay change name [] h = refl
others-stay change name (x ∷ ends) h = (λ i. head (is_same_name x.name name) refl i ∷ others-stay change name ends (λ j f there. h (suc j) f there) i)
  where
    head : (b : Bool) → is_same_name x.name name ≡ b → cond (is_same_name x.name name) (change x) x ≡ x
    head true e = absurd (h 0 x refl (same-names x.name name e))
    head false e = ap (λ (c : Bool). cond c (change x) x) e

pub with-one : (change : HostEnd → HostEnd) (name : PeerRef) (ends : List HostEnd) (i : ℕ) (e : HostEnd) → AreApart ends → slice_get ends i ≡ Some e → e.name ≡ name → with_end change name ends ≡ slice_set ends i (change e)
with-one change name [] i e apart there is = refl
with-one change name (x ∷ ends) zero e apart there is =
    let same : x ≡ e = (let s : ◌≡◌ {A = Option HostEnd} (Some x) (Some e) = there in cc) in
    let named : is_same_name x.name name ≡ true = named-so x.name name (ap (λ (f : HostEnd). f.name) same ∙ is) in
    (λ k. (ap (λ (c : Bool). cond c (change x) x) named ∙ ap change same) k ∷ others-stay change name ends later k)
  where
    later : (j : ℕ) (f : HostEnd) → slice_get ends j ≡ Some f → f.name ≢ name
    later j f at n = absurd (let z : zero ≡ suc j = apart zero (suc j) e f there at (is ∙ sym n) in omega (arith, z))
with-one change name (x ∷ ends) (suc i) e apart there is =
    (λ k. first (is_same_name x.name name) refl k ∷ with-one change name ends i e (apart-later x ends apart) there is k)
  where
    first : (b : Bool) → is_same_name x.name name ≡ b → cond (is_same_name x.name name) (change x) x ≡ x
    first true n = absurd (let z : zero ≡ suc i = apart zero (suc i) x e refl there (same-names x.name name n ∙ sym is) in omega (arith, z))
    first false n = ap (λ (c : Bool). cond c (change x) x) n

-- the end of a connection

end-at : (x : ℕ) (ends : List HostEnd) (i : ℕ) (d : HostEnd) → i < length ends → ((get_or ends i d).connection == x) ≡ true → ((k : ℕ) → k < i → ((get_or ends k d).connection == x) ≡ false) → end_of x ends ≡ Some (get_or ends i d)
end-at x [] i d low is before = absurd (omega arith)
end-at x (e ∷ ends) zero d low is before = ap (λ (b : Bool). cond b (Some e) (end_of x ends)) is
end-at x (e ∷ ends) (suc i) d low is before =
    ap (λ (b : Bool). cond b (Some e) (end_of x ends)) (before zero (omega arith)) ∙ end-at x ends i d (omega arith) is (λ k l. before (suc k) (omega arith))

pub end-found : (x : ℕ) (ends : List HostEnd) (i : ℕ) (e : HostEnd) → position (λ (f : HostEnd). f.connection == x) ends ≡ Some i → e ≡ get_or ends i e → end_of x ends ≡ Some e
end-found x ends i e found is =
    let p = position-Some (λ (f : HostEnd). f.connection == x) ends i e found in
    end-at x ends i e p.0 p.1 p.2 ∙ ap (λ (f : HostEnd). Some f) (sym is)

pub end-missed : (x : ℕ) (ends : List HostEnd) → position (λ (f : HostEnd). f.connection == x) ends ≡ None → end_of x ends ≡ None
end-missed x ends none = by ends (λ e there. none-passes (λ (f : HostEnd). f.connection == x) ends e none there)
  where
    by : (xs : List HostEnd) → ((e : HostEnd) → Has xs e → (e.connection == x) ≡ false) → end_of x xs ≡ None
    by [] h = refl
    by (e ∷ xs) h = ap (λ (b : Bool). cond b (Some e) (end_of x xs)) (h e (inl refl)) ∙ by xs (λ f there. h f (inr there))

-- the end of a name that is there, at its place
pub record Placed (ends : List HostEnd) (name : PeerRef) (i : ℕ) (e : HostEnd) : Type 0 where
  pub there : Has ends e
  pub at : slice_get ends i ≡ Some e
  pub named : e.name ≡ name

place-found : (ends : List HostEnd) (name : PeerRef) (o : Option ℕ) (i : ℕ) → o ≡ position (λ (f : HostEnd). is_same_name f.name name) ends → HasEnd ends name → i ≡ unwrap_or o 0 → position (λ (f : HostEnd). is_same_name f.name name) ends ≡ Some i
place-found ends name None i found h is = absurd (is-found ends name h.0 h.1 h.2 (sym found))
place-found ends name (Some j) i found h is = sym found ∙ ap (λ (n : ℕ). Some n) (sym is)

pub placed-some : (ends : List HostEnd) (name : PeerRef) (i : ℕ) (e : HostEnd) → position (λ (f : HostEnd). is_same_name f.name name) ends ≡ Some i → e ≡ get_or ends i e → Placed ends name i e
placed-some ends name i e p at =
    let inside : i < length ends = (position-Some (λ (f : HostEnd). is_same_name f.name name) ends i e p).0 in
    let got : slice_get ends i ≡ Some e = slice_get-get_or ends i e inside ∙ ap (λ (f : HostEnd). Some f) (sym at) in
    record { there = Has-slice_get ends i e got; at = got; named = is-named ends name i e p at }

pub placed : (ends : List HostEnd) (name : PeerRef) (o : Option ℕ) (i : ℕ) (e : HostEnd) → o ≡ position (λ (f : HostEnd). is_same_name f.name name) ends → HasEnd ends name → i ≡ unwrap_or o 0 → e ≡ get_or ends i e → Placed ends name i e
placed ends name o i e found h is at = placed-some ends name i e (place-found ends name o i found h is) at

-- where no end has a name, nothing is changed of those that have
pub with-none : (change : HostEnd → HostEnd) (name : PeerRef) (ends : List HostEnd) → position (λ (f : HostEnd). is_same_name f.name name) ends ≡ None → with_end change name ends ≡ ends
with-none change name ends none = others-stay change name ends (λ j f there same. is-found ends name f (Has-slice_get ends j f there) same none)
