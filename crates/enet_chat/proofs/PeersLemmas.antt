-- Lists of peers without one, and with one more.
use Rattle.std.proofs.Common.{◌≡◌, ℕ, ◌+◌, Bool, true, false, ◌&&◌, ◌||◌, not, cond, eqb, if◌then◌else◌, List, [], ◌∷◌, ◌++◌, refl, sym, ◌∙◌, ap, subst, arith, zero-add, eqb-true}
use Rattle.std.proofs.lemmas.List.Folds.{list_any-append}
use Rattle.std.proofs.lemmas.Bool.{eq-eqb}
use Rattle.enet_codec.specs.declared.event.PeerRef.{PeerRef}
use Rattle.enet_chat.specs.Peers.{is_same, has, count, has_each_once, others}

pub or_none : (a b : Bool) → (a || b) ≡ false → (a ≡ false) × (b ≡ false)
or_none true b e = cc
or_none false b e = (refl, e)

pub and_both : (a b : Bool) → (a && b) ≡ true → (a ≡ true) × (b ≡ true)
and_both true b e = (refl, e)
and_both false b e = cc

pub not_true : (b : Bool) → not b ≡ true → b ≡ false
not_true true e = cc
not_true false e = refl

-- who isn't there isn't there without another one
has_cond : (b : Bool) (p : PeerRef) (rest : List PeerRef) (peer : PeerRef) → is_same p peer ≡ false → has rest peer ≡ false → has (cond b (p ∷ rest) rest) peer ≡ false
has_cond true p rest peer e h = rw e h
has_cond false p rest peer e h = h

has_others : (peers : List PeerRef) (gone peer : PeerRef) → has peers peer ≡ false → has (others peers gone) peer ≡ false
has_others [] gone peer e = refl
has_others (p ∷ ps) gone peer e =
    let both = or_none (is_same p peer) (has ps peer) e in
    has_cond (not (is_same p gone)) p (others ps gone) peer both.0 (has_others ps gone peer both.1)

once_cond : (b : Bool) (p : PeerRef) (rest : List PeerRef) → has rest p ≡ false → has_each_once rest ≡ true → has_each_once (cond b (p ∷ rest) rest) ≡ true
once_cond true p rest h e = rw h e
once_cond false p rest h e = e

pub others_once : (peers : List PeerRef) (gone : PeerRef) → has_each_once peers ≡ true → has_each_once (others peers gone) ≡ true
others_once [] gone e = refl
others_once (p ∷ ps) gone e =
    let both = and_both (not (has ps p)) (has_each_once ps) e in
    once_cond (not (is_same p gone)) p (others ps gone) (has_others ps gone p (not_true _ both.0)) (others_once ps gone both.1)

pub same_is : (p q : PeerRef) → is_same p q ≡ true → p ≡ q
same_is p q e =
    let both = and_both (eqb p.slot q.slot) (eqb p.generation q.generation) e in
    let slot : p.slot ≡ q.slot = eqb-true p.slot q.slot both.0 in
    let generation : p.generation ≡ q.generation = eqb-true p.generation q.generation both.1 in
    let one : p ≡ record p { slot = q.slot } = ap (λ (n : ℕ). record p { slot = n }) slot in
    one ∙ ap (λ (n : ℕ). record p { slot = q.slot; generation = n }) generation

same_self : (p : PeerRef) → is_same p p ≡ true
same_self p = rw (eq-eqb p.slot p.slot refl, eq-eqb p.generation p.generation refl)

same_swapped : (b : Bool) (p q : PeerRef) → is_same p q ≡ b → is_same q p ≡ b
same_swapped true p q e = subst (λ x. is_same x p ≡ true) (same_is p q e) (same_self p)
same_swapped false p q e = by_other (is_same q p) refl
  where
    by_other : (b : Bool) → is_same q p ≡ b → is_same q p ≡ false
    by_other true h = let k : is_same p q ≡ true = subst (λ x. is_same x q ≡ true) (same_is q p h) (same_self q) in cc
    by_other false h = h

more_once : (peers : List PeerRef) (peer : PeerRef) → has peers peer ≡ false → has_each_once peers ≡ true → has_each_once (peers ++ peer ∷ []) ≡ true
more_once [] peer h e = refl
more_once (p ∷ ps) peer h e =
    let apart = or_none (is_same p peer) (has ps peer) h in
    let both = and_both (not (has ps p)) (has_each_once ps) e in
    let here : has (ps ++ peer ∷ []) p ≡ false = list_any-append (λ x. is_same x p) ps (peer ∷ []) ∙ rw (not_true _ both.0, same_swapped false p peer apart.0) in
    rw here (more_once ps peer apart.1 both.1)

pub added_once : (b : Bool) (old new : List PeerRef) (peer : PeerRef) → new ≡ (if b then old ++ peer ∷ [] else old) → has old peer ≡ false → has_each_once old ≡ true → has_each_once new ≡ true
added_once true old new peer e h o = subst (λ xs. has_each_once xs ≡ true) (sym e) (more_once old peer h o)
added_once false old new peer e h o = subst (λ xs. has_each_once xs ≡ true) (sym e) o

count_cond : (b : Bool) (p : PeerRef) (rest : List PeerRef) (peer : PeerRef) → count (cond (not b) (p ∷ rest) rest) peer ≡ (if not b then (if is_same p peer then 1 else 0) else 0) + count rest peer
count_cond true p rest peer = sym (zero-add (count rest peer))
count_cond false p rest peer = refl

tally : (a b h q : Bool) (n : ℕ) → (a ≡ true → (h ≡ false) × (b ≡ q)) → n ≡ (if h && not q then 1 else 0)
    → (if not b then (if a then 1 else 0) else 0) + n ≡ (if (a || h) && not q then 1 else 0)
tally true b true q n f e = let x = f refl in cc
tally true true false true n f e = omega arith
tally true true false false n f e = let x = f refl in cc
tally true false false true n f e = let x = f refl in cc
tally true false false false n f e = omega arith
tally false true h q n f e = zero-add n ∙ e
tally false false h q n f e = zero-add n ∙ e

pub count_others : (peers : List PeerRef) (gone peer : PeerRef) → has_each_once peers ≡ true → count (others peers gone) peer ≡ (if has peers peer && not (is_same peer gone) then 1 else 0)
count_others [] gone peer e = refl
count_others (p ∷ ps) gone peer e =
    let both = and_both (not (has ps p)) (has_each_once ps) e in
    let when : is_same p peer ≡ true → (has ps peer ≡ false) × (is_same p gone ≡ is_same peer gone) =
    λ (s : is_same p peer ≡ true). (subst (λ x. has ps x ≡ false) (same_is p peer s) (not_true _ both.0), ap (λ x. is_same x gone) (same_is p peer s)) in
    count_cond (is_same p gone) p (others ps gone) peer
    ∙ tally (is_same p peer) (is_same p gone) (has ps peer) (is_same peer gone) (count (others ps gone) peer) when (count_others ps gone peer both.1)
