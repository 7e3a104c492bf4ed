-- What became of a datagram, by lists.
use Rattle.std.proofs.Common.{◌≡◌, ◌<◌, ◌+◌, ◌==◌, ℕ, suc, Bool, true, false, if◌then◌else◌, List, length, get_or, Option, Some, None, refl, sym, ap, ◌∙◌, add-one}
use Rattle.std.specs.BTreeMap as tree
use Rattle.std.specs.BTreeMap.{BTreeMap, is_at}
use Rattle.std.specs.Cmp.{unsigned_tied}
use Rattle.std.specs.Option.{unwrap_or}
use Rattle.std.specs.Ordering.{nat_cmp}
use Rattle.std.proofs.lemmas.Bool.{eqb-true}
use Rattle.std.proofs.lemmas.Option.{slice_get-get_or}
use Rattle.enet_captured.specs.declared.timeline.Mark.{Mark}
use Rattle.enet_captured.specs.declared.fates.Fate.{Fate}
use Rattle.enet_captured.specs.Fates.{fate_by, is_behind, is_of, join, joined, leads_behind, nothing, waits, waits_as}
use Rattle.enet_captured.specs.Sends.{seen_before}
use Rattle.enet_captured.specs.Private.Tables.{IsTable, item}
use Rattle.enet_captured.proofs.TableLemmas.{item_at}

pub link_is : (of : ℕ → Option ℕ) (n place : ℕ) (slice items : List (Option ℕ)) (link : Option ℕ) → IsTable of n items → slice ≡ items
    → place < n → link ≡ item slice place → link ≡ of place
link_is of n place slice items link t is within e =
    e ∙ ap (λ (l : List (Option ℕ)). item l place) is ∙ item_at of n items t place within

-- a link within the list leads where the function says; from past its end none leads further, by either
pub behind_is : (of : ℕ → Option ℕ) (n place : ℕ) (slice items : List (Option ℕ)) (there : Option ℕ) (b : Bool) → IsTable of n items → slice ≡ items
    → ((k : ℕ) → there ≡ Some k → k < n) → b ≡ leads_behind (item slice) place there → b ≡ leads_behind of place there
behind_is of n place slice items None b t is within e = e
behind_is of n place slice items (Some k) b t is within e =
    e ∙ ap (λ (l : List (Option ℕ)). is_behind place (item l k)) is ∙ ap (is_behind place) (item_at of n items t k (within k refl))

pub waiting_is : (marks : List Mark) (place : ℕ) (seen : Option ℕ) (d : Mark) (b : Bool) → place < length marks
    → b ≡ waits_as marks seen (Some (get_or marks place d)) → seen ≡ seen_before marks place → b ≡ waits marks place
waiting_is marks place seen d b within e is =
    e ∙ ap (λ (o : Option ℕ). waits_as marks o (Some (get_or marks place d))) is
    ∙ ap (waits_as marks (seen_before marks place)) (sym (slice_get-get_or marks place d within))

pub fate_same : (w w' : Bool) (s s' g g' a a' k k' : Option ℕ) (e e' v v' : Bool) (fate : Fate) → fate ≡ fate_by w s g a k e v → w ≡ w' → s ≡ s' → g ≡ g'
    → a ≡ a' → k ≡ k' → e ≡ e' → v ≡ v' → fate ≡ fate_by w' s' g' a' k' e' v'
fate_same w w' s s' g g' a a' k k' e e' v v' fate is hw hs hg ha hk he hv =
    is ∙ ap (λ (x : Bool). fate_by x s g a k e v) hw ∙ ap (λ (x : Option ℕ). fate_by w' x g a k e v) hs ∙ ap (λ (x : Option ℕ). fate_by w' s' x a k e v) hg
    ∙ ap (λ (x : Option ℕ). fate_by w' s' g' x k e v) ha ∙ ap (λ (x : Option ℕ). fate_by w' s' g' a' x e v) hk
    ∙ ap (λ (x : Bool). fate_by w' s' g' a' k' x v) he ∙ ap (fate_by w' s' g' a' k' e') hv

-- ---- taken together

tested : (q a : ℕ) (b : Bool) → (a == q) ≡ b → (all : ℕ → Fate) (fate one found : Fate) (old : Option Fate) → unwrap_or old nothing ≡ all q
    → fate ≡ join (all a) one → found ≡ unwrap_or (if b then Some fate else old) nothing → found ≡ (if b then join (all q) one else all q)
tested q a true e all fate one found old was is new = let same : a ≡ q = eqb-true a q e in new ∙ is ∙ ap (λ (k : ℕ). join (all k) one) same
tested q a false e all fate one found old was is new = new ∙ was

pub fates_more : (marks : List Mark) (f : ℕ → Fate) (old new : BTreeMap ℕ Fate) (place q : ℕ) (d : Mark) (fate : Fate) → place < length marks
    → ((k : ℕ) → unwrap_or (tree.get nat_cmp old k) nothing ≡ joined marks f k place)
    → fate ≡ join (unwrap_or (tree.get nat_cmp old (get_or marks place d).datagram) nothing) (f place)
    → tree.get nat_cmp new q ≡ (if is_at (nat_cmp (get_or marks place d).datagram) q then Some fate else tree.get nat_cmp old q)
    → unwrap_or (tree.get nat_cmp new q) nothing ≡ joined marks f q (place + 1)
fates_more marks f old new place q d fate within was is put =
    let a = (get_or marks place d).datagram in
    let all = λ (k : ℕ). joined marks f k place in
    let now : unwrap_or (tree.get nat_cmp new q) nothing ≡ unwrap_or (if a == q then Some fate else tree.get nat_cmp old q) nothing =
    ap (λ (o : Option Fate). unwrap_or o nothing) (put ∙ ap (λ (b : Bool). if b then Some fate else tree.get nat_cmp old q) (unsigned_tied a q)) in
    let here : (if a == q then join (all q) (f place) else all q) ≡ joined marks f q (suc place) =
    ap (λ (o : Option Mark). if is_of q o then join (all q) (f place) else all q) (sym (slice_get-get_or marks place d within)) in
    tested q a (a == q) refl all fate (f place) _ (tree.get nat_cmp old q) (was q) (is ∙ ap (λ (x : Fate). join x (f place)) (was a)) now
    ∙ here ∙ ap (joined marks f q) (sym (add-one place))
