-- The rest of an unreliable packet is dropped, and what is left.
use Rattle.std.proofs.Common.{◌≡◌, ℕ, suc, ◌<◌, Bool, true, false, cond, ltb, not, List, [], ◌∷◌, ◌++◌, length, Option, Some, refl, sym, ap, ◌∙◌, arith}
use Rattle.std.specs.List.{slice_get}
use Rattle.std.proofs.lemmas.Bool.{and_parts, lt-ltb}
use Rattle.enet_fragment.specs.declared.data.DataCommand.{DataCommand}
use Rattle.enet_sender.specs.declared.sent.Sent.{Sent}
use Rattle.enet_sender.specs.Sender.{is_more, is_after_first, skipped}
use Rattle.enet_sender.specs.Pending.{vacant, named, times}
use Rattle.enet_sender.specs.Rings.{Rings, Keeps, keys_of}
use Rattle.enet_sender.proofs.Named.{times-append, times-here, some-held, named-cons}

-- a further command is unreliable
pub more-unreliable : (c : DataCommand) → is_more c ≡ true → c.reliable ≡ false
more-unreliable c e = by c.reliable (and_parts (not c.reliable) (is_after_first c.fragment) e).0
  where
    by : (b : Bool) → not b ≡ true → b ≡ false
    by true e = cc
    by false e = refl

-- one further command is dropped
pub skipped-more : (cs rest : List DataCommand) (c : DataCommand) → cs ≡ c ∷ rest → is_more c ≡ true → skipped cs ≡ skipped rest
skipped-more cs rest c is e = ap skipped is ∙ ap (λ b. cond b (skipped rest) (c ∷ rest)) e

pub skipped-none : (cs rest : List DataCommand) (c : DataCommand) → cs ≡ c ∷ rest → is_more c ≡ false → skipped cs ≡ cs
skipped-none cs rest c is e = ap skipped is ∙ ap (λ b. cond b (skipped rest) (c ∷ rest)) e ∙ sym is

-- a ring has keys where it names commands, its first key being one under which a command stands
pub some-named : (at : ℕ → Option Sent) (keys : List ℕ) → ((key : ℕ) → slice_get keys 0 ≡ Some key → (p : Sent) × (at key ≡ Some p)) → ltb 0 (length keys) ≡ ltb 0 (length (named at keys))
some-named at [] first = refl
some-named at (k ∷ keys) first =
    let found = first k refl in
    let long : length (named at (k ∷ keys)) ≡ suc (length (named at keys)) = ap (λ (ps : List Sent). length ps) (named-cons at k keys found.0 found.1) in
    lt-ltb 0 (suc (length keys)) (omega arith) ∙ sym (lt-ltb 0 (length (named at (k ∷ keys))) (omega arith))

-- the first key of either ring has a command
pub first-there : (at : ℕ → Option Sent) (r : Rings) (keys before after : List ℕ) (key : ℕ) → Keeps at r → key < vacant → keys_of r ≡ before ++ keys ++ after → slice_get keys 0 ≡ Some key → (p : Sent) × (at key ≡ Some p)
first-there at r [] before after key keeps low is first = cc
first-there at r (k ∷ keys) before after key keeps low is first =
    let same : k ≡ key = cc in
    let most = keeps.names key low in
    let all = ap (times key) is ∙ times-append key (before ++ k ∷ keys) after in
    let front = times-append key before (k ∷ keys) in
    let here = ap (λ j. times key (j ∷ keys)) same ∙ times-here key keys in
    some-held (at key) (omega arith)
