-- Lines that are drawn one by one.
use Rattle.std.proofs.Common.{◌≡◌, ℕ, ◌+◌, ◌<◌, ◌≤◌, List, [], ◌∷◌, length, get_or, drop, ◌++◌, refl, sym, ap, ◌∙◌, append_assoc, codes}
use Rattle.std.proofs.lemmas.List.{drop_more, at_drop_all, append-nil}
use Rattle.enet_timeline.specs.Pictures.{words_text, lines_text, below}

lines-cons : (y : ℕ) (line : List ℕ) (more : List (List ℕ)) → lines_text y (line ∷ more) ≡ words_text (codes "sum") 16 y line ++ lines_text (below y) more
unfolding lines_text
lines-cons y line more = refl

lines-nil : (y : ℕ) → lines_text y [] ≡ []
unfolding lines_text
lines-nil y = refl

-- a line more is drawn
pub line-more : (all : List (List ℕ)) (text new whole line : List ℕ) (i y next : ℕ) → i < length all → line ≡ get_or all i line → next ≡ below y
    → new ≡ text ++ words_text (codes "sum") 16 y line → text ++ lines_text y (drop i all) ≡ whole → new ++ lines_text next (drop (i + 1) all) ≡ whole
line-more all text new whole line i y next inside is down e drawn =
    let rest : List (List ℕ) = drop (i + 1) all in
    let opened : lines_text y (drop i all) ≡ words_text (codes "sum") 16 y line ++ lines_text next rest =
    ap (lines_text y) (drop_more all i line inside) ∙ ap (λ (l : List ℕ). lines_text y (l ∷ rest)) (sym is) ∙ lines-cons y line rest
    ∙ ap (λ (n : ℕ). words_text (codes "sum") 16 y line ++ lines_text n rest) (sym down) in
    ap (λ (l : List ℕ). l ++ lines_text next rest) e ∙ append_assoc text (words_text (codes "sum") 16 y line) (lines_text next rest)
    ∙ ap (λ (l : List ℕ). text ++ l) (sym opened) ∙ drawn

-- all are
pub lines-done : (all : List (List ℕ)) (text whole : List ℕ) (i y : ℕ) → length all ≤ i → text ++ lines_text y (drop i all) ≡ whole → text ≡ whole
lines-done all text whole i y past drawn =
    sym (append-nil text) ∙ ap (λ (l : List ℕ). text ++ l) (sym (at_drop_all (lines_text y) all i past ∙ lines-nil y)) ∙ drawn
