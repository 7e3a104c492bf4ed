-- A header and what stands behind it.
use Rattle.std.proofs.Common.{◌≡◌, ℕ, ◌≤◌, List, ◌++◌, length, take, drop, true, false, sym, ap, subst, ◌∙◌}
use Rattle.std.proofs.lemmas.List.{take-append-drop, length-take-le}
use Rattle.enet_codec.specs.declared.stop.Stop.TheVariants as stop
use Rattle.enet_codec.specs.declared.header.Header.{Header}
use Rattle.enet_codec.specs.Header.{SpellsHeader}
use Rattle.enet_text.specs.declared.body.Bodies.{Bodies}
use Rattle.enet_text.specs.InspectTexts.{header_line, stop_line}
use Rattle.enet_text.specs.Described.{Describes, Tells, compressed, plain}

pub is_compressed : (bodies : Bodies) (d rest line text : List ℕ) (h : Header) (len : ℕ) → SpellsHeader (take len d) h → len ≤ length d → rest ≡ drop len d → h.compressed ≡ true
    → line ≡ header_line h → text ≡ stop_line stop.Compressed len rest → Describes bodies d (line ++ text)
is_compressed bodies d rest line text h len spelled within from set line_is text_is =
    let place : length (take len d) ≡ len = length-take-le len d within in
    let told : stop_line stop.Compressed (length (take len d)) (drop len d) ≡ text =
    ap (λ (n : ℕ). stop_line stop.Compressed n (drop len d)) place ∙ ap (λ (l : List ℕ). stop_line stop.Compressed len l) (sym from) ∙ sym text_is in
    subst (λ (l : List ℕ). Describes bodies d l) (ap (λ (l : List ℕ). header_line h ++ l) told ∙ ap (λ (l : List ℕ). l ++ text) (sym line_is))
    (compressed h (take len d) (drop len d) (sym (take-append-drop len d)) spelled set)

pub is_plain : (bodies : Bodies) (d line text : List ℕ) (h : Header) (len : ℕ) → SpellsHeader (take len d) h → len ≤ length d → h.compressed ≡ false → line ≡ header_line h
    → Tells bodies len (drop len d) text → Describes bodies d (line ++ text)
is_plain bodies d line text h len spelled within clear line_is tells =
    let place : length (take len d) ≡ len = length-take-le len d within in
    subst (λ (l : List ℕ). Describes bodies d l) (ap (λ (l : List ℕ). l ++ text) (sym line_is))
    (plain h (take len d) (drop len d) text (sym (take-append-drop len d)) spelled clear (subst (λ (n : ℕ). Tells bodies n (drop len d) text) (sym place) tells))
