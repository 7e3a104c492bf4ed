-- Lines of bytes that come, one byte after another.
use Rattle.std.proofs.Common.{◌≡◌, ◌≢◌, ◌+◌, ℕ, List, [], ◌∷◌, ◌++◌, length, Result, IfOk, refl, sym, ap, subst, ◌∙◌, inl, arith, append_assoc, append-nil}
use Rattle.std.specs.declared.alloc.AllocError.{AllocError}
use Rattle.enet_console.specs.declared.input.Input.{Input}
use Rattle.enet_console.specs.declared.control.Control.{Control}
use Rattle.enet_console.specs.declared.word.Word.{Word}
use Rattle.enet_console.specs.Inputs.{rest, Goes, Begins, HasNoFeed, meant, ReadsLine, ReadsOn, Pauses}

no_feed-append : (front back : List ℕ) → HasNoFeed front → HasNoFeed back → HasNoFeed (front ++ back)
no_feed-append [] back h k = k
no_feed-append (byte ∷ front) back h k = (h.0, no_feed-append front back h.1 k)

goes : (a b c first second came later : List ℕ) → a ++ came ≡ first ++ b → b ++ later ≡ second ++ c → a ++ (came ++ later) ≡ (first ++ second) ++ c
goes a b c first second came later e f =
    sym (append_assoc a came later) ∙ ap (λ (l : List ℕ). l ++ later) e ∙ append_assoc first b later ∙ ap (λ (l : List ℕ). first ++ l) f
    ∙ sym (append_assoc first second c)

pub goes_through : (before now after : Input) (first second : List ℕ) → Goes before now first → Goes now after second → Goes before after (first ++ second)
goes_through before now after first second g h = (g.0 ++ h.0, goes (rest before) (rest now) (rest after) first second g.0 h.0 g.1 h.1)

length_more : (front : List ℕ) (byte : ℕ) → length (front ++ byte ∷ []) ≡ length front + 1
length_more [] byte = omega arith
length_more (x ∷ front) byte = omega (arith, length_more front byte)

pub reads_on-begin : (c : Control) → ReadsOn 0 c c
reads_on-begin c = ([], tt, refl, ([], append-nil (rest c.input)), λ begun h. subst (λ (l : List ℕ). Begins c l) (sym (append-nil begun)) h)

-- nothing comes, and nothing is left
pub reads_on-quiet : (before now : Control) (input : Input) (count : ℕ) → ReadsOn count before now → Goes now.input input [] × (rest input ≡ []) → Pauses before (record now { input = input })
reads_on-quiet before now input count h g = (
  count,
  (h.0, h.1, h.2, subst (λ (l : List ℕ). Goes before.input input l) (append-nil h.0) (goes_through before.input now.input input h.0 [] h.3 g.0), h.4),
  inl g.1,
)

-- a byte comes that ends no line
pub reads_on-byte : (before now after : Control) (input : Input) (byte count : ℕ) → ReadsOn count before now → Goes now.input input (byte ∷ []) → byte ≢ 10 → after.input ≡ input
    → ((begun : List ℕ) → Begins now begun → Begins after (begun ++ (byte ∷ []))) → ReadsOn (count + 1) before after
reads_on-byte before now after input byte count h g isnt same adds = (
  h.0 ++ (byte ∷ []),
  no_feed-append h.0 (byte ∷ []) h.1 (isnt, tt),
  omega (arith, length_more h.0 byte, h.2),
  subst (λ (i : Input). Goes before.input i (h.0 ++ (byte ∷ []))) (sym same) (goes_through before.input now.input input h.0 (byte ∷ []) h.3 g),
  λ begun k. subst (λ (l : List ℕ). Begins after l) (append_assoc begun h.0 (byte ∷ [])) (adds (begun ++ h.0) (h.4 begun k)),
)

-- a line feed comes
pub reads_line-feed : (before now after : Control) (input : Input) (word : Result Word AllocError) (count : ℕ) → ReadsOn count before now → Goes now.input input (10 ∷ []) → after.input ≡ input
    → ((begun : List ℕ) → Begins now begun → IfOk word (λ said. said ≡ meant begun)) → Begins after [] → ReadsLine before after word
reads_line-feed before now after input word count h g same says begins = (
  h.0,
  h.1,
  subst (λ (i : Input). Goes before.input i (h.0 ++ (10 ∷ []))) (sym same) (goes_through before.input now.input input h.0 (10 ∷ []) h.3 g),
  λ begun k. says (begun ++ h.0) (h.4 begun k),
  begins,
)
