-- A script that goes on by a byte, and how it ends.
use Rattle.std.proofs.Common.{arith, subst, ◌≡◌, ◌≢◌, ℕ, ◌+◌, ◌<◌, min, get_or, take, drop, take-append-drop, flat_map, List, [], ◌∷◌, ◌++◌, length, Option, refl, sym, ap, ◌∙◌, append_assoc, append-nil, length-append, false}
use Rattle.std.proofs.lemmas.List.Elements.{All-push, All-nil}
use Rattle.std.proofs.lemmas.Grind.{flat_map-append}
use Rattle.std.proofs.lemmas.List.{take_more}
use lib.Seq.{drop-cons}
use Rattle.enet_lab.specs.declared.stage.Stage.{Stage}
use Rattle.enet_lab.specs.declared.stage.Stage.TheVariants.{Empty}
use Rattle.enet_lab.specs.Lines.{RunsLine, can_read}
use Rattle.enet_lab.specs.Scripts.{RunsLines, HasRun, IsPart, IsStopped, IsLine, EndsLine, with_feed, written_for}

-- a list of parts with one more
flat_map-push : {X : Type 0} (f : X → List ℕ) (xs : List X) (x : X) → flat_map f (xs ++ x ∷ []) ≡ flat_map f xs ++ f x
flat_map-push f xs x = flat_map-append f xs (x ∷ []) ∙ ap (λ l. flat_map f xs ++ l) (append-nil (f x))

runs-push : (old : Stage) (lines : List (List ℕ)) (texts : List (Option (List ℕ))) (between new : Stage) (line : List ℕ) (text : Option (List ℕ))
    → RunsLines old lines texts between → RunsLine between line text new → RunsLines old (lines ++ line ∷ []) (texts ++ text ∷ []) new
runs-push old [] [] between new line text same runs = (new, subst (λ (s : Stage). RunsLine s line text new) same runs, refl)
runs-push old [] (t ∷ texts) between new line text h runs = absurd h
runs-push old (l ∷ lines) [] between new line text h runs = absurd h
runs-push old (l ∷ lines) (t ∷ texts) between new line text h runs = (h.0, h.1, runs-push h.0 lines texts between new line text h.2 runs)

pub begin : HasRun [] [] Empty 0 []
begin = record {
  lines = [];
  texts = [];
  seen_is = refl;
  each_line = All-nil IsLine;
  begun_line = All-nil (λ byte. byte ≢ 10);
  runs = refl;
  wrote_is = refl;
  count_is = refl;
}

-- a byte that is no line feed
pub more : (seen wrote : List ℕ) (stage : Stage) (count : ℕ) (begun : List ℕ) (byte : ℕ) → HasRun seen wrote stage count begun → byte ≢ 10
    → HasRun (seen ++ byte ∷ []) wrote stage count (begun ++ byte ∷ [])
more seen wrote stage count begun byte h other = record {
  lines = h.lines;
  texts = h.texts;
  seen_is = ap (λ l. l ++ byte ∷ []) h.seen_is ∙ append_assoc (flat_map with_feed h.lines) begun (byte ∷ []);
  each_line = h.each_line;
  begun_line = All-push (λ b. b ≢ 10) begun byte h.begun_line other;
  runs = h.runs;
  wrote_is = h.wrote_is;
  count_is = h.count_is;
}

counted : (c n d : ℕ) → c ≡ min n 4294967295 → d ≡ min (c + 1) 4294967295 → d ≡ min (n + 1) 4294967295
counted c n d one two = omega arith

-- a line feed, and the line that it ended is run
pub ended : (seen wrote : List ℕ) (stage : Stage) (count : ℕ) (begun : List ℕ) (text : Option (List ℕ)) (new : Stage) (next : ℕ)
    → HasRun seen wrote stage count begun → RunsLine stage begun text new → next ≡ min (count + 1) 4294967295
    → HasRun (seen ++ 10 ∷ []) (wrote ++ written_for text) new next []
ended seen wrote stage count begun text new next h runs is = record {
  lines = h.lines ++ begun ∷ [];
  texts = h.texts ++ text ∷ [];
  seen_is = ap (λ l. l ++ 10 ∷ []) h.seen_is ∙ append_assoc (flat_map with_feed h.lines) begun (10 ∷ [])
      ∙ sym (append-nil (flat_map with_feed (h.lines ++ begun ∷ [])) ∙ flat_map-push with_feed h.lines begun);
  each_line = All-push IsLine h.lines begun h.each_line h.begun_line;
  begun_line = All-nil (λ byte. byte ≢ 10);
  runs = runs-push Empty h.lines h.texts stage new begun text h.runs runs;
  wrote_is = ap (λ l. l ++ written_for text) h.wrote_is ∙ sym (flat_map-push written_for h.texts text);
  count_is = rw (length-append h.lines (begun ∷ [])) (counted count (length h.lines) next h.count_is is);
}

-- so much of a script was run
pub partly : (seen wrote : List ℕ) (stage : Stage) (count : ℕ) (line rest : List ℕ) → HasRun seen wrote stage count line → IsPart (seen ++ rest) wrote
partly seen wrote stage count line rest h = record { seen = seen; stage = stage; count = count; line = line; so_far = h; rest = rest; script_is = refl }

-- a line that can't be read
pub stopped : (seen wrote : List ℕ) (stage : Stage) (count : ℕ) (line rest : List ℕ) (number : ℕ) → HasRun seen wrote stage count line
    → can_read stage line ≡ false → number ≡ min (count + 1) 4294967295 → EndsLine rest → IsStopped (seen ++ rest) wrote number
unfolding partly
stopped seen wrote stage count line rest number h bad is ends = record { part = partly seen wrote stage count line rest h; ends = ends; unreadable = bad; number_is = is }

-- ---- byte i of some bytes, those before it being seen

seen_more : (seen bytes : List ℕ) (i byte : ℕ) → i < length bytes → get_or bytes i 0 ≡ byte → seen ++ take (i + 1) bytes ≡ (seen ++ take i bytes) ++ byte ∷ []
seen_more seen bytes i byte within is =
    ap (λ l. seen ++ l) (take_more bytes i 0 within ∙ ap (λ b. take i bytes ++ b ∷ []) is) ∙ sym (append_assoc seen (take i bytes) (byte ∷ []))

pub fed : (seen wrote more bytes : List ℕ) (i : ℕ) (stage : Stage) (count : ℕ) (begun : List ℕ) (text : Option (List ℕ)) (new : Stage) (next : ℕ) → i < length bytes
    → get_or bytes i 0 ≡ 10 → HasRun (seen ++ take i bytes) (wrote ++ more) stage count begun → RunsLine stage begun text new → next ≡ min (count + 1) 4294967295
    → HasRun (seen ++ take (i + 1) bytes) (wrote ++ (more ++ written_for text)) new next []
fed seen wrote more bytes i stage count begun text new next within is h runs counts =
    rw (seen_more seen bytes i 10 within is, ← append_assoc wrote more (written_for text))
    (ended (seen ++ take i bytes) (wrote ++ more) stage count begun text new next h runs counts)

pub grown : (seen wrote bytes : List ℕ) (i : ℕ) (stage : Stage) (count : ℕ) (begun : List ℕ) → i < length bytes → get_or bytes i 0 ≢ 10
    → HasRun (seen ++ take i bytes) wrote stage count begun → HasRun (seen ++ take (i + 1) bytes) wrote stage count (begun ++ get_or bytes i 0 ∷ [])
grown seen wrote bytes i stage count begun within other h =
    rw (seen_more seen bytes i (get_or bytes i 0) within refl) (more (seen ++ take i bytes) wrote stage count begun (get_or bytes i 0) h other)

split_at : (seen bytes later : List ℕ) (i : ℕ) → (seen ++ bytes) ++ later ≡ (seen ++ take i bytes) ++ (drop i bytes ++ later)
split_at seen bytes later i =
    ap (λ l. (seen ++ l) ++ later) (sym (take-append-drop i bytes)) ∙ ap (λ l. l ++ later) (sym (append_assoc seen (take i bytes) (drop i bytes)))
    ∙ append_assoc (seen ++ take i bytes) (drop i bytes) later

pub partly_at : (seen wrote bytes later : List ℕ) (i : ℕ) (stage : Stage) (count : ℕ) (line : List ℕ)
    → HasRun (seen ++ take i bytes) wrote stage count line → IsPart ((seen ++ bytes) ++ later) wrote
partly_at seen wrote bytes later i stage count line h = rw (split_at seen bytes later i) (partly (seen ++ take i bytes) wrote stage count line (drop i bytes ++ later) h)

pub stopped_at : (seen wrote bytes later : List ℕ) (i : ℕ) (stage : Stage) (count : ℕ) (line : List ℕ) (number : ℕ) → i < length bytes → get_or bytes i 0 ≡ 10
    → HasRun (seen ++ take i bytes) wrote stage count line → can_read stage line ≡ false → number ≡ min (count + 1) 4294967295
    → IsStopped ((seen ++ bytes) ++ later) wrote number
stopped_at seen wrote bytes later i stage count line number within is h bad counts =
    let rest = drop i bytes ++ later in
    let ends : EndsLine rest = rw (drop-cons bytes i 0 within) is in
    rw (split_at seen bytes later i) (stopped (seen ++ take i bytes) wrote stage count line rest number h bad counts ends)
