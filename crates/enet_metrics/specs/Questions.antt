-- What a request asks for.
use Rattle.std.specs.Prelude.{◌≡◌, ◌≢◌, ℕ, List, Option, Some, None, codes}
use Rattle.httparse.specs.Grammar.{RequestHead, ReadsRequest, HasNoRequest, MayBecomeRequest}
use Rattle.httparse.specs.Spans.{RequestOverflows}
use Rattle.enet_metrics.specs.declared.asking.Question.{Question}
use Rattle.enet_metrics.specs.declared.asking.Question.TheVariants.{Figures, Health, Other, OtherMethod, Unreadable}

-- what is asked for by a method and a target
abbrev pub IsAbout : Question → List ℕ → List ℕ → Type 0
IsAbout Figures method target = (method ≡ codes "GET") × (target ≡ codes "/metrics")
IsAbout Health method target = (method ≡ codes "GET") × (target ≡ codes "/healthz")
IsAbout Other method target = (method ≡ codes "GET") × (target ≢ codes "/metrics") × (target ≢ codes "/healthz")
IsAbout OtherMethod method target = method ≢ codes "GET"
IsAbout Unreadable method target = ⊥

-- the head of a request stands at the front of the bytes, and asks for that
abbrev pub HeadAsks : List ℕ → Question → Type 0
HeadAsks bytes question = (head : RequestHead) × (rest : List ℕ) × ReadsRequest bytes head rest × IsAbout question head.method head.target

-- What bytes ask for: what a head at their front does; nothing yet where none stands there and more bytes may make one; and they can't be
-- read where each head that more bytes could make has over 32 fields, so also where none could.
abbrev pub Asks : List ℕ → Option Question → Type 0
Asks bytes None = HasNoRequest bytes × MayBecomeRequest bytes
Asks bytes (Some Unreadable) = RequestOverflows 32 bytes
Asks bytes (Some question) = HeadAsks bytes question
