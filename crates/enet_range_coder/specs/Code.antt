-- The code of a body, and the body of a code.
use Rattle.std.specs.Prelude.{ℕ, List, [], ◌∷◌, take, Option, Some, None}
use Rattle.enet_range_coder.specs.Span.{whole}
use Rattle.enet_range_coder.specs.Body.{packed, unpacked}
use Rattle.enet_range_coder.specs.Memory.{contexts}
use Rattle.enet_range_coder.specs.Learning.{nothing_learned, learned}

-- the bytes of a body, coded one after another, and the end
unfoldable pub coded_whole : List ℕ → Option (List ℕ)
coded_whole body = packed contexts learned nothing_learned whole body

-- the code of a body; no bytes have none
abbrev pub code_of : List ℕ → Option (List ℕ)
code_of [] = None
code_of (byte ∷ bytes) = coded_whole (byte ∷ bytes)

-- the bytes of a code, opened to at most `room` bytes
unfoldable pub opened_whole : ℕ → List ℕ → Option (List ℕ)
opened_whole room code = unpacked contexts learned room nothing_learned whole code

-- the body of a code, of at most `room` bytes; no bytes are a code of none
abbrev pub body_of : ℕ → List ℕ → Option (List ℕ)
body_of room [] = None
body_of room (byte ∷ bytes) = opened_whole room (byte ∷ bytes)

-- what an answer says, whose bytes are at the front of the buffer
abbrev pub answered : Option ℕ → List ℕ → Option (List ℕ)
answered None out = None
answered (Some n) out = Some (take n out)
