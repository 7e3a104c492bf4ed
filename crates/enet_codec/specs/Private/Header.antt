-- The header of a datagram, and the bytes that spell it.
use Rattle.std.specs.Prelude.{◌≡◌, ℕ, List, Option, Some, None}
use Rattle.std.specs.Borrow.{Bor}
use Rattle.enet_codec.specs.declared.header.Header.{Header}

-- What a reader returned is what reading gives.
abbrev pub GivesHeader : Option (Header × Bor (List ℕ)) → Option (Header × List ℕ) → Type 0
GivesHeader None read = read ≡ None
GivesHeader (Some x) read = read ≡ Some (x.0, x.1.now)
