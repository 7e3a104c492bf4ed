use Rattle.std.proofs.Common.{◌≡◌, length}
use Rattle.enet_text.specs.Words.{letter, unquoted}
use Rattle.enet_text.proofs.QuoteLemmas.{ahead}
use Rattle.enet_text.proofs.quotes.unquoted.Given as goal

abbrev pub invariant-loop-byte : goal.invariant-loop-byte
invariant-loop-byte l = unquoted letter l.text ≡ ahead l.bytes.items (unquoted letter l.rest)

abbrev pub decreases-loop-byte : goal.decreases-loop-byte
decreases-loop-byte l = length l.rest
