use Rattle.std.proofs.Common.{◌≡◌, ◌+◌, drop}
use Rattle.enet_text.specs.declared.words.Quoting.TheVariants.{Outside}
use Rattle.enet_text.specs.Private.Pieces.{piece_end}
use Rattle.enet_text.proofs.words.word_end.Given as goal

abbrev pub invariant-bytes : goal.invariant-bytes
invariant-bytes l = piece_end Outside l.text ≡ l.i + piece_end l.quoting (drop l.i l.text)
