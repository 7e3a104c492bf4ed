use Rattle.std.proofs.Common.{rules}
use Rattle.enet_text.proofs.PieceLemmas.{line-read}
use Rattle.enet_text.proofs.words.first_word.Goals as goal

pub returns : goal.returns
returns c = line-read c.args.line.now c.piece.result c.piece.ensures
