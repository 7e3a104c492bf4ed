use Rattle.std.proofs.Common.{List, ℕ, length, refl, sym, ap, ◌∙◌}
use Rattle.enet_fragment.specs.PartialPacket.{count_of}
use Rattle.enet_fragment.specs.Collected.{contents}
use Rattle.enet_fragment.specs.Stored.{stored}
use Rattle.enet_fragment.specs.Whole.{whole_of}
use Rattle.enet_fragment.proofs.Held.{take-filled}
use Rattle.enet_fragment.proofs.Views.{joined-making}
use Rattle.enet_fragment.proofs.Wholes.{whole_of-making}
use Rattle.enet_fragment.proofs.Collecting.{length-contents}
use Rattle.std.proofs.lemmas.Result.{IfOk-weaker}
use Rattle.enet_fragment.proofs.piece_store.PieceStore.body.Goals as goal

pub returns-clause-ok : goal.returns-clause-ok
returns-clause-ok c =
    let s = c.args.self.now in
    let all = length-contents s.total s.bytes c.requires.stored.collected in
    let is = take-filled s.total c.in_ok-all.all.items (contents s.total s.bytes) c.in_ok-all.ensures.bytes all in
    IfOk-weaker c.finished.result _ _ (λ body e. e ∙ (is ∙ sym (joined-making _ _ _ _ (stored s) refl c.requires.stored.kept.counted c.requires.stored.kept.some_piece c.requires.whole))) c.finished.ensures.ok

pub returns-clause-whole : goal.returns-clause-whole
returns-clause-whole c =
    let s = c.args.self.now in
    let all = length-contents s.total s.bytes c.requires.stored.collected in
    let is = take-filled s.total c.in_ok-all.all.items (contents s.total s.bytes) c.in_ok-all.ensures.bytes all in
    IfOk-weaker c.finished.result _ _ (λ body e. ap (λ b. whole_of b (count_of (stored s)) s.cut) (e ∙ is) ∙ whole_of-making (contents s.total s.bytes) s.came s.missing s.cut (stored s) refl c.requires.stored.kept.counted c.requires.whole) c.finished.ensures.ok

pub returns-clause-len : goal.returns-clause-len
returns-clause-len c =
    let s = c.args.self.now in
    let all = length-contents s.total s.bytes c.requires.stored.collected in
    let is = take-filled s.total c.in_ok-all.all.items (contents s.total s.bytes) c.in_ok-all.ensures.bytes all in
    IfOk-weaker c.finished.result _ _ (λ body e. ap (λ (b : List ℕ). length b) (e ∙ is) ∙ all) c.finished.ensures.ok
