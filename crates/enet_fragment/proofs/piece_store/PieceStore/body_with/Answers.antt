use Rattle.std.proofs.Common.{◌≡◌, ◌+◌, ◌≤◌, ◌++◌, List, ℕ, length, refl, ap, ◌∙◌, arith}
use Rattle.enet_fragment.specs.Place.{told_piece_len}
use Rattle.enet_fragment.specs.Collected.{contents, written_at}
use Rattle.enet_fragment.specs.Private.Assembly.{filled_up}
use Rattle.enet_fragment.specs.Stored.{stored}
use Rattle.enet_fragment.proofs.Pieces.{length-written_at}
use Rattle.enet_fragment.proofs.Held.{take-filled, filled_up-written}
use Rattle.enet_fragment.proofs.Wholes.{last-whole}
use Rattle.enet_fragment.proofs.Frugal.{thrifty-still, both_refused}
use Rattle.enet_fragment.proofs.Collecting.{length-contents, ends-within, end-written}
use Rattle.std.proofs.lemmas.Result.{IfOk-weaker}
use Rattle.enet_fragment.proofs.piece_store.PieceStore.body_with.Goals as goal

pub is_end-requires : goal.is_end-requires
is_end-requires c = ends-within c.args.self.now c.args.place c.args.bytes.now c.requires.stored c.requires.belongs c.requires.fits

pub returns-then-is_end-clause-ok : goal.returns-then-is_end-clause-ok
returns-then-is_end-clause-ok c =
    let s = c.args.self.now in
    let new = c.args.bytes.now in
    let is : s.bytes.front.items ++ new ≡ written_at c.args.place.offset new (contents s.total s.bytes) =
    end-written s.total c.args.place.offset new s.bytes c.requires.stored.collected (c.if-is_end.ensures.order refl) (c.if-is_end.ensures.end refl) in
    IfOk-weaker c.hand_on.result _ _ (λ body e. last-whole (contents s.total s.bytes) new body s.came s.missing s.cut (stored s) c.args.place (told_piece_len c.args.place) (e ∙ is) refl c.requires.stored.kept refl c.requires.belongs c.requires.missing c.requires.fits c.requires.last) c.hand_on.ensures.ok

pub returns-then-is_end-clause-frugal : goal.returns-then-is_end-clause-frugal
returns-then-is_end-clause-frugal c =
    let s = c.args.self.now in
    both_refused c.hand_on.result (λ same thrifty frugal. thrifty-still (contents s.total s.bytes) (contents s.total c.hand_on.new.self) s.came s.cut c.hand_on.new.self same (thrifty _ _ frugal)) c.hand_on.ensures.same c.hand_on.ensures.thrifty

pub write_at-requires : goal.write_at-requires
write_at-requires c = omega (arith, ends-within c.args.self.now c.args.place c.args.bytes.now c.requires.stored c.requires.belongs c.requires.fits, c.in_ok-all.ensures.room)

pub returns-clause-ok : goal.returns-clause-ok
returns-clause-ok c =
    let s = c.args.self.now in
    let new = c.args.bytes.now in
    let at = c.args.place.offset in
    let ends : at + length new ≤ s.total = ends-within s c.args.place new c.requires.stored c.requires.belongs c.requires.fits in
    let all : length (contents s.total s.bytes) ≡ s.total = length-contents s.total s.bytes c.requires.stored.collected in
    let filled : filled_up s.total c.write_at.new.buffer.items ≡ written_at at new (contents s.total s.bytes) =
    ap (λ b. filled_up s.total b) c.write_at.ensures.bytes ∙ (filled_up-written s.total at new c.in_ok-all.all.items ends ∙ ap (λ b. written_at at new b) c.in_ok-all.ensures.bytes) in
    let long : length (written_at at new (contents s.total s.bytes)) ≡ s.total = length-written_at at new (contents s.total s.bytes) (omega arith) ∙ all in
    let is = take-filled s.total c.write_at.new.buffer.items (written_at at new (contents s.total s.bytes)) filled long in
    IfOk-weaker c.finished.result _ _ (λ body e. last-whole (contents s.total s.bytes) new body s.came s.missing s.cut (stored s) c.args.place (told_piece_len c.args.place) (e ∙ is) refl c.requires.stored.kept refl c.requires.belongs c.requires.missing c.requires.fits c.requires.last) c.finished.ensures.ok

pub returns-clause-len : goal.returns-clause-len
returns-clause-len c =
    let s = c.args.self.now in
    let new = c.args.bytes.now in
    let at = c.args.place.offset in
    let ends : at + length new ≤ s.total = ends-within s c.args.place new c.requires.stored c.requires.belongs c.requires.fits in
    let all : length (contents s.total s.bytes) ≡ s.total = length-contents s.total s.bytes c.requires.stored.collected in
    let filled : filled_up s.total c.write_at.new.buffer.items ≡ written_at at new (contents s.total s.bytes) =
    ap (λ b. filled_up s.total b) c.write_at.ensures.bytes ∙ (filled_up-written s.total at new c.in_ok-all.all.items ends ∙ ap (λ b. written_at at new b) c.in_ok-all.ensures.bytes) in
    let long : length (written_at at new (contents s.total s.bytes)) ≡ s.total = length-written_at at new (contents s.total s.bytes) (omega arith) ∙ all in
    let is = take-filled s.total c.write_at.new.buffer.items (written_at at new (contents s.total s.bytes)) filled long in
    IfOk-weaker c.finished.result _ _ (λ body e. ap (λ (b : List ℕ). length b) (e ∙ is) ∙ long) c.finished.ensures.ok
