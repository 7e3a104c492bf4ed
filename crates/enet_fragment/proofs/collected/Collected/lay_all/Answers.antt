use Rattle.std.proofs.Common.{◌≡◌, ◌∙◌, ap, replicate}
use Rattle.enet_fragment.specs.Collected.{laid}
use Rattle.enet_fragment.specs.Private.Assembly.{filled_up}
use Rattle.enet_fragment.proofs.Held.{filled_up-none}
use Rattle.enet_fragment.proofs.Collecting.{together-contents}
use Rattle.enet_fragment.proofs.collected.Collected.lay_all.Goals as goal

pub returns-clause-bytes : goal.returns-clause-bytes
returns-clause-bytes c =
    let s = c.args.self.now in
    let before = c.lay.new.buffer.items in
    let empty = filled_up-none c.args.all.now.items c.args.total c.requires.empty in
    let laid_is : filled_up c.args.total before ≡ laid (replicate c.args.total 0) s.early.items =
    rw (← c.deref.ensures.value) (c.lay.ensures.bytes ∙ ap (λ b. laid b c.deref.result.now) empty) in
    together-contents c.args.total s before c.write_at.new.buffer.items c.requires.collected laid_is (rw (← c.deref-2.ensures.value) c.write_at.ensures.bytes)
