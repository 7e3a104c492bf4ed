use Rattle.std.proofs.Common.{◌≡◌, ◌<◌, length, arith}
use Rattle.enet_fragment.specs.declared.collected.Collected.{Collected}
use Rattle.enet_fragment.proofs.Collecting.{early-contents, early-within, early-sum, over-front}
use Rattle.enet_fragment.proofs.collected.Collected.put.Goals as goal

pub returns-then-not-is_empty-clause-written : goal.returns-then-not-is_empty-clause-written
returns-then-not-is_empty-clause-written c = λ _.
    let s = c.args.self.now in
    let some : 0 < length s.front.items = grind (arith, c.is_empty.ensures, c.if-not-is_empty.true, s.front.ok.0) in
    let gathered = c.requires.collected.gathered some in
    let after : Collected = record { front = c.write_at.new.buffer; front_room = s.front_room; early = s.early; early_bytes = s.early_bytes } in
    over-front c.args.total c.args.offset c.args.bytes.now s after gathered.1 gathered.1 c.requires.fits c.write_at.ensures.bytes

pub returns-then-is_kept-clause-collected : goal.returns-then-is_kept-clause-collected
returns-then-is_kept-clause-collected c =
    let s = c.args.self.now in
    let none : length s.front.items ≡ 0 = grind (arith, c.is_empty.ensures, c.if-not-is_empty.false, s.front.ok.0) in
    let more = c.keep-is_kept.ensures.kept c.if-is_kept.true in
    record {
      within = c.requires.collected.within;
      roomy = c.requires.collected.roomy;
      gathered = λ some. absurd (omega arith);
      placed = early-within c.args.total c.args.offset c.args.bytes.now s.early.items c.keep-is_kept.new.early.items c.requires.collected.placed c.requires.fits more;
      counted = omega (arith, early-sum c.args.offset c.args.bytes.now s.early.items c.keep-is_kept.new.early.items more, c.saturating_add-come.ensures, c.requires.collected.counted);
    }

pub returns-then-is_kept-clause-written : goal.returns-then-is_kept-clause-written
returns-then-is_kept-clause-written c = λ is_kept.
    let s = c.args.self.now in
    let none : length s.front.items ≡ 0 = grind (arith, c.is_empty.ensures, c.if-not-is_empty.false, s.front.ok.0) in
    early-contents c.args.total c.args.offset c.args.bytes.now s.front.items s.early.items c.keep-is_kept.new.early.items c.requires.collected.placed (omega arith) c.requires.fits (c.keep-is_kept.ensures.kept is_kept)
