use Rattle.std.proofs.Common.{◌≡◌, ◌<◌, Some, length, refl, sym, ap, ◌∙◌, arith}
use Rattle.enet_fragment.specs.PartialPacket.{PartialPacket, count_of}
use Rattle.enet_fragment.specs.Whole.{whole_of, is_whole}
use Rattle.enet_fragment.specs.Collected.{contents}
use Rattle.enet_fragment.specs.Stored.{stored}
use Rattle.enet_fragment.proofs.Places.{Fits, Fits-from_test}
use Rattle.enet_fragment.proofs.Wholes.{is_whole-missing, is_whole-still}
use Rattle.enet_fragment.proofs.partial_packet.grown.Goals as goal

pub told_piece_len-requires : goal.told_piece_len-requires
told_piece_len-requires c = (Fits-from_test (stored c.args.store) c.args.place c.requires.belongs).sound.below

pub returns-in-Ok-clause-ok : goal.returns-in-Ok-clause-ok
returns-in-Ok-clause-ok c =
    let fits : Fits (stored c.args.store) c.args.place = Fits-from_test (stored c.args.store) c.args.place c.requires.belongs in
    ap (λ n. whole_of c.in-Ok.body n (Some c.told_piece_len.result)) fits.count
    ∙ (ap (λ t. whole_of c.in-Ok.body (count_of (stored c.args.store)) (Some t)) c.told_piece_len.ensures ∙ c.in-Ok.ensures.ok)

pub returns-in-Ok-clause-kept : goal.returns-in-Ok-clause-kept
returns-in-Ok-clause-kept c =
    let fits : Fits (stored c.args.store) c.args.place = Fits-from_test (stored c.args.store) c.args.place c.requires.belongs in
    let below : c.args.place.number < c.args.place.count = fits.sound.below in
    let long : length c.in-Ok.body ≡ c.args.store.total = c.in-Ok.ensures.len in
    (omega arith, omega arith)

pub returns-in-Err-clause-handed_back : goal.returns-in-Err-clause-handed_back
returns-in-Err-clause-handed_back c = (
  ap (λ (m : PartialPacket). is_whole m) c.in-Err.ensures.err ∙ is_whole-missing (stored c.args.store) c.args.place c.requires.belongs c.requires.missing,
  c.in-Err.ensures.stored,
  c.in-Err.ensures.frugal c.requires.stored.1,
)

pub returns-in-Ok-add-clause-kept : goal.returns-in-Ok-add-clause-kept
returns-in-Ok-add-clause-kept c =
    let s = c.args.store in (
      is_whole-still (contents s.total s.bytes) c.args.bytes.now s.came s.missing s.cut (stored s) (stored c.add.new.self) c.args.place c.in-Ok-add.ensures.ok c.requires.stored.0.kept refl c.requires.belongs c.requires.missing (sym c.misses_one.ensures ∙ c.if-misses_one.false),
      c.add.ensures.stored,
      c.add.ensures.frugal c.requires.stored.1,
    )

pub returns-in-Err-add-clause-handed_back : goal.returns-in-Err-add-clause-handed_back
returns-in-Err-add-clause-handed_back c = (
  ap (λ (m : PartialPacket). is_whole m) c.in-Err-add.ensures.err ∙ is_whole-missing (stored c.args.store) c.args.place c.requires.belongs c.requires.missing,
  c.add.ensures.stored,
  c.add.ensures.frugal c.requires.stored.1,
)
