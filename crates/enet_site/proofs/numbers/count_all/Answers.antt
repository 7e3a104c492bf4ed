use Rattle.std.proofs.Common.{◌^◌, ℕ, List, subst, sym}
use Rattle.enet_site.specs.Records.{AreBelow}
use Rattle.enet_site.proofs.Bounds.{below-partly}
use Rattle.enet_site.proofs.numbers.count_all.Goals as goal

pub count-requires : goal.count-requires
count-requires c = record {
  room =
      subst (λ (l : List ℕ). AreBelow (2 ^ 127) l) (sym c.loop-mark.invariant)
      (below-partly c.args.marks.now c.args.greatest.now c.loop-mark.mark-index c.requires.few c.requires.room);
}
