use Rattle.std.specs.List.{range_with_len}
use Rattle.std.proofs.Common.{map, ◌∷◌, [], ◌++◌, List, ℕ, sym, ap, ◌∙◌, arith}
use Rattle.std.proofs.lemmas.List.FromFn.{map-range_with_len_more}
use Rattle.enet_fragment.specs.Cutting.{piece_length}
use Rattle.enet_sender.specs.Sender.{piece_of_body}
use Rattle.enet_sender.proofs.outgoing.cut_all.Goals as goal

pub loop-i-preserved : goal.loop-i-preserved
loop-i-preserved c =
    let piece = piece_of_body (piece_length c.args.course.mtu) c.args.body.now in
    record {
      items = c.push_back_reserved.ensures.items ∙ ap (λ (xs : List (List ℕ)). xs ++ c.in_ok-cut.field-0 ∷ []) c.loop-i.invariant.items
          ∙ ap (λ (x : List ℕ). map piece (range_with_len 0 c.loop-i.i) ++ x ∷ []) c.in_ok-cut.ensures ∙ sym (map-range_with_len_more piece 0 c.loop-i.i c.loop-i.i (omega arith));
      len = omega (arith, c.push_back_reserved.ensures.len, c.loop-i.invariant.len);
      room = omega (arith, c.push_back_reserved.ensures.capacity, c.loop-i.invariant.room);
    }
