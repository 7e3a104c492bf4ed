use Rattle.std.proofs.Common.{◌≡◌, ◌≤◌, List, length, map, rules, ap, subst, sym, ◌∙◌}
use Rattle.std.proofs.lemmas.List.{with_items_is}
use Rattle.law_network.specs.declared.mark.Mark.{Mark}
use Rattle.law_network.specs.Log.{reached}
use Rattle.enet_site.proofs.Bounds.{few-marks}
use Rattle.enet_site.proofs.numbers.marks_of.Goals as goal

pub count_all-requires-clause-few : goal.count_all-requires-clause-few
count_all-requires-clause-few c =
    let same : c.deref.result.now ≡ c.read_marks.new.marks.items = search rules in
    let few : length c.read_marks.new.marks.items ≤ 32 = few-marks _ c.read_marks.new.marks.items c.read_marks.ensures in
    subst (λ (l : List Mark). length l ≤ 32) (sym same) few

pub returns : goal.returns
returns c =
    let long : length c.note_reach.new.marks ≡ c.shrink_to_fit.new.self.len = search rules in
    let was : c.deref_mut.result.now ≡ c.read_marks.new.marks.items = search rules in
    record {
      read = c.read_marks.new.marks.items;
      marked = search rules;
      counted = search rules;
      noted =
          with_items_is c.shrink_to_fit.new.self c.note_reach.new.marks long
          ∙ (c.note_reach.ensures ∙ ap (λ (x : List Mark). map (reached c.count_all.new.greatest c.args.other.now) x) was);
    }
