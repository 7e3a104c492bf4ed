use Rattle.std.proofs.Common.{◌≡◌, ◌&&◌, Bool, eqb, length, sym, ap, ◌∙◌}
use Rattle.enet_fragment.specs.Place.{is_sound}
use Rattle.enet_fragment.specs.PartialPacket.{PartialPacket, belongs, is_same_cut}
use Rattle.enet_fragment.proofs.Wholes.{belongs-whole_of, whole_seen, both, neither, last_test, no_last_test}
use Rattle.enet_fragment.proofs.partial_packet.PartialPacket.belongs.Goals as goal
use Rattle.enet_fragment.proofs.partial_packet.PartialPacket.belongs.Goals.{then-is_sound, else-is_sound}

pub returns-then-is_of_size : goal.returns-then-is_of_size
returns-then-is_of_size c =
    let size : Bool = eqb c.args.place.count c.in-Whole.count && eqb c.args.place.total (length c.in-Whole.body) in
    let tests : c.if-is_sound.value ≡ (is_sound c.args.place && size) = elim c.if-is_sound.branch [
      | then-is_sound w ↦ both _ _ _ _ w.value-is (w.is_of_size.ensures ∙ ap (λ n. eqb c.args.place.count c.in-Whole.count && eqb c.args.place.total n) w.len.ensures.value) (sym c.is_sound.ensures.value ∙ w.if-is_sound.true)
      | else-is_sound w ↦ neither _ _ _ (w.value-is ∙ w.if-is_sound.false) (sym c.is_sound.ensures.value ∙ w.if-is_sound.false)
    ] in
    let here = whole_seen _ _ _ _ _ c.self.view_is c.in-Whole.is in
    c.has_same_cut.ensures
    ∙ (ap (λ n. is_same_cut c.in-Whole.cut n) c.told_piece_len.ensures
    ∙ last_test c.if-is_sound.value (is_sound c.args.place && size) _ _ tests c.if-is_of_size.true
    (ap (λ (m : PartialPacket). belongs m c.args.place) (sym here) ∙ belongs-whole_of c.in-Whole.body c.in-Whole.count c.in-Whole.cut c.args.place))

pub returns-else-is_of_size : goal.returns-else-is_of_size
returns-else-is_of_size c =
    let size : Bool = eqb c.args.place.count c.in-Whole.count && eqb c.args.place.total (length c.in-Whole.body) in
    let tests : c.if-is_sound.value ≡ (is_sound c.args.place && size) = elim c.if-is_sound.branch [
      | then-is_sound w ↦ both _ _ _ _ w.value-is (w.is_of_size.ensures ∙ ap (λ n. eqb c.args.place.count c.in-Whole.count && eqb c.args.place.total n) w.len.ensures.value) (sym c.is_sound.ensures.value ∙ w.if-is_sound.true)
      | else-is_sound w ↦ neither _ _ _ (w.value-is ∙ w.if-is_sound.false) (sym c.is_sound.ensures.value ∙ w.if-is_sound.false)
    ] in
    let here = whole_seen _ _ _ _ _ c.self.view_is c.in-Whole.is in
    no_last_test c.if-is_sound.value (is_sound c.args.place && size) _ _ tests c.if-is_of_size.false
    (ap (λ (m : PartialPacket). belongs m c.args.place) (sym here) ∙ belongs-whole_of c.in-Whole.body c.in-Whole.count c.in-Whole.cut c.args.place)
