use Rattle.std.proofs.Common.{◌≡◌, ◌≤◌, ◌+◌, false, eqb, cond, length, sym, ap, ◌∙◌, arith}
use Rattle.std.proofs.lemmas.Bool.Decides.{nat_tests}
use Rattle.enet_fragment.specs.declared.assembly.Put.TheVariants.{New, Whole, Bad}
use Rattle.enet_fragment.specs.PartialPacket.{PartialPacket, nothing_yet, put_outcome, with_piece, belongs}
use Rattle.enet_fragment.specs.Stored.{stored}
use Rattle.enet_fragment.specs.Whole.{single_of, is_whole}
use Rattle.enet_fragment.proofs.Places.{Sound, Sound-from_test}
use Rattle.enet_fragment.proofs.Laws.{belongs-first, put_outcome-first, alone-made, is_whole-more}
use Rattle.enet_fragment.proofs.partial_packet.PartialPacket.first.Goals as goal

pub single-requires : goal.single-requires
single-requires c =
    let s : Sound c.args.place = Sound-from_test c.args.place c.requires.sound in
    let ends : c.args.place.offset + c.args.place.len ≤ c.args.place.total = s.ends in
    let long : length c.in-Ok.body ≡ length c.args.bytes.now = ap length c.in-Ok.ensures in
    omega arith

pub returns-in-Ok-clause-ok : goal.returns-in-Ok-clause-ok
returns-in-Ok-clause-ok c =
    c.single.ensures
    ∙ (ap (λ b. single_of b) c.in-Ok.ensures
    ∙ sym (alone-made c.args.place c.args.bytes.now c.requires.sound c.if-place-eq1.true c.requires.fits))

pub new-requires : goal.new-requires
new-requires c =
    let s : Sound c.args.place = Sound-from_test c.args.place c.requires.sound in
    omega (arith, s.below)

pub add-requires-clause-belongs : goal.add-requires-clause-belongs
add-requires-clause-belongs c =
    ap (λ (m : PartialPacket). belongs m c.args.place) c.in_ok-store.ensures.ok ∙ (belongs-first c.args.place ∙ c.requires.sound)

pub invariant_of-result : goal.invariant_of-result
invariant_of-result c =
    let more : eqb c.args.place.count 1 ≡ false = grind (arith, nat_tests) in
    let new : put_outcome (nothing_yet c.args.place.count c.args.place.total) c.args.place ≡ New =
    put_outcome-first c.args.place ∙ (ap (λ s. cond s (cond (eqb c.args.place.count 1) Whole New) Bad) c.requires.sound ∙ ap (λ a. cond a Whole New) more) in
    let made : stored c.add.new.self ≡ with_piece (nothing_yet c.args.place.count c.args.place.total) c.args.place c.args.bytes.now =
    c.in_ok-add.ensures.ok ∙ ap (λ (m : PartialPacket). with_piece m c.args.place c.args.bytes.now) c.in_ok-store.ensures.ok in
    (ap (λ (m : PartialPacket). is_whole m) made ∙ is_whole-more _ c.args.place c.args.bytes.now new, c.add.ensures.stored, c.add.ensures.frugal c.in_ok-store.ensures.frugal)
