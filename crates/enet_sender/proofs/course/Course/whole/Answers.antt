use Rattle.std.proofs.Common.{◌≡◌, ◌||◌, ◌&&◌, Bool, false, not, eqb, ltb, length, sym, ap, ◌∙◌, arith}
use Rattle.std.specs.Prelude.{◌/◌, ◌%◌}
use Rattle.std.proofs.lemmas.Bool.{le-ltb}
use Rattle.enet_fragment.specs.Cutting.{piece_length}
use Rattle.enet_sender.proofs.Courses.{piece_count-one}
use Rattle.enet_sender.proofs.course.Course.whole.Goals as goal

pub returns-clause-course : goal.returns-clause-course
returns-clause-course c =
    let len = length c.args.body.now in
    let short : ltb (piece_length c.args.mtu) len ≡ false = le-ltb _ _ c.requires.short in
    let goes : Bool → Bool = λ long. eqb (c.args.flags % 2) 1 || eqb c.args.unreliable 65535 || (long && not (eqb (c.args.flags / 8 % 2) 1)) in
    let reliable : c.goes_reliable.result ≡ goes (ltb (piece_length c.args.mtu) len) = c.goes_reliable.ensures ∙ sym (ap goes short) in
    let one = sym (piece_count-one len c.args.mtu (let low = c.requires.low in omega arith) c.requires.short) in
    let total = c.len.ensures.value in
    λ i. record { reliable = reliable i; number = c.args.number; unreliable = c.args.unreliable; pieces = one i; total = total i; mtu = c.args.mtu }
