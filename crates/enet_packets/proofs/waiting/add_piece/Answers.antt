use Rattle.std.proofs.Common.{◌≡◌, Some, None, sym, ap, subst, ◌∙◌}
use Rattle.std.specs.Ordering.{nat_cmp}
use Rattle.std.specs.Option.{IsSomeAnd}
use Rattle.std.specs.Map.{lookup, set_value}
use Rattle.std.specs.BTreeMap.{is_at, insert_entry}
use Rattle.std.specs.FinMap.{get, insert, get-empty}
use Rattle.enet_fragment.specs.PartialPacket.{with_piece}
use Rattle.enet_packets.specs.Private.Invariant.{line_in}
use Rattle.enet_packets.proofs.Maps.{set_value-same, set_value-insert}
use Rattle.enet_packets.proofs.PacketLemmas.{on_ok, on_err}
use Rattle.enet_packets.proofs.LineLemmas.{Line, fits_into, line_there, line_absent, keeps-same, same_size}
use Rattle.enet_packets.proofs.waiting.add_piece.Goals as goal

pub returns-in-Some-clause-ok : goal.returns-in-Some-clause-ok
returns-in-Some-clause-ok c =
    let es = c.args.lines.now.entries in
    let number = c.args.number in
    let line : Line = c.in-Some.line.now in
    let there : lookup (is_at (nat_cmp number)) es ≡ Some line = sym c.in-Some.ensures.value in
    let at = line_there es number line there in
    on_ok c.add.result _ _ (λ h coming e.
    (c.get_mut.follows.holds c.add.new.self).0
    ∙ set_value-insert number es line c.add.new.self c.get_mut.ensures.ordered there
    ∙ ap (insert_entry nat_cmp es number)
    (h coming (ap (λ (m : Line). get m c.args.count) (sym at) ∙ e)
    ∙ ap (λ (m : Line). insert m c.args.count (record { flags = coming.flags; making = with_piece coming.making c.args.place c.args.bytes.now })) (sym at)))
    c.add.ensures.ok

pub returns-in-Some-clause-err : goal.returns-in-Some-clause-err
returns-in-Some-clause-err c =
    let es = c.args.lines.now.entries in
    let test = is_at (nat_cmp c.args.number) in
    let line : Line = c.in-Some.line.now in
    let there : lookup test es ≡ Some line = sym c.in-Some.ensures.value in
    on_err c.add.result _ _ (λ h. (c.get_mut.follows.holds c.add.new.self).0 ∙ ap (set_value test es) h ∙ set_value-same test es line there) c.add.ensures.err

pub returns-in-Some-clause-kept : goal.returns-in-Some-clause-kept
returns-in-Some-clause-kept c = λ packets bytes keeps.
    let es = c.args.lines.now.entries in
    let number = c.args.number in
    let line : Line = c.in-Some.line.now in
    let there : lookup (is_at (nat_cmp number)) es ≡ Some line = sym c.in-Some.ensures.value in
    let at = line_there es number line there in
    let size = same_size c.add.result line c.add.new.self c.args.count c.args.place c.args.bytes.now (fits_into c.args.place)
    (subst (λ (m : Line). IsSomeAnd (get m c.args.count) (fits_into c.args.place)) at c.requires.there) c.add.ensures.ok c.add.ensures.err in
    keeps-same es _ packets bytes number line c.add.new.self there size.0 size.1 (c.get_mut.follows.holds c.add.new.self).0 keeps

pub returns-in-None-clause-ok : goal.returns-in-None-clause-ok
returns-in-None-clause-ok c = λ coming e.
    let es = c.args.lines.now.entries in
    let none : get (line_in es c.args.number) c.args.count ≡ None =
    ap (λ (m : Line). get m c.args.count) (line_absent es c.args.number (sym c.in-None.ensures.value)) ∙ get-empty nat_cmp c.args.count in
    absurd (cc)
