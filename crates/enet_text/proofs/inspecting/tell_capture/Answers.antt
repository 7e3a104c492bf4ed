use Rattle.std.proofs.Common.{◌≡◌, ◌++◌, ◌<◌, ◌*◌, ℕ, [], List, length, codes, subst, ap, ◌∙◌, arith, rules}
use Rattle.std.proofs.KnownBytes.{Appends-nil, Appends-trans}
use Rattle.std.specs.Fmt.{decimal}
use Rattle.std.specs.Io.KnownBytes.{Appends}
use Rattle.std.specs.String.{string_bytes}
use Rattle.enet_text.specs.Captures.{TellsPackets, begun, begun_of, begun_text, moment, since_begun}
use Rattle.enet_text.proofs.Joins.{if_ok}
use Rattle.enet_text.proofs.Packets.{in_parts, none_left, one_passed_over, one_told, told_since}
use Rattle.enet_text.proofs.inspecting.tell_capture.Goals as goal

short : (n : ℕ) → n * 1 < 9223372036854775808 → n < 9223372036854775808
short n h = omega arith

pub packets-init : goal.packets-init
packets-init g c = (omega arith, ([], Appends-nil _, begun))

pub packets-preserved-in-Some-datagram_in : goal.packets-preserved-in-Some-datagram_in
packets-preserved-in-Some-datagram_in g c =
    let past = c.packets.invariant in
    let more : List ℕ = string_bytes c.fill_captured.new.text in
    let next = one_told c.args.bodies c.args.format c.args.packets.now c.packets.rest.now c.in-Some.behind.now past.1.0 more c.packets.told c.packets.others
    c.saturating_add-told.result c.in-Some.captured c.in-Some-datagram_in.datagram past.0 (short _ c.well_formed.1.1.1.0.1) past.1.2 c.in-Some.ensures.packet
    c.in-Some-datagram_in.ensures
    (told_since c.args.bodies c.packets.told c.args.format c.in-Some.captured c.in-Some-datagram_in.datagram (begun_of c.args.format c.args.packets.now) _ more
    (c.since_begun-since.ensures
    ∙ ap (λ b. since_begun b (moment c.in-Some.captured.seconds c.in-Some.captured.parts c.args.format.nanoseconds)) c.begun_at-begun.ensures)
    c.in_ok-fill_captured-in-Some-datagram_in.ensures)
    c.saturating_add-told.ensures in (
      next.0,
      (past.1.0 ++ more, Appends-trans _ _ _ past.1.0 more past.1.1 (subst (Appends _ _) c.as_str.ensures.value c.in_ok-write_text-in-Some-datagram_in.ensures.wrote), next.1),
    )

pub packets-preserved : goal.packets-preserved
packets-preserved g c =
    let past = c.packets.invariant in
    let next = one_passed_over c.args.bodies c.args.format c.args.packets.now c.packets.rest.now c.in-Some.behind.now past.1.0 c.packets.told c.packets.others
    c.saturating_add-others.result c.in-Some.captured past.0 (short _ c.well_formed.1.1.1.0.1) past.1.2 c.in-Some.ensures.packet c.saturating_add-others.ensures in
    (next.0, (past.1.0, past.1.1, next.1))

pub returns-clause-whole : goal.returns-clause-whole
returns-clause-whole g c =
    let past = c.packets.invariant in
    let none : length c.packets.rest.now ≡ 0 = search rules in
    let nanoseconds = c.args.format.nanoseconds in
    let since : List ℕ = begun_text (begun_of c.args.format c.args.packets.now) nanoseconds in
    let line : List ℕ = decimal c.packets.others ++ codes " other packets" ++ since ++ codes "\n" in
    let said : string_bytes c.in_ok-text.text ≡ line =
    c.in_ok-text.ensures ∙ ap (λ b. decimal c.packets.others ++ codes " other packets" ++ begun_text b nanoseconds ++ codes "\n") c.begun_at-begun.ensures in
    if_ok c.write_text-2.result (λ wrote. (
      past.1.0 ++ line,
      Appends-trans _ _ _ past.1.0 line past.1.1 (subst (Appends _ _) (c.as_str-2.ensures.value ∙ said) wrote),
      record {
        datagrams = c.packets.told;
        others = c.packets.others;
        told = past.1.0;
        tells = subst (λ l. TellsPackets c.args.bodies c.args.format c.args.packets.now l past.1.0 c.packets.told c.packets.others) (none_left c.packets.rest.now none) past.1.2;
        text_is = in_parts past.1.0 (decimal c.packets.others) (codes " other packets") since (codes "\n");
      },
    )) c.write_text-2.ensures.wrote
