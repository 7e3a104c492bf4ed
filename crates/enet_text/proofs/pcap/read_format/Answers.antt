use Rattle.std.proofs.Common.{bit_and, sym, ap, ◌∙◌}
use Rattle.enet_text.specs.Captures.{link_of}
use Rattle.enet_text.proofs.Packets.{link_number, once}
use Rattle.enet_text.proofs.pcap.read_format.Goals as goal

pub returns-clause-format : goal.returns-clause-format
returns-clause-format c =
    let cut = c.in-Some-split_at_checked.ensures.cases in
    let number = c.unwrap_or-number.ensures ∙ link_number c.u32_at.result c.in-Some-split_at_checked.beginning.now c.in-Some.order cut.3 c.u32_at.ensures in
    record {
      head = c.in-Some-split_at_checked.beginning.now;
      head_len = cut.3;
      input_is = once _ _ _ 24 cut.1 cut.2;
      magic_is = sym c.magic.ensures ∙ c.in-Some.is;
      link_is = ap (λ n. link_of (bit_and n 0x0fffffff)) (sym number) ∙ sym c.link_of.ensures ∙ c.in-Some-link_of.is;
    }
