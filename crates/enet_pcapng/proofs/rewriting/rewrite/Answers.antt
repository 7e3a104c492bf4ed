use Rattle.std.proofs.Common.{◌≡◌, [], ◌∷◌, ◌∙◌, length, refl, sym, subst, inl, inr, None, rules}
use Rattle.enet_pcapng.specs.declared.block.Order.TheVariants.{Big}
use Rattle.enet_pcapng.specs.declared.packet.Section.{Section}
use Rattle.enet_pcapng.specs.Rewritten.{Rewrites, begun, further, head_text}
use Rattle.enet_pcapng.proofs.Joins.{if_ok, none_left, nothing, with_cut}
use Rattle.enet_pcapng.proofs.Places.{fewer}
use Rattle.enet_pcapng.proofs.rewriting.rewrite.Goals as goal

pub blocks-2-init : goal.blocks-2-init
blocks-2-init c =
    let section : Section = record { order = Big; interfaces = c.new.result; link = None } in
    subst (λ packets. Rewrites c.args.input.now section c.args.input.now packets) (sym c.new-packets.ensures.items)
    (begun section refl c.new.ensures.items refl)

pub returns-in_default : goal.returns-in_default
returns-in_default c =
    if_ok c.with_head.result (λ classic is. record {
      section = c.blocks-2.section;
      left = c.blocks-2.rest.now;
      packets = c.blocks-2.packets.items;
      cut = 0 ∷ [];
      rewrites = c.blocks-2.invariant;
      classic_is = with_cut (head_text c.blocks-2.section.link) c.blocks-2.packets.items (0 ∷ []) c.as_slice.result.now _ is (search rules);
      ended = inr (c.in_default.ensures.none, refl);
    }) c.with_head.ensures

pub blocks-2-smaller : goal.blocks-2-smaller
blocks-2-smaller c = fewer _ _ _ _ c.in-Some.ensures.block

pub blocks-2-preserved : goal.blocks-2-preserved
blocks-2-preserved c =
    let took = c.in_ok-take_block.ensures in
    subst (λ packets. Rewrites c.args.input.now c.take_block.new.section c.in-Some.behind.now packets) (sym took.2)
    (further c.blocks-2.section c.take_block.new.section c.blocks-2.rest.now c.in-Some.behind.now c.blocks-2.packets.items took.0 c.in-Some.block
    c.blocks-2.invariant c.in-Some.ensures.block took.1)

pub returns : goal.returns
returns c =
    let none : length c.blocks-2.rest.now ≡ 0 = search rules in
    if_ok c.with_head-2.result (λ classic is. record {
      section = c.blocks-2.section;
      left = c.blocks-2.rest.now;
      packets = c.blocks-2.packets.items;
      cut = [];
      rewrites = c.blocks-2.invariant;
      classic_is = with_cut (head_text c.blocks-2.section.link) c.blocks-2.packets.items [] c.as_slice-2.result.now _ is
          (c.as_slice-2.ensures.value ∙ nothing c.blocks-2.packets.items);
      ended = inl (none_left c.blocks-2.rest.now none, refl);
    }) c.with_head-2.ensures
