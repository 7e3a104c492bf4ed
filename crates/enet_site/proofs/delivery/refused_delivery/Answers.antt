use Rattle.std.proofs.Common.{◌≡◌, true, false, sym, ap, ◌∙◌}
use Rattle.law_network.specs.Lateness.{has_late}
use Rattle.law_network.specs.Log.{Logged, greatest_at}
use Rattle.law_network.specs.Network.{is_earlier, numbers_in, end_of}
use Rattle.enet_site.specs.Records.{Records}
use Rattle.enet_site.specs.Sites.{site}
use Rattle.enet_site.specs.Private.Sites.{with_ends, unread}
use Rattle.enet_site.proofs.Refusing.{earlier-at, late-at}
use Rattle.enet_site.proofs.delivery.refused_delivery.Goals as goal

pub returns-then-is_earlier : goal.returns-then-is_earlier
returns-then-is_earlier c =
    let own : c.deref.result.now ≡ c.args.own.now.ends = c.deref.ensures.value ∙ ap (λ (r : Records). r.ends) c.own.view_is in
    λ address g.
    earlier-at (site c.args.from g c.args.far.now) (site address c.args.host.now c.args.own.now) _ c.in-Some.datagram.now c.in-Some.ensures
    (sym (λ i. is_earlier (with_ends c.args.host.now (own i)) c.args.from (unread (c.datagram.view_is i).connection c.args.from (c.datagram.view_is i).peer)) ∙ sym c.is_earlier.ensures ∙ c.if-is_earlier.true)

pub returns-then-comes_late : goal.returns-then-comes_late
returns-then-comes_late c =
    let own : c.deref.result.now ≡ c.args.own.now.ends = c.deref.ensures.value ∙ ap (λ (r : Records). r.ends) c.own.view_is in
    let from : c.deref-2.result.now ≡ c.args.far.now.ends = c.deref-2.ensures.value ∙ ap (λ (r : Records). r.ends) c.far.view_is in
    let to : c.deref-3.result.now ≡ c.args.own.now.ends = c.deref-3.ensures.value ∙ ap (λ (r : Records). r.ends) c.own.view_is in
    let marks : c.deref-4.result.now ≡ c.in-Some.datagram.now.marks = c.deref-4.ensures.value ∙ ap (λ (d : Logged). d.marks) c.datagram.view_is in
    λ address g.
    late-at (site c.args.from g c.args.far.now) (site address c.args.host.now c.args.own.now) _ c.in-Some.datagram.now true c.in-Some.ensures
    (sym (λ i. is_earlier (with_ends c.args.host.now (own i)) c.args.from (unread (c.datagram.view_is i).connection c.args.from (c.datagram.view_is i).peer)) ∙ sym c.is_earlier.ensures ∙ c.if-is_earlier.false)
    (sym (λ i. has_late (greatest_at (numbers_in (end_of (c.datagram.view_is i).connection (from i)))) (greatest_at (numbers_in (end_of (c.datagram.view_is i).connection (to i)))) (marks i)) ∙ sym c.comes_late.ensures ∙ c.if-comes_late.true)

pub returns : goal.returns
returns c =
    let own : c.deref.result.now ≡ c.args.own.now.ends = c.deref.ensures.value ∙ ap (λ (r : Records). r.ends) c.own.view_is in
    let from : c.deref-2.result.now ≡ c.args.far.now.ends = c.deref-2.ensures.value ∙ ap (λ (r : Records). r.ends) c.far.view_is in
    let to : c.deref-3.result.now ≡ c.args.own.now.ends = c.deref-3.ensures.value ∙ ap (λ (r : Records). r.ends) c.own.view_is in
    let marks : c.deref-4.result.now ≡ c.in-Some.datagram.now.marks = c.deref-4.ensures.value ∙ ap (λ (d : Logged). d.marks) c.datagram.view_is in
    λ address g.
    late-at (site c.args.from g c.args.far.now) (site address c.args.host.now c.args.own.now) _ c.in-Some.datagram.now false c.in-Some.ensures
    (sym (λ i. is_earlier (with_ends c.args.host.now (own i)) c.args.from (unread (c.datagram.view_is i).connection c.args.from (c.datagram.view_is i).peer)) ∙ sym c.is_earlier.ensures ∙ c.if-is_earlier.false)
    (sym (λ i. has_late (greatest_at (numbers_in (end_of (c.datagram.view_is i).connection (from i)))) (greatest_at (numbers_in (end_of (c.datagram.view_is i).connection (to i)))) (marks i)) ∙ sym c.comes_late.ensures ∙ c.if-comes_late.false)
