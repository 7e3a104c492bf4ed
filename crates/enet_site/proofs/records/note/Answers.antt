use Rattle.std.proofs.Common.{◌≡◌, ◌^◌, ℕ, List, length, rules, sym, ap, subst, ◌∙◌, slice_set}
use Rattle.std.proofs.lemmas.List.{with_items_is}
use Rattle.enet_codec.specs.declared.header.Header.{Header}
use Rattle.enet_peer.specs.Heading.{IsRead}
use Rattle.law_network.specs.Marks.{Counts}
use Rattle.law_network.specs.Network.{HostEnd}
use Rattle.enet_site.specs.Records.{AreBelow}
use Rattle.enet_site.proofs.Ends.{placed, with-one}
use Rattle.enet_site.proofs.records.note.Goals as goal

pub marks_of-marks-requires-clause-below : goal.marks_of-marks-requires-clause-below
marks_of-marks-requires-clause-below g c =
    let p = placed c.args.ends.now c.args.name c.position_of.result c.unwrap_or-place.result c.index-ends-place.result c.position_of.ensures.first c.requires.there c.unwrap_or-place.ensures c.index-ends-place.is in
    subst (AreBelow (2 ^ 126)) (sym (c.deref_mut.ensures.value ∙ ap (λ (e : HostEnd). e.greatest) (c.own.view_is ∙ sym c.index-ends-place.is))) (c.requires.below c.index-ends-place.result p.there)

pub returns : goal.returns
returns g c =
    let e = c.index-ends-place.result in
    let p = placed c.args.ends.now c.args.name c.position_of.result c.unwrap_or-place.result e c.position_of.ensures.first c.requires.there c.unwrap_or-place.ensures c.index-ends-place.is in
    let greatest = c.marks_of-marks.new.own in
    let marks = c.marks_of-marks.result.items in
    let header : Header = c.requires.read.0 in
    let commands : List ℕ = c.requires.read.1 in
    let long : length greatest ≡ c.own.inside.greatest.len = search rules in
    let was : c.deref_mut.result.now ≡ e.greatest = c.deref_mut.ensures.value ∙ ap (λ (f : HostEnd). f.greatest) (c.own.view_is ∙ sym c.index-ends-place.is) in
    let far : ℕ → List ℕ = g.A.Around.numbers c.args.around.now in
    let theirs : c.numbers-numbers.result.now ≡ far e.connection = c.numbers-numbers.ensures ∙ ap (λ (f : HostEnd). far f.connection) (c.own.view_is ∙ sym c.index-ends-place.is) in
    let counts : Counts c.args.text.items e.greatest greatest (far e.connection) marks =
    subst (λ (t : List ℕ). Counts t e.greatest greatest (far e.connection) marks) c.deref-2.ensures.value
    (subst (λ (x : List ℕ). Counts c.deref-2.result.now x greatest (far e.connection) marks) was
    (subst (λ (x : List ℕ). Counts c.deref-2.result.now c.deref_mut.result.now greatest x marks) theirs c.marks_of-marks.ensures)) in
    let peer : c.peer_in-peer.result ≡ header.peer = c.peer_in-peer.ensures header commands (subst (λ (t : List ℕ). IsRead t header commands) (sym c.deref.ensures.value) c.requires.read.2) in
    record {
      own = e;
      there = p.there;
      named = p.named;
      header = header;
      commands = commands;
      read = c.requires.read.2;
      greatest = greatest;
      marks = marks;
      counts = counts;
      is = (λ i. record { connection = ((c.own.view_is ∙ sym c.index-ends-place.is) i).connection; to = c.args.to; peer = peer i; text = c.args.text.items; marks = marks });
      ends =
          (λ k. slice_set c.args.ends.now c.unwrap_or-place.result (record ((c.own.view_is ∙ sym c.index-ends-place.is) k) { greatest = with_items_is c.own.inside.greatest greatest long k }))
          ∙ sym (with-one (λ (f : HostEnd). record f { greatest = greatest }) c.args.name c.args.ends.now c.unwrap_or-place.result e c.requires.apart p.at p.named);
    }
