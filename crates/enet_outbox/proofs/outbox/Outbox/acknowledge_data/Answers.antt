use Rattle.std.proofs.Common.{◌≡◌, ◌==◌, false, List, Some, None, ap, subst, sym, ◌∙◌, arith}
use Rattle.std.specs.List.{slice_get}
use Rattle.std.proofs.lemmas.Bool.{ne_eqb}
use Rattle.enet_sender.specs.Due.{SendingEnd}
use Rattle.enet_outbox.specs.contracts.outbox.Outbox.{the_view}
use Rattle.enet_outbox.specs.declared.parts.Matched.TheVariants as matched
use Rattle.enet_outbox.specs.Outbox.{Outbox, Sending, after_match, matched_by}
use Rattle.enet_outbox.proofs.Senders.{found-by, accepted-none, accepted-some}
use Rattle.enet_outbox.proofs.outbox.Outbox.acknowledge_data.Goals as goal

pub returns-in-None-clause-found : goal.returns-in-None-clause-found
returns-in-None-clause-found c =
    let o : Outbox = (the_view c.self.inside).outbox in
    let apart : (c.args.channel == 0xFF) ≡ false = ne_eqb c.args.channel 255 (λ e. omega (arith, c.requires)) in
    let P : Sending → Type 0 = λ v. matched.Nothing ≡ matched_by v.outbox c.args.channel c.args.number c.args.time in
    subst P c.self.view_is (found-by o c.args.channel c.args.number c.args.time None apart c.in-None.ensures.told)

pub returns-in-None-clause-outbox : goal.returns-in-None-clause-outbox
returns-in-None-clause-outbox c =
    let o : Outbox = (the_view c.self.inside).outbox in
    let P : Sending → Type 0 = λ v. record o { senders = c.acknowledge_on.new.senders } ≡ v.outbox in
    subst P c.self.view_is
    (ap (λ (ss : List SendingEnd). record o { senders = ss }) (c.acknowledge_on.ensures.accepted ∙ accepted-none o.senders c.args.channel c.args.number c.args.time (sym c.in-None.ensures.told)))

pub returns-in-Some-clause-found : goal.returns-in-Some-clause-found
returns-in-Some-clause-found c =
    let o : Outbox = (the_view c.self.inside).outbox in
    let apart : (c.args.channel == 0xFF) ≡ false = ne_eqb c.args.channel 255 (λ e. omega (arith, c.requires)) in
    let P : Sending → Type 0 = λ v. matched.Data ≡ matched_by v.outbox c.args.channel c.args.number c.args.time in
    subst P c.self.view_is (found-by o c.args.channel c.args.number c.args.time (Some c.in-Some.told) apart c.in-Some.ensures.told)

pub returns-in-Some-clause-outbox : goal.returns-in-Some-clause-outbox
returns-in-Some-clause-outbox c =
    let o : Outbox = (the_view c.self.inside).outbox in
    let apart : (c.args.channel == 0xFF) ≡ false = ne_eqb c.args.channel 255 (λ e. omega (arith, c.requires)) in
    let accepted = c.acknowledge_on.ensures.accepted in
    let grown = c.acknowledge.ensures in
    let counted = c.with_acknowledged-self-inside.ensures in
    let P : Sending → Type 0 = λ v. record o { senders = c.acknowledge_on.new.senders; allowance = c.acknowledge.new.self; kept = c.still_kept-self-inside.result; traffic = c.with_acknowledged-self-inside.result } ≡ after_match matched.Data v.outbox c.args.channel c.args.number c.args.time in
    subst P c.self.view_is
    ((λ i. record o { senders = accepted i; allowance = grown i; kept = c.still_kept-self-inside.result; traffic = counted i })
    ∙ accepted-some o c.args.channel c.args.number c.args.time c.in-Some.told c.still_kept-self-inside.result apart (sym c.in-Some.ensures.told)
    (λ s there. c.still_kept-self-inside.ensures s (ap (λ (ss : List SendingEnd). slice_get ss c.args.channel) accepted ∙ there)))
