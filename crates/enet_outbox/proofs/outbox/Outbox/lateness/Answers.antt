use Rattle.std.proofs.Common.{◌≡◌, Bool, false, cond, sym, ap, ◌∙◌}
use Rattle.std.specs.List.{list_any}
use Rattle.enet_rtt.specs.declared.expiry.Expiry.TheVariants.{No, Resend}
use Rattle.enet_senders.specs.Controlling as controlling
use Rattle.enet_outbox.specs.Outbox.{Sending, has_late, lateness}
use Rattle.enet_outbox.specs.contracts.outbox.Outbox.{the_view}
use Rattle.enet_outbox.proofs.Lateness.{any_late, any_ends, none-ends, late-there, late-elsewhere, lateness-by}
use Rattle.enet_outbox.proofs.outbox.Outbox.lateness.Goals.{then-late, else-late, then-late-2, else-late-2, then-is_late, else-is_late}
use Rattle.enet_outbox.proofs.outbox.Outbox.lateness.Goals as goal

pub returns-clause-found : goal.returns-clause-found
returns-clause-found c =
    let now = c.args.now in
    let patience = c.args.patience.now in
    let heard = c.args.heard in
    let o = c.args.self.now.outbox in
    let is : the_view c.self.inside ≡ c.args.self.now = c.self.view_is ∙ c.any_late-late.ensures.same in
    let control : list_any (controlling.ends now patience heard) o.control.sent ≡ false =
    ap (λ (v : Sending). list_any (controlling.ends now patience heard) v.outbox.control.sent) (sym is) ∙ sym c.ends.ensures ∙ c.if-ends.false in
    let channels : any_ends now patience heard o.senders ≡ false = elim c.if-late.branch [
      | then-late w ↦ ap (λ (v : Sending). any_ends now patience heard v.outbox.senders) (sym c.any_late-late.ensures.same) ∙ sym w.any_ends.ensures ∙ sym w.value-is ∙ c.if-any_ends.false
      | else-late w ↦ none-ends now patience heard o.senders (sym c.any_late-late.ensures.found ∙ w.if-late.false)
    ] in
    let some : c.if-late-2.value ≡ has_late o now = elim c.if-late-2.branch [
      | then-late-2 w ↦ w.value-is ∙ w.if-late-2.true ∙ late-there (list_any (controlling.is_late now) o.control.sent) (any_late now o.senders) (sym c.any_late-late.ensures.found ∙ w.if-late-2.true)
      | else-late-2 w ↦ w.value-is ∙ w.is_late.ensures ∙ ap (λ (v : Sending). list_any (controlling.is_late now) v.outbox.control.sent) is
          ∙ late-elsewhere (list_any (controlling.is_late now) o.control.sent) (any_late now o.senders) (sym c.any_late-late.ensures.found ∙ w.if-late-2.false)
    ] in
    let by : cond c.if-late-2.value Resend No ≡ lateness o now patience heard = lateness-by o now patience heard c.if-late-2.value control channels some in
    elim c.if-is_late.branch [
      | then-is_late w ↦ w.result-is ∙ ap (λ (b : Bool). cond b Resend No) (sym w.if-is_late.true) ∙ by
      | else-is_late w ↦ w.result-is ∙ ap (λ (b : Bool). cond b Resend No) (sym w.if-is_late.false) ∙ by
    ]
