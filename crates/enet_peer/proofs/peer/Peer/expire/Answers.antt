use Rattle.std.proofs.Common.{◌≡◌, Bool, false, if◌then◌else◌, ◌&&◌, sym, ap, subst, ◌∙◌}
use Rattle.enet_rtt.specs.declared.expiry.Expiry.TheVariants.{End}
use Rattle.enet_rtt.specs.declared.transmission.Tick.{Tick}
use Rattle.enet_outbox.specs.Outbox.{Outbox, after_lateness, lateness}
use Rattle.enet_peer.specs.contracts.peer.Peer.{the_view}
use Rattle.enet_peer.specs.Peered.{Peered}
use Rattle.enet_peer.specs.Peering.{Peering}
use Rattle.enet_peer.specs.Calls.{expiry_of, is_answering, is_over, tick_of}
use Rattle.enet_peer.specs.Private.Time.{expired}
use Rattle.enet_peer.proofs.Expiring.{marks-so}
use Rattle.enet_peer.proofs.peer.Peer.expire.Goals as goal

pub returns-else-may_not_answer-clause-after : goal.returns-else-may_not_answer-clause-after
returns-else-may_not_answer-clause-after c =
    let p : Peering = c.args.self.now.peer in
    let q : Peering = (the_view c.self.inside).peer in
    let now = c.args.now in
    let e = c.late.result in
    let left : Outbox = c.late.new.self.outbox in
    let same : q ≡ p = ap (λ (v : Peered). v.peer) c.self.view_is in
    let found_by : e ≡ lateness q.outbox now q.patience p.heard =
    subst (λ (t : Tick). e ≡ lateness q.outbox t.now q.patience t.heard) c.tick_at-tick.ensures c.late.ensures.found in
    let found : e ≡ lateness p.outbox now p.patience p.heard = subst (λ (x : Peering). e ≡ lateness x.outbox now x.patience p.heard) same found_by in
    let goes_on : is_over p now ≡ false = sym c.is_over.ensures ∙ c.if-is_over.false in
    let is : expiry_of p now ≡ e = ap (λ (b : Bool). if b then End else lateness p.outbox now p.patience p.heard) goes_on ∙ sym found in
    let may : (c.args.short && is_answering p.state) ≡ false = sym c.may_not_answer.ensures ∙ c.if-may_not_answer.false in
    let left_by : left ≡ after_lateness e q.outbox (tick_of p now) = subst (λ (t : Tick). left ≡ after_lateness e q.outbox t) c.tick_at-tick.ensures c.late.ensures.after in
    let after : left ≡ after_lateness e p.outbox (tick_of p now) = subst (λ (x : Peering). left ≡ after_lateness e x.outbox (tick_of p now)) same left_by in
    subst (λ (x : Peering). record x { outbox = left } ≡ expired c.args.short p now) (sym same)
    (ap (λ (o : Outbox). record p { outbox = o }) after ∙ marks-so c.args.short p now e may is)
