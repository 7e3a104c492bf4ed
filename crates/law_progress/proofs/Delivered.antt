-- What an end has nothing left to send of arrived, by the link of its channel.
use Rattle.std.proofs.Common.{◌≡◌, ℕ, suc, ◌+◌, ◌<◌, ◌||◌, not, ltb, Bool, true, false, cond, List, [], ◌∷◌, length, refl, sym, ap, subst, ◌∙◌, inl, inr, arith, Some, None, is_some}
use Rattle.std.proofs.lemmas.Bool.Decides.{nat_tests}
use Rattle.std.specs.List.{position, prefix_len}
use Rattle.enet_fragment.specs.declared.data.DataCommand.{DataCommand}
use Rattle.enet_sender.specs.CommandChoice.{carried}
use Rattle.enet_sender.specs.Sender.{Sender, left}
use Rattle.enet_sender.specs.declared.sent.Sent.{Sent}
use Rattle.law_connection.specs.Connection.{End, Connection, of_channel}
use Rattle.law_connection.specs.Image.{reliable_count}
use Rattle.law_connection.specs.Invariant.{Invariant}
use Rattle.law_connection.specs.Law.{mtu_of}
use Rattle.law_connection.specs.Linked.{IsLinked, ShowsSending, ShowsReceiving, dispatched_on}
use Rattle.law_connection.specs.LinkSteps.{fresh_link, bodies_of}
use Rattle.law_connection.specs.WireLink.{WireLink}
use Rattle.law_connection.proofs.LinkRuns.{Sound-runs, Sound-fresh}
use Rattle.law_connection.proofs.Shown.{Sound}
use Rattle.law_progress.specs.Links.{AllDispatched}
use Rattle.law_progress.specs.Delivered.{IsDelivered}
use Rattle.law_progress.proofs.Complete.{Consumed-all, dispatched-consumed}

or-both : (a b : Bool) → (a || b) ≡ false → (a ≡ false) × (b ≡ false)
or-both true b e = absurd (cc)
or-both false b e = (refl, e)

-- nothing reliable is queued
none-queued : (cs : List DataCommand) → is_some (position (λ (c : DataCommand). c.reliable) cs) ≡ false → reliable_count cs ≡ 0
none-queued [] e = refl
none-queued (c ∷ cs) e = go c.reliable refl (none-queued cs)
  where
    before : ℕ
    before = prefix_len (λ (x : DataCommand). not x.reliable) cs

    some_place : (m : ℕ) → ltb 0 (suc m) ≡ true
    some_place m = grind (arith, nat_tests)

    shorter : (m n : ℕ) → ltb (1 + m) (suc n) ≡ ltb m n
    shorter m n = grind (arith, nat_tests)

    whichever : (b : Bool) (m n : ℕ) → is_some {T = ℕ} (cond b (Some m) None) ≡ is_some {T = ℕ} (cond b (Some n) None)
    whichever true m n = refl
    whichever false m n = refl

    go : (r : Bool) → c.reliable ≡ r → (is_some (position (λ (x : DataCommand). x.reliable) cs) ≡ false → reliable_count cs ≡ 0) → cond c.reliable (reliable_count cs + 1) (reliable_count cs) ≡ 0
    go true r rest =
        let is : is_some (position (λ (x : DataCommand). x.reliable) (c ∷ cs)) ≡ true =
        ap (λ b. is_some {T = ℕ} (let k : ℕ = cond (not b) (1 + before) 0 in cond (ltb k (suc (length cs))) (Some k) None)) r ∙ ap (λ b. is_some {T = ℕ} (cond b (Some 0) None)) (some_place (length cs)) in
        absurd (let f : true ≡ false = sym is ∙ e in cc)
    go false r rest =
        let is : is_some (position (λ (x : DataCommand). x.reliable) (c ∷ cs)) ≡ is_some (position (λ (x : DataCommand). x.reliable) cs) =
        ap (λ b. is_some {T = ℕ} (let k : ℕ = cond (not b) (1 + before) 0 in cond (ltb k (suc (length cs))) (Some k) None)) r
        ∙ ap (λ b. is_some {T = ℕ} (cond b (Some (1 + before)) None)) (shorter before (length cs)) ∙ whichever (ltb before (length cs)) (1 + before) before in
        ap (λ b. cond b (reliable_count cs + 1) (reliable_count cs)) r ∙ rest (sym is ∙ e)

none-sent : (xs : List Sent) → ltb 0 (length xs) ≡ false → xs ≡ []
none-sent [] e = refl
none-sent (x ∷ xs) e = absurd (some (length xs) e)
  where
    some : (n : ℕ) → ltb 0 (suc n) ≡ false → ⊥
    some n e = grind (arith, nat_tests)

pub all-dispatched : (mtu : ℕ) (v : WireLink) → Sound mtu v → v.is_sending ≡ true → v.is_open ≡ true → (left v.outgoing).reliable ≡ false → AllDispatched (carried mtu v.submitted) (bodies_of v.incoming.dispatched)
all-dispatched mtu v s sending up none =
    let both = or-both (is_some (position (λ (c : DataCommand). c.reliable) v.outgoing.queued)) (ltb 0 (length v.outgoing.sent)) none in
    dispatched-consumed (carried mtu v.submitted) (bodies_of v.incoming.dispatched) (Consumed-all mtu v s sending up (none-queued v.outgoing.queued both.0) (none-sent v.outgoing.sent both.1))

-- by the link of the channel
linked-delivered : (from to : End) (channel : ℕ) → IsLinked from to channel → IsDelivered from to channel
linked-delivered from to channel k p q h =
    elim k.agreed [
      | inl nothing ↦
          let empty : (mtu : ℕ) → of_channel mtu channel from.submitted ≡ [] = λ mtu. ap (of_channel mtu channel) nothing in
          subst (λ qs. AllDispatched (carried (mtu_of from) qs) (bodies_of (dispatched_on channel to q))) (sym (empty (mtu_of from)))
          (subst (λ qs. AllDispatched (carried k.mtu qs) (bodies_of (dispatched_on channel to q))) (empty k.mtu) all)
      | inr same ↦ subst (λ mtu. AllDispatched (carried mtu (of_channel mtu channel from.submitted)) (bodies_of (dispatched_on channel to q))) (sym same) all
    ]
  where
    v : WireLink
    v = k.link

    s : Sound k.mtu v
    s = Sound-runs k.mtu k.events fresh_link v k.big (Sound-fresh k.mtu) k.runs

    sending : ShowsSending (Some p) channel v
    sending = subst (λ o. ShowsSending o channel v) h.from_is k.sending

    receiving : ShowsReceiving to (Some q) channel v
    receiving = subst (λ o. ShowsReceiving to o channel v) h.to_is k.receiving

    all : AllDispatched (carried k.mtu (of_channel k.mtu channel from.submitted)) (bodies_of (dispatched_on channel to q))
    all =
        let sends = sending.0 h.sends in
        let up : v.is_open ≡ true = sym receiving.0 ∙ h.dispatches in
        let link = all-dispatched k.mtu v s sends.0 up (ap (λ (o : Sender). (left o).reliable) sends.1 ∙ h.none) in
        subst (λ qs. AllDispatched (carried k.mtu qs) (bodies_of (dispatched_on channel to q))) k.submitted
        (subst (λ ds. AllDispatched (carried k.mtu v.submitted) (bodies_of ds)) receiving.2 link)

pub delivered-forth : (joined : Bool) (d : Connection) (channel : ℕ) → Invariant joined d → channel < 255 → IsDelivered d.one d.two channel
delivered-forth joined d channel i low = linked-delivered d.one d.two channel (i.both.out channel low)

pub delivered-back : (joined : Bool) (d : Connection) (channel : ℕ) → Invariant joined d → channel < 255 → IsDelivered d.two d.one channel
delivered-back joined d channel i low = linked-delivered d.two d.one channel (i.both.back channel low)
