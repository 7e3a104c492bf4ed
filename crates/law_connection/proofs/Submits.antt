-- A submission keeps all links. Where nothing was submitted before, the link may be one of any mtu.
use Rattle.std.proofs.Common.{◌≡◌, ◌≢◌, ℕ, ◌<◌, ◌≤◌, Bool, true, false, cond, ◌==◌, ◌&&◌, not, List, [], ◌∷◌, ◌++◌, refl, sym, ap, subst, ◌∙◌, inl, inr, arith, Option, Some, length, slice_set}
use Rattle.std.proofs.lemmas.Bool.Decides.{nat_tests}
use Rattle.std.proofs.lemmas.List.{append-nil}
use Rattle.std.specs.List.{slice_get}
use Rattle.enet_codec.specs.declared.packet.Packet.{Packet}
use Rattle.enet_seq.specs.Numbering.{wire}
use Rattle.enet_fragment.specs.Cutting.{piece_count}
use Rattle.enet_sender.specs.CommandChoice as command_choice
use Rattle.enet_sender.specs.CommandChoice.{carried_as, fragment_limit}
use Rattle.enet_sender.specs.Sender.{Sender}
use Rattle.enet_sender.specs.Sender as sender
use Rattle.enet_sender.specs.Due.{SendingEnd}
use Rattle.enet_outbox.specs.Outbox.{Outbox, is_unsequenced, with_unsequenced, with_sequenced}
use Rattle.enet_peer.specs.Peering.{Peering}
use Rattle.law_connection.specs.WireLink.{WireLink, submits}
use Rattle.law_connection.specs.LinkSteps.{Event, Submit, Send, Drop, Mark, PutsOut, Arrive, ArriveAnswered, PutsAnswer, Acknowledge, GivesUp, StopSending, StopReceiving, DropAnswers, Happens, Runs, fresh_link}
use Rattle.law_connection.specs.Connection.{End, of_channel}
use Rattle.law_connection.specs.Steps.{with_submission}
use Rattle.law_connection.specs.Law.{mtu_of}
use Rattle.law_connection.specs.Linked.{IsLinked, sends_in, sender_in, numbers_on}
use Rattle.law_connection.specs.Invariant.{AreLinked}
use Rattle.law_connection.proofs.Runs.{either, Runs-push, get-set, get-set-other}
use Rattle.law_connection.proofs.Relinking.{back-quiet, sending-of, receiving-by}

-- a list that grew isn't empty
grown-some : {X : Type 0} (xs : List X) (x : X) → xs ++ x ∷ [] ≡ [] → ⊥
grown-some [] x e = cc
grown-some (y ∷ xs) x e = cc

-- an event without a submission is one of any mtu
happens-any : (a b : ℕ) (e : Event) (v w : WireLink) → Happens a e v w → w.submitted ≡ [] → Happens b e v w × (v.submitted ≡ [])
happens-any a b (Submit p) v w h none = absurd (grown-some v.submitted p (ap (λ (x : WireLink). x.submitted) (sym h.after) ∙ none))
happens-any a b (Send occasion) v w h none = (h, ap (λ (x : WireLink). x.submitted) (sym h.after) ∙ none)
happens-any a b (Drop occasion) v w h none = (h, ap (λ (x : WireLink). x.submitted) (sym h.after) ∙ none)
happens-any a b (Mark tick) v w h none = (h, ap (λ (x : WireLink). x.submitted) (sym h.after) ∙ none)
happens-any a b PutsOut v w h none = (h, ap (λ (x : WireLink). x.submitted) (sym h) ∙ none)
happens-any a b (Arrive c most full) v w h none = (h, ap (λ (x : WireLink). x.submitted) (sym h.after) ∙ none)
happens-any a b (ArriveAnswered c most full) v w h none = (h, ap (λ (x : WireLink). x.submitted) (sym h.after) ∙ none)
happens-any a b (PutsAnswer number rest) v w h none = (h, ap (λ (x : WireLink). x.submitted) (sym h.after) ∙ none)
happens-any a b (Acknowledge answer) v w h none = (h, ap (λ (x : WireLink). x.submitted) (sym h.after) ∙ none)
happens-any a b GivesUp v w h none = (h, ap (λ (x : WireLink). x.submitted) (sym h) ∙ none)
happens-any a b (StopSending l) v w h none = (h, ap (λ (x : WireLink). x.submitted) (sym h.after) ∙ none)
happens-any a b (StopReceiving l kept gone) v w h none = (h, ap (λ (x : WireLink). x.submitted) (sym h.after) ∙ none)
happens-any a b DropAnswers v w h none = (h, ap (λ (x : WireLink). x.submitted) (sym h) ∙ none)

runs-any : (a b : ℕ) (es : List Event) (v w : WireLink) → Runs a es v w → w.submitted ≡ [] → Runs b es v w × (v.submitted ≡ [])
runs-any a b [] v w h none = (h, ap (λ (x : WireLink). x.submitted) h ∙ none)
runs-any a b (e ∷ es) v w h none =
    let later = runs-any a b es h.0 w h.2 none in
    let first = happens-any a b e v h.0 h.1 later.1 in
    ((h.0, first.0, later.0), first.1)

-- a link to which nothing was submitted is one of any mtu
pub with-mtu : (from to : End) (channel mtu : ℕ) (k : IsLinked from to channel) → 28 < mtu → from.submitted ≡ [] → (j : IsLinked from to channel) × (j.mtu ≡ mtu)
with-mtu from to channel mtu k big none =
    let empty : k.link.submitted ≡ [] = k.submitted ∙ ap (of_channel k.mtu channel) none in (
      record {
        mtu = mtu;
        big = big;
        agreed = inl none;
        link = k.link;
        events = k.events;
        runs = (runs-any k.mtu mtu k.events fresh_link k.link k.runs empty).0;
        between = k.between;
        submitted = empty ∙ sym (ap (of_channel mtu channel) none);
        greatest = k.greatest;
        sending = k.sending;
        receiving = k.receiving;
        few = k.few;
        commands = k.commands;
        acks = k.acks;
      },
      refl,
    )

-- the link has the mtu of the sending end
agrees : (from to : End) (channel : ℕ) → 28 < mtu_of from → IsLinked from to channel → (j : IsLinked from to channel) × (j.mtu ≡ mtu_of from)
agrees from to channel big k = elim k.agreed [ inl none ↦ with-mtu from to channel (mtu_of from) k big none | inr e ↦ (k, sym e) ]

-- what was submitted on a channel
pub of_channel-push : (mtu channel : ℕ) (qs : List Packet) (q : Packet) → of_channel mtu channel (qs ++ q ∷ []) ≡ of_channel mtu channel qs ++ of_channel mtu channel (q ∷ [])
of_channel-push mtu channel [] q = refl
of_channel-push mtu channel (x ∷ qs) q =
    let h = of_channel-push mtu channel qs q in
    let p : command_choice.Packet = record { flags = x.flags; body = x.body } in
    elim (x.channel == channel && not (is_unsequenced mtu p)) as (λ b. cond b (p ∷ of_channel mtu channel (qs ++ q ∷ [])) (of_channel mtu channel (qs ++ q ∷ [])) ≡ cond b (p ∷ of_channel mtu channel qs) (of_channel mtu channel qs) ++ of_channel mtu channel (q ∷ [])) [
      | true ↦ ap (λ (l : List command_choice.Packet). p ∷ l) h
      | false ↦ h
    ]

-- a link on which nothing of the packet goes
unmoved : (own other : End) (p r : Peering) (q : Packet) (channel : ℕ) → own.peer ≡ Some p → r.state ≡ p.state → r.terms.mtu ≡ p.terms.mtu → slice_get r.outbox.senders channel ≡ slice_get p.outbox.senders channel
    → (k : IsLinked own other channel) → k.mtu ≡ mtu_of own → of_channel k.mtu channel (q ∷ []) ≡ [] → IsLinked (record own { peer = Some r; submitted = own.submitted ++ q ∷ [] }) other channel
unmoved own other p r q channel is state' mtu same k at none =
    let h = sending-of own p channel k.link is k.sending in
    record {
      mtu = k.mtu;
      big = k.big;
      agreed = inr (mtu ∙ sym (ap (λ (o : Option Peering). mtu_of (record own { peer = o })) is) ∙ sym at);
      link = k.link;
      events = k.events;
      runs = k.runs;
      between = k.between;
      submitted = k.submitted ∙ sym (of_channel-push k.mtu channel own.submitted q ∙ ap (λ l. of_channel k.mtu channel own.submitted ++ l) none ∙ append-nil (of_channel k.mtu channel own.submitted));
      greatest = k.greatest;
      sending = (
        (λ t. let x = h.0 (sym (ap sends_in state') ∙ t) in (x.0, x.1 ∙ ap sender_in (sym same))),
        (λ t. ap (λ o. (sender_in o).queued) same ∙ h.1 (sym (ap sends_in state') ∙ t)),
        (λ t. ap (λ o. (sender_in o).sent) same ∙ h.2 (sym (ap sends_in state') ∙ t)),
        (λ s e. h.3 s (sym same ∙ e)),
      );
      receiving = k.receiving;
      few = k.few;
      commands = k.commands;
      acks = k.acks;
    }

none-of : (mtu channel : ℕ) (q : Packet) → (q.channel == channel && not (is_unsequenced mtu (record { flags = q.flags; body = q.body }))) ≡ false → of_channel mtu channel (q ∷ []) ≡ []
none-of mtu channel q e = let p : command_choice.Packet = record { flags = q.flags; body = q.body } in ap (λ b. cond b (p ∷ []) []) e

one-of : (mtu channel : ℕ) (q : Packet) → (q.channel == channel && not (is_unsequenced mtu (record { flags = q.flags; body = q.body }))) ≡ true → of_channel mtu channel (q ∷ []) ≡ (record { flags = q.flags; body = q.body }) ∷ []
one-of mtu channel q e = let p : command_choice.Packet = record { flags = q.flags; body = q.body } in ap (λ b. cond b (p ∷ []) []) e

-- the link on which the packet goes
moved : (own other : End) (p : Peering) (q : Packet) (s : SendingEnd) → own.peer ≡ Some p → sends_in p.state ≡ true → slice_get p.outbox.senders q.channel ≡ Some s → piece_count (length q.body) p.terms.mtu ≤ fragment_limit
    → is_unsequenced p.terms.mtu (record { flags = q.flags; body = q.body }) ≡ false → (k : IsLinked own other q.channel) → k.mtu ≡ p.terms.mtu
    → IsLinked (record own { peer = Some (record p { outbox = record p.outbox { senders = slice_set p.outbox.senders q.channel (record s { sender = sender.submitted wire p.terms.mtu s.sender (record { flags = q.flags; body = q.body }) }) } }); submitted = own.submitted ++ q ∷ [] }) other q.channel
moved own other p q s is sends there few kind k at =
    let channel : ℕ = q.channel in
    let packet : command_choice.Packet = record { flags = q.flags; body = q.body } in
    let h = sending-of own p channel k.link is k.sending in
    let t : SendingEnd = record s { sender = sender.submitted wire p.terms.mtu s.sender packet } in
    let w : WireLink = submits k.mtu k.link packet in
    let r = h.0 sends in
    let on : (q.channel == channel && not (is_unsequenced k.mtu packet)) ≡ true = (let same : (q.channel == channel) ≡ true = grind (arith, nat_tests) in let no' : is_unsequenced k.mtu packet ≡ false = ap (λ n. is_unsequenced n packet) at ∙ kind in (λ i. same i && not (no' i))) in
    let got = get-set p.outbox.senders channel s t there in
    let few' : (carried_as k.mtu k.link.outgoing.unreliable packet).pieces ≤ fragment_limit = subst (λ n. piece_count (length q.body) n ≤ fragment_limit) (sym at) few in
    record {
      mtu = k.mtu;
      big = k.big;
      agreed = inr (sym at);
      link = w;
      events = k.events ++ Submit packet ∷ [];
      runs = Runs-push k.mtu k.events (Submit packet) fresh_link k.link w k.runs (record { sending = r.0; few = few'; after = refl });
      between = k.between;
      submitted = ap (λ l. l ++ packet ∷ []) k.submitted ∙ sym (of_channel-push k.mtu channel own.submitted q ∙ ap (λ l. of_channel k.mtu channel own.submitted ++ l) (one-of k.mtu channel q on));
      greatest = k.greatest;
      sending = (
        (λ x. (r.0, ap (λ (o : Sender). sender.submitted wire k.mtu o packet) (r.1 ∙ ap sender_in there) ∙ ap (λ n. sender.submitted wire n s.sender packet) at ∙ sym (ap sender_in got))),
        (λ f. absurd (let x : true ≡ false = sym sends ∙ f in cc)),
        (λ f. absurd (let x : true ≡ false = sym sends ∙ f in cc)),
        (λ y e. let both : Some t ≡ Some y = sym got ∙ e in let ty : t ≡ y = cc in ap (λ (x : SendingEnd). x.channel) (sym ty) ∙ h.3 s there),
      );
      receiving = receiving-by other other.peer channel k.link w refl refl refl k.receiving;
      few = k.few;
      commands = k.commands;
      acks = k.acks;
    }

-- a packet is accepted
pub both-submitted : (own other : End) (p : Peering) (q : Packet) (s : SendingEnd) → own.peer ≡ Some p → 28 < p.terms.mtu → sends_in p.state ≡ true → slice_get p.outbox.senders q.channel ≡ Some s
    → piece_count (length q.body) p.terms.mtu ≤ fragment_limit → AreLinked own other → AreLinked (with_submission own p q) other
both-submitted own other p q s is big sends there few b = by (is_unsequenced mtu packet) refl
  where
    mtu : ℕ
    mtu = p.terms.mtu

    packet : command_choice.Packet
    packet = record { flags = q.flags; body = q.body }

    own-mtu : mtu_of own ≡ mtu
    own-mtu = ap (λ (o : Option Peering). mtu_of (record own { peer = o })) is

    agreed : (channel : ℕ) → channel < 255 → (j : IsLinked own other channel) × (j.mtu ≡ mtu_of own)
    agreed channel few = agrees own other channel (subst (λ n. 28 < n) (sym own-mtu) big) (b.out channel few)

    -- nothing comes in
    same-back : (o : Outbox) → o.acknowledgements ≡ p.outbox.acknowledgements → (channel : ℕ) → channel < 255 → IsLinked other (record own { peer = Some (record p { outbox = o }); submitted = own.submitted ++ q ∷ [] }) channel
    same-back o a channel few =
        let k = back-quiet own other p (record p { outbox = o }) channel few is (record { dispatches = refl; receivers = refl; untaken = λ i h. refl; numbers = λ i h. ap (numbers_on i) a }) (b.back channel few) in
        record { mtu = k.mtu; big = k.big; agreed = k.agreed; link = k.link; events = k.events; runs = k.runs; between = k.between; submitted = k.submitted; greatest = k.greatest; few = k.few; sending = k.sending; receiving = k.receiving; commands = k.commands; acks = k.acks }

    new : Outbox → End
    new o = record own { peer = Some (record p { outbox = o }); submitted = own.submitted ++ q ∷ [] }

    off : (n : ℕ) (channel : ℕ) → is_unsequenced n packet ≡ true → (q.channel == channel && not (is_unsequenced n packet)) ≡ false
    off n channel e = by' (q.channel == channel)
      where
        by' : (x : Bool) → (x && not (is_unsequenced n packet)) ≡ false
        by' true = ap not e
        by' false = refl

    by : (t : Bool) → is_unsequenced mtu packet ≡ t → AreLinked (new (cond t (with_unsequenced p.outbox q.channel packet) (with_sequenced p.outbox mtu q.channel packet (slice_get p.outbox.senders q.channel)))) other
    by true e =
        let o : Outbox = with_unsequenced p.outbox q.channel packet in
        record {
          out = λ channel low. (let a = agreed channel low in let k = a.0 in
              unmoved own other p (record p { outbox = o }) q channel is refl refl refl k a.1 (none-of k.mtu channel q (off k.mtu channel (ap (λ n. is_unsequenced n packet) (a.1 ∙ own-mtu) ∙ e))));
          back = same-back o refl;
        }
    by false e =
        let t : SendingEnd = record s { sender = sender.submitted wire mtu s.sender packet } in
        let o : Outbox = record p.outbox { senders = slice_set p.outbox.senders q.channel t } in
        subst (λ (x : Option SendingEnd). AreLinked (new (with_sequenced p.outbox mtu q.channel packet x)) other) (sym there) (record {
          out = λ channel low. (let a = agreed channel low in let k = a.0 in
              elim (either (q.channel == channel)) [
                | inl on ↦ (let at : q.channel ≡ channel = grind (arith, nat_tests) in let c = agreed q.channel (subst (λ i. i < 255) (sym at) low) in
                    subst (λ i. IsLinked (new o) other i) at (moved own other p q s is sends there few e c.0 (c.1 ∙ own-mtu)))
                | inr apart ↦ (let n : q.channel ≢ channel = (λ at. grind (arith, nat_tests)) in
                    unmoved own other p (record p { outbox = o }) q channel is refl refl (get-set-other p.outbox.senders q.channel channel t n) k a.1
                    (none-of k.mtu channel q (ap (λ x. x && not (is_unsequenced k.mtu packet)) apart)))
              ]);
          back = same-back o refl;
        })
