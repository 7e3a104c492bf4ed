-- Whatever comes, an end puts out commands of what its user submitted.
use Rattle.std.proofs.Common.{◌≡◌, ◌≢◌, ℕ, Bool, true, false, cond, ltb, leb, ◌==◌, ◌&&◌, ◌||◌, not, List, [], ◌∷◌, ◌++◌, map, length, slice_set, refl, sym, ap, subst, ◌∙◌, inl, inr, arith, Option, Some, None}
use Rattle.std.specs.Prelude.{is_some}
use Rattle.std.specs.List.{slice_get}
use Rattle.std.proofs.lemmas.Bool.Decides.{nat_tests}
use Rattle.std.proofs.lemmas.List.{append-nil}
use Rattle.enet_codec.specs.declared.packet.Packet.{Packet}
use Rattle.enet_codec.specs.Message.{Message}
use Rattle.enet_seq.specs.Numbering.{wire}
use Rattle.enet_senders.specs.Controlling as controlling
use Rattle.enet_connect.specs.declared.terms.Terms.{Terms}
use Rattle.enet_fragment.specs.Cutting.{piece_count}
use Rattle.enet_fragment.specs.declared.data.DataCommand.{DataCommand}
use Rattle.enet_fragment.specs.DataCommand.{data_of, message_of}
use Rattle.enet_receiver.specs.Members.{Has}
use Rattle.enet_sender.specs.CommandChoice.{ChosenPacket, carried, fragment_limit}
use Rattle.enet_sender.specs.CommandChoice as command_choice
use Rattle.enet_sender.specs.Sender.{with_skipped, nothing_sent}
use Rattle.enet_sender.specs.Sender as sender
use Rattle.enet_sender.specs.Due.{SendingEnd}
use Rattle.enet_outbox.specs.declared.parts.Pace.{Pace}
use Rattle.enet_outbox.specs.Outbox.{Outbox, is_unsequenced, with_unsequenced, with_sequenced, cleared_sender, marked_sender, acknowledged_on}
use Rattle.enet_outbox.specs.Emission.{Filling, acknowledgement_of, unsequenced_of, filled}
use Rattle.enet_outbox.proofs.Filled.{by-filling}
use Rattle.enet_peer.specs.Peering.{Peering}
use Rattle.enet_peer.specs.declared.parts.PeerState.{PeerState}
use Rattle.enet_peer.specs.declared.parts.PeerState.TheVariants as state
use Rattle.enet_peer.specs.Endings.{ended, freed, parting, disconnecting, dropped, settled, is_later}
use Rattle.enet_outbox.specs.Outbox.{is_done}
use Rattle.enet_peer.specs.Calls.{pace_of, gone_on, gone_on_in, submitted, submission_refusal, is_connected}
use Rattle.law_connection.specs.Connection.{of_channel}
use Rattle.law_connection.specs.Invariant.{is_young}
use Rattle.law_connection.proofs.Arrivals.{get-take}
use Rattle.law_connection.proofs.Events.{accepted}
use Rattle.law_connection.proofs.Lists.{Has-push_cases, Has-append_cases}
use Rattle.law_connection.proofs.Moves.{senders-after}
use Rattle.law_connection.proofs.Packing.{control-none}
use Rattle.law_connection.proofs.PeerChanges.{Core, Changes, kept-emitted}
use Rattle.law_connection.proofs.Reading.{reads-piece}
use Rattle.law_connection.proofs.Runs.{either, get-map, get-set, get-set-other}
use Rattle.law_connection.proofs.SoundSender.{carried-push}
use Rattle.law_connection.proofs.Submits.{of_channel-push}
use Rattle.law_connection.proofs.TidyPeers.{connected-old}
use Rattle.law_one_end.specs.Sent.{IsMeant}
use Rattle.law_one_end.proofs.Sending.{Fewer, IsSender, next-fewer, skipped-fewer, acknowledged-fewer, marked-fewer, cleared-fewer, fewer-then, sender-fewer, sender-nothing, sender-submitted, meant-more}

-- the senders of what was submitted
abbrev pub AreSenders : ℕ → List Packet → List SendingEnd → Type 0
AreSenders mtu qs ss = (i : ℕ) (s : SendingEnd) → slice_get ss i ≡ Some s → (s.channel ≡ i) × IsSender mtu (of_channel mtu i qs) s.sender

abbrev pub AreMeant : ℕ → List Packet → List Message → Type 0
AreMeant mtu qs ms = (m : Message) (c : DataCommand) → Has ms m → data_of m ≡ Some c → IsMeant mtu (carried mtu (of_channel mtu m.head.channel qs)) c

-- what an end keeps, to which these were submitted and which put these out
pub record Sends (qs : List Packet) (put : List Message) (p : Peering) : Type 0 where
  pub senders : AreSenders p.terms.mtu qs p.outbox.senders
  pub logged : AreMeant p.terms.mtu qs put
  pub young : is_young p.state ≡ true → qs ≡ []

-- one sender has fewer commands
set-sender : (mtu : ℕ) (qs : List Packet) (ss : List SendingEnd) (k : ℕ) (s t : SendingEnd) → slice_get ss k ≡ Some s → t.channel ≡ s.channel → (IsSender mtu (of_channel mtu k qs) s.sender → IsSender mtu (of_channel mtu k qs) t.sender)
    → AreSenders mtu qs ss → AreSenders mtu qs (slice_set ss k t)
set-sender mtu qs ss k s t there channel next h i x e = elim (either (k == i)) [
  | inl on ↦ (let is : k ≡ i = grind (arith, nat_tests) in
      let both : Some t ≡ Some x = sym (get-set ss k s t there) ∙ ap (slice_get (slice_set ss k t)) is ∙ e in
      let same : t ≡ x = cc in
      let was = h k s there in
      subst (λ (y : SendingEnd). (y.channel ≡ i) × IsSender mtu (of_channel mtu i qs) y.sender) same
      (subst (λ j. (t.channel ≡ j) × IsSender mtu (of_channel mtu j qs) t.sender) is (channel ∙ was.0, next was.1)))
  | inr off ↦ (let n : k ≢ i = (λ is. grind (arith, nat_tests)) in h i x (sym (get-set-other ss k i t n) ∙ e))
]

-- all have
map-senders : (mtu : ℕ) (qs : List Packet) (f : SendingEnd → SendingEnd) (ss : List SendingEnd) → ((s : SendingEnd) → ((f s).channel ≡ s.channel) × Fewer s.sender (f s).sender) → AreSenders mtu qs ss → AreSenders mtu qs (map f ss)
map-senders mtu qs f ss fewer h i x e =
    let r = get-map f ss i x e in
    let was = h i r.0 r.1 in
    subst (λ (y : SendingEnd). (y.channel ≡ i) × IsSender mtu (of_channel mtu i qs) y.sender) r.2
    ((fewer r.0).0 ∙ was.0, sender-fewer mtu (of_channel mtu i qs) r.0.sender (f r.0).sender (fewer r.0).1 was.1)

cleared-senders : (mtu : ℕ) (qs : List Packet) (ss : List SendingEnd) → AreSenders mtu qs ss → AreSenders mtu qs (map cleared_sender ss)
cleared-senders mtu qs ss h = map-senders mtu qs cleared_sender ss (λ s. (refl, cleared-fewer s.sender)) h

-- an acknowledgement takes away what it names
acknowledged-senders : (mtu : ℕ) (qs : List Packet) (o : Outbox) (j number : ℕ) → AreSenders mtu qs o.senders → AreSenders mtu qs (senders-after o j number)
acknowledged-senders mtu qs o j number h = by-control (j == 0xFF)
  where
    at : (x : Option SendingEnd) → slice_get o.senders j ≡ x → AreSenders mtu qs (acknowledged_on o j number x).senders
    at None there = h
    at (Some s) there = set-sender mtu qs o.senders j s (record s { sender = sender.after_acknowledgement s.sender number }) there refl
        (sender-fewer mtu (of_channel mtu j qs) s.sender (sender.after_acknowledgement s.sender number) (acknowledged-fewer s.sender number)) h

    by-control : (b : Bool) → AreSenders mtu qs (cond b (record o { control = controlling.after_acknowledgement o.control number }) (acknowledged_on o j number (slice_get o.senders j))).senders
    by-control true = h
    by-control false = at (slice_get o.senders j) refl

-- nothing is meant of no packet
none-meant : {A : Type 0} (mtu : ℕ) (c : DataCommand) → IsMeant mtu [] c → A
none-meant mtu c h = (let p = h.piece in let s = p.stands in nothing s.before s.behind p.packet s.whole)
  where
    nothing : {A : Type 0} (before behind : List ChosenPacket) (x : ChosenPacket) → [] ≡ before ++ x ∷ behind → A
    nothing [] behind x e = absurd (cc)
    nothing (y ∷ before) behind x e = absurd (cc)

-- a peer that stops
stops : (qs : List Packet) (put : List Message) (p q : Peering) → is_young q.state ≡ false → q.terms ≡ p.terms → q.outbox.senders ≡ map cleared_sender p.outbox.senders → Sends qs put p → Sends qs put q
stops qs put p q old terms senders h = record {
  senders = subst (λ ss. AreSenders q.terms.mtu qs ss) (sym senders) (subst (λ (t : Terms). AreSenders t.mtu qs (map cleared_sender p.outbox.senders)) (sym terms) (cleared-senders p.terms.mtu qs p.outbox.senders h.senders));
  logged = subst (λ (t : Terms). AreMeant t.mtu qs put) (sym terms) h.logged;
  young = λ t. absurd (let x : true ≡ false = sym t ∙ old in cc);
}

-- other senders
re-sends : (qs : List Packet) (put : List Message) (p : Peering) (ss : List SendingEnd) → AreSenders p.terms.mtu qs ss → Sends qs put p → Sends qs put (record p { outbox = record p.outbox { senders = ss } })
re-sends qs put p ss senders h = record { senders = senders; logged = h.logged; young = h.young }

pub changes : (qs : List Packet) (put : List Message) → Changes (Sends qs put)
changes qs put = record {
  quiet = λ p q e h. record {
    senders = subst (λ (c : Core). AreSenders c.mtu qs c.senders) (sym e) h.senders;
    logged = subst (λ (c : Core). AreMeant c.mtu qs put) (sym e) h.logged;
    young = λ t. h.young (ap (λ (c : Core). is_young c.state) (sym e) ∙ t);
  };
  controls = λ p what plain on h. record { senders = h.senders; logged = h.logged; young = h.young };
  ends = λ p why info here h. stops qs put p (ended p why info) refl refl refl h;
  cuts = λ p why now gone over h. stops qs put p (ended p why 0) refl refl refl h;
  frees = λ p h. stops qs put p (freed p) refl refl refl h;
  parts = λ p info h. stops qs put p (parting p info) refl refl refl h;
  disconnects = λ p info up h. stops qs put p (disconnecting p info) refl refl refl h;
  answers = λ p info up h. stops qs put p (record (dropped p) { state = state.AckDisconnect; info = info }) refl refl refl h;
  waits = λ p info on h. record { senders = h.senders; logged = h.logged; young = λ t. absurd (let x : false ≡ true = t in cc) };
  greets = λ p e h. record { senders = h.senders; logged = h.logged; young = λ t. absurd (let x : false ≡ true = t in cc) };
  welcomes = λ p v terms e big word h.
      let none : qs ≡ [] = h.young (ap is_young e) in
      record {
        senders = λ i s there. elim (get-take terms.channels (map cleared_sender p.outbox.senders) i) [
          | inl same ↦
              let r = get-map cleared_sender p.outbox.senders i s (sym same ∙ there) in
              let was = h.senders i r.0 r.1 in
              let from = was.1 in
              let empty : (mtu : ℕ) → of_channel mtu i qs ≡ [] = λ mtu. ap (of_channel mtu i) none in
              let old : IsSender p.terms.mtu [] r.0.sender = subst (λ l. IsSender p.terms.mtu l r.0.sender) (empty p.terms.mtu) from in
              subst (λ (y : SendingEnd). (y.channel ≡ i) × IsSender terms.mtu (of_channel terms.mtu i qs) y.sender) r.2
              (was.0, subst (λ l. IsSender terms.mtu l (sender.cleared r.0.sender)) (sym (empty terms.mtu)) (record { number = old.number; unreliable = old.unreliable; commands = λ c k. elim k [ inl f ↦ absurd f | inr w ↦ absurd w.1 ] }))
          | inr gone ↦ absurd (let x : None ≡ Some s = sym gone ∙ there in cc)
        ];
        logged = λ m c there is. none-meant p.terms.mtu c (subst (λ l. IsMeant p.terms.mtu (carried p.terms.mtu (of_channel p.terms.mtu m.head.channel l)) c) none (h.logged m c there is));
        young = λ t. absurd (let x : false ≡ true = t in cc);
      };
  acknowledges = λ p j number here h. record { senders = acknowledged-senders p.terms.mtu qs p.outbox j number h.senders; logged = h.logged; young = h.young };
  marks = λ p tick h. record { senders = map-senders p.terms.mtu qs (marked_sender tick) p.outbox.senders (λ s. (refl, marked-fewer tick s.sender)) h.senders; logged = h.logged; young = h.young };
  refuses = λ p at h. record { senders = h.senders; logged = h.logged; young = h.young };
  holds_back = λ p tick at h. record { senders = h.senders; logged = h.logged; young = h.young };
  gives_way = λ p on h. record { senders = h.senders; logged = h.logged; young = h.young };
  takes = λ p j r c on there h. record { senders = h.senders; logged = h.logged; young = h.young };
  takes_unsequenced = λ p j group payload on h. record { senders = h.senders; logged = h.logged; young = h.young };
  puts_control = λ p now timeout n due h. record { senders = h.senders; logged = h.logged; young = h.young };
  puts_data = λ p k occasion s n there due h. re-sends qs put p (slice_set p.outbox.senders k (record s { sender = n.sender }))
      (set-sender p.terms.mtu qs p.outbox.senders k s (record s { sender = n.sender }) there refl (sender-fewer p.terms.mtu (of_channel p.terms.mtu k qs) s.sender n.sender (next-fewer occasion s.sender n due).1) h.senders) h;
  drops_data = λ p k occasion s n there due h. re-sends qs put p (slice_set p.outbox.senders k (record s { sender = with_skipped n.sender }))
      (set-sender p.terms.mtu qs p.outbox.senders k s (record s { sender = with_skipped n.sender }) there refl
      (sender-fewer p.terms.mtu (of_channel p.terms.mtu k qs) s.sender (with_skipped n.sender) (fewer-then s.sender n.sender (with_skipped n.sender) (next-fewer occasion s.sender n due).1 (skipped-fewer n.sender))) h.senders) h;
}

-- a datagram

record Fills (mtu : ℕ) (qs : List Packet) (f : Filling) : Type 0 where
  senders : AreSenders mtu qs f.outbox.senders
  puts : AreMeant mtu qs f.messages

no-data : {A : Type 0} (m : Message) (c : DataCommand) → is_some (data_of m) ≡ false → data_of m ≡ Some c → A
no-data m c none is = absurd (let x : true ≡ false = sym (ap is_some is) ∙ none in cc)

more-puts : (mtu : ℕ) (qs : List Packet) (ms : List Message) (m : Message) → AreMeant mtu qs ms → ((c : DataCommand) → data_of m ≡ Some c → IsMeant mtu (carried mtu (of_channel mtu m.head.channel qs)) c) → AreMeant mtu qs (ms ++ m ∷ [])
more-puts mtu qs ms m old new x c there is = elim (Has-push_cases ms m x there) [
  | inl k ↦ old x c k is
  | inr e ↦ subst (λ (y : Message). IsMeant mtu (carried mtu (of_channel mtu y.head.channel qs)) c) e (new c (ap data_of e ∙ is))
]

-- a command that is due
due-meant : (mtu : ℕ) (qs : List Packet) (channel k : ℕ) (c d : DataCommand) → channel ≡ k → IsMeant mtu (carried mtu (of_channel mtu k qs)) c → data_of (message_of channel c) ≡ Some d → IsMeant mtu (carried mtu (of_channel mtu channel qs)) d
due-meant mtu qs channel k c d at h is =
    let itself : data_of (message_of channel c) ≡ Some c = subst (λ x. data_of (message_of channel x) ≡ Some x) (sym h.on_the_wire) (reads-piece mtu (carried mtu (of_channel mtu k qs)) h.meant h.piece channel) in
    let both : Some c ≡ Some d = sym itself ∙ is in
    let same : c ≡ d = cc in
    subst (IsMeant mtu (carried mtu (of_channel mtu channel qs))) same (subst (λ i. IsMeant mtu (carried mtu (of_channel mtu i qs)) c) (sym at) h)

fills : (mtu : ℕ) (qs : List Packet) (pace : Pace) (o : Outbox) → AreSenders mtu qs o.senders → Fills mtu qs (filled pace o)
fills mtu qs pace o h =
    by-filling pace o (Fills mtu qs) (record {
      closes = λ f a. record { senders = a.senders; puts = a.puts };
      acknowledges = λ f x rest e a. record { senders = a.senders; puts = more-puts mtu qs f.messages (acknowledgement_of x) a.puts (λ c is. absurd (cc)) };
      controls = λ f n e a. record {
        senders = a.senders;
        puts = more-puts mtu qs f.messages (controlling.message_of n.command) a.puts (λ c is. no-data (controlling.message_of n.command) c (control-none n.command.control (controlling.message_of n.command).head) is);
      };
      puts_unsequenced = λ f w rest t e a. record { senders = a.senders; puts = more-puts mtu qs f.messages (unsequenced_of w) a.puts (λ c is. absurd (cc)) };
      drops_unsequenced = λ f w rest t e a. record { senders = a.senders; puts = a.puts };
      puts_data = λ f k s n t there due a.
          let was = a.senders k s there in
          let next = next-fewer _ s.sender n due in
          record {
            senders = set-sender mtu qs f.outbox.senders k s (record s { sender = n.sender }) there refl (sender-fewer mtu (of_channel mtu k qs) s.sender n.sender next.1) a.senders;
            puts = more-puts mtu qs f.messages (message_of s.channel n.command) a.puts (λ c is. (let from = was.1 in due-meant mtu qs s.channel k n.command c was.0 (from.commands n.command next.0) is));
          };
      drops_data = λ f k s n t there due kind a.
          let next = next-fewer _ s.sender n due in
          record {
            senders = set-sender mtu qs f.outbox.senders k s (record s { sender = with_skipped n.sender }) there refl
                (sender-fewer mtu (of_channel mtu k qs) s.sender (with_skipped n.sender) (fewer-then s.sender n.sender (with_skipped n.sender) next.1 (skipped-fewer n.sender))) a.senders;
            puts = a.puts;
          };
      keeps_room = λ f i x there wants a. record { senders = a.senders; puts = a.puts };
      gives_room = λ f i x n there due a. record { senders = a.senders; puts = a.puts };
    }) (record { senders = h; puts = λ m c there is. absurd there })

if-peer : (P : Peering → Type 0) (b : Bool) (p q : Peering) → P p → P q → P (cond b p q)
if-peer P true p q x y = x
if-peer P false p q x y = y

gone_on-terms : (p : Peering) → (gone_on p).terms ≡ p.terms
gone_on-terms p = by p.state
  where
    Same : Peering → Type 0
    Same q = q.terms ≡ p.terms

    settles : Same (settled p)
    settles = if-peer Same (is_later p.state && is_done p.outbox) (disconnecting p p.info) p refl refl

    by : (s : PeerState) → Same (gone_on_in s p)
    by state.AckDisconnect = refl
    by state.Parting = if-peer Same (ltb 0 (length p.outbox.control.queued)) p (freed p) refl refl
    by s = settles

pub sends-emitted : (qs : List Packet) (put : List Message) (p : Peering) (now : ℕ) → Sends qs put p
    → Sends qs (put ++ (filled (pace_of p now) p.outbox).messages) (gone_on (record p { outbox = (filled (pace_of p now) p.outbox).outbox }))
sends-emitted qs put p now h =
    let q : Peering = gone_on (record p { outbox = (filled (pace_of p now) p.outbox).outbox }) in
    let k : Sends qs put q = kept-emitted (Sends qs put) (changes qs put) p now h in
    let f = fills p.terms.mtu qs (pace_of p now) p.outbox h.senders in
    let ms : List Message = (filled (pace_of p now) p.outbox).messages in
    let terms : q.terms ≡ p.terms = gone_on-terms (record p { outbox = (filled (pace_of p now) p.outbox).outbox }) in
    record {
      senders = k.senders;
      logged = subst (λ (t : Terms). AreMeant t.mtu qs (put ++ ms)) (sym terms) (λ m c there is. elim (Has-append_cases put ms m there) [ inl old ↦ h.logged m c old is | inr new ↦ f.puts m c new is ]);
      young = k.young;
    }

-- a submission

-- what was meant still is
meant-submitted : (mtu channel : ℕ) (qs : List Packet) (q : Packet) (c : DataCommand) → IsMeant mtu (carried mtu (of_channel mtu channel qs)) c → IsMeant mtu (carried mtu (of_channel mtu channel (qs ++ q ∷ []))) c
meant-submitted mtu channel qs q c h = subst (λ l. IsMeant mtu (carried mtu l) c) (sym (of_channel-push mtu channel qs q)) (by (q.channel == channel && not (is_unsequenced mtu (record { flags = q.flags; body = q.body }))))
  where
    ps : List command_choice.Packet
    ps = of_channel mtu channel qs

    p : command_choice.Packet
    p = record { flags = q.flags; body = q.body }

    by : (b : Bool) → IsMeant mtu (carried mtu (ps ++ cond b (p ∷ []) [])) c
    by true = subst (λ l. IsMeant mtu l c) (sym (carried-push mtu 0 ps p)) (meant-more mtu (carried mtu ps) _ c h)
    by false = subst (λ l. IsMeant mtu (carried mtu l) c) (sym (append-nil ps)) h

pub sends-submitted : (qs : List Packet) (put : List Message) (p : Peering) (q : Packet) → submission_refusal p q.channel (length q.body) ≡ None → Sends qs put p
    → Sends (qs ++ q ∷ []) put (submitted p q.channel (record { flags = q.flags; body = q.body }))
sends-submitted qs put p q none h = by (is_unsequenced mtu c) refl
  where
    mtu : ℕ
    mtu = p.terms.mtu

    c : command_choice.Packet
    c = record { flags = q.flags; body = q.body }

    on : is_connected p.state ≡ true
    on = (accepted (is_connected p.state) (leb (length p.outbox.senders) q.channel) (ltb p.limits.max_packet (length q.body) || ltb fragment_limit (piece_count (length q.body) mtu)) none).0

    -- what goes on a channel, where the packet goes in sequence or not
    adds : (channel : ℕ) (b : Bool) → (q.channel == channel && not (is_unsequenced mtu c)) ≡ b → of_channel mtu channel (qs ++ q ∷ []) ≡ of_channel mtu channel qs ++ cond b (c ∷ []) []
    adds channel b e = of_channel-push mtu channel qs q ∙ ap (λ (t : Bool). of_channel mtu channel qs ++ cond t (c ∷ []) []) e

    same : (channel : ℕ) → (q.channel == channel && not (is_unsequenced mtu c)) ≡ false → of_channel mtu channel (qs ++ q ∷ []) ≡ of_channel mtu channel qs
    same channel e = adds channel false e ∙ append-nil (of_channel mtu channel qs)

    made : (ss : List SendingEnd) (r : Peering) → r.terms ≡ p.terms → r.state ≡ p.state → r.outbox.senders ≡ ss → AreSenders mtu (qs ++ q ∷ []) ss → Sends (qs ++ q ∷ []) put r
    made ss r terms at is a = record {
      senders = subst (λ l. AreSenders r.terms.mtu (qs ++ q ∷ []) l) (sym is) (subst (λ (t : Terms). AreSenders t.mtu (qs ++ q ∷ []) ss) (sym terms) a);
      logged = subst (λ (t : Terms). AreMeant t.mtu (qs ++ q ∷ []) put) (sym terms) (λ m d there x. meant-submitted mtu m.head.channel qs q d (h.logged m d there x));
      young = λ t. absurd (let x : true ≡ false = sym t ∙ ap is_young at ∙ connected-old p.state on in cc);
    }

    false-and : (b : Bool) → (b && false) ≡ false
    false-and true = refl
    false-and false = refl

    -- it goes unsequenced
    loose : is_unsequenced mtu c ≡ true → AreSenders mtu (qs ++ q ∷ []) p.outbox.senders
    loose e i s there = (let was = h.senders i s there in
        (was.0, subst (λ l. IsSender mtu l s.sender) (sym (same i (ap (λ b. q.channel == i && not b) e ∙ false-and (q.channel == i)))) was.1))

    elsewhere : (i : ℕ) → q.channel ≢ i → (q.channel == i && not (is_unsequenced mtu c)) ≡ false
    elsewhere i n = (let off : (q.channel == i) ≡ false = grind (arith, nat_tests) in ap (λ b. b && not (is_unsequenced mtu c)) off)

    here : is_unsequenced mtu c ≡ false → (q.channel == q.channel && not (is_unsequenced mtu c)) ≡ true
    here e = (let own : (q.channel == q.channel) ≡ true = grind (arith, nat_tests) in (λ i. own i && not (e i)))

    sequenced : is_unsequenced mtu c ≡ false → (o : Option SendingEnd) → slice_get p.outbox.senders q.channel ≡ o → Sends (qs ++ q ∷ []) put (record p { outbox = with_sequenced p.outbox mtu q.channel c o })
    sequenced e None there = made p.outbox.senders (record p { outbox = p.outbox }) refl refl refl (λ i s at. (let was = h.senders i s at in (
      was.0,
      subst (λ l. IsSender mtu l s.sender) (sym (same i (elsewhere i (λ is. (let x : None ≡ Some s = sym there ∙ ap (slice_get p.outbox.senders) is ∙ at in cc))))) was.1,
    )))
    sequenced e (Some t) there =
        let u : SendingEnd = record t { sender = sender.submitted wire mtu t.sender c } in
        made (slice_set p.outbox.senders q.channel u) (record p { outbox = with_sequenced p.outbox mtu q.channel c (Some t) }) refl refl refl
        (λ i s at. elim (either (q.channel == i)) [
          | inl on' ↦ (let is : q.channel ≡ i = grind (arith, nat_tests) in
              let both : Some u ≡ Some s = sym (get-set p.outbox.senders q.channel t u there) ∙ ap (slice_get (slice_set p.outbox.senders q.channel u)) is ∙ at in
              let us : u ≡ s = cc in
              let was = h.senders q.channel t there in
              let grown : IsSender mtu (of_channel mtu q.channel (qs ++ q ∷ [])) u.sender = subst (λ l. IsSender mtu l u.sender) (sym (adds q.channel true (here e))) (sender-submitted mtu (of_channel mtu q.channel qs) t.sender c was.1) in
              subst (λ (y : SendingEnd). (y.channel ≡ i) × IsSender mtu (of_channel mtu i (qs ++ q ∷ [])) y.sender) us
              (subst (λ j. (t.channel ≡ j) × IsSender mtu (of_channel mtu j (qs ++ q ∷ [])) u.sender) is (was.0, grown)))
          | inr off ↦ (let n : q.channel ≢ i = (λ is. grind (arith, nat_tests)) in
              let was = h.senders i s (sym (get-set-other p.outbox.senders q.channel i u n) ∙ at) in
              (was.0, subst (λ l. IsSender mtu l s.sender) (sym (same i (elsewhere i n))) was.1))
        ])

    by : (b : Bool) → is_unsequenced mtu c ≡ b
        → Sends (qs ++ q ∷ []) put (record p { outbox = cond b (with_unsequenced p.outbox q.channel c) (with_sequenced p.outbox mtu q.channel c (slice_get p.outbox.senders q.channel)) })
    by true e = made p.outbox.senders (record p { outbox = with_unsequenced p.outbox q.channel c }) refl refl refl (loose e)
    by false e = sequenced e (slice_get p.outbox.senders q.channel) refl

-- a new peer

pub sends-nothing : (p : Peering) → ((i : ℕ) (s : SendingEnd) → slice_get p.outbox.senders i ≡ Some s → (s.channel ≡ i) × (s.sender ≡ nothing_sent)) → Sends [] [] p
sends-nothing p h = record {
  senders = λ i s there. (let x = h i s there in (x.0, subst (IsSender p.terms.mtu []) (sym x.1) (sender-nothing p.terms.mtu)));
  logged = λ m c there is. absurd there;
  young = λ t. refl;
}
