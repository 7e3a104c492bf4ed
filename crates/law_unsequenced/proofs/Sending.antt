-- Each unsequenced packet that an end has queued or put out is one that its user submitted.
use Rattle.std.proofs.Common.{◌≡◌, ℕ, ◌+◌, ◌%◌, Bool, true, false, cond, List, [], ◌∷◌, ◌++◌, map, length, refl, sym, ap, subst, ◌∙◌, inl, inr, ◌⊎◌, arith, Option, Some, None}
use Rattle.std.specs.List.{slice_get}
use Rattle.std.proofs.lemmas.List.{append-nil, length-append}
use Rattle.std.proofs.lemmas.List.Elements.{filter-append}
use Rattle.enet_codec.specs.declared.packet.Packet.{Packet}
use Rattle.enet_codec.specs.declared.command.Fragment.{Fragment}
use Rattle.enet_codec.specs.declared.command.Offer.{Offer}
use Rattle.enet_codec.specs.Message.{Message}
use Rattle.enet_seq.specs.Windows.{after}
use Rattle.enet_connect.specs.declared.server.Server.{Server}
use Rattle.enet_fragment.specs.DataCommand.{message_of, wire_body}
use Rattle.enet_senders.specs.declared.control.Control.{Control}
use Rattle.enet_senders.specs.declared.control.Control.TheVariants as control
use Rattle.enet_senders.specs.Controlling as controlling
use Rattle.enet_sender.specs.Due.{SendingEnd}
use Rattle.enet_sender.specs.CommandChoice as command_choice
use Rattle.enet_outbox.specs.declared.parts.Pace.{Pace}
use Rattle.enet_outbox.specs.declared.parts.Unsequenced.{Unsequenced}
use Rattle.enet_outbox.specs.Outbox.{Outbox, is_unsequenced, with_unsequenced, with_sequenced}
use Rattle.enet_outbox.specs.Emission.{Filling, acknowledgement_of, unsequenced_of, filled}
use Rattle.enet_outbox.proofs.Filled.{by-filling}
use Rattle.enet_peer.specs.Peering.{Peering, answering}
use Rattle.enet_peer.specs.declared.parts.Limits.{Limits}
use Rattle.enet_peer.specs.declared.parts.Offsets.{Offsets}
use Rattle.enet_peer.specs.Calls.{pace_of, gone_on, submitted}
use Rattle.law_connection.specs.LinkSteps.{Has}
use Rattle.law_connection.specs.Connection.{Put, End, put_by}
use Rattle.law_connection.specs.Steps.{with_emission}
use Rattle.law_connection.specs.Law.{mtu_in}
use Rattle.law_connection.proofs.Lists.{Has-push_cases, Has-append_cases}
use Rattle.law_connection.proofs.Emits.{Has-from_map}
use Rattle.law_unsequenced.specs.Unsequenced.{going_unsequenced, carried_in, carried, ComeAs}
use Rattle.law_unsequenced.proofs.Parts.{nth-more}
use Rattle.law_unsequenced.proofs.Staying.{core, Stays, gone_on-stays}

-- one of the submitted packets
abbrev pub IsOne : List Packet → Unsequenced → Type 0
IsOne qs u = (n : ℕ) × ComeAs qs n u

pub one-more : (qs more : List Packet) (u : Unsequenced) → IsOne qs u → IsOne (qs ++ more) u
one-more qs more u h = (h.0, (h.1.0, nth-more qs more h.0 u.channel u.body h.1.1))

-- what is queued is of these packets, and the last group given is that of the last of them
pub record Queues (qs : List Packet) (group : ℕ) (waiting : List Unsequenced) : Type 0 where
  pub group_is : group ≡ length qs % 65536
  pub waits : (u : Unsequenced) → Has waiting u → IsOne qs u

abbrev pub QueuesIn : List Packet → Option Peering → Type 0
QueuesIn qs None = Unit {0}
QueuesIn qs (Some p) = Queues qs p.outbox.group p.outbox.unsequenced

-- what was submitted to go unsequenced
abbrev pub sent_in : List Packet → Option Peering → List Packet
sent_in submitted o = going_unsequenced (mtu_in o) submitted

-- what an end keeps of what it sends
pub record Sends (log : List Put) (submitted : List Packet) (o : Option Peering) : Type 0 where
  pub logged : (x : Put) (u : Unsequenced) → Has log x → Has (carried x.message) u → IsOne (sent_in submitted o) u
  pub queued : QueuesIn (sent_in submitted o) o

abbrev pub SendsAt : End → Type 0
SendsAt e = Sends e.log e.submitted e.peer

-- it still keeps that afterwards, and of what was submitted only more has come
pub record Goes (own : End) (log : List Put) (submitted : List Packet) (o : Option Peering) : Type 0 where
  pub sends : Sends log submitted o
  pub more : List Packet
  pub grows : sent_in submitted o ≡ sent_in own.submitted own.peer ++ more

-- the mtu stays once something was submitted
sent-same : (qs : List Packet) (p q : Peering) → (q.terms.mtu ≡ p.terms.mtu) ⊎ (qs ≡ []) → going_unsequenced q.terms.mtu qs ≡ going_unsequenced p.terms.mtu qs
sent-same qs p q (inl same) = ap (λ mtu. going_unsequenced mtu qs) same
sent-same qs p q (inr none) = subst (λ l. going_unsequenced q.terms.mtu l ≡ going_unsequenced p.terms.mtu l) (sym none) refl

-- another peer
pub goes-on : (own : End) (log : List Put) (p q : Peering) → own.peer ≡ Some p → (q.terms.mtu ≡ p.terms.mtu) ⊎ (own.submitted ≡ []) → q.outbox.group ≡ p.outbox.group
    → ((u : Unsequenced) → Has q.outbox.unsequenced u → Has p.outbox.unsequenced u)
    → ((x : Put) (u : Unsequenced) → Has log x → Has (carried x.message) u → Has own.log x ⊎ Has p.outbox.unsequenced u)
    → SendsAt own → Goes own log own.submitted (Some q)
goes-on own log p q is mtu group waits logs h = record {
  sends = record {
    logged = λ x u there c. elim (logs x u there c) [ inl old ↦ subst (λ qs. IsOne qs u) (sym same) (s.logged x u old c) | inr new ↦ subst (λ qs. IsOne qs u) (sym same) (k.waits u new) ];
    queued = record { group_is = group ∙ k.group_is ∙ ap (λ (qs : List Packet). length qs % 65536) (sym same); waits = λ u w. subst (λ qs. IsOne qs u) (sym same) (k.waits u (waits u w)) };
  };
  more = [];
  grows = same ∙ ap (λ o. sent_in own.submitted o) (sym is) ∙ sym (append-nil (sent_in own.submitted own.peer));
}
  where
    same : going_unsequenced q.terms.mtu own.submitted ≡ going_unsequenced p.terms.mtu own.submitted
    same = sent-same own.submitted p q mtu

    s : Sends own.log own.submitted (Some p)
    s = subst (λ (o : Option Peering). Sends own.log own.submitted o) is h

    k : Queues (going_unsequenced p.terms.mtu own.submitted) p.outbox.group p.outbox.unsequenced
    k = s.queued

-- a datagram

control-carries : (what : Control) (channel : ℕ) → carried_in channel (controlling.body_of what) ≡ []
control-carries (control.Connect offer) channel = refl
control-carries (control.VerifyConnect verify) channel = refl
control-carries (control.Disconnect info) channel = refl
control-carries (control.DisconnectNow info) channel = refl
control-carries control.Ping channel = refl
control-carries (control.BandwidthLimit incoming outgoing) channel = refl
control-carries (control.ThrottleConfigure interval acceleration deceleration) channel = refl

data-carries : (channel : ℕ) (r : Bool) (f : Option Fragment) (number : ℕ) (body : List ℕ) → carried_in channel (wire_body r f number body) ≡ []
data-carries channel true None number body = refl
data-carries channel true (Some f) number body = refl
data-carries channel false None number body = refl
data-carries channel false (Some f) number body = refl

-- what was queued is put out, waits still, or was dropped
record Fills (o : Outbox) (f : Filling) : Type 0 where
  group : f.outbox.group ≡ o.group
  waits : (u : Unsequenced) → Has f.outbox.unsequenced u → Has o.unsequenced u
  puts : (m : Message) (u : Unsequenced) → Has f.messages m → Has (carried m) u → Has o.unsequenced u

more-puts : (o : Outbox) (ms : List Message) (m : Message) → ((x : Message) (u : Unsequenced) → Has ms x → Has (carried x) u → Has o.unsequenced u) → ((u : Unsequenced) → Has (carried m) u → Has o.unsequenced u)
    → (x : Message) (u : Unsequenced) → Has (ms ++ m ∷ []) x → Has (carried x) u → Has o.unsequenced u
more-puts o ms m old new x u h c = elim (Has-push_cases ms m x h) [ inl k ↦ old x u k c | inr e ↦ new u (subst (λ (y : Message). Has (carried y) u) (sym e) c) ]

carries-none : {A : Type 0} (m : Message) (u : Unsequenced) → carried m ≡ [] → Has (carried m) u → A
carries-none m u e h = absurd (subst (λ l. Has l u) e h)

fills : (pace : Pace) (o : Outbox) → Fills o (filled pace o)
fills pace o =
    by-filling pace o (Fills o) (record {
      closes = λ f a. record { group = a.group; waits = a.waits; puts = a.puts };
      acknowledges = λ f x rest e a. record { group = a.group; waits = a.waits; puts = more-puts o f.messages (acknowledgement_of x) a.puts (λ u c. absurd c) };
      controls = λ f n e a. (let m : Message = controlling.message_of n.command in
          record { group = a.group; waits = a.waits; puts = more-puts o f.messages m a.puts (λ u c. carries-none m u (control-carries n.command.control 0xFF) c) });
      puts_unsequenced = λ f w rest t e a. record {
        group = a.group;
        waits = λ u h. a.waits u (subst (λ l. Has l u) (sym e) (inr h));
        puts = more-puts o f.messages (unsequenced_of w) a.puts (λ u c. elim c [ inl same ↦ a.waits u (subst (λ l. Has l u) (sym e) (inl same)) | inr none ↦ absurd none ]);
      };
      drops_unsequenced = λ f w rest t e a. record { group = a.group; waits = λ u h. a.waits u (subst (λ l. Has l u) (sym e) (inr h)); puts = a.puts };
      puts_data = λ f k s n t there due a. (let m : Message = message_of s.channel n.command in
          record { group = a.group; waits = a.waits; puts = more-puts o f.messages m a.puts (λ u c. carries-none m u (data-carries s.channel n.command.reliable n.command.fragment n.command.unreliable n.command.body) c) });
      drops_data = λ f k s n t there due kind a. record { group = a.group; waits = a.waits; puts = a.puts };
      keeps_room = λ f i x there wants a. record { group = a.group; waits = a.waits; puts = a.puts };
      gives_room = λ f i x n there due a. record { group = a.group; waits = a.waits; puts = a.puts };
    }) (record { group = refl; waits = λ u h. h; puts = λ m u h c. absurd h })

pub goes-emitted : (own other : End) (p : Peering) (now : ℕ) → own.peer ≡ Some p → SendsAt own
    → Goes own (with_emission own other p now).log own.submitted (Some (gone_on (record p { outbox = (filled (pace_of p now) p.outbox).outbox })))
goes-emitted own other p now is h =
    goes-on own (with_emission own other p now).log p q is (inl g.mtu) (g.group ∙ f.group) (λ u w. f.waits u (g.waiting u w))
    (λ x u there c. elim (Has-append_cases own.log (map put ms) x there) [
      | inl old ↦ inl old
      | inr new ↦ (let r = Has-from_map put ms x new in inr (f.puts r.0 u r.1 (subst (λ (y : Put). Has (carried y.message) u) (sym r.2) c)))
    ]) h
  where
    ms : List Message
    ms = (filled (pace_of p now) p.outbox).messages

    put : Message → Put
    put = put_by (record own { log = own.log ++ map (λ (m : Message). record { message = m; sent_then = 0 }) ms }) other

    f : Fills p.outbox (filled (pace_of p now) p.outbox)
    f = fills (pace_of p now) p.outbox

    between : Peering
    between = record p { outbox = (filled (pace_of p now) p.outbox).outbox }

    q : Peering
    q = gone_on between

    g : Stays (core between) (core q)
    g = gone_on-stays between

-- a submission

pub goes-submitted : (own : End) (p : Peering) (q : Packet) → own.peer ≡ Some p → SendsAt own → Goes own own.log (own.submitted ++ q ∷ []) (Some (submitted p q.channel (record { flags = q.flags; body = q.body })))
goes-submitted own p q is h = by (is_unsequenced mtu c) refl
  where
    c : command_choice.Packet
    c = record { flags = q.flags; body = q.body }

    mtu : ℕ
    mtu = p.terms.mtu

    o : Outbox
    o = p.outbox

    qs : List Packet
    qs = going_unsequenced mtu own.submitted

    s : Sends own.log own.submitted (Some p)
    s = subst (λ (x : Option Peering). Sends own.log own.submitted x) is h

    k : Queues qs o.group o.unsequenced
    k = s.queued

    -- one more went unsequenced, or none
    adds : (b : Bool) → is_unsequenced mtu c ≡ b → going_unsequenced mtu (own.submitted ++ q ∷ []) ≡ qs ++ cond b (q ∷ []) []
    adds b e = filter-append (λ (x : Packet). is_unsequenced mtu (record { flags = x.flags; body = x.body })) own.submitted (q ∷ []) ∙ ap (λ (t : Bool). qs ++ cond t (q ∷ []) []) e

    grown : (more all : List Packet) → all ≡ qs ++ more → all ≡ sent_in own.submitted own.peer ++ more
    grown more all e = e ∙ ap (λ x. sent_in own.submitted x ++ more) (sym is)

    made : (r : Peering) → r.terms.mtu ≡ mtu → (more : List Packet) → going_unsequenced mtu (own.submitted ++ q ∷ []) ≡ qs ++ more → Queues (qs ++ more) r.outbox.group r.outbox.unsequenced
        → Goes own own.log (own.submitted ++ q ∷ []) (Some r)
    made r same more e queued =
        let all : going_unsequenced r.terms.mtu (own.submitted ++ q ∷ []) ≡ qs ++ more = ap (λ m. going_unsequenced m (own.submitted ++ q ∷ [])) same ∙ e in
        record {
          sends = record {
            logged = λ x u there carry. subst (λ l. IsOne l u) (sym all) (one-more qs more u (s.logged x u there carry));
            queued = subst (λ l. Queues l r.outbox.group r.outbox.unsequenced) (sym all) queued;
          };
          more = more;
          grows = grown more (going_unsequenced r.terms.mtu (own.submitted ++ q ∷ [])) all;
        }

    new : Unsequenced
    new = record { channel = q.channel; group = after o.group 1; body = q.body }

    next-group : (n g : ℕ) → g ≡ n % 65536 → (n + 1) % 65536 ≡ after g 1
    next-group n g e = omega arith

    queued-more : Queues (qs ++ q ∷ []) (after o.group 1) (o.unsequenced ++ new ∷ [])
    queued-more = record {
      group_is = sym (next-group (length qs) o.group k.group_is) ∙ ap (λ n. n % 65536) (sym (length-append qs (q ∷ [])));
      waits = λ u w. elim (Has-push_cases o.unsequenced new u w) [
        | inl old ↦ one-more qs (q ∷ []) u (k.waits u old)
        | inr e ↦ subst (λ x. IsOne (qs ++ q ∷ []) x) e
            (length qs + 1, (next-group (length qs) o.group k.group_is, record { before = qs; packet = q; later = []; split = refl; number = refl; channel_is = refl; body_is = refl }))
      ];
    }

    same-queued : Queues (qs ++ []) o.group o.unsequenced
    same-queued = subst (λ l. Queues l o.group o.unsequenced) (sym (append-nil qs)) k

    sequenced : (x : Option SendingEnd) → is_unsequenced mtu c ≡ false → Goes own own.log (own.submitted ++ q ∷ []) (Some (record p { outbox = with_sequenced o mtu q.channel c x }))
    sequenced None e = made p refl [] (adds false e) same-queued
    sequenced (Some t) e = made (record p { outbox = with_sequenced o mtu q.channel c (Some t) }) refl [] (adds false e) same-queued

    by : (b : Bool) → is_unsequenced mtu c ≡ b
        → Goes own own.log (own.submitted ++ q ∷ []) (Some (record p { outbox = cond b (with_unsequenced o q.channel c) (with_sequenced o mtu q.channel c (slice_get o.senders q.channel)) }))
    by true e = made (record p { outbox = with_unsequenced o q.channel c }) refl (q ∷ []) (adds true e) queued-more
    by false e = sequenced (slice_get o.senders q.channel) e

-- a host answers
pub goes-answered : (own : End) (now : ℕ) (offsets : Offsets) (offer : Offer) (server : Server) (limits : Limits) → own.peer ≡ None → own.submitted ≡ [] → SendsAt own → Goes own own.log own.submitted (Some (answering now offsets offer server limits))
goes-answered own now offsets offer server limits is none h = record {
  sends = record {
    logged = λ x u there c. subst (λ l. IsOne l u) (was ∙ sym nothing) (h.logged x u there c);
    queued = record { group_is = ap (λ (l : List Packet). length l % 65536) (sym nothing); waits = λ u w. absurd w };
  };
  more = [];
  grows = nothing ∙ sym was ∙ sym (append-nil (sent_in own.submitted own.peer));
}
  where
    q : Peering
    q = answering now offsets offer server limits

    nothing : going_unsequenced q.terms.mtu own.submitted ≡ []
    nothing = subst (λ l. going_unsequenced q.terms.mtu l ≡ []) (sym none) refl

    was : sent_in own.submitted own.peer ≡ []
    was = subst (λ l. going_unsequenced (mtu_in own.peer) l ≡ []) (sym none) refl
