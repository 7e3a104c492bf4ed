-- What an end takes of what comes unsequenced: some of the commands that came, each marked in its turn.
use Rattle.std.proofs.Common.{◌≡◌, ℕ, true, cond, ◌==◌, List, [], ◌∷◌, ◌++◌, map, refl, sym, ap, subst, ◌∙◌, inl, inr, Option, Some, None}
use Rattle.std.proofs.lemmas.List.{append-nil, append_assoc, map-append}
use Rattle.std.proofs.lemmas.List.Elements.{filter-append}
use Rattle.enet_codec.specs.declared.packet.Packet.{Packet}
use Rattle.enet_unsequenced.specs.Groups.{Seen, nothing_seen, dispatches, mark, dispatched}
use Rattle.enet_outbox.specs.declared.parts.Unsequenced.{Unsequenced}
use Rattle.enet_peer.specs.Peering.{Peering}
use Rattle.enet_peer.specs.declared.parts.PeerEvent.{PeerEvent}
use Rattle.enet_peer.specs.declared.parts.PeerEvent.TheVariants as told
use Rattle.enet_peer.specs.declared.parts.PeerState.TheVariants as state
use Rattle.enet_peer.specs.Calls.{next_event}
use Rattle.law_connection.specs.Connection.{packets_of}
use Rattle.law_connection.proofs.Events.{took}
use Rattle.law_connection.proofs.Moves.{packets-push}
use Rattle.law_unsequenced.specs.Unsequenced.{come_unsequenced, ComeAs, Each}
use Rattle.law_unsequenced.proofs.Parts.{IsPart, part-more, part-push, part-front}
use Rattle.law_unsequenced.proofs.Staying.{packet_in, Comes}

-- the groups seen once these were dispatched, one after another
abbrev pub seen_after : Seen → List Unsequenced → Seen
seen_after s [] = s
seen_after s (u ∷ us) = seen_after (mark s u.group) us

-- each of them is dispatched in its turn
abbrev pub AllGo : Seen → List Unsequenced → Type 0
AllGo s [] = Unit {0}
AllGo s (u ∷ us) = (dispatches s u.group ≡ true) × AllGo (mark s u.group) us

seen-push : (s : Seen) (us : List Unsequenced) (u : Unsequenced) → seen_after s (us ++ u ∷ []) ≡ mark (seen_after s us) u.group
seen-push s [] u = refl
seen-push s (x ∷ us) u = seen-push (mark s x.group) us u

go-push : (s : Seen) (us : List Unsequenced) (u : Unsequenced) → AllGo s us → dispatches (seen_after s us) u.group ≡ true → AllGo s (us ++ u ∷ [])
go-push s [] u h e = (e, tt)
go-push s (x ∷ us) u h e = (h.0, go-push (mark s x.group) us u h.1 e)

-- by the law of groups these are all
pub all-dispatched : (qs : List Packet) (s : Seen) (ns : List ℕ) (us : List Unsequenced) → Each (ComeAs qs) ns us → AllGo s us → dispatched s ns ≡ ns
all-dispatched qs s [] [] e h = refl
all-dispatched qs s [] (u ∷ us) e h = absurd e
all-dispatched qs s (n ∷ ns) [] e h = absurd e
all-dispatched qs s (n ∷ ns) (u ∷ us) e h =
    subst (λ g. cond (dispatches s g) (n ∷ dispatched (mark s g) ns) (dispatched s ns) ≡ n ∷ ns) (sym e.0.0)
    (ap (λ b. cond b (n ∷ dispatched (mark s u.group) ns) (dispatched s ns)) h.0 ∙ ap (λ l. n ∷ l) (all-dispatched qs (mark s u.group) ns us e.1 h.1))

abbrev pub seen_in : Option Peering → Seen
seen_in None = nothing_seen
seen_in (Some p) = p.inbox.seen

abbrev pub untaken_in : Option Peering → List Packet
untaken_in None = []
untaken_in (Some p) = come_unsequenced p.inbox.untaken

-- an end to which these came
pub record Gets (come : List Unsequenced) (events : List PeerEvent) (o : Option Peering) : Type 0 where
  pub kept : List Unsequenced
  pub part : IsPart kept come
  pub go : AllGo nothing_seen kept
  pub seen : seen_in o ≡ seen_after nothing_seen kept
  -- what was taken and what is to be
  pub got : IsPart (come_unsequenced (packets_of events) ++ untaken_in o) (map packet_in kept)

-- what a command makes of it
pub gets-more : (come us : List Unsequenced) (events : List PeerEvent) (o : Option Peering) (q : Peering) → Comes us (seen_in o) (untaken_in o) q.inbox.seen (come_unsequenced q.inbox.untaken)
    → Gets come events o → Gets (come ++ us) events (Some q)
gets-more come us events o q (inl c) h = record {
  kept = h.kept;
  part = part-more h.kept come us h.part;
  go = h.go;
  seen = c.0 ∙ h.seen;
  got = elim c.1 [
    | inl same ↦ subst (λ l. IsPart (taken ++ l) (map packet_in h.kept)) (sym same) h.got
    | inr none ↦ subst (λ l. IsPart (taken ++ l) (map packet_in h.kept)) (sym none) (subst (λ l. IsPart l (map packet_in h.kept)) (sym (append-nil taken)) (part-front taken (untaken_in o) (map packet_in h.kept) h.got))
  ];
}
  where
    taken : List Packet
    taken = come_unsequenced (packets_of events)
gets-more come us events o q (inr c) h =
    let u : Unsequenced = c.0 in
    let taken : List Packet = come_unsequenced (packets_of events) in
    record {
      kept = h.kept ++ u ∷ [];
      part = subst (λ l. IsPart (h.kept ++ u ∷ []) (come ++ l)) (sym c.1) (part-push h.kept come u h.part);
      go = go-push nothing_seen h.kept u h.go (subst (λ s. dispatches s u.group ≡ true) h.seen c.2);
      seen = c.3 ∙ ap (λ s. mark s u.group) h.seen ∙ sym (seen-push nothing_seen h.kept u);
      got = subst (λ l. IsPart (taken ++ l) (map packet_in (h.kept ++ u ∷ []))) (sym c.4)
          (subst (λ l. IsPart l (map packet_in (h.kept ++ u ∷ []))) (append_assoc taken (untaken_in o) (packet_in u ∷ []))
          (subst (λ l. IsPart ((taken ++ untaken_in o) ++ packet_in u ∷ []) l) (sym (map-append packet_in h.kept (u ∷ []))) (part-push (taken ++ untaken_in o) (map packet_in h.kept) (packet_in u) h.got)));
    }

-- the user takes an event
pub gets-took : (come : List Unsequenced) (events : List PeerEvent) (p q : Peering) (e : PeerEvent) → next_event p ≡ Some (record { event = e; after = q }) → Gets come events (Some p) → Gets come (events ++ e ∷ []) (Some q)
gets-took come events p q e next h =
    took (λ q e. Gets come (events ++ e ∷ []) (Some q)) p q e next
    (λ info g. with (told.Connect info) (record p { greeting = None }) refl (untold (told.Connect info) refl))
    (λ x rest g u. with (told.Receive x) (record p { inbox = record p.inbox { untaken = rest } }) refl (receives x rest u))
    (λ g u at. with (told.Disconnect p.info) (record p { state = state.Free }) refl (untold (told.Disconnect p.info) refl))
  where
    taken : List Packet
    taken = come_unsequenced (packets_of events)

    untaken : List Packet
    untaken = come_unsequenced p.inbox.untaken

    pushed : (e : PeerEvent) → come_unsequenced (packets_of (events ++ e ∷ [])) ≡ taken ++ come_unsequenced (packets_of (e ∷ []))
    pushed e = ap come_unsequenced (packets-push events e) ∙ filter-append (λ (x : Packet). x.flags == 2) (packets_of events) (packets_of (e ∷ []))

    untold : (e : PeerEvent) → packets_of (e ∷ []) ≡ [] → come_unsequenced (packets_of (events ++ e ∷ [])) ++ untaken ≡ taken ++ untaken
    untold e none = ap (λ l. l ++ untaken) (pushed e ∙ ap (λ l. taken ++ come_unsequenced l) none ∙ append-nil taken)

    receives : (x : Packet) (rest : List Packet) → p.inbox.untaken ≡ x ∷ rest → come_unsequenced (packets_of (events ++ told.Receive x ∷ [])) ++ come_unsequenced rest ≡ taken ++ untaken
    receives x rest u =
        ap (λ l. l ++ come_unsequenced rest) (pushed (told.Receive x))
        ∙ append_assoc taken (come_unsequenced (x ∷ [])) (come_unsequenced rest)
        ∙ ap (λ l. taken ++ l) (sym (filter-append (λ (y : Packet). y.flags == 2) (x ∷ []) rest))
        ∙ ap (λ l. taken ++ come_unsequenced l) (sym u)

    with : (e : PeerEvent) (q : Peering) → q.inbox.seen ≡ p.inbox.seen → come_unsequenced (packets_of (events ++ e ∷ [])) ++ come_unsequenced q.inbox.untaken ≡ taken ++ untaken → Gets come (events ++ e ∷ []) (Some q)
    with e q seen all = record { kept = h.kept; part = h.part; go = h.go; seen = seen ∙ h.seen; got = subst (λ l. IsPart l (map packet_in h.kept)) (sym all) h.got }
