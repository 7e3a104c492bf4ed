-- Orders receiver by receiver are for each receiver what they are event by event.
use Rattle.std.proofs.Common.{◌≡◌, ℕ, zero, suc, ◌+◌, ◌<◌, Bool, true, false, not, cond, List, [], ◌∷◌, ◌++◌, length, take, get_or, flat_map, refl, sym, ◌∙◌, ap, subst}
use Rattle.std.proofs.lemmas.List.{append-nil, take_more}
use Rattle.std.proofs.lemmas.List.Elements.{filter-append}
use Rattle.enet_codec.specs.declared.event.PeerRef.{PeerRef}
use Rattle.enet_codec.specs.declared.event.Event.{Event}
use Rattle.enet_codec.specs.declared.event.Event.TheVariants.{Connect, Receive, Disconnect, Refused}
use Rattle.enet_submit.specs.declared.order.Order.{Order}
use Rattle.enet_submit.specs.declared.order.Order.TheVariants.{Submit}
use Rattle.enet_chat.specs.Peers.{is_same, has, has_each_once, others}
use Rattle.enet_chat.specs.Chat.{chat, relayed}
use Rattle.enet_chat.specs.Relaying.{noted_all, relayed_all, is_for, those_for, SameForEach}
use Rattle.enet_chat.specs.Private.Relaying.{IsPacket, ArePackets}
use Rattle.enet_chat.specs.Private.Grouping.{relayed_to, grouped}
use Rattle.enet_chat.proofs.PeersLemmas.{or_none, and_both, not_true, same_is}

-- ---- packets
pub packets_note : (peers : List PeerRef) (es : List Event) → ArePackets es → noted_all peers es ≡ peers
packets_note peers [] p = refl
packets_note peers (Connect peer info ∷ es) p = absurd p.0
packets_note peers (Receive peer packet ∷ es) p = packets_note peers es p.1
packets_note peers (Disconnect peer info ∷ es) p = absurd p.0
packets_note peers (Refused seat number why ∷ es) p = absurd p.0

packets_then : (es : List Event) (e : Event) → ArePackets es → IsPacket e → ArePackets (es ++ e ∷ [])
packets_then [] e p q = (q, tt)
packets_then (f ∷ es) e p q = (p.0, packets_then es e p.1 q)

pub packets_more : (es : List Event) (n : ℕ) (d : Event) → n < length es → ArePackets (take n es) → IsPacket (get_or es n d) → ArePackets (take (n + 1) es)
packets_more es n d lt p q = subst ArePackets (sym (take_more es n d lt)) (packets_then (take n es) (get_or es n d) p q)

-- ---- an event over one peer and over others
chat_more : (b : Bool) (p : PeerRef) (ps : List PeerRef) (channel : ℕ) (body : List ℕ) → chat (cond b (p ∷ ps) ps) channel body ≡ chat (cond b (p ∷ []) []) channel body ++ chat ps channel body
chat_more true p ps zero body = refl
chat_more true p ps (suc zero) body = refl
chat_more true p ps (suc (suc n)) body = refl
chat_more false p ps zero body = refl
chat_more false p ps (suc zero) body = refl
chat_more false p ps (suc (suc n)) body = refl

relayed_more : (p : PeerRef) (ps : List PeerRef) (e : Event) → relayed (p ∷ ps) e ≡ relayed (p ∷ []) e ++ relayed ps e
relayed_more p ps (Connect peer info) = refl
relayed_more p ps (Receive from packet) = chat_more (not (is_same p from)) p (others ps from) packet.channel packet.body
relayed_more p ps (Disconnect peer info) = refl
relayed_more p ps (Refused seat number why) = refl

chat_none : (channel : ℕ) (body : List ℕ) → chat [] channel body ≡ []
chat_none zero body = refl
chat_none (suc zero) body = refl
chat_none (suc (suc n)) body = refl

relayed_none : (e : Event) → relayed [] e ≡ []
relayed_none (Connect peer info) = refl
relayed_none (Receive from packet) = chat_none packet.channel packet.body
relayed_none (Disconnect peer info) = refl
relayed_none (Refused seat number why) = refl

-- ---- for another peer there is nothing
chat_other : (b : Bool) (q p : PeerRef) (channel : ℕ) (body : List ℕ) → is_same q p ≡ false → those_for p (chat (cond b (q ∷ []) []) channel body) ≡ []
chat_other true q p zero body h = ap (λ (c : Bool). cond c (Submit q 0 1 body ∷ []) []) h
chat_other true q p (suc zero) body h = ap (λ (c : Bool). cond c (Submit q 1 0 body ∷ []) []) h
chat_other true q p (suc (suc n)) body h = refl
chat_other false q p channel body h = ap (those_for p) (chat_none channel body)

one_other : (q p : PeerRef) (e : Event) → is_same q p ≡ false → those_for p (relayed (q ∷ []) e) ≡ []
one_other q p (Connect peer info) h = refl
one_other q p (Receive from packet) h = chat_other (not (is_same q from)) q p packet.channel packet.body h
one_other q p (Disconnect peer info) h = refl
one_other q p (Refused seat number why) h = refl

group_other : (q p : PeerRef) (es : List Event) → is_same q p ≡ false → those_for p (relayed_to q es) ≡ []
group_other q p [] h = refl
group_other q p (e ∷ es) h =
    filter-append (is_for p) (relayed (q ∷ []) e) (relayed_to q es)
    ∙ ap (λ (os : List Order). os ++ those_for p (relayed_to q es)) (one_other q p e h)
    ∙ group_other q p es h

-- an event's orders for a peer, by the first of the peers and the others
event_more : (q : PeerRef) (qs : List PeerRef) (p : PeerRef) (e : Event) → those_for p (relayed (q ∷ qs) e) ≡ those_for p (relayed (q ∷ []) e) ++ those_for p (relayed qs e)
event_more q qs p e = ap (those_for p) (relayed_more q qs e) ∙ filter-append (is_for p) (relayed (q ∷ []) e) (relayed qs e)

event_others : (qs : List PeerRef) (p : PeerRef) (e : Event) → has qs p ≡ false → those_for p (relayed qs e) ≡ []
event_others [] p e h = ap (those_for p) (relayed_none e)
event_others (q ∷ qs) p e h =
    let both = or_none (is_same q p) (has qs p) h in
    event_more q qs p e
    ∙ ap (λ (os : List Order). os ++ those_for p (relayed qs e)) (one_other q p e both.0)
    ∙ event_others qs p e both.1

grouped_others : (qs : List PeerRef) (p : PeerRef) (es : List Event) → has qs p ≡ false → those_for p (grouped qs es) ≡ []
grouped_others [] p es h = refl
grouped_others (q ∷ qs) p es h =
    let both = or_none (is_same q p) (has qs p) h in
    filter-append (is_for p) (relayed_to q es) (grouped qs es)
    ∙ ap (λ (os : List Order). os ++ those_for p (grouped qs es)) (group_other q p es both.0)
    ∙ grouped_others qs p es both.1

-- ---- event by event, over the same peers
abbrev each : List PeerRef → List Event → List Order
each peers es = flat_map (λ e. relayed peers e) es

packets_each : (peers : List PeerRef) (es : List Event) → ArePackets es → relayed_all peers es ≡ each peers es
packets_each peers [] p = refl
packets_each peers (Connect peer info ∷ es) p = absurd p.0
packets_each peers (Receive peer packet ∷ es) p = ap (λ (os : List Order). relayed peers (Receive peer packet) ++ os) (packets_each peers es p.1)
packets_each peers (Disconnect peer info ∷ es) p = absurd p.0
packets_each peers (Refused seat number why ∷ es) p = absurd p.0

each_none : (es : List Event) → each [] es ≡ []
each_none [] = refl
each_none (e ∷ es) = ap (λ (os : List Order). os ++ each [] es) (relayed_none e) ∙ each_none es

-- the first of the peers is another one
each_later : (q : PeerRef) (qs : List PeerRef) (p : PeerRef) (es : List Event) → is_same q p ≡ false → those_for p (each (q ∷ qs) es) ≡ those_for p (each qs es)
each_later q qs p [] h = refl
each_later q qs p (e ∷ es) h =
    filter-append (is_for p) (relayed (q ∷ qs) e) (each (q ∷ qs) es)
    ∙ ap (λ (os : List Order). os ++ those_for p (each (q ∷ qs) es))
    (event_more q qs p e ∙ ap (λ (os : List Order). os ++ those_for p (relayed qs e)) (one_other q p e h))
    ∙ ap (λ (os : List Order). those_for p (relayed qs e) ++ os) (each_later q qs p es h)
    ∙ sym (filter-append (is_for p) (relayed qs e) (each qs es))

-- only the first of the peers is this one
each_first : (q : PeerRef) (qs : List PeerRef) (p : PeerRef) (es : List Event) → has qs p ≡ false → those_for p (each (q ∷ qs) es) ≡ those_for p (relayed_to q es)
each_first q qs p [] h = refl
each_first q qs p (e ∷ es) h =
    filter-append (is_for p) (relayed (q ∷ qs) e) (each (q ∷ qs) es)
    ∙ ap (λ (os : List Order). os ++ those_for p (each (q ∷ qs) es))
    (event_more q qs p e ∙ ap (λ (os : List Order). those_for p (relayed (q ∷ []) e) ++ os) (event_others qs p e h)
    ∙ append-nil (those_for p (relayed (q ∷ []) e)))
    ∙ ap (λ (os : List Order). those_for p (relayed (q ∷ []) e) ++ os) (each_first q qs p es h)
    ∙ sym (filter-append (is_for p) (relayed (q ∷ []) e) (relayed_to q es))

by_first : (q : PeerRef) (qs : List PeerRef) (p : PeerRef) (es : List Event) (b : Bool) → is_same q p ≡ b → has qs q ≡ false → those_for p (grouped qs es) ≡ those_for p (each qs es)
    → those_for p (grouped (q ∷ qs) es) ≡ those_for p (each (q ∷ qs) es)
by_first q qs p es true h once later =
    let away : has qs p ≡ false = subst (λ x. has qs x ≡ false) (same_is q p h) once in
    filter-append (is_for p) (relayed_to q es) (grouped qs es)
    ∙ ap (λ (os : List Order). those_for p (relayed_to q es) ++ os) (grouped_others qs p es away)
    ∙ append-nil (those_for p (relayed_to q es))
    ∙ sym (each_first q qs p es away)
by_first q qs p es false h once later =
    filter-append (is_for p) (relayed_to q es) (grouped qs es)
    ∙ ap (λ (os : List Order). os ++ those_for p (grouped qs es)) (group_other q p es h)
    ∙ later
    ∙ sym (each_later q qs p es h)

grouped_each : (peers : List PeerRef) (es : List Event) → has_each_once peers ≡ true → (p : PeerRef) → those_for p (grouped peers es) ≡ those_for p (each peers es)
grouped_each [] es once p = ap (those_for p) (sym (each_none es))
grouped_each (q ∷ qs) es once p =
    let both = and_both (not (has qs q)) (has_each_once qs) once in
    by_first q qs p es (is_same q p) refl (not_true _ both.0) (grouped_each qs es both.1 p)

pub grouped_same : (peers : List PeerRef) (es : List Event) → has_each_once peers ≡ true → ArePackets es → SameForEach (grouped peers es) (relayed_all peers es)
grouped_same peers es once packets p = grouped_each peers es once p ∙ ap (those_for p) (sym (packets_each peers es packets))
