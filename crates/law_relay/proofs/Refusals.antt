-- The chat where some orders were refused.
use Rattle.std.proofs.Common.{◌≡◌, ℕ, ◌%◌, ◌<◌, Bool, List, [], ◌∷◌, ◌++◌, map, refl, sym, ap, subst, ◌∙◌, arith, inl, inr, Option, Some, None, option_to_list, slice_get}
use Rattle.std.specs.Prelude.{flat_map, filter}
use Rattle.std.proofs.lemmas.Bool.Decides.{nat_tests}
use Rattle.std.proofs.lemmas.List.{map-append}
use Rattle.enet_codec.specs.declared.address.Addr.{Addr}
use Rattle.enet_codec.specs.declared.event.Event.{Event}
use Rattle.enet_codec.specs.declared.event.Event.TheVariants as events
use Rattle.enet_codec.specs.declared.event.PeerRef.{PeerRef}
use Rattle.enet_codec.specs.declared.packet.Packet.{Packet}
use Rattle.enet_codec.specs.declared.refusal.Refusal.{Refusal}
use Rattle.enet_bridge.specs.Ends.{orders}
use Rattle.enet_service.specs.Queues.{given}
use Rattle.enet_turn.specs.Run.{all_gave, all_puts}
use Rattle.law_service.specs.Told.{told, packet_in, Answered, refusal, is_refused, unless_refused, settled}
use Rattle.law_service.specs.Law.{noted, setting, begun}
use Rattle.law_service.proofs.Telling.{Ledger, nothing-sorted, setting-silent, sent-behind, told-refusals, spans-ledger}
use Rattle.law_headline.specs.Page.{User, IsHeadline, Follows, came, submitted_if, is_of}
use Rattle.law_headline.proofs.Page.{back-follows}
use Rattle.law_service.specs.EndToEnd.{rounds_of, Running, user_of}
use Rattle.law_relay.specs.Relay.{Relaying, heard, as_chat, chat_for}
use Rattle.law_relay.specs.Pairs.{body_of, FollowsFrom, IsFront}
use Rattle.law_relay.specs.Refusals.{Answers, EachHasAnswers, Asked, asked_as, asked_by, all_asked, FollowsUnless, FollowsChat, BetweenClientsUnless, Relayed, asks_of, unless_some, takes_of, TakesChatUnless, BetweenPairsUnless}
use Rattle.law_relay.proofs.Relay.{relay-rule}
use Rattle.law_relay.proofs.Pairs.{each-other, all-other}

pub has-answers : EachHasAnswers
has-answers r = record {
  answered = l.answered;
  given_is = l.given_are;
  accepted_is = λ name channel. sent-behind (setting r.limit) l.calls r.calls (setting-silent r.limit) l.calls_are name channel ∙ l.packets name channel;
  refused_is = told-refusals (begun r.config r.limit) (noted r.left r.calls) (all_gave (rounds_of r)) (all_puts (rounds_of r)) l nothing-sorted;
}
  where
    l : Ledger (begun r.config r.limit) (noted r.left r.calls) (all_gave (rounds_of r)) (all_puts (rounds_of r))
    l = spans-ledger (begun r.config r.limit) r.spans (noted r.left r.calls) r.turns

-- what follows the accepted ones follows all, but for the refused
one-more : (why : Option Refusal) (ps rest : List Packet) (ms : List Asked) → ((bs : List (List ℕ)) → Follows rest bs → FollowsUnless ms bs)
    → (bs : List (List ℕ)) → Follows (unless_refused why ps ++ rest) bs → FollowsUnless (map (asked_as why) ps ++ ms) bs
one-more None [] rest ms more bs h = more bs h
one-more None (p ∷ ps) rest ms more [] h = tt
one-more None (p ∷ ps) rest ms more (b ∷ bs) (inl same) = inl (refl, same.0, one-more None ps rest ms more bs same.1)
one-more None (p ∷ ps) rest ms more (b ∷ bs) (inr skip) = inr (inl skip.0, one-more None ps rest ms more (b ∷ bs) skip.1)
one-more (Some why) [] rest ms more bs h = more bs h
one-more (Some why) (p ∷ ps) rest ms more [] h = tt
one-more (Some why) (p ∷ ps) rest ms more (b ∷ bs) h = inr (inr (why, refl), one-more (Some why) ps rest ms more (b ∷ bs) h)

unless : (q : PeerRef) (channel : ℕ) (ws : List Answered) (bs : List (List ℕ)) → Follows (flat_map (settled q channel) ws) bs → FollowsUnless (all_asked q channel ws) bs
unless q channel [] [] h = tt
unless q channel [] (b ∷ bs) h = absurd h
unless q channel (w ∷ ws) bs h =
    one-more w.1 (packet_in q channel w.0.order) (flat_map (settled q channel) ws) (all_asked q channel ws) (λ cs k. unless q channel ws cs k) bs h

-- their packets
same-packets : (why : Option Refusal) (ps : List Packet) → map (λ (m : Asked). m.packet) (map (asked_as why) ps) ≡ ps
same-packets why [] = refl
same-packets why (p ∷ ps) = ap (λ (l : List Packet). p ∷ l) (same-packets why ps)

packets-are : (q : PeerRef) (channel : ℕ) (ws : List Answered) → map (λ (m : Asked). m.packet) (all_asked q channel ws) ≡ flat_map (packet_in q channel) (orders (map (λ (w : Answered). w.0) ws))
packets-are q channel [] = refl
packets-are q channel (w ∷ ws) =
    map-append (λ (m : Asked). m.packet) (asked_by q channel w) (all_asked q channel ws) ∙ (λ i. same-packets w.1 (packet_in q channel w.0.order) i ++ packets-are q channel ws i)

pub between-clients-unless : BetweenClientsUnless
between-clients-unless hosts server l a cu asked h x j there q is here channel low = record {
  asked_is = ap (λ (ps : List Packet). ps ++ flat_map (packet_in q channel) l.waits) (packets-are q channel a.answered ∙ ap (λ xs. flat_map (packet_in q channel) (orders xs)) (sym a.given_is)) ∙ relay-rule server l q channel low;
  follows = unless q channel a.answered (came channel ((cu j).taken there)) (subst (λ (ps : List Packet). Follows ps (came channel ((cu j).taken there))) (a.accepted_is q channel)
      (subst (λ (o : Option PeerRef). Follows (submitted_if (user_of hosts server) o channel) (came channel ((cu j).taken there))) here
      (back-follows (cu j) (user_of hosts server) there (h.here x) (h.each x j there is) channel (omega arith))));
}

-- ---- pairs

record IsTaken (es : List Event) (ms : List Asked) (bs : List (List ℕ)) : Type 0 where
  chat : List Relayed
  front : IsFront (map (λ (m : Relayed). m.event) chat) es
  answers : (rest : List Asked) × (ms ≡ flat_map (asks_of 0) chat ++ rest)
  got_is : flat_map takes_of chat ≡ bs

onto : (m : Relayed) (es : List Event) (now ms : List Asked) (bs rest : List (List ℕ)) → now ≡ asks_of 0 m → takes_of m ++ rest ≡ bs → IsTaken es ms rest → IsTaken (m.event ∷ es) (now ++ ms) bs
onto m es now ms bs rest asks takes t = record {
  chat = m ∷ t.chat;
  front = (t.front.0, ap (λ (l : List Event). m.event ∷ l) t.front.1);
  answers = (t.answers.0, (λ i. asks i ++ t.answers.1 i) ∙ sym (Rattle.std.proofs.Common.append_assoc (asks_of 0 m) (flat_map (asks_of 0) t.chat) t.answers.0));
  got_is = ap (λ (l : List (List ℕ)). takes_of m ++ l) t.got_is ∙ takes;
}

abbrev pub first-or : Packet → List Packet → Packet
first-or d [] = d
first-or d (p ∷ ps) = p

abbrev pub but-first : List Packet → List Packet
but-first [] = []
but-first (p ∷ ps) = ps

abbrev plain : Event → Relayed
plain e = record { event = e; refused = None }

all-answered : (es : List Event) (ms : List Asked) (tail : List Packet) (bs : List (List ℕ)) → map (λ (m : Asked). m.packet) ms ++ tail ≡ flat_map (as_chat 0) es → FollowsUnless ms bs → IsTaken es ms bs
all-answered es ms tail [] same h = record { chat = []; front = (es, refl); answers = (ms, refl); got_is = refl }
all-answered es [] tail (b ∷ bs) same h = absurd h
all-answered [] (m ∷ ms) tail (b ∷ bs) same h = absurd (let y : ◌≡◌ {A = List Packet} (m.packet ∷ (map (λ (m : Asked). m.packet) ms ++ tail)) [] = same in cc)
all-answered (events.Connect p info ∷ es) (m ∷ ms) tail (b ∷ bs) same h = onto (plain (events.Connect p info)) es [] (m ∷ ms) (b ∷ bs) (b ∷ bs) refl refl (all-answered es (m ∷ ms) tail (b ∷ bs) same h)
all-answered (events.Disconnect p info ∷ es) (m ∷ ms) tail (b ∷ bs) same h = onto (plain (events.Disconnect p info)) es [] (m ∷ ms) (b ∷ bs) (b ∷ bs) refl refl (all-answered es (m ∷ ms) tail (b ∷ bs) same h)
all-answered (events.Refused seat number why ∷ es) (m ∷ ms) tail (b ∷ bs) same h = onto (plain (events.Refused seat number why)) es [] (m ∷ ms) (b ∷ bs) (b ∷ bs) refl refl (all-answered es (m ∷ ms) tail (b ∷ bs) same h)
all-answered (events.Receive p packet ∷ es) (m ∷ ms) tail (b ∷ bs) same h = by h (λ cs k. all-answered es ms tail cs (ap but-first same) k)
  where
    e : Event
    e = events.Receive p packet

    one : Packet
    one = record { channel = 0; flags = 1; body = packet.body }

    first : m.packet ≡ one
    first = ap (first-or one) same

    by : FollowsUnless (m ∷ ms) (b ∷ bs) → ((cs : List (List ℕ)) → FollowsUnless ms cs → IsTaken es ms cs) → IsTaken (e ∷ es) (m ∷ ms) (b ∷ bs)
    by (inl k) more = onto (plain e) es (m ∷ []) ms (b ∷ bs) bs (λ i. (record { packet = first i; refused = k.0 i }) ∷ []) (ap (λ (l : List ℕ). l ∷ bs) (ap (λ (r : Packet). r.body) (sym first) ∙ k.1)) (more bs k.2)
    by (inr (inl even, k)) more = absurd (let y : 1 % 2 ≡ 0 = subst (λ (r : Packet). r.flags % 2 ≡ 0) first even in omega arith)
    by (inr (inr why, k)) more =
        onto (record { event = e; refused = Some why.0 }) es (m ∷ []) ms (b ∷ bs) (b ∷ bs) (λ i. (record { packet = first i; refused = why.1 i }) ∷ []) refl (more (b ∷ bs) k)

pub between-pairs-unless : BetweenPairsUnless
between-pairs-unless hosts server l a cu asked h x j there q is here =
    let f : FollowsChat server l a q 0 (came 0 ((cu j).taken there)) = between-clients-unless hosts server l a cu asked h x j there q is here 0 (omega arith) in
    let t : IsTaken (heard q 0 [] l.expanded) (all_asked q 0 a.answered) (came 0 ((cu j).taken there)) =
    all-answered (heard q 0 [] l.expanded) (all_asked q 0 a.answered) (flat_map (packet_in q 0) l.waits) (came 0 ((cu j).taken there)) f.asked_is f.follows in
    record {
      chat = t.chat;
      front = t.front;
      answers = t.answers;
      got_is = t.got_is;
      each = λ y i away p is' here'. each-other hosts server l cu asked h x j there q is here 0 (omega arith) (map (λ (m : Relayed). m.event) t.chat) t.front y i away p is' here';
      all = λ quiet p some. all-other hosts server l cu asked h q 0 (map (λ (m : Relayed). m.event) t.chat) t.front quiet p some;
    }
