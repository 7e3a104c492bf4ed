-- The chat on channel 1 between two clients.
use Rattle.std.proofs.Common.{◌≡◌, ℕ, ◌<◌, ◌==◌, ◌&&◌, not, Bool, true, false, cond, List, [], ◌∷◌, ◌++◌, map, refl, sym, ap, subst, ◌∙◌, arith, append-nil, inl, inr, Option, Some, None, slice_get}
use Rattle.std.specs.Prelude.{flat_map, filter}
use Rattle.std.proofs.lemmas.List.{map-append}
use Rattle.enet_codec.specs.declared.event.Event.{Event}
use Rattle.enet_codec.specs.declared.event.Event.TheVariants as events
use Rattle.enet_codec.specs.declared.event.PeerRef.{PeerRef}
use Rattle.enet_codec.specs.declared.packet.Packet.{Packet}
use Rattle.law_headline.specs.Page.{Follows, came, is_of}
use Rattle.law_service.specs.Told.{packet_in}
use Rattle.law_relay.specs.Relay.{Relaying, heard, as_chat, IsPart}
use Rattle.law_relay.specs.Pairs.{body_of, FollowsFrom}
use Rattle.law_relay.specs.Refusals.{Answers, Asked, all_asked, FollowsUnless, FollowsChat}
use Rattle.law_relay.specs.Unreliable.{BetweenPairsOnOne}
use Rattle.law_relay.proofs.Relay.{skipped}
use Rattle.law_relay.proofs.Pairs.{each-other, all-part}
use Rattle.law_relay.proofs.Refusals.{first-or, but-first, has-answers, between-clients-unless}

-- ---- parts of lists

part-behind : {X : Type 0} (xs ys before : List X) → IsPart xs ys → IsPart xs (before ++ ys)
part-behind xs ys [] h = h
part-behind xs ys (y ∷ before) h = skipped xs y (before ++ ys) (part-behind xs ys before h)

part-of-part : {X : Type 0} (xs ys zs : List X) → IsPart xs ys → IsPart ys zs → IsPart xs zs
part-of-part [] ys zs h k = tt
part-of-part (x ∷ xs) [] zs h k = absurd h
part-of-part (x ∷ xs) (y ∷ ys) [] h k = absurd k
part-of-part (x ∷ xs) (y ∷ ys) (z ∷ zs) (inl a) (inl b) = inl (a.0 ∙ b.0, part-of-part xs ys zs a.1 b.1)
part-of-part (x ∷ xs) (y ∷ ys) (z ∷ zs) (inr a) (inl b) = inr (part-of-part (x ∷ xs) ys zs a b.1)
part-of-part (x ∷ xs) (y ∷ ys) (z ∷ zs) h (inr b) = inr (part-of-part (x ∷ xs) (y ∷ ys) zs h b)

abbrev bodies : List Packet → List (List ℕ)
bodies ps = map (λ (p : Packet). p.body) ps

part-followed : (ps : List Packet) (bs : List (List ℕ)) → Follows ps bs → IsPart bs (bodies ps)
part-followed ps [] h = tt
part-followed [] (b ∷ bs) h = absurd h
part-followed (p ∷ ps) (b ∷ bs) (inl same) = inl (sym same.0, part-followed ps bs same.1)
part-followed (p ∷ ps) (b ∷ bs) (inr skip) = inr (part-followed ps (b ∷ bs) skip.1)

part-from : (ps : List Packet) (bs : List (List ℕ)) → FollowsFrom ps bs → IsPart bs (bodies ps)
part-from ps bs f = subst (IsPart bs) (sym (ap bodies f.2 ∙ map-append (λ (p : Packet). p.body) f.0 f.1)) (part-behind bs (bodies f.1) (bodies f.0) (part-followed f.1 bs f.3))

-- what came of one peer of a part is a part of what came of it
part-of-one : (f : Event → Bool) (xs ys : List Event) → IsPart xs ys → IsPart (filter f xs) (filter f ys)
part-of-one f [] ys h = tt
part-of-one f (x ∷ xs) [] h = absurd h
part-of-one f (x ∷ xs) (y ∷ ys) (inl same) = subst (λ (e : Event). IsPart (filter f (x ∷ xs)) (filter f (e ∷ ys))) same.0 (by (f x) (part-of-one f xs ys same.1))
  where
    by : (b : Bool) → IsPart (filter f xs) (filter f ys) → IsPart (cond b (x ∷ filter f xs) (filter f xs)) (cond b (x ∷ filter f ys) (filter f ys))
    by true k = inl (refl, k)
    by false k = k
part-of-one f (x ∷ xs) (y ∷ ys) (inr more) = by (f y) (part-of-one f (x ∷ xs) ys more)
  where
    by : (b : Bool) → IsPart (filter f (x ∷ xs)) (filter f ys) → IsPart (filter f (x ∷ xs)) (cond b (y ∷ filter f ys) (filter f ys))
    by true k = skipped (filter f (x ∷ xs)) y (filter f ys) k
    by false k = k

-- what one event brings in sequence
abbrev brings : ℕ → Event → List (List ℕ)
brings channel (events.Receive p q) = cond (q.channel == channel && not (q.flags == 2)) (q.body ∷ []) []
brings channel e = []

came-first : (channel : ℕ) (e : Event) (es : List Event) → came channel (e ∷ es) ≡ brings channel e ++ came channel es
came-first channel (events.Connect p info) es = refl
came-first channel (events.Receive p q) es = by (q.channel == channel && not (q.flags == 2))
  where
    by : (b : Bool) → cond b (q.body ∷ came channel es) (came channel es) ≡ cond b (q.body ∷ []) [] ++ came channel es
    by true = refl
    by false = refl
came-first channel (events.Disconnect p info) es = refl
came-first channel (events.Refused seat number why) es = refl

part-with : (now xs ys : List (List ℕ)) → IsPart xs ys → IsPart (now ++ xs) (now ++ ys)
part-with [] xs ys h = h
part-with (b ∷ now) xs ys h = inl (refl, part-with now xs ys h)

part-came : (channel : ℕ) (xs ys : List Event) → IsPart xs ys → IsPart (came channel xs) (came channel ys)
part-came channel [] ys h = tt
part-came channel (x ∷ xs) [] h = absurd h
part-came channel (x ∷ xs) (y ∷ ys) (inl same) =
    subst (λ (e : Event). IsPart (came channel (x ∷ xs)) (came channel (e ∷ ys))) same.0
    (subst (λ (l : List (List ℕ)). IsPart l (came channel (x ∷ ys))) (sym (came-first channel x xs))
    (subst (IsPart (brings channel x ++ came channel xs)) (sym (came-first channel x ys)) (part-with (brings channel x) (came channel xs) (came channel ys) (part-came channel xs ys same.1))))
part-came channel (x ∷ xs) (y ∷ ys) (inr more) =
    subst (IsPart (came channel (x ∷ xs))) (sym (came-first channel y ys)) (part-behind (came channel (x ∷ xs)) (came channel ys) (brings channel y) (part-came channel (x ∷ xs) ys more))

-- ---- the chat

record IsPicked (es : List Event) (bs : List (List ℕ)) : Type 0 where
  chat : List Event
  part : IsPart chat es
  got_is : flat_map body_of chat ≡ bs

passed : (e : Event) (es : List Event) (bs : List (List ℕ)) → IsPicked es bs → IsPicked (e ∷ es) bs
passed e es bs t = record { chat = t.chat; part = skipped t.chat e es t.part; got_is = t.got_is }

some-answered : (es : List Event) (ms : List Asked) (tail : List Packet) (bs : List (List ℕ)) → map (λ (m : Asked). m.packet) ms ++ tail ≡ flat_map (as_chat 1) es → FollowsUnless ms bs → IsPicked es bs
some-answered es ms tail [] same h = record { chat = []; part = tt; got_is = refl }
some-answered es [] tail (b ∷ bs) same h = absurd h
some-answered [] (m ∷ ms) tail (b ∷ bs) same h = absurd (let y : ◌≡◌ {A = List Packet} (m.packet ∷ (map (λ (m : Asked). m.packet) ms ++ tail)) [] = same in cc)
some-answered (events.Connect p info ∷ es) (m ∷ ms) tail (b ∷ bs) same h = passed (events.Connect p info) es (b ∷ bs) (some-answered es (m ∷ ms) tail (b ∷ bs) same h)
some-answered (events.Disconnect p info ∷ es) (m ∷ ms) tail (b ∷ bs) same h = passed (events.Disconnect p info) es (b ∷ bs) (some-answered es (m ∷ ms) tail (b ∷ bs) same h)
some-answered (events.Refused seat number why ∷ es) (m ∷ ms) tail (b ∷ bs) same h = passed (events.Refused seat number why) es (b ∷ bs) (some-answered es (m ∷ ms) tail (b ∷ bs) same h)
some-answered (events.Receive p packet ∷ es) (m ∷ ms) tail (b ∷ bs) same h = by h (λ cs k. some-answered es ms tail cs (ap but-first same) k)
  where
    e : Event
    e = events.Receive p packet

    one : Packet
    one = record { channel = 1; flags = 0; body = packet.body }

    first : m.packet ≡ one
    first = ap (first-or one) same

    by : FollowsUnless (m ∷ ms) (b ∷ bs) → ((cs : List (List ℕ)) → FollowsUnless ms cs → IsPicked es cs) → IsPicked (e ∷ es) (b ∷ bs)
    by (inl k) more =
        let t : IsPicked es bs = more bs k.2 in
        record { chat = e ∷ t.chat; part = inl (refl, t.part); got_is = ap (λ (l : List (List ℕ)). packet.body ∷ l) t.got_is ∙ ap (λ (l : List ℕ). l ∷ bs) (ap (λ (r : Packet). r.body) (sym first) ∙ k.1) }
    by (inr k) more = passed e es (b ∷ bs) (more (b ∷ bs) k.1)

pub between-pairs-on-one : BetweenPairsOnOne
between-pairs-on-one hosts server l cu asked h x j there q is here =
    let a : Answers server = has-answers server in
    let f : FollowsChat server l a q 1 (came 1 ((cu j).taken there)) = between-clients-unless hosts server l a cu asked h x j there q is here 1 (let low : 1 < 2 = omega arith in low) in
    let t : IsPicked (heard q 1 [] l.expanded) (came 1 ((cu j).taken there)) =
    some-answered (heard q 1 [] l.expanded) (all_asked q 1 a.answered) (flat_map (packet_in q 1) l.waits) (came 1 ((cu j).taken there)) f.asked_is f.follows in
    record {
      chat = t.chat;
      part = t.part;
      got_is = t.got_is;
      each = λ y i away p is' here'. (let all : FollowsFrom ((cu i).submitted away 1) (came 1 (filter (is_of p) (heard q 1 [] l.expanded))) =
          each-other hosts server l cu asked h x j there q is here 1 (let low : 1 < 256 = omega arith in low) (heard q 1 [] l.expanded) ([], sym (append-nil (heard q 1 [] l.expanded))) y i away p is' here' in
          part-of-part (came 1 (filter (is_of p) t.chat)) (came 1 (filter (is_of p) (heard q 1 [] l.expanded))) (bodies ((cu i).submitted away 1))
          (part-came 1 (filter (is_of p) t.chat) (filter (is_of p) (heard q 1 [] l.expanded)) (part-of-one (is_of p) t.chat (heard q 1 [] l.expanded) t.part))
          (part-from ((cu i).submitted away 1) (came 1 (filter (is_of p) (heard q 1 [] l.expanded))) all));
      all = λ quiet p some. all-part hosts server l cu asked h q 1 t.chat t.part quiet p some;
    }
