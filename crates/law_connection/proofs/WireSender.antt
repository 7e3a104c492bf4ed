-- A sender that keeps wire numbers does what one with unbounded numbers does.
use Rattle.std.proofs.Common.{◌≡◌, ◌≢◌, ℕ, ◌+◌, ◌-◌, ◌%◌, ◌<◌, ◌≤◌, Bool, true, false, not, cond, ◌==◌, ◌||◌, List, [], ◌∷◌, ◌++◌, length, map, refl, sym, ap, subst, ◌∙◌, inl, inr, ◌⊎◌, arith, Option, Some, None, zero, suc}
use Rattle.std.proofs.lemmas.Bool.Decides.{nat_tests}
use Rattle.std.proofs.lemmas.List.{map-append, length-map}
use Rattle.std.proofs.lemmas.List.Folds.{fold-map}
use Rattle.std.specs.Prelude.{nat_lt, ◌&&◌, slice_get, slice_set, is_some, sum_by}
use Rattle.std.specs.Option.{option_map}
use Rattle.std.specs.List.{position, range_with_len}
use Rattle.enet_codec.specs.declared.command.Fragment.{Fragment}
use Rattle.enet_seq.proofs.WindowsLemmas.{ahead_true}
use Rattle.enet_seq.specs.Numbering.{wire, unbounded}
use Rattle.enet_rtt.specs.declared.expiry.Patience.{Patience}
use Rattle.enet_rtt.specs.declared.expiry.Expiry.{Expiry}
use Rattle.enet_rtt.specs.declared.expiry.Expiry.TheVariants.{No, Resend, End}
use Rattle.enet_rtt.specs.declared.transmission.Tick.{Tick}
use Rattle.enet_fragment.specs.declared.data.DataCommand.{DataCommand}
use Rattle.enet_sender.specs.CommandChoice.{Packet, ChosenPacket, carried_as}
use Rattle.enet_sender.specs.declared.outgoing.Occasion.{Occasion}
use Rattle.enet_sender.specs.Sender.{Sender, Next, nothing_sent, command_at, commands_of, with_queued, submitted, again, begun, is_in_span, may_begin, may_go, resent, first_sent, next_queued, next_resent, next_of, next, is_after_first, is_more, skipped, with_skipped, position_of, without_place, after_acknowledgement, has_room, matching, matching_at, acknowledged, transit_bytes, transit_price, bytes_in_transit, prices_in_transit, is_late, marked, with_marked, ends, lateness, after_lateness, cleared, left}
use Rattle.enet_sender.specs.declared.sent.Sent.{Sent}
use Rattle.law_connection.specs.Link.{wired, wired_fragment}
use Rattle.law_connection.specs.Image.{reliable_count, reached, numbers_of, IsRising, IsRow, IsInOrder, wired_sent, ShowsSender, ShowsNext}
use Rattle.law_connection.specs.Meant.{IsReadAsItself}
use Rattle.law_connection.proofs.Lists.{Has, Has-push_cases, Has-append_cases, Has-slice_get}
use Rattle.law_connection.proofs.Firsts.{drop_first, Has-from_drop, drop_first-map, position-map, without-first}
use Rattle.law_connection.proofs.Rising.{IsRising-push, IsRising-drop}
use Rattle.law_connection.proofs.QueueLemmas.{wired-commands}
use Rattle.law_connection.proofs.Reading.{reads-commands}
use Rattle.law_connection.proofs.SoundSender.{next_cases}

-- rows of numbers

row-count : (before : ℕ) (cs : List DataCommand) (last : ℕ) → IsRow before cs last → before + reliable_count cs ≡ last
row-count before [] last r = let e : before ≡ last = r in omega arith
row-count before (c ∷ cs) last r =
    elim c.reliable as (λ b. cond b (before + 1) before + reliable_count cs ≡ last → before + cond b (reliable_count cs + 1) (reliable_count cs) ≡ last) [
      | true ↦ λ e. omega arith
      | false ↦ λ e. e
    ] (row-count (cond c.reliable (before + 1) before) cs last r.1)

row-append : (before middle last : ℕ) (a b : List DataCommand) → IsRow before a middle → IsRow middle b last → IsRow before (a ++ b) last
row-append before middle last [] b r s = subst (λ n. IsRow n b last) (sym r) s
row-append before middle last (c ∷ a) b r s = (r.0, row-append (cond c.reliable (before + 1) before) middle last a b r.1 s)

row-range : (mtu number count : ℕ) (c : ChosenPacket) (from len : ℕ) → IsRow (cond c.reliable (number + from) number) (map (command_at unbounded mtu (record { number = number; unreliable = count }) c) (range_with_len from len)) (cond c.reliable (number + (from + len)) number)
row-range mtu number count c from zero = ap (λ n. cond c.reliable (number + n) number) (let e : from ≡ from + 0 = omega arith in e)
row-range mtu number count c from (suc len) = (
  (λ t. ap (λ b. cond b (number + (from + 1)) number) t ∙ one ∙ sym (ap (λ b. cond b (number + from) number + 1) t)),
  subst (λ n. IsRow n (map (command_at unbounded mtu (record { number = number; unreliable = count }) c) (range_with_len (from + 1) len)) (cond c.reliable (number + (from + suc len)) number)) (sym (further c.reliable))
      (subst (λ n. IsRow (cond c.reliable (number + (from + 1)) number) (map (command_at unbounded mtu (record { number = number; unreliable = count }) c) (range_with_len (from + 1) len)) (cond c.reliable (number + n) number)) sum
      (row-range mtu number count c (from + 1) len)),
)
  where
    one : number + (from + 1) ≡ number + from + 1
    one = omega arith

    sum : from + 1 + len ≡ from + suc len
    sum = omega arith

    further : (b : Bool) → cond b (cond b (number + from) number + 1) (cond b (number + from) number) ≡ cond b (number + (from + 1)) number
    further true = sym one
    further false = refl

row-commands : (mtu number count : ℕ) (c : ChosenPacket) → IsRow number (commands_of unbounded mtu number count c) (cond c.reliable (number + c.pieces) number)
row-commands mtu number count c =
    let pieces : 0 + c.pieces ≡ c.pieces = omega arith in
    subst (λ n. IsRow n (commands_of unbounded mtu number count c) (cond c.reliable (number + c.pieces) number)) (start c.reliable)
    (subst (λ n. IsRow (cond c.reliable (number + 0) number) (commands_of unbounded mtu number count c) (cond c.reliable (number + n) number)) pieces (row-range mtu number count c 0 c.pieces))
  where
    start : (b : Bool) → cond b (number + 0) number ≡ number
    start true = omega arith
    start false = refl

abbrev InSpan : ℕ → List ℕ → Type 0
InSpan last ns = (m : ℕ) → Has ns m → (m ≤ last) × (last < m + 8192)

abbrev AllRead : List DataCommand → Type 0
AllRead cs = (c : DataCommand) → Has cs c → IsReadAsItself (wired c)

abbrev AllSentRead : List Sent → Type 0
AllSentRead sent = (p : Sent) → Has sent p → IsReadAsItself (wired p.command)

in_order : (s : Sender) (before : ℕ) → IsRising (numbers_of s.sent) → InSpan before (numbers_of s.sent) → IsRow before s.queued s.number → AllRead s.queued → AllSentRead s.sent → IsInOrder s
in_order s before rising span row queued sent =
    let e : before ≡ reached s = let k = row-count before s.queued s.number row in omega arith in
    record {
      rising = rising;
      span = subst (λ n. InSpan n (numbers_of s.sent)) e span;
      row = subst (λ n. IsRow n s.queued s.number) e row;
      queued_reads = queued;
      sent_reads = sent;
    }

-- a packet is submitted

Shows-queued : (mtu : ℕ) (v s : Sender) (c : ChosenPacket) → ShowsSender v s → ShowsSender (with_queued wire mtu v c) (with_queued unbounded mtu s c)
Shows-queued mtu v s c h =
    let o = h.in_order in
    let new : List DataCommand = commands_of unbounded mtu s.number s.unreliable c in
    record {
      number = ap (λ n. cond c.reliable ((n + c.pieces) % 65536) n) h.number ∙ last c.reliable;
      unreliable = ap (λ n. cond c.reliable 0 (n + 1)) h.unreliable;
      queued = (λ i. h.queued i ++ commands_of wire mtu (h.number i) (h.unreliable i) c)
          ∙ ap (λ l. map wired s.queued ++ l) (wired-commands mtu s.number s.unreliable c)
          ∙ sym (map-append wired s.queued new);
      sent = h.sent;
      in_order = in_order (with_queued unbounded mtu s c) (reached s) o.rising o.span
          (row-append (reached s) s.number (cond c.reliable (s.number + c.pieces) s.number) s.queued new o.row (row-commands mtu s.number s.unreliable c))
          (λ d k. elim (Has-append_cases s.queued new d k) [ inl old ↦ o.queued_reads d old | inr j ↦ reads-commands mtu s.number s.unreliable c d j ]) o.sent_reads;
    }
  where
    last : (b : Bool) → cond b ((s.number % 65536 + c.pieces) % 65536) (s.number % 65536) ≡ cond b (s.number + c.pieces) s.number % 65536
    last true = omega arith
    last false = refl

pub Shows-submitted : (mtu : ℕ) (v s : Sender) (p : Packet) → ShowsSender v s → ShowsSender (submitted wire mtu v p) (submitted unbounded mtu s p)
Shows-submitted mtu v s p h =
    subst (λ n. ShowsSender (with_queued wire mtu v (carried_as mtu n p)) (submitted unbounded mtu s p)) (sym h.unreliable)
    (Shows-queued mtu v s (carried_as mtu s.unreliable p) h)

pub Shows-nothing : ShowsSender nothing_sent nothing_sent
Shows-nothing = record {
  number = refl;
  unreliable = refl;
  queued = refl;
  sent = refl;
  in_order = record { rising = tt; span = λ m h. absurd h; row = refl; queued_reads = λ c h. absurd h; sent_reads = λ p h. absurd h };
}

-- what is due next

-- the span's test of the oldest is the same
span_same : (sent : List Sent) (number last : ℕ) → InSpan last (numbers_of sent) → number ≡ last + 1 → is_in_span wire (map wired_sent sent) (number % 65536) ≡ is_in_span unbounded sent number
span_same [] number last b e = refl
span_same (p ∷ sent) number last b e =
    let k = b p.command.number (inl refl) in
    let low = k.0 in
    let high = k.1 in
    ap (λ d. nat_lt d 8192) (ahead_true p.command.number number (omega arith) (omega arith))

-- and it is that of all
room : (sent : List Sent) (number last : ℕ) → IsRising (numbers_of sent) → InSpan last (numbers_of sent) → number ≡ last + 1 → is_in_span unbounded sent number ≡ true → InSpan number (numbers_of sent)
room [] number last r b e t m h = absurd h
room (p ∷ sent) number last r b e t m h =
    let k = b m h in
    let low = k.0 in
    let oldest : number - p.command.number < 8192 = below (number - p.command.number) 8192 t in
    let least : p.command.number ≤ m = elim h [ inl is ↦ subst (λ z. p.command.number ≤ z) is (omega arith) | inr j ↦ (let z = r.0 m j in omega arith) ] in
    (omega arith, omega arith)
  where
    below : (a b : ℕ) → nat_lt a b ≡ true → a < b
    below a b x = grind (arith, nat_tests)

slice_get-map : (sent : List Sent) (i : ℕ) → slice_get (map wired_sent sent) i ≡ option_map wired_sent (slice_get sent i)
slice_get-map [] i = refl
slice_get-map (p ∷ sent) zero = refl
slice_get-map (p ∷ sent) (suc i) = slice_get-map sent i

slice_set-map : (sent : List Sent) (i : ℕ) (p : Sent) → slice_set (map wired_sent sent) i (wired_sent p) ≡ map wired_sent (slice_set sent i p)
slice_set-map [] i p = refl
slice_set-map (x ∷ sent) zero p = refl
slice_set-map (x ∷ sent) (suc i) p = ap (λ l. wired_sent x ∷ l) (slice_set-map sent i p)

-- a sent command keeps its number
numbers_of-set : (sent : List Sent) (i : ℕ) (p q : Sent) → slice_get sent i ≡ Some p → q.command.number ≡ p.command.number → numbers_of (slice_set sent i q) ≡ numbers_of sent
numbers_of-set [] i p q e f = refl
numbers_of-set (x ∷ sent) zero p q e f =
    let same : x ≡ p = cc in
    ap (λ n. n ∷ numbers_of sent) (f ∙ ap (λ (y : Sent). y.command.number) (sym same))
numbers_of-set (x ∷ sent) (suc i) p q e f = ap (λ l. x.command.number ∷ l) (numbers_of-set sent i p q e f)

-- every command was there
abbrev SameCommands : List Sent → List Sent → Type 0
SameCommands old new = (p : Sent) → Has new p → (q : Sent) × Has old q × (p.command ≡ q.command)

same-set : (sent : List Sent) (i : ℕ) (p q : Sent) → slice_get sent i ≡ Some p → q.command ≡ p.command → SameCommands sent (slice_set sent i q)
same-set [] i p q e f x h = absurd h
same-set (y ∷ sent) zero p q e f x (inl is) =
    let same : y ≡ p = cc in
    (y, inl refl, ap (λ (z : Sent). z.command) (sym is) ∙ f ∙ ap (λ (z : Sent). z.command) (sym same))
same-set (y ∷ sent) zero p q e f x (inr h) = (x, inr h, refl)
same-set (y ∷ sent) (suc i) p q e f x (inl is) = (y, inl refl, ap (λ (z : Sent). z.command) (sym is))
same-set (y ∷ sent) (suc i) p q e f x (inr h) = let rest = same-set sent i p q e f x h in (rest.0, inr rest.1, rest.2)

-- what is sent is changed, and its commands stay
Shows-resent : (v s : Sender) (sent : List Sent) (new : List Sent) → ShowsSender v s → new ≡ map wired_sent sent → numbers_of sent ≡ numbers_of s.sent → SameCommands s.sent sent → ShowsSender (record v { sent = new }) (record s { sent = sent })
Shows-resent v s sent new h e f same =
    let o = h.in_order in
    record {
      number = h.number;
      unreliable = h.unreliable;
      queued = h.queued;
      sent = e;
      in_order = record {
        rising = subst (λ l. IsRising l) (sym f) o.rising;
        span = subst (λ l. InSpan (reached s) l) (sym f) o.span;
        row = o.row;
        queued_reads = o.queued_reads;
        sent_reads = λ p k. let w = same p k in subst (λ (c : DataCommand). IsReadAsItself (wired c)) (sym w.2) (o.sent_reads w.0 w.1);
      };
    }

-- the head of the queue goes for the first time
Shows-first : (now timeout : ℕ) (v s : Sender) (c : DataCommand) (rest : List DataCommand) → ShowsSender v s → s.queued ≡ c ∷ rest → (c.reliable ≡ true → is_in_span unbounded s.sent c.number ≡ true)
    → ShowsSender (first_sent now timeout v (wired c) (map wired rest)).sender (first_sent now timeout s c rest).sender
Shows-first now timeout v s c rest h e allowed =
    elim c.reliable as (λ b. c.reliable ≡ b → ShowsSender (record v { queued = map wired rest; sent = cond b (v.sent ++ begun now timeout (wired c) ∷ []) v.sent }) (record s { queued = rest; sent = cond b (s.sent ++ begun now timeout c ∷ []) s.sent })) [
      | true ↦ λ t. reliable t
      | false ↦ λ t. unreliable t
    ] refl
  where
    row : IsRow (reached s) (c ∷ rest) s.number
    row = let o = h.in_order in subst (λ l. IsRow (reached s) l s.number) e o.row

    reads : AllRead (c ∷ rest)
    reads = let o = h.in_order in subst (λ l. AllRead l) e o.queued_reads

    unreliable : c.reliable ≡ false → ShowsSender (record v { queued = map wired rest; sent = v.sent }) (record s { queued = rest; sent = s.sent })
    unreliable t =
        let o = h.in_order in
        record {
          number = h.number;
          unreliable = h.unreliable;
          queued = refl;
          sent = h.sent;
          in_order = in_order (record s { queued = rest }) (reached s) o.rising o.span (subst (λ b. IsRow (cond b (reached s + 1) (reached s)) rest s.number) t row.1) (λ d k. reads d (inr k)) o.sent_reads;
        }

    reliable : c.reliable ≡ true → ShowsSender (record v { queued = map wired rest; sent = v.sent ++ begun now timeout (wired c) ∷ [] }) (record s { queued = rest; sent = s.sent ++ begun now timeout c ∷ [] })
    reliable t =
        let o = h.in_order in
        let number : c.number ≡ reached s + 1 = row.0 t in
        let old : InSpan c.number (numbers_of s.sent) = room s.sent c.number (reached s) o.rising o.span number (allowed t) in
        let more : numbers_of (s.sent ++ begun now timeout c ∷ []) ≡ numbers_of s.sent ++ c.number ∷ [] = map-append (λ (p : Sent). p.command.number) s.sent (begun now timeout c ∷ []) in
        record {
          number = h.number;
          unreliable = h.unreliable;
          queued = refl;
          sent = ap (λ l. l ++ begun now timeout (wired c) ∷ []) h.sent ∙ sym (map-append wired_sent s.sent (begun now timeout c ∷ []));
          in_order = in_order (record s { queued = rest; sent = s.sent ++ begun now timeout c ∷ [] }) c.number
              (subst (λ l. IsRising l) (sym more) (IsRising-push (numbers_of s.sent) c.number o.rising (λ m k. let b = o.span m k in let high = b.0 in omega arith)))
              (subst (λ l. InSpan c.number l) (sym more) (λ m k. elim (Has-push_cases (numbers_of s.sent) c.number m k) [ inl j ↦ old m j | inr is ↦ subst (λ z. (z ≤ c.number) × (c.number < z + 8192)) is (omega arith, omega arith) ]))
              (subst (λ n. IsRow n rest s.number) (sym number) (subst (λ b. IsRow (cond b (reached s + 1) (reached s)) rest s.number) t row.1))
              (λ d k. reads d (inr k))
              (λ p k. elim (Has-push_cases s.sent (begun now timeout c) p k) [ inl j ↦ o.sent_reads p j | inr is ↦ subst (λ (x : Sent). IsReadAsItself (wired x.command)) is (reads c (inl refl)) ]);
        }

may_go-same : (occasion : Occasion) (v s : Sender) (c : DataCommand) → ShowsSender v s → (c.reliable ≡ true → c.number ≡ reached s + 1) → may_go wire v.sent occasion (wired c) ≡ may_go unbounded s.sent occasion c
may_go-same occasion v s c h number =
    let fits : Bool = may_begin occasion c in
    elim c.reliable as (λ b. c.reliable ≡ b → (not b || (is_in_span wire v.sent (c.number % 65536) && fits)) ≡ (not b || (is_in_span unbounded s.sent c.number && fits))) [
      | true ↦ λ t. ap (λ l. is_in_span wire l (c.number % 65536) && fits) h.sent
          ∙ ap (λ b. b && fits) (let o = h.in_order in span_same s.sent c.number (reached s) o.span (number t))
      | false ↦ λ t. refl
    ] refl

pub Shows-next : (occasion : Occasion) (v s : Sender) → ShowsSender v s → ShowsNext (next wire occasion v) (next unbounded occasion s)
Shows-next occasion v s h =
    subst (λ o. ShowsNext (next_of wire occasion v o) (next unbounded occasion s)) (sym due)
    (go (position (λ (p : Sent). p.transmission.due) s.sent))
  where
    due : position (λ (p : Sent). p.transmission.due) v.sent ≡ position (λ (p : Sent). p.transmission.due) s.sent
    due = ap (position (λ (p : Sent). p.transmission.due)) h.sent ∙ position-map wired_sent (λ (p : Sent). p.transmission.due) (λ (p : Sent). p.transmission.due) s.sent (λ p k. refl)

    from_queue : (q : List DataCommand) → s.queued ≡ q → ShowsNext (next_queued wire occasion v (map wired q)) (next_queued unbounded occasion s q)
    from_queue [] e = tt
    from_queue (c ∷ rest) e =
        let row : IsRow (reached s) (c ∷ rest) s.number = let o = h.in_order in subst (λ l. IsRow (reached s) l s.number) e o.row in
        let same : may_go wire v.sent occasion (wired c) ≡ may_go unbounded s.sent occasion c = may_go-same occasion v s c h row.0 in
        subst (λ b. ShowsNext (cond b (Some (first_sent occasion.now occasion.timeout v (wired c) (map wired rest))) None) (next_queued unbounded occasion s (c ∷ rest))) (sym same)
        (elim (may_go unbounded s.sent occasion c) as (λ b. may_go unbounded s.sent occasion c ≡ b → ShowsNext (cond b (Some (first_sent occasion.now occasion.timeout v (wired c) (map wired rest))) None) (cond b (Some (first_sent occasion.now occasion.timeout s c rest)) None)) [
          | true ↦ λ t. (refl, refl, refl, Shows-first occasion.now occasion.timeout v s c rest h e (λ k. allowed c.reliable _ _ t k))
          | false ↦ λ t. tt
        ] refl)
      where
        allowed : (a b d : Bool) → (not a || (b && d)) ≡ true → a ≡ true → b ≡ true
        allowed true true d x k = refl
        allowed true false d x k = absurd (cc)
        allowed false b d x k = absurd (cc)

    from_sent : (i : ℕ) (o : Option Sent) → slice_get s.sent i ≡ o → ShowsNext (next_resent occasion v i (option_map wired_sent o)) (next_resent occasion s i o)
    from_sent i None e = tt
    from_sent i (Some p) e =
        elim (has_room occasion p.command) as (λ b. ShowsNext (cond b (Some (resent occasion.now v i (wired_sent p))) None) (cond b (Some (resent occasion.now s i p)) None)) [
          | true ↦ (
            refl,
            refl,
            refl,
            Shows-resent v s (slice_set s.sent i (again occasion.now p)) (slice_set v.sent i (wired_sent (again occasion.now p))) h
                (ap (λ l. slice_set l i (wired_sent (again occasion.now p))) h.sent ∙ slice_set-map s.sent i (again occasion.now p))
                (numbers_of-set s.sent i p (again occasion.now p) e refl) (same-set s.sent i p (again occasion.now p) e refl),
          )
          | false ↦ tt
        ]

    go : (o : Option ℕ) → ShowsNext (next_of wire occasion v o) (next_of unbounded occasion s o)
    go None = subst (λ q. ShowsNext (next_queued wire occasion v q) (next_queued unbounded occasion s s.queued)) (sym h.queued) (from_queue s.queued refl)
    go (Some i) = subst (λ p. ShowsNext (next_resent occasion v i p) (next_resent occasion s i (slice_get s.sent i))) (sym (ap (λ l. slice_get l i) h.sent ∙ slice_get-map s.sent i)) (from_sent i (slice_get s.sent i) refl)

-- the rest of an unreliable packet goes

more_same : (c : DataCommand) → is_more (wired c) ≡ is_more c
more_same c = ap (λ b. not c.reliable && b) (go c.fragment)
  where
    go : (f : Option Fragment) → is_after_first (option_map (wired_fragment c.reliable) f) ≡ is_after_first f
    go None = refl
    go (Some f) = refl

skipped-wired : (cs : List DataCommand) → skipped (map wired cs) ≡ map wired (skipped cs)
skipped-wired [] = refl
skipped-wired (c ∷ cs) =
    ap (λ b. cond b (skipped (map wired cs)) (wired c ∷ map wired cs)) (more_same c)
    ∙ elim (is_more c) as (λ b. cond b (skipped (map wired cs)) (wired c ∷ map wired cs) ≡ map wired (cond b (skipped cs) (c ∷ cs))) [
      | true ↦ skipped-wired cs
      | false ↦ refl
    ]

row-skipped : (before : ℕ) (cs : List DataCommand) (last : ℕ) → IsRow before cs last → IsRow before (skipped cs) last
row-skipped before [] last r = r
row-skipped before (c ∷ cs) last r =
    elim (is_more c) as (λ b. is_more c ≡ b → IsRow before (cond b (skipped cs) (c ∷ cs)) last) [
      | true ↦ λ t. row-skipped before cs last (subst (λ b. IsRow (cond b (before + 1) before) cs last) (not_reliable c.reliable _ t) r.1)
      | false ↦ λ t. r
    ] refl
  where
    not_reliable : (a b : Bool) → (not a && b) ≡ true → a ≡ false
    not_reliable true b k = absurd (cc)
    not_reliable false b k = refl

pub Has-skipped : (cs : List DataCommand) (c : DataCommand) → Has (skipped cs) c → Has cs c
Has-skipped [] c h = h
Has-skipped (d ∷ cs) c h =
    elim (is_more d) as (λ b. Has (cond b (skipped cs) (d ∷ cs)) c → Has (d ∷ cs) c) [
      | true ↦ λ k. inr (Has-skipped cs c k)
      | false ↦ λ k. k
    ] h

pub Shows-skipped : (v s : Sender) → ShowsSender v s → ShowsSender (with_skipped v) (with_skipped s)
Shows-skipped v s h =
    let o = h.in_order in
    record {
      number = h.number;
      unreliable = h.unreliable;
      queued = ap skipped h.queued ∙ skipped-wired s.queued;
      sent = h.sent;
      in_order = in_order (with_skipped s) (reached s) o.rising o.span (row-skipped (reached s) s.queued s.number o.row) (λ c k. o.queued_reads c (Has-skipped s.queued c k)) o.sent_reads;
    }

-- an acknowledgement comes

-- of the numbers near to each other only one has a wire number
number_same : (m n last : ℕ) → m ≤ last → last < m + 8192 → n ≤ last → last < n + 65536 → (m % 65536 == n % 65536) ≡ (m == n)
number_same m n last a b c d = elim (cases m n) [
  | inl same ↦ (let x : (m % 65536 == n % 65536) ≡ true = equal (m % 65536) (n % 65536) (ap (λ k. k % 65536) same) in let y : (m == n) ≡ true = equal m n same in x ∙ sym y)
  | inr apart ↦ (
      let x : (m % 65536 == n % 65536) ≡ false = unlike (m % 65536) (n % 65536) (λ e. apart (omega arith)) in
      let y : (m == n) ≡ false = unlike m n apart in
      x ∙ sym y)
]
  where
    cases : (m n : ℕ) → (m ≡ n) ⊎ (m ≢ n)
    cases m n = grind arith

    equal : (m n : ℕ) → m ≡ n → (m == n) ≡ true
    equal m n e = grind (arith, nat_tests)

    unlike : (m n : ℕ) → m ≢ n → (m == n) ≡ false
    unlike m n e = grind (arith, nat_tests)

Has-numbers : (sent : List Sent) (p : Sent) → Has sent p → Has (numbers_of sent) p.command.number
Has-numbers [] p h = absurd h
Has-numbers (q ∷ sent) p (inl e) = inl (ap (λ (x : Sent). x.command.number) e)
Has-numbers (q ∷ sent) p (inr h) = inr (Has-numbers sent p h)

-- the tests for a number agree on what is sent
tests_same : (s : Sender) (n : ℕ) → IsInOrder s → n ≤ reached s → reached s < n + 65536 → (p : Sent) → Has s.sent p → ((wired_sent p).command.number == n % 65536) ≡ (p.command.number == n)
tests_same s n o low high p h =
    let b = o.span p.command.number (Has-numbers s.sent p h) in
    number_same p.command.number n (reached s) b.0 b.1 low high

pub Shows-acknowledged : (v s : Sender) (n : ℕ) → n ≤ reached s → reached s < n + 65536 → ShowsSender v s → ShowsSender (after_acknowledgement v (n % 65536)) (after_acknowledgement s n)
Shows-acknowledged v s n low high h =
    let o = h.in_order in
    let of_wire : Sent → Bool = λ p. p.command.number == n % 65536 in
    let of_true : Sent → Bool = λ p. p.command.number == n in
    let gone : without_place s.sent (position_of n s.sent) ≡ drop_first of_true s.sent = without-first of_true s.sent in
    let fewer : numbers_of (without_place s.sent (position_of n s.sent)) ≡ drop_first (λ m. m == n) (numbers_of s.sent) =
    ap numbers_of gone ∙ sym (drop_first-map (λ (p : Sent). p.command.number) (λ m. m == n) of_true s.sent (λ p k. refl)) in
    record {
      number = h.number;
      unreliable = h.unreliable;
      queued = h.queued;
      sent = without-first of_wire v.sent ∙ ap (drop_first of_wire) h.sent ∙ drop_first-map wired_sent of_wire of_true s.sent (tests_same s n o low high) ∙ ap (map wired_sent) (sym gone);
      in_order = record {
        rising = subst (λ l. IsRising l) (sym fewer) (IsRising-drop (λ m. m == n) (numbers_of s.sent) o.rising);
        span = subst (λ l. InSpan (reached s) l) (sym fewer) (λ m k. o.span m (Has-from_drop (λ x. x == n) (numbers_of s.sent) m k));
        row = o.row;
        queued_reads = o.queued_reads;
        sent_reads = λ p k. o.sent_reads p (Has-from_drop of_true s.sent p (subst (λ l. Has l p) gone k));
      };
    }

matching-same : (time : ℕ) (o : Option Sent) → matching time (option_map wired_sent o) ≡ matching time o
matching-same time None = refl
matching-same time (Some p) = refl

matching_at-same : (time : ℕ) (sent : List Sent) (o : Option ℕ) → matching_at time (map wired_sent sent) o ≡ matching_at time sent o
matching_at-same time sent None = refl
matching_at-same time sent (Some i) = ap (matching time) (slice_get-map sent i) ∙ matching-same time (slice_get sent i)

pub Shows-told : (v s : Sender) (n time : ℕ) → n ≤ reached s → reached s < n + 65536 → ShowsSender v s → acknowledged v (n % 65536) time ≡ acknowledged s n time
Shows-told v s n time low high h =
    let o = h.in_order in
    ap (λ l. matching_at time l (position_of (n % 65536) l)) h.sent
    ∙ ap (matching_at time (map wired_sent s.sent)) (position-map wired_sent (λ (p : Sent). p.command.number == n % 65536) (λ (p : Sent). p.command.number == n) s.sent (tests_same s n o low high))
    ∙ matching_at-same time s.sent (position_of n s.sent)

pub Shows-in_transit : (v s : Sender) → ShowsSender v s → bytes_in_transit v ≡ bytes_in_transit s
Shows-in_transit v s h =
    ap (sum_by transit_bytes) h.sent
    ∙ fold-map (λ a (p : Sent). a + transit_bytes p) wired_sent 0 s.sent

pub Shows-prices : (v s : Sender) → ShowsSender v s → prices_in_transit v ≡ prices_in_transit s
Shows-prices v s h =
    ap (sum_by transit_price) h.sent
    ∙ fold-map (λ a (p : Sent). a + transit_price p) wired_sent 0 s.sent

-- a moment passes

pub Shows-marked : (tick : Tick) (v s : Sender) → ShowsSender v s → ShowsSender (with_marked tick v) (with_marked tick s)
Shows-marked tick v s h =
    Shows-resent v s (map (marked tick) s.sent) (map (marked tick) v.sent) h (ap (map (marked tick)) h.sent ∙ marks s.sent) (numbers s.sent) (same s.sent)
  where
    marks : (sent : List Sent) → map (marked tick) (map wired_sent sent) ≡ map wired_sent (map (marked tick) sent)
    marks [] = refl
    marks (p ∷ sent) = (λ i. wired_sent (marked tick p) ∷ marks sent i)

    numbers : (sent : List Sent) → numbers_of (map (marked tick) sent) ≡ numbers_of sent
    numbers [] = refl
    numbers (p ∷ sent) = (λ i. p.command.number ∷ numbers sent i)

    same : (sent : List Sent) → SameCommands sent (map (marked tick) sent)
    same [] x h = absurd h
    same (p ∷ sent) x (inl is) = (p, inl refl, ap (λ (z : Sent). z.command) (sym is))
    same (p ∷ sent) x (inr h) = let rest = same sent x h in (rest.0, inr rest.1, rest.2)

pub Shows-lateness : (now : ℕ) (patience : Patience) (heard : ℕ) (v s : Sender) → ShowsSender v s → lateness now patience heard v ≡ lateness now patience heard s
Shows-lateness now patience heard v s h =
    let gone : position (ends now patience heard) v.sent ≡ position (ends now patience heard) s.sent = ap (position (ends now patience heard)) h.sent ∙ position-map wired_sent (ends now patience heard) (ends now patience heard) s.sent (λ p k. refl) in
    let late : position (is_late now) v.sent ≡ position (is_late now) s.sent = ap (position (is_late now)) h.sent ∙ position-map wired_sent (is_late now) (is_late now) s.sent (λ p k. refl) in
    (λ i. cond (is_some (gone i)) End (cond (is_some (late i)) Resend No))

pub Shows-after_lateness : (expiry : Expiry) (tick : Tick) (v s : Sender) → ShowsSender v s → ShowsSender (after_lateness expiry tick v) (after_lateness expiry tick s)
Shows-after_lateness No tick v s h = h
Shows-after_lateness Resend tick v s h = Shows-marked tick v s h
Shows-after_lateness End tick v s h = h

-- the end, and what is left

pub Shows-cleared : (v s : Sender) → ShowsSender v s → ShowsSender (cleared v) (cleared s)
Shows-cleared v s h = record {
  number = h.number;
  unreliable = h.unreliable;
  queued = refl;
  sent = refl;
  in_order = in_order (cleared s) s.number tt (λ m k. absurd k) refl (λ c k. absurd k) (λ p k. absurd k);
}

pub Shows-left : (v s : Sender) → ShowsSender v s → left v ≡ left s
Shows-left v s h =
    let queue : length v.queued ≡ length s.queued = ap (λ (l : List DataCommand). length l) h.queued ∙ length-map s.queued wired in
    let sent : length v.sent ≡ length s.sent = ap (λ (l : List Sent). length l) h.sent ∙ length-map s.sent wired_sent in
    let reliable : position (λ (c : DataCommand). c.reliable) v.queued ≡ position (λ (c : DataCommand). c.reliable) s.queued =
    ap (position (λ (c : DataCommand). c.reliable)) h.queued ∙ position-map wired (λ (c : DataCommand). c.reliable) (λ (c : DataCommand). c.reliable) s.queued (λ c k. refl) in
    (λ i. record { packets = nat_lt 0 (queue i); reliable = is_some (reliable i) || nat_lt 0 (sent i) })

-- what goes on the wire is read as itself

pub reads-queued : (v s : Sender) (c : DataCommand) → ShowsSender v s → Has v.queued c → IsReadAsItself c
reads-queued v s c h k = go s.queued (let o = h.in_order in o.queued_reads) (subst (λ l. Has l c) h.queued k)
  where
    go : (cs : List DataCommand) → AllRead cs → Has (map wired cs) c → IsReadAsItself c
    go [] all j = absurd j
    go (d ∷ cs) all (inl e) = subst (λ (x : DataCommand). IsReadAsItself x) e (all d (inl refl))
    go (d ∷ cs) all (inr j) = go cs (λ x y. all x (inr y)) j

reads-sent : (v s : Sender) (p : Sent) → ShowsSender v s → Has v.sent p → IsReadAsItself p.command
reads-sent v s p h k = go s.sent (let o = h.in_order in o.sent_reads) (subst (λ l. Has l p) h.sent k)
  where
    go : (sent : List Sent) → AllSentRead sent → Has (map wired_sent sent) p → IsReadAsItself p.command
    go [] all j = absurd j
    go (q ∷ sent) all (inl e) = subst (λ (x : Sent). IsReadAsItself x.command) e (all q (inl refl))
    go (q ∷ sent) all (inr j) = go sent (λ x y. all x (inr y)) j

pub reads-next : (occasion : Occasion) (v s : Sender) (n : Next) → ShowsSender v s → next wire occasion v ≡ Some n → IsReadAsItself n.command
reads-next occasion v s n h e =
    elim (next_cases occasion v n e) [
      | inl r ↦ subst (λ (x : Next). IsReadAsItself x.command) (sym r.is) (reads-sent v s r.which h (Has-slice_get v.sent r.place r.which r.there))
      | inr b ↦ subst (λ (x : Next). IsReadAsItself x.command) (sym b.is) (reads-queued v s b.head h (subst (λ l. Has l b.head) (sym b.queued) (inl refl)))
    ]
