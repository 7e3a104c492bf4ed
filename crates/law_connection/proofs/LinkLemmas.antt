-- What holds of the numbers of a link, whatever was lost, repeated or reordered.
use Rattle.std.proofs.Common.{◌≡◌, ℕ, ◌+◌, ◌-◌, ◌%◌, ◌<◌, ◌≤◌, Bool, true, false, not, cond, ◌==◌, List, [], ◌∷◌, ◌++◌, refl, sym, ap, subst, ◌∙◌, inl, inr, ◌⊎◌, arith}
use Rattle.std.proofs.lemmas.Bool.Decides.{nat_tests}
use Rattle.std.specs.Prelude.{nat_lt}
use Rattle.enet_seq.specs.Numbering.{unbounded}
use Rattle.enet_fragment.specs.declared.data.DataCommand.{DataCommand}
use Rattle.enet_receiver.specs.Receiver.{Receiver, without_waiting}
use Rattle.enet_receiver.specs.DataOutcome.{received, outcome, is_handled}
use Rattle.enet_sender.specs.CommandChoice.{ChosenPacket}
use Rattle.law_connection.specs.Link.{PutOut, Answer, is_late, number_below, wired}
use Rattle.law_connection.specs.Private.Link.{Link, accept, send, put_out, takes_in, queue_answer, put_answer, after_acknowledgement, gives_up, closed}
use Rattle.law_connection.proofs.Lists.{Has, Has-push_cases, Has-push_left, Has-push, Has-filter, Has-from_filter}
use Rattle.law_connection.proofs.ContentLemmas.{Ready}
use Rattle.law_connection.proofs.PieceLemmas.{IsPieceOf}
use Rattle.law_connection.proofs.ReceiverLemmas.{IsReceived, Within, Grows, Grows-same, Lacks}
use Rattle.law_connection.proofs.ArrivalLemmas.{Arrived, Arrived-command}

pub number_below_true : (number sent_then : ℕ) → number ≤ sent_then → sent_then < number + 65536 → number_below sent_then (number % 65536) ≡ number
number_below_true number sent_then low high = omega arith

pub in_time : (sent number sent_then : ℕ) → number ≤ sent_then → sent_then < number + 65536 → is_late sent sent_then (number % 65536) ≡ false → sent ≤ number + 32768
in_time sent number sent_then low high h =
    let e = number_below_true number sent_then low high in
    let k : nat_lt 32768 (sent - number) ≡ false = ap (λ x. nat_lt 32768 (sent - x)) (sym e) ∙ h in
    grind (arith, nat_tests)

-- the reaches of waiting acknowledgements rise
abbrev pub Rises : List Answer → Type 0
Rises [] = Unit {0}
Rises (a ∷ rest) = ((b : Answer) → Has rest b → a.sent_then ≤ b.sent_then) × Rises rest

abbrev pub IsKnown : Link → ℕ → Type 0
IsKnown l m = l.is_open ≡ true → IsReceived l.receiver m

-- an acknowledgement that waits
pub record Waits (l : Link) (a : Answer) : Type 0 where
  pub positive : 0 < a.number
  pub number : a.number ≤ a.sent_then
  pub sent_then : a.sent_then ≤ l.sent
  pub in_time : a.sent_then ≤ a.number + 32768
  pub known : IsKnown l a.number
  -- what an acknowledgement removed was sent before this one began to wait
  pub removed : (m : ℕ) → 0 < m → m ≤ l.sent → Has l.unacked m ⊎ (m ≤ a.sent_then)
  pub logged : (b : Answer) → Has l.acks b → b.number ≤ a.sent_then

-- an acknowledgement in the log
pub record IsLogged (l : Link) (a : Answer) : Type 0 where
  pub positive : 0 < a.number
  pub number : a.number ≤ a.sent_then
  pub sent_then : a.sent_then ≤ l.sent
  pub in_time : a.sent_then ≤ a.number + 40960
  pub known : IsKnown l a.number

-- a command in the log
pub record IsPutOut (l : Link) (e : PutOut) : Type 0 where
  pub positive : e.command.reliable ≡ true → 0 < e.command.number
  pub number : e.command.number ≤ e.sent_then
  pub sent_then : e.sent_then ≤ l.sent
  pub span : e.sent_then ≤ e.command.number + 8192

pub record Numbers (l : Link) : Type 0 where
  -- what is unacknowledged is within the span
  pub unacked : (m : ℕ) → Has l.unacked m → (0 < m) × (m ≤ l.sent) × (l.sent < m + 8192)
  -- what an acknowledgement removed was received
  pub removed : (m : ℕ) → 0 < m → m ≤ l.sent → Has l.unacked m ⊎ IsKnown l m
  -- the front isn't far behind what was sent
  pub span : l.is_open ≡ true → l.sent ≤ l.receiver.front + 24575
  pub within : l.is_open ≡ true → Within l.sent l.receiver
  pub gap : l.is_open ≡ true → Lacks l.receiver
  pub commands : (e : PutOut) → Has l.commands e → IsPutOut l e
  pub answers : (a : Answer) → Has l.answers a → Waits l a
  pub rises : Rises l.answers
  pub acks : (a : Answer) → Has l.acks a → IsLogged l a

pub Numbers-accept : (l : Link) (c : ChosenPacket) → Numbers l → Numbers (accept l c)
Numbers-accept l c g = record {
  unacked = g.unacked;
  removed = g.removed;
  span = g.span;
  within = g.within;
  gap = g.gap;
  commands = λ e h. let k = g.commands e h in record { positive = k.positive; number = k.number; sent_then = k.sent_then; span = k.span };
  answers = λ a h. let k = g.answers a h in record { positive = k.positive; number = k.number; sent_then = k.sent_then; in_time = k.in_time; known = k.known; removed = k.removed; logged = k.logged };
  rises = g.rises;
  acks = λ a h. let k = g.acks a h in record { positive = k.positive; number = k.number; sent_then = k.sent_then; in_time = k.in_time; known = k.known };
}

pub order : (a b : ℕ) → (a ≤ b) ⊎ (b < a)
order a b = grind arith

-- the oldest unacknowledged number is at most that which the front lacks
span_after : (l : Link) → Numbers l → ((m : ℕ) → Has l.unacked m → l.sent + 1 < m + 8192) → l.is_open ≡ true → l.sent + 1 ≤ l.receiver.front + 24575
span_after l g room o =
    let w = g.gap o in
    let low = w.1 in
    let high = w.2 in
    elim (order w.0 l.sent) [
      | inl sent ↦ elim (g.removed w.0 (omega arith) sent) [
        | inl h ↦ let k = room _ h in omega arith
        | inr k ↦ absurd (w.3 (k o))
      ]
      | inr beyond ↦ omega arith
    ]

Within-more : (sent : ℕ) (r : Receiver) → Within sent r → Within (sent + 1) r
Within-more sent r w = record { front = let k = w.front in omega arith; held = λ n e h. let k = w.held n e h in (k.0, λ i t. let y = k.1 i t in omega arith) }

last_or_before : (m n : ℕ) → m ≤ n + 1 → (m ≤ n) ⊎ (n + 1 ≡ m)
last_or_before m n h = grind arith

-- a first send, allowed by the span
pub Numbers-send : (l : Link) → Numbers l → ((m : ℕ) → Has l.unacked m → l.sent + 1 < m + 8192) → Numbers (send l)
Numbers-send l g room = record {
  unacked = λ m h. elim (Has-push_cases l.unacked (l.sent + 1) m h) [
    | inl k ↦ (let u = g.unacked m k in (u.0, omega arith, room m k))
    | inr e ↦ (omega arith, omega arith, omega arith)
  ];
  removed = λ m low high. elim (last_or_before m l.sent high) [
    | inl k ↦ elim (g.removed m low k) [ inl u ↦ inl (Has-push_left l.unacked (l.sent + 1) m u) | inr v ↦ inr v ]
    | inr e ↦ inl (subst (λ x. Has (l.unacked ++ (l.sent + 1) ∷ []) x) e (Has-push l.unacked (l.sent + 1)))
  ];
  span = span_after l g room;
  within = λ o. Within-more l.sent l.receiver (g.within o);
  gap = g.gap;
  commands = λ e h. let k = g.commands e h in record { positive = k.positive; number = k.number; sent_then = let x = k.sent_then in omega arith; span = k.span };
  answers = λ a h. let k = g.answers a h in record {
    positive = k.positive;
    number = k.number;
    sent_then = let x = k.sent_then in omega arith;
    in_time = k.in_time;
    known = k.known;
    removed = λ m low high. elim (last_or_before m l.sent high) [
      | inl x ↦ elim (k.removed m low x) [ inl u ↦ inl (Has-push_left l.unacked (l.sent + 1) m u) | inr v ↦ inr v ]
      | inr e ↦ inl (subst (λ x. Has (l.unacked ++ (l.sent + 1) ∷ []) x) e (Has-push l.unacked (l.sent + 1)))
    ];
    logged = k.logged;
  };
  rises = g.rises;
  acks = λ a h. let k = g.acks a h in record { positive = k.positive; number = k.number; sent_then = let x = k.sent_then in omega arith; in_time = k.in_time; known = k.known };
}

-- a command goes into the log
pub Numbers-put_out : (l : Link) (c : DataCommand) → Numbers l → IsPutOut l (record { command = c; sent_then = l.sent }) → Numbers (put_out l c)
Numbers-put_out l c g new = record {
  unacked = g.unacked;
  removed = g.removed;
  span = g.span;
  within = g.within;
  gap = g.gap;
  commands = λ e h. elim (Has-push_cases l.commands (record { command = c; sent_then = l.sent }) e h) [
    | inl k ↦ let x = g.commands e k in record { positive = x.positive; number = x.number; sent_then = x.sent_then; span = x.span }
    | inr is ↦ subst (λ x. IsPutOut (put_out l c) x) is (record { positive = new.positive; number = new.number; sent_then = new.sent_then; span = new.span })
  ];
  answers = λ a h. let k = g.answers a h in record { positive = k.positive; number = k.number; sent_then = k.sent_then; in_time = k.in_time; known = k.known; removed = k.removed; logged = k.logged };
  rises = g.rises;
  acks = λ a h. let k = g.acks a h in record { positive = k.positive; number = k.number; sent_then = k.sent_then; in_time = k.in_time; known = k.known };
}

-- what is put out waits for its acknowledgement, or is an unreliable command that isn't far behind
pub put_out-reliable : (l : Link) (c : DataCommand) → Numbers l → Has l.unacked c.number → IsPutOut l (record { command = c; sent_then = l.sent })
put_out-reliable l c g there = let u = g.unacked c.number there in record { positive = λ _. u.0; number = u.1; sent_then = omega arith; span = let z = u.2 in omega arith }

pub put_out-unreliable : (l : Link) (c : DataCommand) → c.reliable ≡ false → c.number ≤ l.sent → l.sent ≤ c.number + 8192 → IsPutOut l (record { command = c; sent_then = l.sent })
put_out-unreliable l c kind low high = record { positive = λ e. absurd (let f : true ≡ false = sym e ∙ kind in cc); number = low; sent_then = omega arith; span = high }

pub either : (b : Bool) → (b ≡ true) ⊎ (b ≡ false)
either true = inl refl
either false = inr refl

-- a receiver that went on
abbrev with_receiver : Link → Receiver → Link
with_receiver l r = record l { receiver = r }

Numbers-receiver : (l : Link) (r : Receiver) → Numbers l → (l.is_open ≡ true → Within l.sent r × Grows l.receiver r × Lacks r) → Numbers (with_receiver l r)
Numbers-receiver l r g new = record {
  unacked = g.unacked;
  removed = λ m low high. elim (g.removed m low high) [ inl u ↦ inl u | inr k ↦ inr (on m k) ];
  span = λ o. let k = (new o).1 in let x = k.front in let y = g.span o in omega arith;
  within = λ o. (new o).0;
  gap = λ o. (new o).2;
  commands = λ e h. let k = g.commands e h in record { positive = k.positive; number = k.number; sent_then = k.sent_then; span = k.span };
  answers = λ a h. let k = g.answers a h in record { positive = k.positive; number = k.number; sent_then = k.sent_then; in_time = k.in_time; known = on a.number k.known; removed = k.removed; logged = k.logged };
  rises = g.rises;
  acks = λ a h. let k = g.acks a h in record { positive = k.positive; number = k.number; sent_then = k.sent_then; in_time = k.in_time; known = on a.number k.known };
}
  where
    on : (m : ℕ) → IsKnown l m → l.is_open ≡ true → IsReceived r m
    on m k o = let x = (new o).1 in x.received m (k o)

-- what a command of the log does, if it isn't late
pub arrives : (mtu most : ℕ) (l : Link) (e : PutOut) (full : Bool) → Numbers l → Ready mtu l.carried l.receiver → Has l.commands e → IsPieceOf mtu l.carried e.command → is_late l.sent e.sent_then (e.command.number % 65536) ≡ false → l.is_open ≡ true
    → Arrived mtu l.carried l.sent most l.receiver e.command full
arrives mtu most l e full g ready there piece late o =
    let p = g.commands e there in
    let a = p.number in let b = p.sent_then in let c = p.span in
    Arrived-command mtu l.carried l.sent most l.receiver e.command full piece ready (g.within o) (g.gap o) (omega arith) (g.span o) (in_time l.sent e.command.number e.sent_then p.number (omega arith) late)

-- a command of the log comes, and isn't late
pub Numbers-takes_in : (mtu most : ℕ) (l : Link) (e : PutOut) (full : Bool) → Numbers l → Ready mtu l.carried l.receiver → Has l.commands e → IsPieceOf mtu l.carried e.command → is_late l.sent e.sent_then (e.command.number % 65536) ≡ false
    → Numbers (takes_in l most e.command full)
Numbers-takes_in mtu most l e full g ready there piece late =
    let new : Receiver = received unbounded most l.receiver (wired e.command) full in
    let is : l.is_open ≡ true → new ≡ cond l.is_open new l.receiver = λ o. ap (λ b. cond b new l.receiver) (sym o) in
    Numbers-receiver l (cond l.is_open new l.receiver) g
    (λ o. let a = arrives mtu most l e full g ready there piece late o in
    let st = a.settled in
    subst (λ r. Within l.sent r × Grows l.receiver r × Lacks r) (is o) (st.within, st.grows, st.lacks))

-- where it is considered, a reliable one is known then
pub known-takes_in : (mtu most : ℕ) (l : Link) (e : PutOut) (full : Bool) → Numbers l → Ready mtu l.carried l.receiver → Has l.commands e → IsPieceOf mtu l.carried e.command → is_late l.sent e.sent_then (e.command.number % 65536) ≡ false
    → e.command.reliable ≡ true → (l.is_open ≡ true → is_handled (outcome unbounded most l.receiver (wired e.command) full) ≡ true) → IsKnown (takes_in l most e.command full) e.command.number
known-takes_in mtu most l e full g ready there piece late kind considered o =
    let new : Receiver = received unbounded most l.receiver (wired e.command) full in
    let is : new ≡ cond l.is_open new l.receiver = ap (λ b. cond b new l.receiver) (sym o) in
    let a = arrives mtu most l e full g ready there piece late o in
    subst (λ r. IsReceived r e.command.number) is (a.known kind (considered o))

-- it is acknowledged
pub Numbers-queue_answer : (l : Link) (e : PutOut) → Numbers l → Has l.commands e → is_late l.sent e.sent_then (e.command.number % 65536) ≡ false → e.command.reliable ≡ true → IsKnown l e.command.number → Numbers (queue_answer l e.command.number)
Numbers-queue_answer l e g there late reliable known =
    let p = g.commands e there in
    let u = p.number in let v = p.sent_then in let w = p.span in
    let t = in_time l.sent e.command.number e.sent_then p.number (omega arith) late in
    let new : Answer = record { number = e.command.number; sent_then = l.sent } in
    record {
      unacked = g.unacked;
      removed = g.removed;
      span = g.span;
      within = g.within;
      gap = g.gap;
      commands = λ x h. let k = g.commands x h in record { positive = k.positive; number = k.number; sent_then = k.sent_then; span = k.span };
      answers = λ a h. elim (Has-push_cases l.answers new a h) [
        | inl k ↦ let x = g.answers a k in record { positive = x.positive; number = x.number; sent_then = x.sent_then; in_time = x.in_time; known = x.known; removed = x.removed; logged = x.logged }
        | inr is ↦ subst (λ x. Waits (queue_answer l e.command.number) x) is (record {
          positive = p.positive reliable;
          number = omega arith;
          sent_then = omega arith;
          in_time = t;
          known = known;
          removed = λ m low high. inr high;
          logged = λ b k. let y = g.acks b k in let y1 = y.number in let y2 = y.sent_then in omega arith;
        })
      ];
      rises = Rises-push l.answers new g.rises (λ a h. let k = g.answers a h in k.sent_then);
      acks = λ a h. let k = g.acks a h in record { positive = k.positive; number = k.number; sent_then = k.sent_then; in_time = k.in_time; known = k.known };
    }
  where
    Rises-push : (xs : List Answer) (y : Answer) → Rises xs → ((a : Answer) → Has xs a → a.sent_then ≤ y.sent_then) → Rises (xs ++ y ∷ [])
    Rises-push [] y r h = ((λ b k. absurd k), tt)
    Rises-push (x ∷ xs) y r h = (
      (λ b k. elim (Has-push_cases xs y b k) [ inl j ↦ r.0 b j | inr is ↦ subst (λ z. x.sent_then ≤ z.sent_then) is (h x (inl refl)) ]),
      Rises-push xs y r.1 (λ a k. h a (inr k)),
    )

-- the oldest waiting acknowledgement goes into the log
pub Numbers-put_answer : (l : Link) (a : Answer) (rest : List Answer) → l.answers ≡ a ∷ rest → Numbers l → Numbers (put_answer l a rest)
Numbers-put_answer l a rest e g =
    let x = g.answers a (old a (inl refl)) in
    let x1 = x.number in let x2 = x.sent_then in let x3 = x.in_time in
    let new : Answer = record { number = a.number; sent_then = l.sent } in
    let rising = subst Rises e g.rises in
    record {
      unacked = g.unacked;
      removed = g.removed;
      span = g.span;
      within = g.within;
      gap = g.gap;
      commands = λ y h. let k = g.commands y h in record { positive = k.positive; number = k.number; sent_then = k.sent_then; span = k.span };
      answers = λ b h. let k = g.answers b (old b (inr h)) in record {
        positive = k.positive;
        number = k.number;
        sent_then = k.sent_then;
        in_time = k.in_time;
        known = k.known;
        removed = k.removed;
        logged = λ c j. elim (Has-push_cases l.acks new c j) [
          | inl i ↦ k.logged c i
          | inr is ↦ subst (λ z. z.number ≤ b.sent_then) is (let up = rising.0 b h in omega arith)
        ];
      };
      rises = rising.1;
      acks = λ b h. elim (Has-push_cases l.acks new b h) [
        | inl k ↦ let y = g.acks b k in record { positive = y.positive; number = y.number; sent_then = y.sent_then; in_time = y.in_time; known = y.known }
        | inr is ↦ subst (λ z. IsLogged (put_answer l a rest) z) is (record {
          positive = x.positive;
          number = omega arith;
          sent_then = omega arith;
          known = x.known;
          in_time = answer_in_time l a g x;
        })
      ];
    }
  where
    old : (b : Answer) → Has (a ∷ rest) b → Has l.answers b
    old b h = subst (λ xs. Has xs b) (sym e) h

    answer_in_time : (l : Link) (a : Answer) → Numbers l → Waits l a → l.sent ≤ a.number + 40960
    answer_in_time l a g x =
        let x3 = x.in_time in
        elim (order a.sent_then l.sent) [
          | inl low ↦ elim (x.removed (a.sent_then + 1) (omega arith) low) [
            | inl u ↦ let k = g.unacked _ u in omega arith
            | inr absurd_high ↦ omega arith
          ]
          | inr high ↦ omega arith
        ]
      where
        order : (p q : ℕ) → (p + 1 ≤ q) ⊎ (q ≤ p)
        order p q = grind arith

same_residue : (sent m n : ℕ) → m ≤ sent → sent < m + 8192 → n ≤ sent → sent ≤ n + 32768 → m % 65536 ≡ n % 65536 → m ≡ n
same_residue sent m n a b c d e = omega arith

not_equal : (m n : ℕ) → not (m == n) ≡ false → m ≡ n
not_equal m n h = grind (arith, nat_tests)

-- an acknowledgement of the log removes its own command and no other
pub removes_own : (l : Link) (a : Answer) → Numbers l → Has l.acks a → is_late l.sent a.sent_then (a.number % 65536) ≡ false
    → (m : ℕ) → Has l.unacked m → not (m % 65536 == a.number % 65536) ≡ false → m ≡ a.number
removes_own l a g there late m h e =
    let x = g.acks a there in
    let x1 = x.number in let x2 = x.sent_then in let x3 = x.in_time in
    let t = in_time l.sent a.number a.sent_then x.number (omega arith) late in
    let u = g.unacked m h in
    same_residue l.sent m a.number u.1 u.2 (omega arith) t (not_equal _ _ e)

pub Numbers-acknowledged : (l : Link) (a : Answer) → Numbers l → Has l.acks a → is_late l.sent a.sent_then (a.number % 65536) ≡ false → Numbers (after_acknowledgement l a)
Numbers-acknowledged l a g there late = record {
  unacked = λ m h. g.unacked m (Has-from_filter test l.unacked m h);
  removed = λ m low high. elim (g.removed m low high) [
    | inl u ↦ elim (either (test m)) [
      | inl stays ↦ inl (Has-filter test l.unacked m u stays)
      | inr goes ↦ inr (subst (λ x. IsKnown l x) (sym (removes_own l a g there late m u goes)) known)
    ]
    | inr k ↦ inr k
  ];
  span = g.span;
  within = g.within;
  gap = g.gap;
  commands = λ x h. let k = g.commands x h in record { positive = k.positive; number = k.number; sent_then = k.sent_then; span = k.span };
  answers = λ b h. let k = g.answers b h in record {
    positive = k.positive;
    number = k.number;
    sent_then = k.sent_then;
    in_time = k.in_time;
    known = k.known;
    logged = k.logged;
    removed = λ m low high. elim (k.removed m low high) [
      | inl u ↦ elim (either (test m)) [
        | inl stays ↦ inl (Has-filter test l.unacked m u stays)
        | inr goes ↦ inr (let e = removes_own l a g there late m u goes in let y = k.logged a there in omega arith)
      ]
      | inr low' ↦ inr low'
    ];
  };
  rises = g.rises;
  acks = λ b h. let k = g.acks b h in record { positive = k.positive; number = k.number; sent_then = k.sent_then; in_time = k.in_time; known = k.known };
}
  where
    test : ℕ → Bool
    test m = not (m % 65536 == a.number % 65536)

    known : IsKnown l a.number
    known = let k = g.acks a there in k.known

-- the receiver gives up what waits, and nothing that was received
pub Numbers-gives_up : (l : Link) → Numbers l → Numbers (gives_up l)
Numbers-gives_up l g = Numbers-receiver l (without_waiting l.receiver) g (λ o. (
  (let w = g.within o in record { front = w.front; held = w.held }),
  (let same = Grows-same l.receiver in record { front = same.front; received = same.received }),
  g.gap o,
))

-- the receiver stops dispatching
pub Numbers-closed : (l : Link) → Numbers l → Numbers (closed l)
Numbers-closed l g = record {
  unacked = g.unacked;
  removed = λ m low high. inr (λ o. absurd (cc));
  span = λ o. absurd (cc);
  within = λ o. absurd (cc);
  gap = λ o. absurd (cc);
  commands = λ x h. let k = g.commands x h in record { positive = k.positive; number = k.number; sent_then = k.sent_then; span = k.span };
  answers = λ b h. let k = g.answers b h in record { positive = k.positive; number = k.number; sent_then = k.sent_then; in_time = k.in_time; known = λ o. absurd (cc); removed = k.removed; logged = k.logged };
  rises = g.rises;
  acks = λ b h. let k = g.acks b h in record { positive = k.positive; number = k.number; sent_then = k.sent_then; in_time = k.in_time; known = λ o. absurd (cc) };
}
