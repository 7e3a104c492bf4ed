-- What an end has queued, has sent or has put out on its channels are commands of what its user submitted.
use Rattle.std.proofs.Common.{◌≡◌, ℕ, zero, suc, ◌+◌, ◌%◌, ◌<◌, Bool, true, false, cond, List, [], ◌∷◌, ◌++◌, map, take, drop, slice_set, refl, sym, ap, subst, ◌∙◌, inl, inr, ◌⊎◌, arith, Option, Some, None}
use Rattle.std.specs.List.{range_with_len, remove}
use Rattle.enet_seq.specs.Numbering.{wire, unbounded}
use Rattle.enet_fragment.specs.declared.data.DataCommand.{DataCommand}
use Rattle.enet_receiver.specs.Members.{Has}
use Rattle.enet_sender.specs.CommandChoice.{ChosenPacket, carried, carried_as}
use Rattle.enet_sender.specs.CommandChoice as command_choice
use Rattle.enet_rtt.specs.declared.transmission.Tick.{Tick}
use Rattle.enet_sender.specs.declared.outgoing.Occasion.{Occasion}
use Rattle.enet_sender.specs.declared.sent.Sent.{Sent}
use Rattle.enet_sender.specs.Sender.{Sender, Next, next, nothing_sent, command_at, commands_of, begun, again, with_skipped, without_place, position_of, after_acknowledgement, with_marked}
use Rattle.enet_sender.specs.Sender as sender
use Rattle.law_connection.specs.Follows.{command_count, count_after}
use Rattle.law_connection.specs.Link.{wired}
use Rattle.law_connection.specs.Meant.{IsPieceOf, IsPlain}
use Rattle.law_connection.proofs.CarriageLemmas.{command_count-append, count_after-append}
use Rattle.law_connection.proofs.Emits.{Has-from_map}
use Rattle.law_connection.proofs.Lists.{Has-push_cases, Has-append_cases, Has-slice_get}
use Rattle.law_connection.proofs.PieceLemmas.{IsPieceOf-more}
use Rattle.law_connection.proofs.QueueLemmas.{wired-commands}
use Rattle.law_connection.proofs.SoundSender.{Resends, Begins, next_cases, IsPlain-carried, carried-push}
use Rattle.law_connection.proofs.WireSender.{Has-skipped}
use Rattle.law_one_end.specs.Sent.{IsMeant}

-- the commands that a sender has, queued or sent
abbrev pub Commands : Sender → DataCommand → Type 0
Commands s c = Has s.queued c ⊎ ((p : Sent) × Has s.sent p × (p.command ≡ c))

-- a sender that has no new one, and whose numbers stay
pub record Fewer (old new : Sender) : Type 0 where
  pub number : new.number ≡ old.number
  pub unreliable : new.unreliable ≡ old.unreliable
  pub commands : (c : DataCommand) → Commands new c → Commands old c

pub fewer-then : (a b c : Sender) → Fewer a b → Fewer b c → Fewer a c
fewer-then a b c f g = record { number = g.number ∙ f.number; unreliable = g.unreliable ∙ f.unreliable; commands = λ d h. f.commands d (g.commands d h) }

-- members of a list

pub Has-set : {X : Type 0} (xs : List X) (i : ℕ) (y x : X) → Has (slice_set xs i y) x → (y ≡ x) ⊎ Has xs x
Has-set [] i y x h = absurd h
Has-set (z ∷ xs) zero y x (inl e) = inl e
Has-set (z ∷ xs) zero y x (inr h) = inr (inr h)
Has-set (z ∷ xs) (suc i) y x (inl e) = inr (inl e)
Has-set (z ∷ xs) (suc i) y x (inr h) = elim (Has-set xs i y x h) [ inl e ↦ inl e | inr k ↦ inr (inr k) ]

Has-take : {X : Type 0} (n : ℕ) (xs : List X) (x : X) → Has (take n xs) x → Has xs x
Has-take zero xs x h = absurd h
Has-take (suc n) [] x h = h
Has-take (suc n) (z ∷ xs) x (inl e) = inl e
Has-take (suc n) (z ∷ xs) x (inr h) = inr (Has-take n xs x h)

Has-drop : {X : Type 0} (n : ℕ) (xs : List X) (x : X) → Has (drop n xs) x → Has xs x
Has-drop zero xs x h = h
Has-drop (suc n) [] x h = h
Has-drop (suc n) (z ∷ xs) x h = inr (Has-drop n xs x h)

pub Has-remove : {X : Type 0} (xs : List X) (i : ℕ) (x : X) → Has (remove xs i) x → Has xs x
Has-remove xs i x h = elim (Has-append_cases (take i xs) (drop (suc i) xs) x h) [ inl a ↦ Has-take i xs x a | inr b ↦ Has-drop (suc i) xs x b ]

-- what is due next

pub next-fewer : (o : Occasion) (s : Sender) (n : Next) → next wire o s ≡ Some n → Commands s n.command × Fewer s n.sender
next-fewer o s n e = elim (next_cases o s n e) [ inl r ↦ resent r | inr b ↦ first b ]
  where
    resent : Resends s o.now n → Commands s n.command × Fewer s n.sender
    resent r =
        let there : Has s.sent r.which = Has-slice_get s.sent r.place r.which r.there in
        subst (λ (x : Next). Commands s x.command × Fewer s x.sender) (sym r.is) (
          inr (r.which, there, refl),
          record {
            number = refl;
            unreliable = refl;
            commands = λ c h. elim h [
              | inl q ↦ inl q
              | inr w ↦ elim (Has-set s.sent r.place (again o.now r.which) w.0 w.1) [
                | inl is ↦ inr (r.which, there, ap (λ (p : Sent). p.command) is ∙ w.2)
                | inr old ↦ inr (w.0, old, w.2)
              ]
            ];
          },
        )

    first : Begins s o n → Commands s n.command × Fewer s n.sender
    first b =
        let c : DataCommand = b.head in
        let head : Has s.queued c = subst (λ l. Has l c) (sym b.queued) (inl refl) in
        let sent : (r : Bool) → (p : Sent) → Has (cond r (s.sent ++ begun o.now o.timeout c ∷ []) s.sent) p → Has s.sent p ⊎ (begun o.now o.timeout c ≡ p) =
        λ r. elim r as (λ r. (p : Sent) → Has (cond r (s.sent ++ begun o.now o.timeout c ∷ []) s.sent) p → Has s.sent p ⊎ (begun o.now o.timeout c ≡ p)) [
          | true ↦ λ p h. Has-push_cases s.sent (begun o.now o.timeout c) p h
          | false ↦ λ p h. inl h
        ] in
        subst (λ (x : Next). Commands s x.command × Fewer s x.sender) (sym b.is) (
          inl head,
          record {
            number = refl;
            unreliable = refl;
            commands = λ d h. elim h [
              | inl q ↦ inl (subst (λ l. Has l d) (sym b.queued) (inr q))
              | inr w ↦ elim (sent c.reliable w.0 w.1) [
                | inl old ↦ inr (w.0, old, w.2)
                | inr is ↦ inl (subst (Has s.queued) (ap (λ (p : Sent). p.command) is ∙ w.2) head)
              ]
            ];
          },
        )

pub skipped-fewer : (s : Sender) → Fewer s (with_skipped s)
skipped-fewer s = record { number = refl; unreliable = refl; commands = λ c h. elim h [ inl q ↦ inl (Has-skipped s.queued c q) | inr w ↦ inr w ] }

pub acknowledged-fewer : (s : Sender) (number : ℕ) → Fewer s (after_acknowledgement s number)
acknowledged-fewer s number = record {
  number = refl;
  unreliable = refl;
  commands = λ c h. elim h [ inl q ↦ inl q | inr w ↦ inr (w.0, left (position_of number s.sent) w.0 w.1, w.2) ];
}
  where
    left : (o : Option ℕ) (p : Sent) → Has (without_place s.sent o) p → Has s.sent p
    left None p h = h
    left (Some i) p h = Has-remove s.sent i p h

pub marked-fewer : (tick : Tick) (s : Sender) → Fewer s (with_marked tick s)
marked-fewer tick s = record {
  number = refl;
  unreliable = refl;
  commands = λ c h. elim h [ inl q ↦ inl q | inr w ↦ (let r = Has-from_map (sender.marked tick) s.sent w.0 w.1 in inr (r.0, r.1, ap (λ (p : Sent). p.command) r.2 ∙ w.2)) ];
}

pub cleared-fewer : (s : Sender) → Fewer s (sender.cleared s)
cleared-fewer s = record { number = refl; unreliable = refl; commands = λ c h. elim h [ inl f ↦ absurd f | inr w ↦ absurd w.1 ] }

-- what was submitted

pub meant-more : (mtu : ℕ) (cs : List ChosenPacket) (x : ChosenPacket) (c : DataCommand) → IsMeant mtu cs c → IsMeant mtu (cs ++ x ∷ []) c
meant-more mtu cs x c h = record { meant = h.meant; piece = IsPieceOf-more mtu cs x h.meant h.piece; on_the_wire = h.on_the_wire }

Has-range : (a n i : ℕ) → Has (range_with_len a n) i → i < a + n
Has-range a zero i h = absurd h
Has-range a (suc n) i (inl e) = omega arith
Has-range a (suc n) i (inr h) = (let k = Has-range (a + 1) n i h in omega arith)

-- each command of a packet that comes next
new-meant : (mtu : ℕ) (cs : List ChosenPacket) (c : ChosenPacket) (d : DataCommand) → IsPlain mtu c → Has (commands_of unbounded mtu (command_count cs) (count_after 0 cs) c) d → IsPieceOf mtu (cs ++ c ∷ []) d
new-meant mtu cs c d plain h =
    let r = Has-from_map (command_at unbounded mtu (record { number = command_count cs; unreliable = count_after 0 cs }) c) (range_with_len 0 c.pieces) d h in
    let low = Has-range 0 c.pieces r.0 r.1 in
    record {
      packet = c;
      number = command_count cs;
      count = count_after 0 cs;
      index = r.0;
      stands = record { before = cs; behind = []; whole = refl; number_is = refl; count_is = refl };
      inside = omega arith;
      plain = plain;
      command = sym r.2;
    }

-- a sender of what was submitted on its channel
pub record IsSender (mtu : ℕ) (ps : List command_choice.Packet) (s : Sender) : Type 0 where
  pub number : s.number ≡ command_count (carried mtu ps) % 65536
  pub unreliable : s.unreliable ≡ count_after 0 (carried mtu ps)
  pub commands : (c : DataCommand) → Commands s c → IsMeant mtu (carried mtu ps) c

pub sender-fewer : (mtu : ℕ) (ps : List command_choice.Packet) (s t : Sender) → Fewer s t → IsSender mtu ps s → IsSender mtu ps t
sender-fewer mtu ps s t f h = record { number = f.number ∙ h.number; unreliable = f.unreliable ∙ h.unreliable; commands = λ c k. h.commands c (f.commands c k) }

pub sender-nothing : (mtu : ℕ) → IsSender mtu [] nothing_sent
sender-nothing mtu = record { number = refl; unreliable = refl; commands = λ c h. elim h [ inl f ↦ absurd f | inr w ↦ absurd w.1 ] }

pub sender-submitted : (mtu : ℕ) (ps : List command_choice.Packet) (s : Sender) (p : command_choice.Packet) → IsSender mtu ps s → IsSender mtu (ps ++ p ∷ []) (sender.submitted wire mtu s p)
sender-submitted mtu ps s p h = record {
  number = ap (λ n. cond c.reliable ((n + c.pieces) % 65536) n) h.number ∙ last c.reliable ∙ ap (λ n. n % 65536) (sym (command_count-append cs (c ∷ []))) ∙ ap (λ l. command_count l % 65536) (sym is);
  unreliable = ap (λ n. cond c.reliable 0 (n + 1)) h.unreliable ∙ sym (count_after-append 0 cs (c ∷ [])) ∙ ap (count_after 0) (sym is);
  commands = λ d k. subst (λ l. IsMeant mtu l d) (sym is) (elim k [
    | inr w ↦ meant-more mtu cs c d (h.commands d (inr w))
    | inl q ↦ elim (Has-append_cases s.queued (commands_of wire mtu s.number s.unreliable c) d q) [
      | inl old ↦ meant-more mtu cs c d (h.commands d (inl old))
      | inr new ↦ (let r = Has-from_map wired made d (subst (λ l. Has l d) on new) in record { meant = r.0; piece = new-meant mtu cs c r.0 (IsPlain-carried mtu s.unreliable p) r.1; on_the_wire = sym r.2 })
    ]
  ]);
}
  where
    cs : List ChosenPacket
    cs = carried mtu ps

    c : ChosenPacket
    c = carried_as mtu s.unreliable p

    is : carried mtu (ps ++ p ∷ []) ≡ cs ++ c ∷ []
    is = carried-push mtu 0 ps p ∙ ap (λ n. cs ++ carried_as mtu n p ∷ []) (sym h.unreliable)

    made : List DataCommand
    made = commands_of unbounded mtu (command_count cs) (count_after 0 cs) c

    on : commands_of wire mtu s.number s.unreliable c ≡ map wired made
    on = (λ i. commands_of wire mtu (h.number i) (h.unreliable i) c) ∙ wired-commands mtu (command_count cs) (count_after 0 cs) c

    last : (r : Bool) → cond r ((command_count cs % 65536 + c.pieces) % 65536) (command_count cs % 65536) ≡ (command_count cs + cond r (0 + c.pieces) 0) % 65536
    last true = omega arith
    last false = omega arith
