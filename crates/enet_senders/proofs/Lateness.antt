-- What is late under the keys of a peer, and on its channels.
use Rattle.std.proofs.Common.{inl, inr, ◌≡◌, ℕ, ◌+◌, ◌<◌, ◌≤◌, Bool, true, false, not, ◌&&◌, ◌||◌, List, [], ◌∷◌, length, map, get_or, Option, Some, None, refl, sym, ap, subst, ◌∙◌, arith, All}
use Rattle.std.specs.List.{cons_option, list_any, sum_by}
use Rattle.std.specs.Option.{option_map}
use Rattle.std.proofs.lemmas.Bool.{cases_eq, cases_lt, or_left, or_right}
use Rattle.std.proofs.lemmas.List.Sums.{sum_by-cons}
use Rattle.std.proofs.lemmas.List.Folds.{list_any_none}
use Rattle.std.proofs.lemmas.List.Elements.{All-head, All-tail, All-map, All-nil, All-cons}
use Rattle.slab.specs.Slab.{Slab, get}
use Rattle.enet_rtt.specs.Clock.{HappensIn}
use Rattle.enet_rtt.specs.Expiry.{gives_up}
use Rattle.enet_rtt.specs.declared.expiry.Patience.{Patience}
use Rattle.enet_rtt.specs.declared.transmission.Tick.{Tick}
use Rattle.enet_fragment.specs.declared.data.DataCommand.{DataCommand}
use Rattle.enet_sender.specs.declared.sent.Sent.{Sent}
use Rattle.enet_sender.specs.declared.outgoing.Outgoing.{Outgoing}
use Rattle.enet_sender.specs.Due.{SendingEnd}
use Rattle.enet_sender.specs.Foretold.{IsLateIn, NonePasses, SomePasses}
use Rattle.enet_sender.specs.Invariant.{reliable_in}
use Rattle.enet_sender.specs.Pending.{vacant, named, times, held}
use Rattle.enet_sender.specs.Private.Rings.{with_due}
use Rattle.enet_sender.specs.Rings.{Rings, HasRoom, GoesOn, Keeps, rings_of, commands_at, command_of, end_of}
use Rattle.enet_sender.specs.Sender.{is_late, ends, marked}
use Rattle.enet_sender.proofs.Named.{times-append, times-other, held-some}
use Rattle.enet_sender.proofs.Foretelling.{due-not_late, unmarked}
use Rattle.enet_sender.proofs.Rounds.{marked-had, marked-held, named-map}
use Rattle.enet_senders.specs.Senders.{ends_of, times_in, marked_end, KeepsAll}
use Rattle.enet_senders.specs.Private.Seeking.{seeking}

-- what is late waits
late-waits : (now : ℕ) (p : Sent) → is_late now p ≡ true → p.transmission.due ≡ false
late-waits now p late = by p.transmission.due refl
  where
    by : (b : Bool) → p.transmission.due ≡ b → p.transmission.due ≡ false
    by true e = absurd (let f = due-not_late now p e in cc)
    by false e = e

ends-waits : (now : ℕ) (patience : Patience) (heard : ℕ) (p : Sent) → ends now patience heard p ≡ true → p.transmission.due ≡ false
ends-waits now patience heard p ends = late-waits now p (by (is_late now p) (gives_up patience now heard p.transmission) ends)
  where
    by : (b c : Bool) → (b && c) ≡ true → b ≡ true
    by true c e = refl
    by false c e = cc

-- a command that passes, under a key of a ring
named-passes : (test : Sent → Bool) (at : ℕ → Option Sent) (key : ℕ) (p : Sent) (keys : List ℕ) → at key ≡ Some p → test p ≡ true → 1 ≤ times key keys → list_any test (named at keys) ≡ true
named-passes test at key p [] there passes some = absurd (omega arith)
named-passes test at key p (k ∷ keys) there passes some =
    elim (cases_eq k key) [
      | inl same ↦ ap (λ o. list_any test (cons_option o (named at keys))) (ap at same ∙ there) ∙ or_left (test p) (list_any test (named at keys)) passes
      | inr other ↦ behind (at k) (named-passes test at key p keys there passes (let e = times-other key k keys other in omega arith))
    ]
  where
    behind : (o : Option Sent) → list_any test (named at keys) ≡ true → list_any test (cons_option o (named at keys)) ≡ true
    behind None e = e
    behind (Some q) e = or_right (test q) (list_any test (named at keys)) e

named-fails : (test : Sent → Bool) (at : ℕ → Option Sent) (keys : List ℕ) → NonePasses test at → list_any test (named at keys) ≡ false
named-fails test at [] none = refl
named-fails test at (k ∷ keys) none = by (at k) refl (named-fails test at keys none)
  where
    by : (o : Option Sent) → at k ≡ o → list_any test (named at keys) ≡ false → list_any test (cons_option o (named at keys)) ≡ false
    by None e rest = rest
    by (Some q) e rest = ap (λ b. b || list_any test (named at keys)) (none k q e) ∙ rest

-- what waits is not queued
not-queued : (at : ℕ → Option Sent) (r : Rings) (key : ℕ) (p : Sent) → Keeps at r → at key ≡ Some p → p.transmission.due ≡ false → 1 ≤ times key r.queued → ⊥
not-queued at r key p keeps there waits some =
    let found = named-passes (λ (q : Sent). not q.transmission.due) at key p r.queued there (ap not waits) some in
    let none = list_any_none (λ (q : Sent). not q.transmission.due) (named at r.queued) (λ k d inside. ap not (keeps.waits k d inside)) in
    absurd (cc)

-- what passes under some key passes on some channel
late-among : (test : Sent → Bool) (s : Slab Sent) (key : ℕ) (p : Sent) (channels : List Outgoing) → get s key ≡ Some p → test p ≡ true → p.transmission.due ≡ false → All (λ (o : Outgoing). Keeps (get s) (rings_of o)) channels
    → 1 ≤ sum_by (times_in key) channels → list_any (λ (e : SendingEnd). list_any test e.sender.sent) (ends_of s channels) ≡ true
late-among test s key p [] there passes waits each some = absurd (omega arith)
late-among test s key p (o ∷ os) there passes waits each some =
    let sum = sum_by-cons (times_in key) o os in
    let here : Bool = list_any test (named (get s) o.sent.items) in
    let rest : Bool = list_any (λ (e : SendingEnd). list_any test e.sender.sent) (ends_of s os) in
    elim (cases_lt 0 (times_in key o)) [
      | inl has ↦
          let all = times-append key o.queued.items o.sent.items in
          let keeps : Keeps (get s) (rings_of o) = All-head (λ (o : Outgoing). Keeps (get s) (rings_of o)) o os each in
          elim (cases_lt 0 (times key o.sent.items)) [
            | inl sent ↦ or_left here rest (named-passes test (get s) key p o.sent.items there passes (omega arith))
            | inr none ↦ absurd (not-queued (get s) (rings_of o) key p keeps there waits (omega arith))
          ]
      | inr none ↦ or_right here rest (late-among test s key p os there passes waits (All-tail (λ (o : Outgoing). Keeps (get s) (rings_of o)) o os each) (omega arith))
    ]

pub some-among : (test : Sent → Bool) (s : Slab Sent) (channels : List Outgoing) → ((p : Sent) → test p ≡ true → p.transmission.due ≡ false) → KeepsAll (get s) channels → SomePasses test (get s)
    → list_any (λ (e : SendingEnd). list_any test e.sender.sent) (ends_of s channels) ≡ true
some-among test s channels waits all found =
    let key = found.0 in
    let p = found.1.0 in
    let low : key < vacant = found.1.1.0 in
    let there : get s key ≡ Some p = found.1.1.1.0 in
    let passes : test p ≡ true = found.1.1.1.1 in
    let names = all.names key low in
    let one = held-some (get s) key p there in
    late-among test s key p channels there passes (waits p passes) all.each (omega arith)

pub none-among : (test : Sent → Bool) (s : Slab Sent) (channels : List Outgoing) → NonePasses test (get s) → list_any (λ (e : SendingEnd). list_any test e.sender.sent) (ends_of s channels) ≡ false
none-among test s [] none = refl
none-among test s (o ∷ os) none =
    ap (λ b. b || list_any (λ (e : SendingEnd). list_any test e.sender.sent) (ends_of s os)) (named-fails test (get s) o.sent.items none) ∙ none-among test s os none

-- so the answer under the keys is that on the channels
by-answer : (b x : Bool) → (b ≡ true → x ≡ true) → (b ≡ false → x ≡ false) → b ≡ x
by-answer true x some none = sym (some refl)
by-answer false x some none = sym (none refl)

pub late-is : (now : ℕ) (b : Bool) (s : Slab Sent) (channels : List Outgoing) → KeepsAll (get s) channels → (b ≡ true → SomePasses (is_late now) (get s)) → (b ≡ false → NonePasses (is_late now) (get s))
    → b ≡ list_any (λ (e : SendingEnd). list_any (is_late now) e.sender.sent) (ends_of s channels)
late-is now b s channels all some none =
    by-answer b _ (λ e. some-among (is_late now) s channels (late-waits now) all (some e)) (λ e. none-among (is_late now) s channels (none e))

pub ends-is : (now : ℕ) (patience : Patience) (heard : ℕ) (b : Bool) (s : Slab Sent) (channels : List Outgoing) → KeepsAll (get s) channels
    → (b ≡ true → SomePasses (ends now patience heard) (get s)) → (b ≡ false → NonePasses (ends now patience heard) (get s))
    → b ≡ list_any (λ (e : SendingEnd). list_any (ends now patience heard) e.sender.sent) (ends_of s channels)
ends-is now patience heard b s channels all some none =
    by-answer b _ (λ e. some-among (ends now patience heard) s channels (ends-waits now patience heard) all (some e)) (λ e. none-among (ends now patience heard) s channels (none e))

pub late-in : (now wait : ℕ) (s : Slab Sent) (channels : List Outgoing) → KeepsAll (get s) channels → IsLateIn (get s) now wait
    → HappensIn (λ (later : ℕ). list_any (λ (e : SendingEnd). list_any (is_late later) e.sender.sent) (ends_of s channels)) now wait
late-in now wait s channels all h = record {
  before = λ later low less. none-among (is_late later) s channels (h.before later low less);
  first = λ short later low is. some-among (is_late later) s channels (late-waits later) all (h.first short later low is);
}

-- all that is late has just been marked
due-marked : (tick : Tick) (ps : List Sent) → All (λ (p : Sent). p.transmission.due ≡ true) ps → All (λ (p : Sent). p.transmission.due ≡ true) (map (marked tick) ps)
due-marked tick [] h = All-nil (λ (p : Sent). p.transmission.due ≡ true)
due-marked tick (p ∷ ps) h =
    let due : p.transmission.due ≡ true = All-head (λ (p : Sent). p.transmission.due ≡ true) p ps h in
    let same : Some (marked tick p) ≡ Some p = unmarked tick (Some p) (λ q is. due-not_late tick.now q (let one : p ≡ q = cc in ap (λ (z : Sent). z.transmission.due) (sym one) ∙ due)) in
    let is : marked tick p ≡ p = cc in
    All-cons (λ (p : Sent). p.transmission.due ≡ true) (marked tick p) (map (marked tick) ps) (ap (λ (z : Sent). z.transmission.due) is ∙ due)
    (due-marked tick ps (All-tail (λ (p : Sent). p.transmission.due ≡ true) p ps h))

commands-marked : (tick : Tick) (ps : List Sent) → map command_of (map (marked tick) ps) ≡ map command_of ps
commands-marked tick [] = refl
commands-marked tick (p ∷ ps) = ap (λ (cs : List DataCommand). p.command ∷ cs) (commands-marked tick ps)

named-marked : (tick : Tick) (at after : ℕ → Option Sent) (keys : List ℕ) → ((key : ℕ) → after key ≡ option_map (marked tick) (at key)) → named after keys ≡ map (marked tick) (named at keys)
named-marked tick at after keys changed = named-map (marked tick) at after keys vacant (λ i inside. changed (get_or keys i vacant))

commands-same : (tick : Tick) (at after : ℕ → Option Sent) (keys : List ℕ) → ((key : ℕ) → after key ≡ option_map (marked tick) (at key)) → commands_at after keys ≡ commands_at at keys
commands-same tick at after keys changed = ap (map command_of) (named-marked tick at after keys changed) ∙ commands-marked tick (named at keys)

held-same : (tick : Tick) (at after : ℕ → Option Sent) → ((key : ℕ) → after key ≡ option_map (marked tick) (at key)) → (key : ℕ) → held after key ≡ held at key
held-same tick at after changed key = ap (λ (o : Option Sent). held (λ (k : ℕ). o) key) (changed key) ∙ marked-held tick 1 (at key)

had : (tick : Tick) (at after : ℕ → Option Sent) → ((key : ℕ) → after key ≡ option_map (marked tick) (at key)) → (key : ℕ) (q : Sent) → after key ≡ Some q → (p : Sent) × (at key ≡ Some p) × (q.command ≡ p.command)
had tick at after changed key q e = marked-had tick 1 (at key) q (sym (changed key) ∙ e)

keeps-marked : (tick : Tick) (at after : ℕ → Option Sent) (r : Rings) → ((key : ℕ) → after key ≡ option_map (marked tick) (at key)) → Keeps at r → Keeps after (with_due r 0)
keeps-marked tick at after r changed keeps =
    let same = commands-same tick at after r.queued changed in record {
      nothing = changed vacant ∙ ap (option_map (marked tick)) keeps.nothing;
      short = λ key q e. let p = had tick at after changed key q e in subst (λ (c : DataCommand). length c.body ≤ 4068) (sym p.2) (keeps.short key p.0 p.1);
      names = λ key low. let one = held-same tick at after changed key in let most = keeps.names key low in omega arith;
      keys = keeps.keys;
      sent = record {
        few = keeps.sent.few;
        numbered = λ i q e. let p = had tick at after changed (get_or r.sent i vacant) q e in ap (λ (c : DataCommand). c.number) p.2 ∙ keeps.sent.numbered i p.0 p.1;
        not_due = λ i from low. absurd (omega arith);
        fits = keeps.sent.fits;
      };
      first = keeps.first;
      passed = keeps.passed;
      goes_on = subst (λ (cs : List DataCommand). GoesOn r.passed cs r.number) (sym same) keeps.goes_on;
      counted = keeps.counted ∙ ap reliable_in (sym same);
      waits = subst (All (λ (p : Sent). p.transmission.due ≡ true)) (sym (named-marked tick at after r.queued changed)) (due-marked tick (named at r.queued) keeps.waits);
    }

times-seeking : (key : ℕ) (channels : List Outgoing) → sum_by (times_in key) (map seeking channels) ≡ sum_by (times_in key) channels
times-seeking key [] = refl
times-seeking key (o ∷ os) =
    sum_by-cons (times_in key) (seeking o) (map seeking os) ∙ ap (λ n. times_in key o + n) (times-seeking key os) ∙ sym (sum_by-cons (times_in key) o os)

pub all-marked : (tick : Tick) (s t : Slab Sent) (channels : List Outgoing) → ((key : ℕ) → get t key ≡ option_map (marked tick) (get s key)) → KeepsAll (get s) channels → KeepsAll (get t) (map seeking channels)
all-marked tick s t channels changed all = record {
  each = All-map (λ (o : Outgoing). Keeps (get t) (rings_of o)) seeking channels (λ j d inside. keeps-marked tick (get s) (get t) (rings_of (get_or channels j d)) changed (all.each j d inside));
  nothing = changed vacant ∙ ap (option_map (marked tick)) all.nothing;
  short = λ key q e. let p = had tick (get s) (get t) changed key q e in subst (λ (c : DataCommand). length c.body ≤ 4068) (sym p.2) (all.short key p.0 p.1);
  names = λ key low. times-seeking key channels ∙ all.names key low ∙ sym (held-same tick (get s) (get t) changed key);
  room = All-map HasRoom seeking channels all.room;
}

pub ends-marked : (tick : Tick) (s t : Slab Sent) (channels : List Outgoing) → ((key : ℕ) → get t key ≡ option_map (marked tick) (get s key)) → ends_of t (map seeking channels) ≡ map (marked_end tick) (ends_of s channels)
ends-marked tick s t [] changed = refl
ends-marked tick s t (o ∷ os) changed =
    let queued = commands-same tick (get s) (get t) o.queued.items changed in
    let sent = named-marked tick (get s) (get t) o.sent.items changed in
    let one : end_of t (seeking o) ≡ marked_end tick (end_of s o) =
    λ i. record { channel = o.channel; sender = record { number = o.number; unreliable = o.unreliable; queued = queued i; sent = sent i } } in
    ap (λ (e : SendingEnd). e ∷ ends_of t (map seeking os)) one ∙ ap (λ (es : List SendingEnd). marked_end tick (end_of s o) ∷ es) (ends-marked tick s t os changed)
