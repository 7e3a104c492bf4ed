-- What a ring names changes, one command after another.
use Rattle.std.proofs.Common.{inl, inr, ◌≡◌, ◌≢◌, ℕ, zero, suc, ◌+◌, ◌%◌, ◌<◌, ◌≤◌, Bool, true, false, cond, not, ◌&&◌, ◌||◌, ltb, List, [], ◌∷◌, ◌++◌, length, map, get_or, take, Option, Some, None, is_some, refl, sym, ap, ap₂, subst, ◌∙◌, arith, All}
use Rattle.std.specs.List.{cons_option, list_any, position, position_or_len}
use Rattle.std.specs.Option.{option_map}
use Rattle.std.proofs.lemmas.Bool.{cases_eq, lt-ltb}
use Rattle.std.proofs.lemmas.Bool.Decides.{nat_tests}
use Rattle.std.proofs.lemmas.List.{take_more}
use Rattle.std.proofs.lemmas.List.Elements.{All-nil}
use Rattle.enet_rtt.specs.Transmission as transmission
use Rattle.enet_rtt.specs.declared.transmission.Tick.{Tick}
use Rattle.enet_rtt.specs.declared.transmission.Transmission.{Transmission}
use Rattle.enet_fragment.specs.declared.data.DataCommand.{DataCommand}
use Rattle.enet_sender.specs.declared.sent.Sent.{Sent}
use Rattle.enet_rtt.specs.Expiry.{gives_up}
use Rattle.enet_rtt.specs.declared.expiry.Patience.{Patience}
use Rattle.enet_rtt.specs.declared.expiry.Expiry.{Expiry}
use Rattle.enet_rtt.specs.declared.expiry.Expiry.TheVariants.{No, Resend, End}
use Rattle.enet_sender.specs.Sender.{Sender, marked, is_late, ends, lateness}
use Rattle.enet_sender.specs.Invariant.{reliable_in}
use Rattle.enet_sender.specs.Pending.{vacant, named, times, held, Passes}
use Rattle.enet_sender.specs.Private.Rounds.{changed_at, marked_at, taken_at, test_at, without_keys}
use Rattle.enet_sender.specs.Rings.{Rings, Keeps, GoesOn, is_due, keys_of, commands_at, command_of}
use Rattle.enet_sender.specs.Private.Rings.{with_due}
use Rattle.enet_sender.proofs.Counting.{is_some-cond}
use Rattle.enet_sender.proofs.Named.{times-append, times-here, times-other, times-some, named-same}

abbrev one_if : Bool → ℕ
one_if b = cond b 1 0

changed-some : (f : Option Sent → Option Sent) (n : ℕ) (o : Option Sent) → 1 ≤ n → changed_at f n o ≡ f o
changed-some f zero o some = absurd (omega arith)
changed-some f (suc n) o some = refl

changed-none : (f : Option Sent → Option Sent) (n : ℕ) (o : Option Sent) → n ≡ 0 → changed_at f n o ≡ o
changed-none f zero o none = refl
changed-none f (suc n) o none = absurd (omega arith)

changed-again : (f : Option Sent → Option Sent) (n : ℕ) (o : Option Sent) → f (f o) ≡ f o → f (changed_at f n o) ≡ f o
changed-again f zero o twice = refl
changed-again f (suc n) o twice = twice

-- the command of the next place changes
pub changed-more : (f : Option Sent → Option Sent) → ((o : Option Sent) → f (f o) ≡ f o) → (at mid after : ℕ → Option Sent) (keys : List ℕ) (i k : ℕ) → i < length keys → get_or keys i vacant ≡ k
    → ((key : ℕ) → mid key ≡ changed_at f (times key (take i keys)) (at key)) → after k ≡ f (mid k) → ((key : ℕ) → key ≢ k → after key ≡ mid key)
    → (key : ℕ) → after key ≡ changed_at f (times key (take (i + 1) keys)) (at key)
changed-more f twice at mid after keys i k inside is so_far now others key =
    let n : times key (take (i + 1) keys) ≡ times key (take i keys) + times key (k ∷ []) =
    ap (times key) (take_more keys i vacant inside ∙ ap (λ j. take i keys ++ j ∷ []) is) ∙ times-append key (take i keys) (k ∷ []) in
    elim (cases_eq key k) [
      | inl same ↦
          let one = ap (λ j. times key (j ∷ [])) (sym same) ∙ times-here key [] in
          ap after same ∙ now ∙ ap (λ j. f (mid j)) (sym same) ∙ ap f (so_far key) ∙ changed-again f (times key (take i keys)) (at key) (twice (at key))
          ∙ sym (changed-some f (times key (take (i + 1) keys)) (at key) (omega arith))
      | inr other ↦
          let none = times-other key k [] (λ e. other (sym e)) in
          let same : times key (take (i + 1) keys) ≡ times key (take i keys) = omega arith in
          others key other ∙ so_far key ∙ ap (λ m. changed_at f m (at key)) (sym same)
    ]

-- a command is marked twice as it is once
transmission-twice : (tick : Tick) (t : Transmission) → transmission.marked tick (transmission.marked tick t) ≡ transmission.marked tick t
transmission-twice tick t = by (transmission.is_late tick.now t) refl
  where
    late : Transmission
    late = record t { timeout = transmission.next_time tick t; due = true }

    by : (b : Bool) → transmission.is_late tick.now t ≡ b → transmission.marked tick (transmission.marked tick t) ≡ transmission.marked tick t
    by true e = let is : transmission.marked tick t ≡ late = ap (λ b. cond b late t) e in ap (transmission.marked tick) is ∙ sym is
    by false e = let is : transmission.marked tick t ≡ t = ap (λ b. cond b late t) e in ap (transmission.marked tick) is

pub marked-twice : (tick : Tick) (o : Option Sent) → option_map (marked tick) (option_map (marked tick) o) ≡ option_map (marked tick) o
marked-twice tick None = refl
marked-twice tick (Some p) = ap (λ t. Some (record p { transmission = t })) (transmission-twice tick p.transmission)

-- what stands under each key has the command that stood there
pub marked-had : (tick : Tick) (n : ℕ) (o : Option Sent) (q : Sent) → marked_at tick n o ≡ Some q → (p : Sent) × (o ≡ Some p) × (q.command ≡ p.command)
marked-had tick zero o q e = (q, e, refl)
marked-had tick (suc n) None q e = cc
marked-had tick (suc n) (Some p) q e = let is : marked tick p ≡ q = cc in (p, refl, ap (λ (z : Sent). z.command) (sym is))

pub marked-held : (tick : Tick) (n : ℕ) (o : Option Sent) → one_if (is_some (marked_at tick n o)) ≡ one_if (is_some o)
marked-held tick zero o = refl
marked-held tick (suc n) None = refl
marked-held tick (suc n) (Some p) = refl

marked-none : (tick : Tick) (n : ℕ) → marked_at tick n None ≡ None
marked-none tick zero = refl
marked-none tick (suc n) = refl

cons-map : (f : Sent → Sent) (o : Option Sent) (xs : List Sent) → cons_option (option_map f o) (map f xs) ≡ map f (cons_option o xs)
cons-map f None xs = refl
cons-map f (Some p) xs = refl

pub named-map : (f : Sent → Sent) (at after : ℕ → Option Sent) (keys : List ℕ) (d : ℕ) → ((i : ℕ) → i < length keys → after (get_or keys i d) ≡ option_map f (at (get_or keys i d))) → named after keys ≡ map f (named at keys)
named-map f at after [] d same = refl
named-map f at after (k ∷ keys) d same =
    let here : after k ≡ option_map f (at k) = same 0 (omega arith) in
    let rest : named after keys ≡ map f (named at keys) = named-map f at after keys d (λ i inside. same (suc i) (omega arith)) in
    ap (λ o. cons_option o (named after keys)) here ∙ ap (λ xs. cons_option (option_map f (at k)) xs) rest ∙ cons-map f (at k) (named at keys)

-- what is known where all that is sent on a channel has just been marked
pub record Marks (tick : Tick) (at after : ℕ → Option Sent) (r : Rings) : Type 0 where
  pub keeps : Keeps at r
  pub changed : (key : ℕ) → after key ≡ marked_at tick (times key r.sent) (at key)

pub marks-sent : {tick : Tick} {at after : ℕ → Option Sent} {r : Rings} → Marks tick at after r → named after r.sent ≡ map (marked tick) (named at r.sent)
marks-sent {tick} {at} {after} {r} h =
    named-map (marked tick) at after r.sent vacant (λ i inside.
    let key = get_or r.sent i vacant in
    h.changed key ∙ changed-some (option_map (marked tick)) (times key r.sent) (at key) (times-some r.sent i vacant inside))

at-most-one : (b : Bool) → one_if b ≤ 1
at-most-one true = omega arith
at-most-one false = omega arith

pub marks-queued : {tick : Tick} {at after : ℕ → Option Sent} {r : Rings} → Marks tick at after r → named after r.queued ≡ named at r.queued
marks-queued {tick} {at} {after} {r} h =
    named-same at after r.queued vacant (λ i inside.
    let key = get_or r.queued i vacant in
    let low : key < vacant = h.keeps.keys i vacant inside in
    let some = times-some r.queued i vacant inside in
    let most = h.keeps.names key low in
    let one = at-most-one (is_some (at key)) in
    let all = times-append key r.queued r.sent in
    h.changed key ∙ changed-none (option_map (marked tick)) (times key r.sent) (at key) (omega arith))

marks-had : {tick : Tick} {at after : ℕ → Option Sent} {r : Rings} → Marks tick at after r → (key : ℕ) (q : Sent) → after key ≡ Some q → (p : Sent) × (at key ≡ Some p) × (q.command ≡ p.command)
marks-had {tick} {at} {after} {r} h key q e = marked-had tick (times key r.sent) (at key) q (sym (h.changed key) ∙ e)

marks-held : {tick : Tick} {at after : ℕ → Option Sent} {r : Rings} → Marks tick at after r → (key : ℕ) → held after key ≡ held at key
marks-held {tick} {at} {after} {r} h key = ap (λ (o : Option Sent). one_if (is_some o)) (h.changed key) ∙ marked-held tick (times key r.sent) (at key)

marks-nothing : {tick : Tick} {at after : ℕ → Option Sent} {r : Rings} → Marks tick at after r → after vacant ≡ None
marks-nothing {tick} {at} {after} {r} h = h.changed vacant ∙ ap (λ o. marked_at tick (times vacant r.sent) o) h.keeps.nothing ∙ marked-none tick (times vacant r.sent)

pub marks-passes : {tick : Tick} {at after : ℕ → Option Sent} {r : Rings} → Marks tick at after r → Passes at after (keys_of r) (keys_of (with_due r 0))
marks-passes {tick} {at} {after} {r} h = record {
  others = λ key p low none e.
      let all = times-append key r.queued r.sent in
      h.changed key ∙ changed-none (option_map (marked tick)) (times key r.sent) (at key) (omega arith) ∙ e;
  balanced = λ key low. let same = marks-held h key in omega arith;
  nothing = marks-nothing h;
}

pub marks-keeps : {tick : Tick} {at after : ℕ → Option Sent} {r : Rings} → Marks tick at after r → Keeps after (with_due r 0)
marks-keeps {tick} {at} {after} {r} h =
    let same : commands_at after r.queued ≡ commands_at at r.queued = ap (map command_of) (marks-queued h) in record {
      nothing = marks-nothing h;
      short = λ key q e. let had = marks-had h key q e in subst (λ (c : DataCommand). length c.body ≤ 4068) (sym had.2) (h.keeps.short key had.0 had.1);
      names = λ key low. let held = marks-held h key in let most = h.keeps.names key low in omega arith;
      keys = h.keeps.keys;
      sent = record {
        few = h.keeps.sent.few;
        numbered = λ i q e. let had = marks-had h (get_or r.sent i vacant) q e in ap (λ (c : DataCommand). c.number) had.2 ∙ h.keeps.sent.numbered i had.0 had.1;
        not_due = λ i from low. absurd (omega arith);
        fits = h.keeps.sent.fits;
      };
      first = h.keeps.first;
      passed = h.keeps.passed;
      goes_on = subst (λ (cs : List DataCommand). GoesOn r.passed cs r.number) (sym same) h.keeps.goes_on;
      counted = h.keeps.counted ∙ ap reliable_in (sym same);
      waits = subst (All (λ (q : Sent). q.transmission.due ≡ true)) (sym (marks-queued h)) h.keeps.waits;
    }

-- what is taken out twice
pub taken-both : (m n : ℕ) (o : Option Sent) → taken_at m (taken_at n o) ≡ taken_at (n + m) o
taken-both zero n o = ap (λ k. taken_at k o) (let e : n ≡ n + 0 = omega arith in e)
taken-both (suc m) n o = sym (changed-some (λ p. None) (n + suc m) o (omega arith))

taken-had : (n : ℕ) (o : Option Sent) (q : Sent) → taken_at n o ≡ Some q → o ≡ Some q
taken-had zero o q e = e
taken-had (suc n) o q e = cc

-- the last number given is a wire number
goes_on-low : (passed : ℕ) (cs : List DataCommand) (number : ℕ) → passed < 65536 → GoesOn passed cs number → number < 65536
goes_on-low passed [] number low e = subst (λ n. n < 65536) e low
goes_on-low passed (c ∷ cs) number low e = goes_on-low (cond c.reliable c.number passed) cs number (by c.reliable refl) e.1
  where
    by : (b : Bool) → c.reliable ≡ b → cond b c.number passed < 65536
    by true r = let f : c.number ≡ (passed + 1) % 65536 = e.0 r in omega arith
    by false r = low

-- what is known where all commands of a channel have just been taken out
pub record Leaves (at after : ℕ → Option Sent) (r : Rings) : Type 0 where
  pub keeps : Keeps at r
  pub changed : (key : ℕ) → after key ≡ taken_at (times key (keys_of r)) (at key)

leaves-nothing : {at after : ℕ → Option Sent} {r : Rings} → Leaves at after r → after vacant ≡ None
leaves-nothing {at} {after} {r} h = h.changed vacant ∙ ap (λ o. taken_at (times vacant (keys_of r)) o) h.keeps.nothing ∙ none (times vacant (keys_of r))
  where
    none : (n : ℕ) → taken_at n None ≡ None
    none zero = refl
    none (suc n) = refl

pub leaves-passes : {at after : ℕ → Option Sent} {r : Rings} → Leaves at after r → Passes at after (keys_of r) []
leaves-passes {at} {after} {r} h = record {
  others = λ key p low none e. h.changed key ∙ changed-none (λ o. None) (times key (keys_of r)) (at key) none ∙ e;
  balanced = λ key low.
      let most = h.keeps.names key low in
      let same = ap (λ (o : Option Sent). one_if (is_some o)) (h.changed key) in
      let now = left (times key (keys_of r)) (at key) most in
      omega arith;
  nothing = leaves-nothing h;
}
  where
    left : (n : ℕ) (o : Option Sent) → n ≤ one_if (is_some o) → one_if (is_some o) ≡ n + one_if (is_some (taken_at n o))
    left zero o most = omega arith
    left (suc n) None most = absurd (omega arith)
    left (suc n) (Some p) most = omega arith

pub leaves-keeps : {at after : ℕ → Option Sent} {r : Rings} → Leaves at after r → Keeps after (without_keys r)
leaves-keeps {at} {after} {r} h = record {
  nothing = leaves-nothing h;
  short = λ key q e. h.keeps.short key q (taken-had (times key (keys_of r)) (at key) q (sym (h.changed key) ∙ e));
  names = λ key low. omega arith;
  keys = All-nil (λ (key : ℕ). key < vacant);
  sent = record {
    few = omega arith;
    numbered = λ place p e. absurd (let f = leaves-nothing h in cc);
    not_due = λ place from low. ap is_due (leaves-nothing h);
    fits = All-nil (λ (key : ℕ). key ≤ vacant);
  };
  first = λ key e. absurd (cc);
  passed = goes_on-low r.passed (commands_at at r.queued) r.number h.keeps.passed h.keeps.goes_on;
  goes_on = refl;
  counted = refl;
  waits = All-nil (λ (q : Sent). q.transmission.due ≡ true);
}

-- a test of each command of a ring
pub any-named : (f : Sent → Bool) (at : ℕ → Option Sent) (keys : List ℕ) → list_any (λ key. test_at f (at key)) keys ≡ list_any f (named at keys)
any-named f at [] = refl
any-named f at (k ∷ keys) = ap (λ b. test_at f (at k) || b) (any-named f at keys) ∙ by (at k)
  where
    by : (o : Option Sent) → (test_at f o || list_any f (named at keys)) ≡ list_any f (cons_option o (named at keys))
    by None = refl
    by (Some p) = refl

found-step : (b : Bool) (n len : ℕ) (some : Bool) → some ≡ ltb n len → (b || some) ≡ ltb (cond (not b) (1 + n) 0) (suc len)
found-step true n len some e = sym (lt-ltb 0 (suc len) (omega arith))
found-step false n len some e = e ∙ grind (arith, nat_tests)

any-found : (f : Sent → Bool) (xs : List Sent) → list_any f xs ≡ ltb (position_or_len f xs) (length xs)
any-found f [] = refl
any-found f (x ∷ xs) = found-step (f x) (position_or_len f xs) (length xs) (list_any f xs) (any-found f xs)

-- one passes where one is found
pub any-position : (f : Sent → Bool) (xs : List Sent) → list_any f xs ≡ is_some (position f xs)
any-position f xs = any-found f xs ∙ sym (is_some-cond (ltb (position_or_len f xs) (length xs)) (position_or_len f xs))

-- what fails a weaker test fails
pub any-weaker : {X : Type 0} (f g : X → Bool) → ((x : X) → g x ≡ false → f x ≡ false) → (xs : List X) → list_any g xs ≡ false → list_any f xs ≡ false
any-weaker f g weaker [] none = refl
any-weaker f g weaker (x ∷ xs) none = by (g x) refl (any-weaker f g weaker xs) none
  where
    by : (b : Bool) → g x ≡ b → (list_any g xs ≡ false → list_any f xs ≡ false) → (b || list_any g xs) ≡ false → (f x || list_any f xs) ≡ false
    by true e rest none = cc
    by false e rest none = ap (λ b. b || list_any f xs) (weaker x e) ∙ rest none

ends-weaker : (now : ℕ) (patience : Patience) (heard : ℕ) (p : Sent) → is_late now p ≡ false → ends now patience heard p ≡ false
ends-weaker now patience heard p e = ap (λ b. b && gives_up patience now heard p.transmission) e

-- where nothing is late, the peer has not timed out
pub no-end : (now : ℕ) (patience : Patience) (heard : ℕ) (sent : List Sent) → list_any (is_late now) sent ≡ false → list_any (ends now patience heard) sent ≡ false
no-end now patience heard sent none = any-weaker (ends now patience heard) (is_late now) (λ p e. ends-weaker now patience heard p e) sent none

abbrev pub expiry_by : Bool → Bool → Expiry
expiry_by ends late = cond ends End (cond late Resend No)

pub lateness-by : (now : ℕ) (patience : Patience) (heard : ℕ) (s : Sender) (ending late : Bool) → list_any (ends now patience heard) s.sent ≡ ending → list_any (is_late now) s.sent ≡ late → expiry_by ending late ≡ lateness now patience heard s
lateness-by now patience heard s ending late e l = ap₂ expiry_by (sym e ∙ any-position (ends now patience heard) s.sent) (sym l ∙ any-position (is_late now) s.sent)
