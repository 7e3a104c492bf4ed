-- Moments at which commands are late, as commands and moments change.
use Rattle.std.proofs.Common.{inl, inr, zero, suc, [], ◌∷◌, ◌≡◌, ◌≢◌, ℕ, ◌+◌, ◌-◌, ◌%◌, ◌^◌, ◌<◌, ◌≤◌, ◌&&◌, not, leb, Bool, true, false, cond, List, ◌++◌, length, replicate, get_or, set, Option, None, Some, refl, sym, ap, subst, ◌∙◌, arith}
use Rattle.std.proofs.lemmas.Bool.{cases_eq, cases_lt, lt-leb, le-leb}
use Rattle.std.proofs.lemmas.List.{length-set, length-append, get_or-set_same, get_or-set_other, get_or_append_left, get_or_past}
use Rattle.std.proofs.lemmas.Option.{same_Some}
use Rattle.std.specs.Option.{option_map}
use Rattle.slab.specs.Slab.{Slab, get, with_value}
use Rattle.enet_rtt.specs.Clock.{elapsed_time}
use Rattle.enet_rtt.specs.Expiry.{gives_up}
use Rattle.enet_rtt.specs.Transmission as transmission
use Rattle.enet_rtt.specs.declared.transmission.Tick.{Tick}
use Rattle.enet_rtt.specs.declared.transmission.Transmission.{Transmission}
use Rattle.enet_rtt.specs.declared.expiry.Patience.{Patience}
use Rattle.enet_deadlines.specs.Moments.{IsAt, IsNotDue}
use Rattle.enet_sender.specs.declared.sent.Sent.{Sent}
use Rattle.enet_sender.specs.Sender.{is_late, ends, marked}
use Rattle.enet_sender.specs.Foretold.{IsForetold, AreForetold, IsLateIn, KeepsTime}
use Rattle.enet_sender.specs.Pending.{vacant}
use Rattle.enet_sender.specs.Private.Foretold.{IsLateAt, IsOvertaken}
use Rattle.enet_sender.specs.Private.Rounds.{test_at}

-- the clock that wraps shows no more than has passed
elapsed-le : (clock went : ℕ) → went ≤ clock → elapsed_time (clock % 2 ^ 32) (went % 2 ^ 32) ≤ clock - went
elapsed-le clock went begun = omega arith

-- a command that is due to go again isn't late
pub due-not_late : (now : ℕ) (p : Sent) → p.transmission.due ≡ true → is_late now p ≡ false
due-not_late now p e = ap (λ b. not b && leb p.transmission.timeout (elapsed_time now p.transmission.last)) e

-- nor is one that waits yet
waits-not_late : (now : ℕ) (p : Sent) → p.transmission.due ≡ false → elapsed_time now p.transmission.last < p.transmission.timeout → is_late now p ≡ false
waits-not_late now p e less =
    ap (λ b. not b && leb p.transmission.timeout (elapsed_time now p.transmission.last)) e ∙ lt-leb p.transmission.timeout (elapsed_time now p.transmission.last) less

-- what isn't due by its moment is not late
pub quiet : (clock now key : ℕ) (at : ℕ → Option Sent) (moments : List (Option ℕ)) → clock % 2 ^ 32 ≡ now → AreForetold clock at moments → IsNotDue clock moments key
    → (p : Sent) → at key ≡ Some p → is_late now p ≡ false
quiet clock now key at moments shown foretold ahead p there = by p.transmission.due refl
  where
    by : (b : Bool) → p.transmission.due ≡ b → is_late now p ≡ false
    by true e = due-not_late now p e
    by false e =
        let f = foretold.each key p there e in
        let more : clock < f.went + p.transmission.timeout = ahead (f.went + p.transmission.timeout) f.noted in
        let most = elapsed-le clock f.went f.begun in
        let same : elapsed_time (clock % 2 ^ 32) (f.went % 2 ^ 32) ≡ elapsed_time now p.transmission.last =
        ap (λ n. elapsed_time n (f.went % 2 ^ 32)) shown ∙ ap (λ n. elapsed_time now n) f.shown in
        let begun = f.begun in
        waits-not_late now p e (omega arith)

-- the clock goes on
pub foretold-later : (clock next : ℕ) (at : ℕ → Option Sent) (moments : List (Option ℕ)) → clock ≤ next → AreForetold clock at moments → AreForetold next at moments
foretold-later clock next at moments le h = record {
  each = λ key p there waits.
      let f = h.each key p there waits in
      let begun = f.begun in
      record { went = f.went; begun = omega arith; shown = f.shown; fits = f.fits; noted = f.noted };
  only = h.only;
}

-- a command under a key waits from now on
pub foretold-set : (clock key went moment : ℕ) (at after : ℕ → Option Sent) (moments : List (Option ℕ)) (p : Sent) → AreForetold clock at moments → key < length moments → ((k : ℕ) → k ≢ key → after k ≡ at k)
    → after key ≡ Some p → p.transmission.due ≡ false → went ≤ clock → went % 2 ^ 32 ≡ p.transmission.last → p.transmission.timeout < 2 ^ 32 → moment ≡ went + p.transmission.timeout
    → AreForetold clock after (set moments key (Some moment))
foretold-set clock key went moment at after moments p h inside others there waits begun shown fits is = record {
  each = λ k q stands still. elim (cases_eq k key) [
    | inl same ↦
        let one : p ≡ q = let f = ap after same in cc in
        subst (λ (q : Sent). IsForetold clock (set moments key (Some moment)) k q) one (record {
          went = went;
          begun = begun;
          shown = shown;
          fits = fits;
          noted = ap (λ (i : ℕ). get_or (set moments key (Some moment)) i None) same ∙ get_or-set_same moments key (Some moment) None inside ∙ ap (λ (m : ℕ). Some m) is;
        })
    | inr other ↦
        let f = h.each k q (sym (others k other) ∙ stands) still in
        record { went = f.went; begun = f.begun; shown = f.shown; fits = f.fits; noted = get_or-set_other moments key k (Some moment) None other ∙ f.noted }
  ];
  only = λ k m noted. elim (cases_eq k key) [
    | inl same ↦ (p, (ap after same ∙ there, waits))
    | inr other ↦
        let f = h.only k m (sym (get_or-set_other moments key k (Some moment) None other) ∙ noted) in
        (f.0, (others k other ∙ f.1.0, f.1.1))
  ];
}

-- nothing under a key waits any more
pub foretold-clear : (clock key : ℕ) (at after : ℕ → Option Sent) (moments : List (Option ℕ)) → AreForetold clock at moments → key < length moments → ((k : ℕ) → k ≢ key → after k ≡ at k)
    → ((p : Sent) → after key ≡ Some p → p.transmission.due ≡ true) → AreForetold clock after (set moments key None)
foretold-clear clock key at after moments h inside others none = record {
  each = λ k q stands still. elim (cases_eq k key) [
    | inl same ↦ absurd (let f = none q (ap after (sym same) ∙ stands) in cc)
    | inr other ↦
        let f = h.each k q (sym (others k other) ∙ stands) still in
        record { went = f.went; begun = f.begun; shown = f.shown; fits = f.fits; noted = get_or-set_other moments key k None None other ∙ f.noted }
  ];
  only = λ k m noted. elim (cases_eq k key) [
    | inl same ↦ absurd (let f = ap (λ (i : ℕ). get_or (set moments key None) i None) (sym same) ∙ noted in let g = get_or-set_same moments key None None inside in cc)
    | inr other ↦
        let f = h.only k m (sym (get_or-set_other moments key k None None other) ∙ noted) in
        (f.0, (others k other ∙ f.1.0, f.1.1))
  ];
}

-- nothing that waits changes
pub foretold-still : (clock key : ℕ) (at after : ℕ → Option Sent) (moments : List (Option ℕ)) → AreForetold clock at moments → ((k : ℕ) → k ≢ key → after k ≡ at k)
    → ((p : Sent) → at key ≡ Some p → p.transmission.due ≡ true) → ((p : Sent) → after key ≡ Some p → p.transmission.due ≡ true) → AreForetold clock after moments
foretold-still clock key at after moments h others was none = record {
  each = λ k q stands still. elim (cases_eq k key) [
    | inl same ↦ absurd (let f = none q (ap after (sym same) ∙ stands) in cc)
    | inr other ↦ h.each k q (sym (others k other) ∙ stands) still
  ];
  only = λ k m noted.
      let f = h.only k m noted in
      elim (cases_eq k key) [
        | inl same ↦ absurd (let g = was f.0 (ap at (sym same) ∙ f.1.0) in let waits = f.1.1 in cc)
        | inr other ↦ (f.0, (others k other ∙ f.1.0, f.1.1))
      ];
}

-- there are more places
grown-same : (moments : List (Option ℕ)) (n k : ℕ) → get_or (moments ++ replicate {A = Option ℕ} n None) k None ≡ get_or moments k None
grown-same moments n k =
    elim (cases_lt k (length moments)) [
      | inl inside ↦ get_or_append_left moments (replicate {A = Option ℕ} n None) None k inside
      | inr past ↦ past-none moments k past ∙ sym (get_or_past moments k None past)
    ]
  where
    none-in : (n k : ℕ) → get_or (replicate {A = Option ℕ} n None) k None ≡ None
    none-in zero k = refl
    none-in (suc n) zero = refl
    none-in (suc n) (suc k) = none-in n k

    past-none : (ms : List (Option ℕ)) (k : ℕ) → length ms ≤ k → get_or (ms ++ replicate {A = Option ℕ} n None) k None ≡ None
    past-none [] k past = none-in n k
    past-none (m ∷ ms) zero past = absurd (omega arith)
    past-none (m ∷ ms) (suc k) past = past-none ms k (omega arith)

pub foretold-grown : (clock n : ℕ) (at : ℕ → Option Sent) (moments : List (Option ℕ)) → AreForetold clock at moments → AreForetold clock at (moments ++ replicate {A = Option ℕ} n None)
foretold-grown clock n at moments h = record {
  each = λ key p there waits.
      let f = h.each key p there waits in
      record { went = f.went; begun = f.begun; shown = f.shown; fits = f.fits; noted = grown-same moments n key ∙ f.noted };
  only = λ key m noted. h.only key m (sym (grown-same moments n key) ∙ noted);
}

-- as the moment under a key is reckoned
pub foretold-noted : (clock now key moment : ℕ) (at : ℕ → Option Sent) (moments : List (Option ℕ)) → clock % 2 ^ 32 ≡ now → 2 ^ 32 ≤ clock → key < length moments → AreForetold clock at moments → IsLateAt at key clock now moment
    → AreForetold clock at (set moments key (Some moment))
foretold-noted clock now key moment at moments shown begun inside h l =
    let last = l.command.transmission.last in
    let timeout = l.command.transmission.timeout in
    let low = l.low in
    let is = l.is in
    foretold-set clock key (clock - elapsed_time now last) moment at at moments l.command h inside (λ k other. refl) l.there l.waits (omega arith) (omega arith) l.fits (omega arith)

-- one key after another is not late
pub before-more : (clock now from key : ℕ) (at : ℕ → Option Sent) (moments : List (Option ℕ)) → clock % 2 ^ 32 ≡ now → AreForetold clock at moments
    → ((k : ℕ) (p : Sent) → k < from → at k ≡ Some p → is_late now p ≡ false) → ((k : ℕ) → from ≤ k → k < key → IsNotDue clock moments k)
    → test_at (is_late now) (at key) ≡ false → (k : ℕ) (p : Sent) → k < key + 1 → at k ≡ Some p → is_late now p ≡ false
before-more clock now from key at moments shown h before ahead here k p low there =
    elim (cases_lt k from) [
      | inl less ↦ before k p less there
      | inr more ↦ elim (cases_eq k key) [
        | inl same ↦ sym (ap (test_at (is_late now)) (ap at (sym same) ∙ there)) ∙ here
        | inr other ↦ quiet clock now k at moments shown h (ahead k more (omega (arith, other))) p there
      ]
    ]

-- where a command isn't late its peer has not timed out over it
pub ends-late : (now : ℕ) (patience : Patience) (heard : ℕ) (p : Sent) → is_late now p ≡ false → ends now patience heard p ≡ false
ends-late now patience heard p e = ap (λ b. b && gives_up patience now heard p.transmission) e

pub ending-more : (clock now from key : ℕ) (patience : Patience) (heard : ℕ) (at : ℕ → Option Sent) (moments : List (Option ℕ)) → clock % 2 ^ 32 ≡ now → AreForetold clock at moments
    → ((k : ℕ) (p : Sent) → k < from → at k ≡ Some p → ends now patience heard p ≡ false) → ((k : ℕ) → from ≤ k → k < key → IsNotDue clock moments k)
    → test_at (ends now patience heard) (at key) ≡ false → (k : ℕ) (p : Sent) → k < key + 1 → at k ≡ Some p → ends now patience heard p ≡ false
ending-more clock now from key patience heard at moments shown h before ahead here k p low there =
    elim (cases_lt k from) [
      | inl less ↦ before k p less there
      | inr more ↦ elim (cases_eq k key) [
        | inl same ↦ sym (ap (test_at (ends now patience heard)) (ap at (sym same) ∙ there)) ∙ here
        | inr other ↦ ends-late now patience heard p (quiet clock now k at moments shown h (ahead k more (omega (arith, other))) p there)
      ]
    ]

-- what isn't late stays as it is where it is marked
pub marked-by : (tick : Tick) (p : Sent) → is_late tick.now p ≡ false → marked tick p ≡ p
marked-by tick p e =
    let late : Transmission = record p.transmission { timeout = transmission.next_time tick p.transmission; due = true } in
    ap (λ b. record p { transmission = cond b late p.transmission }) e

pub unmarked : (tick : Tick) (o : Option Sent) → ((p : Sent) → o ≡ Some p → is_late tick.now p ≡ false) → option_map (marked tick) o ≡ o
unmarked tick None none = refl
unmarked tick (Some p) none = ap (λ (q : Sent). Some q) (marked-by tick p (none p refl))

pub untested : (tick : Tick) (o : Option Sent) → test_at (is_late tick.now) o ≡ false → option_map (marked tick) o ≡ o
untested tick None e = refl
untested tick (Some p) e = ap (λ (q : Sent). Some q) (marked-by tick p e)

-- and what is late is due then
pub marked-due : (tick : Tick) (o : Option Sent) (q : Sent) → test_at (is_late tick.now) o ≡ true → option_map (marked tick) o ≡ Some q → q.transmission.due ≡ true
marked-due tick None q late e = cc
marked-due tick (Some p) q late e =
    let made : Transmission = record p.transmission { timeout = transmission.next_time tick p.transmission; due = true } in
    let is : marked tick p ≡ q = cc in
    sym (ap (λ (z : Sent). z.transmission.due) is) ∙ ap (λ b. (cond b made p.transmission).due) late

-- the same stands under all keys
pub foretold-same : (clock : ℕ) (at after : ℕ → Option Sent) (moments : List (Option ℕ)) → ((k : ℕ) → after k ≡ at k) → AreForetold clock at moments → AreForetold clock after moments
foretold-same clock at after moments same h = record {
  each = λ key p there waits. h.each key p (sym (same key) ∙ there) waits;
  only = λ key m noted. let f = h.only key m noted in (f.0, (same key ∙ f.1.0, f.1.1));
}

-- what is marked under a key
pub foretold-marked : (clock key : ℕ) (tick : Tick) (at after : ℕ → Option Sent) (moments : List (Option ℕ)) → AreForetold clock at moments → key < length moments → test_at (is_late tick.now) (at key) ≡ true
    → after key ≡ option_map (marked tick) (at key) → ((k : ℕ) → k ≢ key → after k ≡ at k) → AreForetold clock after (set moments key None)
foretold-marked clock key tick at after moments h inside late is others =
    foretold-clear clock key at after moments h inside others (λ p there. marked-due tick (at key) p late (sym is ∙ there))

pub foretold-unmarked : (clock key : ℕ) (tick : Tick) (at after : ℕ → Option Sent) (moments : List (Option ℕ)) → AreForetold clock at moments → test_at (is_late tick.now) (at key) ≡ false
    → after key ≡ option_map (marked tick) (at key) → ((k : ℕ) → k ≢ key → after k ≡ at k) → AreForetold clock after moments
foretold-unmarked clock key tick at after moments h early is others =
    foretold-same clock at after moments (λ k. elim (cases_eq k key) [
      | inl same ↦ ap after same ∙ is ∙ untested tick (at key) early ∙ ap at (sym same)
      | inr other ↦ others k other
    ]) h

-- the clock some time later
shown-later : (clock now later : ℕ) → clock % 2 ^ 32 ≡ now → later < 2 ^ 32 → (clock + elapsed_time later now) % 2 ^ 32 ≡ later
shown-later clock now later shown low = omega arith

waits-late : (now : ℕ) (p : Sent) → p.transmission.due ≡ false → p.transmission.timeout ≤ elapsed_time now p.transmission.last → is_late now p ≡ true
waits-late now p e most =
    ap (λ b. not b && leb p.transmission.timeout (elapsed_time now p.transmission.last)) e ∙ le-leb p.transmission.timeout (elapsed_time now p.transmission.last) most

pub some-tested : (test : Sent → Bool) (o : Option Sent) → test_at test o ≡ true → (p : Sent) × (o ≡ Some p)
some-tested test None e = cc
some-tested test (Some p) e = (p, refl)

-- a key with a moment has a place
at-low : (moments : List (Option ℕ)) (key moment : ℕ) → length moments ≤ vacant → IsAt moments key moment → key < vacant
at-low moments key moment few noted =
    elim (cases_lt key (length moments)) [
      | inl inside ↦ omega arith
      | inr past ↦ absurd (let f = get_or_past moments key None past in cc)
    ]

-- what isn't late has its moment to come, as it is reckoned anew
pub anew-ahead : (clock now key moment : ℕ) (at : ℕ → Option Sent) → IsLateAt at key clock now moment → test_at (is_late now) (at key) ≡ false → clock < moment
anew-ahead clock now key moment at l early =
    let p = l.command in
    let waits : is_late now p ≡ false = sym (ap (test_at (is_late now)) l.there) ∙ early in
    let is = l.is in
    elim (cases_lt (elapsed_time now p.transmission.last) p.transmission.timeout) [
      | inl less ↦ omega arith
      | inr more ↦ absurd (let f = waits-late now p l.waits more in cc)
    ]

-- so has its key then
pub noted-ahead : (clock now key moment : ℕ) (at : ℕ → Option Sent) (moments : List (Option ℕ)) → key < length moments → IsLateAt at key clock now moment → test_at (is_late now) (at key) ≡ false
    → IsNotDue clock (set moments key (Some moment)) key
noted-ahead clock now key moment at moments inside l early = λ m noted.
    let is : Some moment ≡ Some m = sym (get_or-set_same moments key (Some moment) None inside) ∙ noted in
    let same : moment ≡ m = same_Some moment m is in
    let more = anew-ahead clock now key moment at l early in
    omega arith

-- a key has no moment where nothing waits under it
pub unnoted-ahead : (clock key : ℕ) (at : ℕ → Option Sent) (moments : List (Option ℕ)) → AreForetold clock at moments → ((p : Sent) → at key ≡ Some p → p.transmission.due ≡ true) → IsNotDue clock moments key
unnoted-ahead clock key at moments h none = λ m noted.
    let f = h.only key m noted in
    absurd (let g = none f.0 f.1.0 in let w = f.1.1 in cc)

-- nor where its moment is taken away
pub cleared-ahead : (clock key : ℕ) (moments : List (Option ℕ)) → key < length moments → IsNotDue clock (set moments key None) key
cleared-ahead clock key moments inside = λ m noted. absurd (let f = noted in let g = get_or-set_same moments key None None inside in cc)

-- up to one key more no moment is past
pub none_past-more : (clock from key : ℕ) (moments new : List (Option ℕ)) → ((k : ℕ) → k < from → IsNotDue clock moments k) → ((k : ℕ) → from ≤ k → k < key → IsNotDue clock moments k)
    → ((k : ℕ) → k ≢ key → get_or new k None ≡ get_or moments k None) → IsNotDue clock new key → (k : ℕ) → k < key + 1 → IsNotDue clock new k
none_past-more clock from key moments new before ahead others here k low =
    elim (cases_eq k key) [
      | inl same ↦ λ m noted. here m (ap (λ (i : ℕ). get_or new i None) (sym same) ∙ noted)
      | inr other ↦ elim (cases_lt k from) [
        | inl less ↦ λ m noted. before k less m (sym (others k other) ∙ noted)
        | inr more ↦ λ m noted. ahead k more (omega (arith, other)) m (sym (others k other) ∙ noted)
      ]
    ]

-- where a moment is past and its command isn't late, that went long ago
pub overtaken : (clock now key moment : ℕ) (at : ℕ → Option Sent) (moments : List (Option ℕ)) → clock % 2 ^ 32 ≡ now → AreForetold clock at moments → IsAt moments key moment → moment ≤ clock
    → test_at (is_late now) (at key) ≡ false → IsOvertaken clock at moments
overtaken clock now key moment at moments shown h noted past early =
    let one = h.only key moment noted in
    let p = one.0 in
    let f = h.each key p one.1.0 one.1.1 in
    let both : Some (f.went + p.transmission.timeout) ≡ Some moment = sym f.noted ∙ noted in
    let sum : f.went + p.transmission.timeout ≡ moment = same_Some (f.went + p.transmission.timeout) moment both in
    let waits : is_late now p ≡ false = sym (ap (test_at (is_late now)) one.1.0) ∙ early in
    let begun = f.begun in
    let went = f.shown in
    record {
      key = key;
      command = p;
      there = one.1.0;
      went = f.went;
      noted = f.noted;
      long = elim (cases_lt (elapsed_time now p.transmission.last) p.transmission.timeout) [
        | inl less ↦ omega arith
        | inr more ↦ absurd (let l = waits-late now p one.1.1 more in cc)
      ];
    }

-- the least moment is at most a timeout away
pub least-near : (clock key moment : ℕ) (at : ℕ → Option Sent) (moments : List (Option ℕ)) → AreForetold clock at moments → IsAt moments key moment → moment < clock + 2 ^ 32
least-near clock key moment at moments h noted =
    let one = h.only key moment noted in
    let p = one.0 in
    let f = h.each key p one.1.0 one.1.1 in
    let both : Some (f.went + p.transmission.timeout) ≡ Some moment = sym f.noted ∙ noted in
    let sum : f.went + p.transmission.timeout ≡ moment = same_Some (f.went + p.transmission.timeout) moment both in
    let begun = f.begun in
    let fits = f.fits in
    omega arith

-- none is late up to the least of the moments
pub late-after : (clock now moment : ℕ) (at : ℕ → Option Sent) (moments : List (Option ℕ)) → length moments ≤ vacant → clock % 2 ^ 32 ≡ now → AreForetold clock at moments → clock < moment
    → ((i : ℕ) × IsAt moments i moment) → ((i m : ℕ) → IsAt moments i m → moment ≤ m) → IsLateIn at now (moment - clock)
late-after clock now moment at moments few shown h ahead some least = record {
  before = λ later low less key p there.
      let next = clock + elapsed_time later now in
      quiet next later key at moments (shown-later clock now later shown low) (foretold-later clock next at moments (omega arith) h) (λ m noted. let le = least key m noted in omega arith) p there;
  first = λ short later low is.
      let key = some.0 in
      let one = h.only key moment some.1 in
      let p = one.0 in
      let f = h.each key p one.1.0 one.1.1 in
      let both : Some (f.went + p.transmission.timeout) ≡ Some moment = sym f.noted ∙ some.1 in
      let sum : f.went + p.transmission.timeout ≡ moment = same_Some (f.went + p.transmission.timeout) moment both in
      let begun = f.begun in
      let fits = f.fits in
      let went = f.shown in
      let then = shown-later clock now later shown low in
      let passed : elapsed_time later p.transmission.last ≡ p.transmission.timeout = omega arith in
      (key, (p, (at-low moments key moment few some.1, (one.1.0, waits-late later p one.1.1 (omega arith)))));
}

-- none is where there is no moment
pub late-never : (clock now : ℕ) (at : ℕ → Option Sent) (moments : List (Option ℕ)) → AreForetold clock at moments → ((i : ℕ) → get_or moments i None ≡ None) → IsLateIn at now 4294967295
late-never clock now at moments h none = record {
  before = λ later low less key p there. by later key p there p.transmission.due refl;
  first = λ short. absurd (omega arith);
}
  where
    by : (later key : ℕ) (p : Sent) → at key ≡ Some p → (b : Bool) → p.transmission.due ≡ b → is_late later p ≡ false
    by later key p there true e = due-not_late later p e
    by later key p there false e = absurd (let f = h.each key p there e in let g = none key in let n = f.noted in cc)

-- each moment is reckoned anew, the clock having gone back
pub renewed-each : (clock now key moment : ℕ) (at : ℕ → Option Sent) (moments : List (Option ℕ)) → clock % 2 ^ 32 ≡ now → 2 ^ 32 ≤ clock → key < length moments → IsLateAt at key clock now moment
    → ((k : ℕ) (p : Sent) → k < key → at k ≡ Some p → p.transmission.due ≡ false → IsForetold clock moments k p)
    → (k : ℕ) (p : Sent) → k < key + 1 → at k ≡ Some p → p.transmission.due ≡ false → IsForetold clock (set moments key (Some moment)) k p
renewed-each clock now key moment at moments shown begun inside l each k p low there waits =
    elim (cases_eq k key) [
      | inl same ↦
          let one : l.command ≡ p = let f = ap at same in let g = l.there in cc in
          let last = l.command.transmission.last in
          let timeout = l.command.transmission.timeout in
          let fits = l.low in
          let is = l.is in
          let sum : moment ≡ clock - elapsed_time now last + timeout = omega arith in
          subst (λ (q : Sent). IsForetold clock (set moments key (Some moment)) k q) one (record {
            went = clock - elapsed_time now last;
            begun = omega arith;
            shown = omega arith;
            fits = l.fits;
            noted = ap (λ (i : ℕ). get_or (set moments key (Some moment)) i None) same ∙ get_or-set_same moments key (Some moment) None inside ∙ ap (λ (m : ℕ). Some m) sum;
          })
      | inr other ↦
          let f = each k p (omega arith) there waits in
          record { went = f.went; begun = f.begun; shown = f.shown; fits = f.fits; noted = get_or-set_other moments key k (Some moment) None other ∙ f.noted }
    ]

pub renewed-only : (clock now key moment : ℕ) (at : ℕ → Option Sent) (moments : List (Option ℕ)) → IsLateAt at key clock now moment
    → ((k m : ℕ) → IsAt moments k m → (p : Sent) × ((at k ≡ Some p) × (p.transmission.due ≡ false)))
    → (k m : ℕ) → IsAt (set moments key (Some moment)) k m → (p : Sent) × ((at k ≡ Some p) × (p.transmission.due ≡ false))
renewed-only clock now key moment at moments l only k m noted =
    elim (cases_eq k key) [
      | inl same ↦ (l.command, (ap at same ∙ l.there, l.waits))
      | inr other ↦ only k m (sym (get_or-set_other moments key k (Some moment) None other) ∙ noted)
    ]

pub renewed-none : (clock key : ℕ) (at : ℕ → Option Sent) (moments : List (Option ℕ)) → ((p : Sent) → at key ≡ Some p → p.transmission.due ≡ true)
    → ((k : ℕ) (p : Sent) → k < key → at k ≡ Some p → p.transmission.due ≡ false → IsForetold clock moments k p)
    → (k : ℕ) (p : Sent) → k < key + 1 → at k ≡ Some p → p.transmission.due ≡ false → IsForetold clock moments k p
renewed-none clock key at moments none each k p low there waits =
    elim (cases_eq k key) [
      | inl same ↦ absurd (let f = none p (ap at (sym same) ∙ there) in cc)
      | inr other ↦ each k p (omega arith) there waits
    ]

-- a command goes, and waits from now on
pub written-same : (slots : List (Option Sent)) (key : ℕ) (p q : Sent) → get_or slots key None ≡ Some p → get_or (set slots key (Some q)) key None ≡ Some q
written-same slots key p q there =
    elim (cases_lt key (length slots)) [
      | inl inside ↦ get_or-set_same slots key (Some q) None inside
      | inr past ↦ absurd (let f = get_or_past slots key None past in cc)
    ]

pub keeps-sent : (s : Slab Sent) (moments new : List (Option ℕ)) (clock now key moment : ℕ) (p q : Sent) → KeepsTime s moments clock → get s key ≡ Some p → clock % 2 ^ 32 ≡ now → q.transmission.due ≡ false → q.transmission.last ≡ now
    → q.transmission.timeout < 2 ^ 32 → moment ≡ clock + q.transmission.timeout → new ≡ set moments key (Some moment) → KeepsTime (with_value s key q) new clock
keeps-sent s moments new clock now key moment p q h there shown waits last fits is made =
    let inside = h.inside key p there in
    let long : length new ≡ length moments = ap (λ (ms : List (Option ℕ)). length ms) made ∙ length-set moments key (Some moment) in
    let others : (k : ℕ) → k ≢ key → get (with_value s key q) k ≡ get s k = λ k other. get_or-set_other s.slots key k (Some q) None other in
    record {
      begun = h.begun;
      small = h.small;
      few = let few = h.few in omega arith;
      inside = λ k x stands. elim (cases_eq k key) [
        | inl same ↦ omega arith
        | inr other ↦ let low = h.inside k x (sym (others k other) ∙ stands) in omega arith
      ];
      foretold = subst (λ (ms : List (Option ℕ)). AreForetold clock (get (with_value s key q)) ms) (sym made)
          (foretold-set clock key clock moment (get s) (get (with_value s key q)) moments q h.foretold inside others (written-same s.slots key p q there) waits (omega arith) (shown ∙ sym last) fits is);
    }

-- nothing under a key waits any more
pub keeps-cleared : (s t : Slab Sent) (moments new : List (Option ℕ)) (clock key : ℕ) → KeepsTime s moments clock → key < length moments → ((k : ℕ) → k ≢ key → get t k ≡ get s k)
    → ((p : Sent) → get t key ≡ Some p → p.transmission.due ≡ true) → new ≡ set moments key None → KeepsTime t new clock
keeps-cleared s t moments new clock key h inside others none made =
    let long : length new ≡ length moments = ap (λ (ms : List (Option ℕ)). length ms) made ∙ length-set moments key None in
    record {
      begun = h.begun;
      small = h.small;
      few = let few = h.few in omega arith;
      inside = λ k x stands. elim (cases_eq k key) [
        | inl same ↦ omega arith
        | inr other ↦ let low = h.inside k x (sym (others k other) ∙ stands) in omega arith
      ];
      foretold = subst (λ (ms : List (Option ℕ)). AreForetold clock (get t) ms) (sym made) (foretold-clear clock key (get s) (get t) moments h.foretold inside others none);
    }

-- there are more places, or as many
pub keeps-grown : (s t : Slab Sent) (moments new : List (Option ℕ)) (clock : ℕ) → KeepsTime s moments clock → t.slots ≡ s.slots → ((more : ℕ) × (new ≡ moments ++ replicate {A = Option ℕ} more None)) → length new ≤ vacant → KeepsTime t new clock
keeps-grown s t moments new clock h same grown few =
    let more = grown.0 in
    let long : length new ≡ length moments + length (replicate {A = Option ℕ} more None) = ap (λ (ms : List (Option ℕ)). length ms) grown.1 ∙ length-append moments (replicate {A = Option ℕ} more None) in
    let at_same : (k : ℕ) → get t k ≡ get s k = λ k. ap (λ (slots : List (Option Sent)). get_or slots k None) same in
    record {
      begun = h.begun;
      small = h.small;
      few = few;
      inside = λ k x stands. let low = h.inside k x (sym (at_same k) ∙ stands) in omega arith;
      foretold = foretold-same clock (get s) (get t) new at_same
          (subst (λ (ms : List (Option ℕ)). AreForetold clock (get s) ms) (sym grown.1) (foretold-grown clock more (get s) moments h.foretold));
    }
