-- Taking leave, step by step.
use Rattle.std.proofs.Common.{◌≡◌, ◌⊎◌, ℕ, ◌+◌, ◌≤◌, Bool, true, false, List, [], ◌∷◌, ◌++◌, length, Option, Some, None, Result, Ok, Err, is_err, inl, inr, add-zero, refl, sym, ◌∙◌, ap, subst, append-nil, arith}
use Rattle.std.proofs.lemmas.Bool.{true≢false}
use Rattle.std.proofs.lemmas.Grind.{flat_map-append}
use Rattle.std.proofs.lemmas.List.{length-append}
use Rattle.enet_codec.specs.declared.event.DisconnectMode.{DisconnectMode}
use Rattle.enet_codec.specs.declared.event.DisconnectMode.TheVariants.{Later, Now}
use Rattle.enet_codec.specs.declared.event.PeerRef.{PeerRef}
use Rattle.enet_submit.specs.declared.order.Submission.{Submission}
use Rattle.enet_host.specs.Host.{Host, all_names}
use Rattle.enet_bridge.specs.Memory.{FirstIs}
use Rattle.enet_wire.specs.declared.told.Told.{Told}
use Rattle.enet_wire.specs.declared.told.Told.TheVariants.{Waited}
use Rattle.enet_wire.specs.Wires.{also, unless_spent}
use Rattle.enet_turn.specs.declared.report.Fault.{Fault}
use Rattle.enet_turn.specs.declared.report.Report.{Report}
use Rattle.enet_turn.specs.declared.service.Service.{Service}
use Rattle.enet_turn.specs.declared.waiting.Waiting.{Waiting}
use Rattle.enet_turn.specs.Hosting.{host_calls}
use Rattle.enet_turn.specs.LoneTurn.{beside}
use Rattle.enet_turn.specs.Phases.{Chain}
use Rattle.enet_service.specs.Queues.{given}
use Rattle.enet_turn.specs.Counts.{count_of}
use Rattle.enet_turn.specs.Run.{all_gave, all_told, Ends}
use Rattle.enet_service.specs.ServiceRuns.{TakesTurns, PartsFrom}
use Rattle.enet_turn.specs.Spans.{Span, Parts, IsSpan, Spans, rounds_in}
use Rattle.enet_turn.specs.Turn.{Round}
use Rattle.enet_turn.proofs.PhaseSteps.{chain_step}
use Rattle.enet_turn.proofs.Tellings.{told_on, also_nothing}
use Rattle.enet_service.proofs.Spells.{given_both}
use Rattle.enet_serve.specs.Leaving.{PartsFromAll, AreGentle, Leaves, OverWire, over, HaveTurns, TakesLeave}
use Rattle.enet_serve.specs.Private.SeeingOff.{Idles, AreLater, Follow, SeesOff, HasSeenOff}

-- ---- a turn
gives-none : (gave : List (Option Submission)) (after : List Submission) → Chain FirstIs [] gave after → given gave ≡ []
gives-none [] after h = refl
gives-none (Some x ∷ gave) after h = absurd h.1
gives-none (None ∷ gave) after h = gives-none gave after (subst (λ (l : List Submission). Chain FirstIs l gave after) h.1 h.2)

has-some : (rounds : List Round) (result : Result Report Fault) → Ends 1 rounds result → is_err result ≡ false → 1 ≤ length rounds
has-some rounds (Ok report) e well = omega (arith, e.1)
has-some rounds (Err fault) e well = absurd (true≢false well)

pub idles : (a b : OverWire) (rounds : List Round) (before after : List Submission) (result : Result Report Fault) (fails : Bool) → before ≡ [] → TakesTurns a.service rounds b.service
    → Chain FirstIs before (all_gave rounds) after → b.told ≡ also a.told (unless_spent a.faults (all_told rounds)) → Ends 1 rounds result
    → b.faults ≡ a.faults + count_of (is_err result) → fails ≡ is_err result → Idles a b fails
idles a b rounds before after result fails none turns gives told ends faults is = subst (λ (b_1 : Bool). Idles a b b_1) (sym is) (record {
  rounds = rounds;
  turns = turns;
  no_orders = gives-none (all_gave rounds) after (subst (λ (l : List Submission). Chain FirstIs l (all_gave rounds) after) none gives);
  told = told;
  faults = faults;
  some = has-some rounds result ends;
})

unfailed : (f f_1 : ℕ) → f_1 ≡ f + count_of false → f_1 ≡ f
unfailed f f_1 e = e ∙ add-zero f

-- ---- turns, and a parting from everybody
abbrev span : List Round → DisconnectMode → List PeerRef → Span
span rounds how peers = record { kind = beside; rounds = rounds; how = how; parted = peers }

parts-of : (how : DisconnectMode) (w : Waiting) (old : Host) (peers : List PeerRef) (new : Host) → PartsFrom how old peers new
    → Parts host_calls how (record { host = old; waiting = w }) peers (record { host = new; waiting = w })
parts-of how w old [] new same = ap (λ (h : Host). record { host = h; waiting = w }) same
parts-of how w old (p ∷ peers) new r = (record { host = r.0; waiting = w }, (r.1.0, r.1.1, refl), parts-of how w r.0 peers new r.2)

parts-from-all : (how : DisconnectMode) (b a : Service Host) (rounds : List Round) → TakesTurns b rounds a → (h : Host) → PartsFrom how a.host (all_names a.host.slots) h
    → PartsFromAll b (span rounds how (all_names a.host.slots)) (record { host = h; waiting = a.waiting })
parts-from-all how b a rounds turns h parts = (a, turns, parts-of how a.waiting a.host (all_names a.host.slots) h parts, refl)

no-more : (xs ys : List Span) → given (all_gave (rounds_in xs)) ≡ [] → given (all_gave (rounds_in ys)) ≡ [] → given (all_gave (rounds_in (xs ++ ys))) ≡ []
no-more xs ys p q = ap (λ (rs : List Round). given (all_gave rs)) (flat_map-append (λ (s : Span). s.rounds) xs ys)
    ∙ (given_both (rounds_in xs) (rounds_in ys) ∙ (λ i. p i ++ q i))

none-in : (s : Span) → given (all_gave s.rounds) ≡ [] → given (all_gave (rounds_in (s ∷ []))) ≡ []
none-in s none = ap (λ (rs : List Round). given (all_gave rs)) (append-nil s.rounds) ∙ none

one-more : (xs : List Span) (x : Span) → 1 ≤ length (xs ++ x ∷ [])
one-more xs x = omega (arith, length-append xs (x ∷ []))

told-both : (xs : List Span) (s : Span) → all_told (rounds_in (xs ++ s ∷ [])) ≡ all_told (rounds_in xs) ++ all_told s.rounds
told-both xs s =
    ap (λ (rs : List Round). all_told rs) (flat_map-append (λ (t : Span). t.rounds) xs (s ∷ []) ∙ ap (λ (rs : List Round). rounds_in xs ++ rs) (append-nil s.rounds))
    ∙ flat_map-append (λ (r : Round). Waited r.ms ∷ r.told) (rounds_in xs) s.rounds

-- what was told of spans, and of one more
told-more : (o b a : Option (List Told)) (f f_1 : ℕ) (xs : List Span) (s : Span) → b ≡ also o (unless_spent f (all_told (rounds_in xs))) → f_1 ≡ f
    → a ≡ also b (unless_spent f_1 (all_told s.rounds)) → a ≡ also o (unless_spent f (all_told (rounds_in (xs ++ s ∷ []))))
told-more o b a f f_1 xs s before same now =
    told_on o b a f f_1 (all_told (rounds_in xs)) (all_told s.rounds) before same now
    ∙ ap (λ (l : List Told). also o (unless_spent f l)) (sym (told-both xs s))

have-more : (xs : List Span) (s : Span) → HaveTurns xs → 1 ≤ length s.rounds → HaveTurns (xs ++ s ∷ [])
have-more [] s h some = (some, tt)
have-more (x ∷ xs) s h some = (h.0, have-more xs s h.1 some)

-- ---- behind all that was sent
later-more : (xs ys : List Span) → AreLater xs → AreLater ys → AreLater (xs ++ ys)
later-more [] ys p q = q
later-more (x ∷ xs) ys p q = (p.0, later-more xs ys p.1 q)

follow-more : (xs : List Span) (s : Span) → Follow xs → 1 ≤ length s.rounds → Follow (xs ++ s ∷ [])
follow-more [] s f some = tt
follow-more (x ∷ xs) s f some = have-more xs s f some

-- everybody is parted from for the first time, and then comes a turn
off-first : (o a d : OverWire) (h : Host) (fails : Bool) → a ≡ o → PartsFrom Later a.service.host (all_names a.service.host.slots) h
    → Idles (over (record { host = h; waiting = a.service.waiting }) a.told a.faults) d fails → HasSeenOff o d fails
off-first o a d h fails same parts i = subst (λ (x : OverWire). HasSeenOff x d fails) same (record {
  spans = s ∷ [];
  between = over (record { host = h; waiting = a.service.waiting }) a.told a.faults;
  acts = chain_step PartsFromAll a.service [] a.service s (record { host = h; waiting = a.service.waiting }) refl (parts-from-all Later a.service a.service [] refl h parts);
  no_orders = refl;
  told = also_nothing a.faults a.told;
  faults = refl;
  later = (refl, tt);
  follow = tt;
  asked = omega arith;
  last = i;
})
  where
    s : Span
    s = span [] Later (all_names a.service.host.slots)

-- and once more
off-next : (o a d : OverWire) (h : Host) (fails : Bool) → HasSeenOff o a false → PartsFrom Later a.service.host (all_names a.service.host.slots) h
    → Idles (over (record { host = h; waiting = a.service.waiting }) a.told a.faults) d fails → HasSeenOff o d fails
off-next o a d h fails p parts i = record {
  spans = p.spans ++ s ∷ [];
  between = over (record { host = h; waiting = a.service.waiting }) a.told a.faults;
  acts = chain_step PartsFromAll o.service p.spans p.between.service s (record { host = h; waiting = a.service.waiting }) p.acts (parts-from-all Later p.between.service a.service p.last.rounds p.last.turns h parts);
  no_orders = no-more p.spans (s ∷ []) p.no_orders (none-in s p.last.no_orders);
  told = told-more o.told p.between.told a.told o.faults p.between.faults p.spans s p.told p.faults p.last.told;
  faults = unfailed p.between.faults a.faults p.last.faults ∙ p.faults;
  later = later-more p.spans (s ∷ []) p.later (refl, tt);
  follow = follow-more p.spans s p.follow (p.last.some refl);
  asked = one-more p.spans s;
  last = i;
}
  where
    s : Span
    s = span p.last.rounds Later (all_names a.service.host.slots)

pub off-more : (o a d : OverWire) (h : Host) (fails : Bool) → SeesOff o a → PartsFrom Later a.service.host (all_names a.service.host.slots) h
    → Idles (over (record { host = h; waiting = a.service.waiting }) a.told a.faults) d fails → HasSeenOff o d fails
off-more o a d h fails (inl same) parts i = off-first o a d h fails same parts i
off-more o a d h fails (inr p) parts i = off-next o a d h fails p parts i

-- ---- all of it
gentle-one : (x : Span) (rest : List Span) → x.how ≡ Later → AreGentle rest → AreGentle (x ∷ rest)
gentle-one x [] e g = tt
gentle-one x (y ∷ rest) e g = (e, g)

gentle-more : (xs ys : List Span) → AreLater xs → AreGentle ys → AreGentle (xs ++ ys)
gentle-more [] ys p g = g
gentle-more (x ∷ xs) ys p g = gentle-one x (xs ++ ys) p.0 (gentle-more xs ys p.1 g)

gentle-all : (xs : List Span) → AreLater xs → AreGentle xs
gentle-all [] p = tt
gentle-all (x ∷ xs) p = gentle-one x xs p.0 (gentle-all xs p.1)

abbrev Begins : List Span → Type 0
Begins xs = (first : Span) × (rest : List Span) × (xs ≡ first ∷ rest) × (first.how ≡ Later) × HaveTurns rest

begins : (xs : List Span) → AreLater xs → Follow xs → 1 ≤ length xs → Begins xs
begins [] later follow some = absurd (omega (arith, some))
begins (x ∷ xs) later follow some = (x, xs, refl, later.0, follow)

begins-and : (xs : List Span) (s : Span) → AreLater xs → Follow xs → 1 ≤ length xs → 1 ≤ length s.rounds → Begins (xs ++ s ∷ [])
begins-and [] s later follow some turn = absurd (omega (arith, some))
begins-and (x ∷ xs) s later follow some turn = (x, xs ++ s ∷ [], refl, later.0, have-more xs s follow turn)

ends-so : (fails : Bool) (f f_1 n : ℕ) → f_1 ≡ f + count_of fails → (fails ≡ false → 1 ≤ n) → ((f_1 ≡ f) × (1 ≤ n)) ⊎ (f_1 ≡ f + 1)
ends-so true f f_1 n e some = inr e
ends-so false f f_1 n e some = inl (unfailed f f_1 e, some refl)

pub left-so : (a b : OverWire) (fails : Bool) → HasSeenOff a b fails → TakesLeave a b
left-so a b fails p = record {
  leaves = record {
    spans = p.spans;
    between = p.between.service;
    acts = p.acts;
    last = last;
    ends = (b.service, p.last.turns, refl);
    nobody = refl;
    no_orders = no-more p.spans (last ∷ []) p.no_orders (none-in last p.last.no_orders);
    gentle = gentle-all p.spans p.later;
  };
  gently = begins p.spans p.later p.follow p.asked;
  told = told-more a.told p.between.told b.told a.faults p.between.faults p.spans last p.told p.faults p.last.told;
  ends = ends-so fails a.faults b.faults (length p.last.rounds) (p.last.faults ∙ ap (λ (n : ℕ). n + count_of fails) p.faults) p.last.some;
}
  where
    last : Span
    last = span p.last.rounds Later []

nobody-parted : (g h : Host) (peers : List PeerRef) → PartsFrom Now g peers h → length peers ≡ 0 → h ≡ g
nobody-parted g h [] same none = same
nobody-parted g h (p ∷ peers) parts none = absurd (omega (arith, none))

-- nobody is left
pub left-empty : (a b : OverWire) (h : Host) (many : ℕ) → HasSeenOff a b false → PartsFrom Now b.service.host (all_names b.service.host.slots) h → many ≡ length (all_names b.service.host.slots)
    → many ≡ 0 → TakesLeave a (over (record { host = h; waiting = b.service.waiting }) b.told b.faults)
left-empty a b h many seen parts count none =
    subst (λ (g : Host). TakesLeave a (over (record { host = g; waiting = b.service.waiting }) b.told b.faults))
    (sym (nobody-parted b.service.host h (all_names b.service.host.slots) parts (sym count ∙ none))) (left-so a b false seen)

-- those that are left are cut off, and a turn tells them so
pub left-told : (o a d : OverWire) (h : Host) (fails : Bool) → HasSeenOff o a false → PartsFrom Now a.service.host (all_names a.service.host.slots) h
    → Idles (over (record { host = h; waiting = a.service.waiting }) a.told a.faults) d fails → TakesLeave o d
left-told o a d h fails p parts i = record {
  leaves = record {
    spans = p.spans ++ s ∷ [];
    between = record { host = h; waiting = a.service.waiting };
    acts = chain_step PartsFromAll o.service p.spans p.between.service s (record { host = h; waiting = a.service.waiting }) p.acts (parts-from-all Now p.between.service a.service p.last.rounds p.last.turns h parts);
    last = last;
    ends = (d.service, i.turns, refl);
    nobody = refl;
    no_orders = no-more (p.spans ++ s ∷ []) (last ∷ []) (no-more p.spans (s ∷ []) p.no_orders (none-in s p.last.no_orders)) (none-in last i.no_orders);
    gentle = gentle-more p.spans (s ∷ []) p.later tt;
  };
  gently = begins-and p.spans s p.later p.follow p.asked (p.last.some refl);
  told = told-more o.told a.told d.told o.faults a.faults (p.spans ++ s ∷ []) last
      (told-more o.told p.between.told a.told o.faults p.between.faults p.spans s p.told p.faults p.last.told) (unfailed p.between.faults a.faults p.last.faults ∙ p.faults) i.told;
  ends = ends-so fails o.faults d.faults (length i.rounds) (i.faults ∙ ap (λ (n : ℕ). n + count_of fails) (unfailed p.between.faults a.faults p.last.faults ∙ p.faults)) i.some;
}
  where
    s : Span
    s = span p.last.rounds Now (all_names a.service.host.slots)

    last : Span
    last = span i.rounds Now []

-- ---- as spans alone
is-span : (a : Service Host) (s : Span) (b : Service Host) → PartsFromAll a s b → IsSpan host_calls a s b
is-span a s b h = (h.0, h.1, h.2)

all-spans : (a : Service Host) (spans : List Span) (b : Service Host) → Chain PartsFromAll a spans b → Spans host_calls a spans b
all-spans a [] b h = h
all-spans a (s ∷ spans) b h = (h.0, is-span a s h.0 h.1, all-spans h.0 spans b h.2)

pub spans-of-leave : (a b : Service Host) (l : Leaves a b) → Spans host_calls a (l.spans ++ l.last ∷ []) b
spans-of-leave a b l = chain_step (IsSpan host_calls) a l.spans l.between l.last b (all-spans a l.spans l.between l.acts) l.ends
