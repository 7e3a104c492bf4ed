-- Runs of a service, one after another, and their game threads.
use Rattle.std.proofs.Common.{◌≡◌, ℕ, Bool, List, [], ◌∷◌, ◌++◌, map, length, Option, Some, None, refl, sym, ap, subst, ◌∙◌, append_assoc, append-nil}
use Rattle.std.specs.Prelude.{option_to_list, flat_map, drop, filter}
use Rattle.std.specs.List.{list_any}
use Rattle.std.proofs.lemmas.List.{append_cancel_right}
use Rattle.std.proofs.lemmas.List.Elements.{filter-append}
use Rattle.std.proofs.lemmas.Grind.{flat_map-append}
use Rattle.enet_codec.specs.declared.config.Config.{Config}
use Rattle.enet_codec.specs.declared.event.Event.{Event}
use Rattle.enet_codec.specs.declared.event.PeerRef.{PeerRef}
use Rattle.enet_codec.specs.declared.packet.Packet.{Packet}
use Rattle.enet_submit.specs.declared.order.Submission.{Submission}
use Rattle.enet_outbox.specs.declared.parts.SendLimit.{SendLimit}
use Rattle.enet_host.specs.Host.{Host}
use Rattle.enet_host.specs.Opening.{opened}
use Rattle.law_network.specs.Calls.{Call}
use Rattle.law_network.specs.Steps.{Calls}
use Rattle.law_headline.specs.Kept.{submitted_by}
use Rattle.enet_turn.specs.declared.service.Service.{Service}
use Rattle.enet_turn.specs.declared.waiting.Waiting.{Waiting}
use Rattle.enet_turn.specs.Hosting.{host_calls}
use Rattle.enet_turn.specs.Phases.{Chain}
use Rattle.enet_service.specs.Queues.{given, accepted}
use Rattle.enet_turn.specs.Run.{all_gave, all_puts}
use Rattle.enet_service.specs.ServiceRuns.{beginning, limited}
use Rattle.enet_turn.specs.Spans.{Span, IsSpan, Spans, rounds_in}
use Rattle.enet_turn.proofs.PhaseSteps.{chain_more}
use Rattle.enet_turn.specs.Turn.{Round}
use Rattle.law_service.specs.EndToEnd.{Running, Part, AreRuns, AreOver, Threads, refusals_of, packets_in}
use Rattle.law_service.specs.Law.{noted, begun}
use Rattle.law_service.specs.Noting.{Noted, noting}
use Rattle.law_service.specs.Queues.{EachLifeHasThreads}
use Rattle.law_service.specs.Told.{held_in, told, is_refusal_of, is_refused, refusal, packet_unless, packets_of, submitted_in}
use Rattle.law_service.proofs.Lifting.{Leads, simulates, limit-is-call}
use Rattle.law_service.proofs.Simulation.{over, spans-on}
use Rattle.law_service.proofs.Telling.{Ledger, Sorted, sorted-on, told-refusals, accepted-append, spans-ledger, sent-by}

-- ---- what the threads submitted and took, beside the calls
drop-first : (o : Option Event) (es : List Event) → drop (length (option_to_list o)) (option_to_list o ++ es) ≡ es
drop-first None es = refl
drop-first (Some e) es = refl

-- the refusals of a run are those of the orders that were refused in it
refusals-made : (a b : Service Noted) (x : Part) (l : Ledger a b (all_gave (rounds_in x.spans)) (all_puts (rounds_in x.spans))) → Sorted a.waiting → a.waiting ≡ x.before → b.waiting ≡ x.after
    → refusals_of x ≡ flat_map refusal l.answered
refusals-made a b x l s before after =
    ap (drop (length (option_to_list x.before.refusal)))
    (ap (λ (w : Waiting). filter is_refused (told (rounds_in x.spans) w)) (sym after) ∙ told-refusals a b (all_gave (rounds_in x.spans)) (all_puts (rounds_in x.spans)) l s
    ∙ ap (λ (w : Waiting). option_to_list w.refusal ++ flat_map refusal l.answered) before)
    ∙ drop-first x.before.refusal (flat_map refusal l.answered)

given-packets : (a b : Service Noted) (x : Part) (l : Ledger a b (all_gave (rounds_in x.spans)) (all_puts (rounds_in x.spans))) → Sorted a.waiting → a.waiting ≡ x.before → b.waiting ≡ x.after → (name : PeerRef) (channel : ℕ)
    → packets_of (refusals_of x) name channel (given (all_gave (rounds_in x.spans))) ≡ submitted_in l.calls name channel
given-packets a b x l s before after name channel =
    sent-by a b (all_gave (rounds_in x.spans)) (all_puts (rounds_in x.spans)) l (refusals_of x) (λ y. ap (list_any (is_refusal_of y)) (refusals-made a b x l s before after)) x.numbered name channel

-- what runs add to
pub record Behind (a : Service Noted) (parts : List Part) (b : Service Noted) : Type 0 where
  pub calls : List Call
  pub calls_are : b.host.calls ≡ a.host.calls ++ calls
  pub more : (name : PeerRef) (channel : ℕ) → (rest : List Packet) × (packets_in name channel parts ≡ submitted_in calls name channel ++ rest)
  pub left : List Event
  pub got : told (rounds_in (flat_map (λ (x : Part). x.spans) parts)) b.waiting ≡ flat_map (λ (x : Part). x.got) parts ++ left

told-on : (xs ys : List Span) (o : Waiting) → told (rounds_in (xs ++ ys)) o ≡ accepted (all_puts (rounds_in xs)) ++ told (rounds_in ys) o
told-on xs ys o =
    ap (λ (rs : List Round). told rs o) (flat_map-append (λ (s : Span). s.rounds) xs ys)
    ∙ ap (λ (ps : List (Event × Bool)). accepted ps ++ held_in o) (flat_map-append (λ (r : Round). r.puts) (rounds_in xs) (rounds_in ys))
    ∙ ap (λ (es : List Event). es ++ held_in o) (accepted-append (all_puts (rounds_in xs)) (all_puts (rounds_in ys)))
    ∙ append_assoc (accepted (all_puts (rounds_in xs))) (accepted (all_puts (rounds_in ys))) (held_in o)

no-run : (a b : Service Noted) → b ≡ a → Behind a [] b
no-run a b e = record {
  calls = [];
  calls_are = ap (λ (s : Service Noted). s.host.calls) e ∙ sym (append-nil a.host.calls);
  more = λ name channel. ([], refl);
  left = held_in b.waiting;
  got = refl;
}

last-run : (a : Service Noted) (x : Part) (b : Service Noted) → Sorted a.waiting → a.waiting ≡ x.before → Spans noting a x.spans b → b.waiting ≡ x.after → Behind a (x ∷ []) b
last-run a x b s before spans after =
    let l : Ledger a b (all_gave (rounds_in x.spans)) (all_puts (rounds_in x.spans)) = spans-ledger a x.spans b spans in
    record {
      calls = l.calls;
      calls_are = l.calls_are;
      more = λ name channel. (
        packets_of (refusals_of x) name channel x.unsent,
        ap (packets_of (refusals_of x) name channel) x.sent_is ∙ flat_map-append (packet_unless (refusals_of x) name channel) (given (all_gave (rounds_in x.spans))) x.unsent
            ∙ ap (λ (ps : List Packet). ps ++ packets_of (refusals_of x) name channel x.unsent) (given-packets a b x l s before after name channel),
      );
      left = x.left;
      got = ap (λ (xs : List Span). told (rounds_in xs) b.waiting) (append-nil x.spans) ∙ ap (told (rounds_in x.spans)) after ∙ x.got_is ∙ ap (λ (es : List Event). es ++ x.left) (sym (append-nil x.got));
    }

-- where all was taken, what was put is what was taken
all-got : (x : Part) → x.left ≡ held_in x.after → accepted (all_puts (rounds_in x.spans)) ≡ x.got
all-got x over = append_cancel_right (accepted (all_puts (rounds_in x.spans))) x.got (held_in x.after) (x.got_is ∙ ap (λ (es : List Event). x.got ++ es) over)

earlier-run : (a : Service Noted) (x y : Part) (parts : List Part) (b c : Service Noted) → Sorted a.waiting → a.waiting ≡ x.before → Spans noting a x.spans b → b.waiting ≡ x.after → x.left ≡ held_in x.after → Behind b (y ∷ parts) c
    → Behind a (x ∷ y ∷ parts) c
earlier-run a x y parts b c s before spans after over k =
    let l : Ledger a b (all_gave (rounds_in x.spans)) (all_puts (rounds_in x.spans)) = spans-ledger a x.spans b spans in
    let spans-after : List Span = flat_map (λ (z : Part). z.spans) (y ∷ parts) in
    record {
      calls = l.calls ++ k.calls;
      calls_are = k.calls_are ∙ ap (λ (cs : List Call). cs ++ k.calls) l.calls_are ∙ append_assoc a.host.calls l.calls k.calls;
      more = λ name channel. (let m = k.more name channel in (
        m.0,
        (λ i. given-packets a b x l s before after name channel i ++ m.1 i) ∙ sym (append_assoc (submitted_in l.calls name channel) (submitted_in k.calls name channel) m.0)
            ∙ ap (λ (ps : List Packet). ps ++ m.0) (sym (flat_map-append (λ (d : Call). submitted_by name channel (Calls d)) l.calls k.calls)),
      ));
      left = k.left;
      got = told-on x.spans spans-after c.waiting ∙ (λ i. all-got x over i ++ k.got i) ∙ sym (append_assoc x.got (flat_map (λ (z : Part). z.got) (y ∷ parts)) k.left);
    }

pub all-behind : (a : Service Noted) (parts : List Part) (b : Service Noted) → Sorted a.waiting → AreRuns noting a parts b → AreOver parts → Behind a parts b
all-behind a [] b s c over = no-run a b c
all-behind a (x ∷ []) b s c over = subst (λ (t : Service Noted). Behind a (x ∷ []) t) (sym c.2) (last-run a x c.0 s c.1.0 c.1.1 c.1.2)
all-behind a (x ∷ y ∷ parts) b s c over =
    let later : Sorted c.0.waiting = sorted-on a c.0 (all_gave (rounds_in x.spans)) (all_puts (rounds_in x.spans)) (spans-ledger a x.spans c.0 c.1.1) s in
    earlier-run a x y parts c.0 b s c.1.0 c.1.1 c.1.2 over.0 (all-behind c.0 (y ∷ parts) b later c.2 over.1)

-- ---- runs by the host's calls
-- they are runs over a host whose calls are noted
runs-on : (first : Host) (old : Service Host) (parts : List Part) (new : Service Host) (k : Noted) → AreRuns host_calls old parts new → Leads first k old.host
    → (l : Noted) × Leads first l new.host × AreRuns noting (over k old.waiting) parts (over l new.waiting)
runs-on first old [] new k c on = (k, subst (λ (s : Service Host). Leads first k s.host) (sym c) on, ap (λ (s : Service Host). over k s.waiting) c)
runs-on first old (x ∷ parts) new k c on =
    let m = spans-on host_calls noting (Leads first) (simulates first) old x.spans c.0 k c.1.1 on in
    let more = runs-on first c.0 parts new m.0 c.2 m.1 in
    (more.0, more.1, (over m.0 c.0.waiting, (c.1.0, m.2, c.1.2), more.2))

-- all spans of them
all-spans : (a : Service Noted) (parts : List Part) (b : Service Noted) → AreRuns noting a parts b → Spans noting a (flat_map (λ (x : Part). x.spans) parts) b
all-spans a [] b c = c
all-spans a (x ∷ parts) b c = chain_more (IsSpan noting) a x.spans c.0 (flat_map (λ (y : Part). y.spans) parts) b c.1.1 (all-spans c.0 parts b c.2)

pub life-has-threads : EachLifeHasThreads
life-has-threads config limit parts left c over-all =
    let m = runs-on (opened config) (limited limit (beginning config)) parts left (begun config limit).host c (refl, limit-is-call config limit) in
    let runs : AreRuns noting (begun config limit) parts (noted left m.0.calls) =
    subst (λ (k : Noted). AreRuns noting (begun config limit) parts (over k left.waiting)) (λ i. record { host = m.1.0 i; calls = m.0.calls }) m.2 in (
      record {
        config = config;
        limit = limit;
        spans = flat_map (λ (x : Part). x.spans) parts;
        left = left;
        calls = m.0.calls;
        turns = all-spans (begun config limit) parts (noted left m.0.calls) runs;
      },
      refl,
      refl,
      refl,
      record { parts = parts; in_order = runs; spans_are = refl; over = over-all },
      refl,
    )
