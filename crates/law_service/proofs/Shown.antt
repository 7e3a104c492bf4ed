-- What runs between two queues show, once these were settled.
use Rattle.std.proofs.Common.{◌≡◌, inl, inr, ℕ, List, [], ◌∷◌, ◌++◌, map, refl, sym, ap, subst, ◌∙◌, append-nil, Option}
use Rattle.enet_codec.specs.declared.config.Config.{Config}
use Rattle.enet_codec.specs.declared.event.Event.{Event}
use Rattle.enet_submit.specs.declared.order.Order.{Order}
use Rattle.enet_submit.specs.declared.order.Submission.{Submission}
use Rattle.enet_submit.specs.History.{of, IsHistory}
use Rattle.enet_submit.specs.Words.{all_sent, taken}
use Rattle.enet_events.specs.declared.numbered.Numbered.{Numbered}
use Rattle.enet_events.specs.Words.{PosterState}
use Rattle.enet_host.specs.Host.{Host}
use Rattle.enet_turn.specs.declared.service.Service.{Service}
use Rattle.enet_service.specs.declared.settling.Returned.{Returned}
use Rattle.enet_turn.specs.Hosting.{host_calls}
use Rattle.enet_turn.specs.Phases.{Chain}
use Rattle.enet_service.specs.Queues.{given, accepted}
use Rattle.enet_turn.specs.Run.{all_gave, all_puts}
use Rattle.enet_service.specs.ServiceRuns.{Advances, Standing, TakesTurns, beginning, limited}
use Rattle.enet_turn.specs.Spans.{Span, Parts, Spans, rounds_in}
use Rattle.enet_turn.specs.Turn.{Round}
use Rattle.enet_bridge.specs.Ends.{orders}
use Rattle.law_service.specs.Told.{held_in}
use Rattle.law_service.specs.EndToEnd.{Running, Part, AreRuns, AreOver, Threads}
use Rattle.law_service.specs.Queues.{AtQueues, TakesRounds, RunsBetween, Shows, EachRunShows, IsPart, Run, span_of, HasRun, IsThreadOf, AreThreadsOf, EachLifeShows}
use Rattle.law_service.proofs.Queues.{each-thread}
use Rattle.law_service.proofs.Lives.{life-has-threads}

on-by : (a : Standing) (rounds : List Round) (b : Standing) → TakesRounds a rounds b → Advances a rounds b
on-by a rounds b (run_length, inl t) = subst (λ (rs : List Round). Advances a rs b) t.2 t.1.spell.advances
on-by a rounds b (run_length, inr c) = subst (λ (rs : List Round). Advances a rs b) c.1 c.0.advances

module _ (old : Service Host) (rounds : List Round) (back : Returned) (rest : List Order) (new : Service Host) (b : RunsBetween old rounds back rest new) where
  on : Advances b.first rounds b.last
  on = on-by b.first rounds b.last b.turned

  turns : TakesTurns old rounds new
  turns = subst (λ (s : Service Host). TakesTurns s rounds new) b.from.0 (subst (λ (s : Service Host). TakesTurns b.first.service rounds s) b.to.0 on.turns)

  gave : given (all_gave rounds) ≡ taken back.drain
  gave = sym (ap taken (sym b.to.1) ∙ (on.gave ∙ ap (λ (xs : List Submission). xs ++ given (all_gave rounds)) (ap taken b.from.1 ∙ b.fresh.drain.1)))

  put : map (λ (x : Numbered). x.event) back.poster.posted ≡ accepted (all_puts rounds)
  put = ap (λ (p : PosterState). map (λ (x : Numbered). x.event) p.posted) (sym b.to.2)
      ∙ (on.put.grown
      ∙ (ap (λ (p : PosterState). map (λ (x : Numbered). x.event) p.posted ++ accepted (all_puts rounds)) b.from.2
      ∙ ap (λ (xs : List Numbered). map (λ (x : Numbered). x.event) xs ++ accepted (all_puts rounds)) b.fresh.poster.1))

  shows : Shows old rounds back rest new
  shows = record {
    turns = turns;
    at_queues = record {
      held = b.settled.held;
      history = subst (λ (xs : List Submission). IsHistory 1 (xs ++ b.settled.held)) (sym gave) b.settled.history;
      sent = all_sent back.seat;
      sent_is = ap (λ (xs : List Submission). of 0 (xs ++ b.settled.held)) gave ∙ b.settled.sent;
      posted = back.poster.posted;
      posted_is = put;
      taker = back.taker;
      one_taker = b.settled.one_taker;
      first = b.settled.first;
      waits = [];
      fits = b.settled.fits;
    };
    sent = refl;
    rest_is = b.settled.left_is;
    taker = refl;
    none_waits = refl;
  }

pub each-shows : EachRunShows
each-shows old rounds back rest new b = shows old rounds back rest new b

-- ---- runs one after another
-- the moment of the queues, as the span has its turns
abbrev at-span : (run : Run) → AtQueues run.rounds → AtQueues (rounds_in (span_of run ∷ []))
at-span run q = record {
  held = q.held;
  history = subst (λ (rs : List Round). IsHistory 1 (given (all_gave rs) ++ q.held)) (sym (append-nil run.rounds)) q.history;
  sent = q.sent;
  sent_is = ap (λ (rs : List Round). of 0 (given (all_gave rs) ++ q.held)) (append-nil run.rounds) ∙ q.sent_is;
  posted = q.posted;
  posted_is = q.posted_is ∙ ap (λ (rs : List Round). accepted (all_puts rs)) (sym (append-nil run.rounds));
  taker = q.taker;
  one_taker = q.one_taker;
  first = q.first;
  waits = q.waits;
  fits = q.fits;
}

-- a run is a part
pub record HasPart (old : Service Host) (run : Run) (new : Service Host) : Type 0 where
  pub part : Part
  pub before : old.waiting ≡ part.before
  pub spans : Spans host_calls old part.spans new
  pub after : new.waiting ≡ part.after
  pub thread : IsThreadOf run part
  pub over : part.left ≡ held_in part.after

has-part : (old : Service Host) (run : Run) (new : Service Host) → HasRun old run new → HasPart old run new
has-part old run new h =
    let s : Shows old run.rounds run.back run.rest h.0 = each-shows old run.rounds run.back run.rest h.0 h.1 in
    let t = each-thread (span_of run ∷ []) old.waiting new.waiting (at-span run s.at_queues) in
    record {
      part = t.0;
      before = sym t.1.waits.0;
      spans = subst (λ (xs : List Span). Spans host_calls old xs new) (sym t.1.spans_are) (new, (h.0, s.turns, h.2), refl);
      after = sym t.1.waits.1;
      thread = record {
        spans = t.1.spans_are;
        sent = t.1.sent ∙ s.sent;
        rest = ap orders t.1.unsent ∙ s.rest_is;
        got = t.1.got ∙ ap (λ (k : Rattle.enet_events.specs.Words.TakerState). map (λ (x : Numbered). x.event) k.taken) s.taker;
      };
      over = t.1.left ∙ ap (λ (xs : List Numbered). map (λ (x : Numbered). x.event) xs ++ held_in new.waiting) s.none_waits ∙ ap held_in (sym t.1.waits.1);
    }

pub record HaveParts (old : Service Host) (runs : List Run) (new : Service Host) : Type 0 where
  pub parts : List Part
  pub in_order : AreRuns host_calls old parts new
  pub over : AreOver parts
  pub threads : AreThreadsOf runs parts

and-over : (a : Part) (parts : List Part) → a.left ≡ held_in a.after → AreOver parts → AreOver (a ∷ parts)
and-over a [] left over = tt
and-over a (b ∷ parts) left over = (left, over)

have-parts : (old : Service Host) (runs : List Run) (new : Service Host) → Chain HasRun old runs new → HaveParts old runs new
have-parts old [] new c = record { parts = []; in_order = c; over = tt; threads = tt }
have-parts old (run ∷ runs) new c =
    let one : HasPart old run c.0 = has-part old run c.0 c.1 in
    let more : HaveParts c.0 runs new = have-parts c.0 runs new c.2 in
    record {
      parts = one.part ∷ more.parts;
      in_order = (c.0, (one.before, one.spans, one.after), more.in_order);
      over = and-over one.part more.parts one.over more.over;
      threads = (one.thread, more.threads);
    }

pub each-life-shows : EachLifeShows
each-life-shows config limit runs left c =
    let h : HaveParts (limited limit (beginning config)) runs left = have-parts (limited limit (beginning config)) runs left c in
    let r = life-has-threads config limit h.parts left h.in_order h.over in
    (r.0, r.1, r.2, r.3, r.4, subst (λ (ps : List Part). AreThreadsOf runs ps) (sym r.5) h.threads)
