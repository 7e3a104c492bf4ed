-- What many calls of a source and of a sink over the queues come to.
use Rattle.std.proofs.Common.{◌≡◌, ℕ, ◌+◌, ◌==◌, Bool, true, false, cond, List, [], ◌∷◌, ◌++◌, length, Option, Some, None, sym, refl, ap, ◌∙◌, subst, append_assoc, append-nil, length-append, arith, eq-eqb, ne_eqb}
use Rattle.std.specs.Prelude.{map}
use Rattle.std.proofs.lemmas.List.{map-append}
use Rattle.std.proofs.lemmas.List.Elements.{filter-append}
use native.Mathlib.Decide.{ℕ_discrete}
use Rattle.enet_codec.specs.declared.event.Event.{Event}
use Rattle.enet_submit.specs.declared.order.Submission.{Submission}
use Rattle.enet_submit.specs.declared.queue.SubmitQueue.{SubmitQueue}
use Rattle.enet_submit.specs.declared.token.Drain.{Drain}
use Rattle.enet_submit.specs.History.{of, CountsFrom, IsHistory}
use Rattle.enet_submit.specs.Words.{taken, seats_of}
use Rattle.enet_events.specs.Words.{Queue, PosterState, next}
use Rattle.enet_bridge.specs.Ends.{DrainGives, PosterPuts}
use Rattle.enet_bridge.specs.Serving.{queue_of, drain_of, sink_queue, poster_of}
use Rattle.enet_bridge.specs.declared.source.QueueSource.{QueueSource}
use Rattle.enet_bridge.specs.declared.sink.QueueSink.{QueueSink}
use Rattle.enet_turn.specs.Phases.{Chain}
use Rattle.enet_service.specs.Queues.{given, accepted, DrainsOn, PostsOn}

-- ---- numbers without gaps
counts_more : (k : ℕ) (xs ys : List Submission) → CountsFrom k xs → CountsFrom (k + length xs) ys → CountsFrom k (xs ++ ys)
counts_more k [] ys c d = subst (λ n. CountsFrom n ys) (omega arith) d
counts_more k (x ∷ xs) ys c d = (c.0, counts_more (k + 1) xs ys c.1 (subst (λ n. CountsFrom n ys) (omega arith) d))

counts_one : (a : List Submission) (x : Submission) (seat : ℕ) → Dec (x.seat ≡ seat) → x.number ≡ length (of x.seat a) → CountsFrom (length (of seat a)) (of seat (x ∷ []))
counts_one a x seat (yes e) n =
    subst (λ (zs : List Submission). CountsFrom (length (of seat a)) zs) (sym (ap (λ b. cond b (x ∷ []) []) (eq-eqb x.seat seat e))) (n ∙ ap (λ k. length (of k a)) e, tt)
counts_one a x seat (no d) n =
    subst (λ (zs : List Submission). CountsFrom (length (of seat a)) zs) (sym (ap (λ b. cond b (x ∷ []) []) (ne_eqb x.seat seat d))) tt

-- ---- the drain
pub drains_none : (q : SubmitQueue) (a b : Drain) → taken b ≡ taken a → DrainsOn q a [] b
drains_none q a b e = record {
  grown = e ∙ sym (append-nil (taken a));
  in_order = λ seat. tt;
  begins = λ h. (h.0, subst (λ (zs : List Submission). IsHistory (seats_of q) (zs ++ h.0)) (sym e) h.1);
}

drains_one : (q : SubmitQueue) (a b : Drain) (x : Option Submission) → DrainGives q a x b → DrainsOn q a (given (x ∷ [])) b
drains_one q a b None d = drains_none q a b d.0
drains_one q a b (Some x) d = record {
  grown = d.0;
  in_order = λ seat. counts_one (taken a) x seat (ℕ_discrete x.seat seat) d.1.1;
  begins = λ h. d.2;
}

pub drains_more : (q : SubmitQueue) (a b c : Drain) (xs ys : List Submission) → DrainsOn q a xs b → DrainsOn q b ys c → DrainsOn q a (xs ++ ys) c
drains_more q a b c xs ys f g = record {
  grown = g.grown ∙ (ap (λ (zs : List Submission). zs ++ ys) f.grown ∙ append_assoc (taken a) xs ys);
  in_order = λ seat.
      let split : of seat (taken b) ≡ of seat (taken a) ++ of seat xs = ap (of seat) f.grown ∙ filter-append (λ x. x.seat == seat) (taken a) xs in
      let far : length (of seat (taken b)) ≡ length (of seat (taken a)) + length (of seat xs) = ap length split ∙ length-append (of seat (taken a)) (of seat xs) in
      subst (λ (zs : List Submission). CountsFrom (length (of seat (taken a))) zs) (sym (filter-append (λ x. x.seat == seat) xs ys))
      (counts_more _ (of seat xs) (of seat ys) (f.in_order seat) (subst (λ n. CountsFrom n (of seat ys)) far (g.in_order seat)));
  begins = λ h. g.begins (f.begins h);
}

given_split : (x : Option Submission) (xs : List (Option Submission)) → given (x ∷ []) ++ given xs ≡ given (x ∷ xs)
given_split None xs = refl
given_split (Some x) xs = refl

abbrev pub SourceGives : QueueSource → Option Submission → QueueSource → Type 0
SourceGives s x t = (queue_of t ≡ queue_of s) × DrainGives (queue_of s) (drain_of s) x (drain_of t)

pub drains_on : (old : QueueSource) (gave : List (Option Submission)) (new : QueueSource) → Chain SourceGives old gave new
    → (queue_of new ≡ queue_of old) × DrainsOn (queue_of old) (drain_of old) (given gave) (drain_of new)
drains_on old [] new e = (ap queue_of e, drains_none (queue_of old) (drain_of old) (drain_of new) (ap (λ (s : QueueSource). taken (drain_of s)) e))
drains_on old (x ∷ xs) new c =
    let between : QueueSource = c.0 in
    let rest = drains_on between xs new c.2 in
    let one = drains_one (queue_of old) (drain_of old) (drain_of between) x c.1.1 in
    let more : DrainsOn (queue_of old) (drain_of between) (given xs) (drain_of new) =
    subst (λ (q : SubmitQueue). DrainsOn q (drain_of between) (given xs) (drain_of new)) c.1.0 rest.1 in (
      rest.0 ∙ c.1.0,
      subst (λ (zs : List Submission). DrainsOn (queue_of old) (drain_of old) zs (drain_of new)) (given_split x xs)
          (drains_more (queue_of old) (drain_of old) (drain_of between) (drain_of new) (given (x ∷ [])) (given xs) one more),
    )

-- ---- the poster
abbrev pub events_of : PosterState → List Event
events_of p = map (λ x. x.event) p.posted

posts_one : (q : Queue) (a b : PosterState) (x : Event × Bool) → PosterPuts q a x.0 x.1 b → PostsOn a (accepted (x ∷ [])) b
posts_one q a b (event, true) p = record { same = ap (λ (s : PosterState). s.queue) p; grown = ap events_of p ∙ map-append (λ x. x.event) a.posted (next a event ∷ []) }
posts_one q a b (event, false) p = record { same = ap (λ (s : PosterState). s.queue) p.0; grown = ap events_of p.0 ∙ sym (append-nil (events_of a)) }

accepted_split : (x : Event × Bool) (xs : List (Event × Bool)) → accepted (x ∷ []) ++ accepted xs ≡ accepted (x ∷ xs)
accepted_split (event, true) xs = refl
accepted_split (event, false) xs = refl

posts_more : (a b c : PosterState) (es fs : List Event) → PostsOn a es b → PostsOn b fs c → PostsOn a (es ++ fs) c
posts_more a b c es fs f g = record {
  same = g.same ∙ f.same;
  grown = g.grown ∙ (ap (λ (zs : List Event). zs ++ fs) f.grown ∙ append_assoc (events_of a) es fs);
}

abbrev pub SinkPuts : QueueSink → Event × Bool → QueueSink → Type 0
SinkPuts s x t = (sink_queue t ≡ sink_queue s) × PosterPuts (sink_queue s) (poster_of s) x.0 x.1 (poster_of t)

pub posts_on : (old : QueueSink) (puts : List (Event × Bool)) (new : QueueSink) → Chain SinkPuts old puts new → PostsOn (poster_of old) (accepted puts) (poster_of new)
posts_on old [] new e = record { same = ap (λ (s : QueueSink). (poster_of s).queue) e; grown = ap (λ (s : QueueSink). events_of (poster_of s)) e ∙ sym (append-nil (events_of (poster_of old))) }
posts_on old (x ∷ xs) new c =
    let between : QueueSink = c.0 in
    let one = posts_one (sink_queue old) (poster_of old) (poster_of between) x c.1.1 in
    subst (λ (zs : List Event). PostsOn (poster_of old) zs (poster_of new)) (accepted_split x xs)
    (posts_more (poster_of old) (poster_of between) (poster_of new) (accepted (x ∷ [])) (accepted xs) one (posts_on between xs new c.2))
