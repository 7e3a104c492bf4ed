-- Runs of a server, and orders between them, as one run, and what its clients take.
use Rattle.std.proofs.Common.{◌≡◌, ℕ, Bool, true, List, [], ◌∷◌, ◌++◌, map, length, refl, sym, ap, subst, ◌∙◌, append_assoc, Option, Some, None, slice_get}
use Rattle.std.specs.List.{All}
use Rattle.std.proofs.lemmas.List.{append-nil, map-append}
use Rattle.std.proofs.lemmas.List.Elements.{All-nil, All-append}
use Rattle.enet_codec.specs.declared.address.Addr.{Addr}
use Rattle.enet_codec.specs.declared.config.Config.{Config}
use Rattle.enet_codec.specs.Config as config
use Rattle.enet_codec.specs.declared.event.Event.{Event}
use Rattle.enet_codec.specs.declared.event.PeerRef.{PeerRef}
use Rattle.enet_submit.specs.declared.order.Order.{Order}
use Rattle.enet_submit.specs.declared.order.Submission.{Submission}
use Rattle.enet_events.specs.declared.numbered.Numbered.{Numbered}
use Rattle.enet_host.specs.Host.{Host}
use Rattle.enet_bridge.specs.Ends.{orders}
use Rattle.enet_chat.specs.Relaying.{noted_all, relayed_all, SameForEach}
use Rattle.enet_chat.proofs.Relays.{noted_more, on_for_each, joined}
use Rattle.enet_turn.specs.declared.report.Report.{Report}
use Rattle.enet_service.specs.declared.run_length.RunLength.{RunLength}
use Rattle.enet_turn.specs.declared.service.Service.{Service}
use Rattle.enet_codec.specs.declared.event.DisconnectMode.TheVariants.{Now}
use Rattle.enet_turn.specs.Hosting.{host_calls}
use Rattle.enet_service.specs.Queues.{given, accepted}
use Rattle.enet_turn.specs.Turn.{Round}
use Rattle.enet_turn.specs.Run.{IsSound, all_gave, all_told, all_puts}
use Rattle.enet_turn.specs.LoneTurn.{Kind, AreAmong, RoundsOf, beside}
use Rattle.enet_service.specs.ServiceRuns.{beginning, limited}
use Rattle.enet_turn.proofs.Among.{rounds_among}
use Rattle.enet_turn.proofs.PhaseSteps.{chain_more}
use Rattle.enet_service.proofs.Spells.{given_both, accepted_both}
use Rattle.enet_serve.specs.declared.server.ChatServer.{ChatServer}
use Rattle.enet_serve.specs.declared.server.Settings.{Settings}
use Rattle.enet_serve.specs.Leaving.{Leaves}
use Rattle.enet_serve.specs.Serving.{Serves, IsCutOff, IsRelayed, IsOpened, service_of, told_of, faults_of, peers_of, backlog_of, orders_of, config_of}
use Rattle.enet_serve.proofs.Partings.{spans-of-leave}
use Rattle.enet_serve.proofs.TurnByTurn.{told_none, told_further}
use Rattle.enet_wire.specs.declared.told.Told.{Told}
use Rattle.enet_wire.specs.Wires.{unless_spent, is_spent}
use Rattle.law_network.specs.Calls.{Call}
use Rattle.law_headline.specs.Nets.{Net, open_net}
use Rattle.law_headline.specs.Page.{User, IsHeadline, IsBehind}
use Rattle.law_headline.proofs.Page.{holds-behind}
use Rattle.enet_turn.specs.Spans.{Span, Spans, rounds_in}
use Rattle.law_service.specs.EndToEnd.{Running, user_of, configs, AllMake, asked}
use Rattle.law_service.proofs.Lifting.{begun-life}
use Rattle.law_service.proofs.EndToEnd.{end-to-end, behind-at}
use Rattle.law_service.specs.Queues.{AtQueues}
use Rattle.law_service.proofs.Queues.{each-moment, sent-is, put-is}
use Rattle.law_relay.specs.Relay.{AreEnds, AreMerged, Relaying}
use Rattle.law_relay.proofs.Merged.{ends-both, only-first, only-second, merged-both, merged-more}
use Rattle.law_relay.proofs.Refusals.{has-answers, between-pairs-unless}
use Rattle.law_relay.proofs.Unreliable.{between-pairs-on-one}
use Rattle.law_relay.specs.Chat.{Runs, Orders, IsOrdered, ServesAll, ordered_in, turns_in, expanded_in, last_turns, Served, EachServed, HasServed, EachHasServed, EachCutOff, IsServing, GoesOn, EachServesOn, Played, hosts_of, users_of, users_by, ChatsInOrder, OfChatServer, OfChatThreads}

none : (kind : Kind) (s t : ChatServer) → t ≡ s → Served kind s [] [] [] t
none kind s t e = record {
  asked_for = [];
  all_asked_for = [];
  turns = ap service_of e;
  sound = All-nil IsSound;
  faults = ap faults_of e;
  told = ap told_of e ∙ told_none (is_spent (faults_of s)) (told_of s);
  events = append-nil (backlog_of s) ∙ ap backlog_of (sym e);
  peers = ap peers_of e;
  for_each = λ peer. refl;
  ends = tt;
  merged = (refl, refl);
  orders_done = append-nil (orders_of s) ∙ ap orders_of (sym e);
}

by-orders : (kind : Kind) (old : ChatServer) (os : List Order) (new : ChatServer) → AreEnds os → IsOrdered old os new → Served kind old [] [] os new
by-orders kind old os new ends o = record {
  asked_for = [];
  all_asked_for = os;
  turns = (λ i. record { host = o.host i; waiting = o.waiting i });
  sound = All-nil IsSound;
  faults = o.faults;
  told = o.told ∙ told_none (is_spent (faults_of old)) (told_of old);
  events = append-nil (backlog_of old) ∙ sym o.backlog;
  peers = o.peers;
  for_each = λ peer. refl;
  ends = ends;
  merged = only-second os;
  orders_done = sym o.orders_are;
}

one : (its kind : Kind) → AreAmong its kind → (many : ℕ) (old : ChatServer) (run_length : RunLength) (new : ChatServer) (report : Report) → (s : Serves its many old run_length new report) → Served kind old s.rounds s.expanded [] new
one its kind among many old run_length new report s = record {
  asked_for = s.asked_for;
  all_asked_for = s.asked_for;
  turns = rounds_among its kind among host_calls (service_of old) s.rounds (service_of new) s.turns;
  sound = s.sound;
  faults = s.faults;
  told = s.told;
  events = s.events;
  peers = s.peers;
  for_each = s.for_each;
  ends = tt;
  merged = only-first s.asked_for;
  orders_done = s.orders_done;
}

more : (kind : Kind) (a b c : ChatServer) (xs ys : List Round) (es fs : List Event) (os us : List Order) → Served kind a xs es os b → Served kind b ys fs us c → Served kind a (xs ++ ys) (es ++ fs) (os ++ us) c
more kind a b c xs ys es fs os us p q = record {
  asked_for = p.asked_for ++ q.asked_for;
  all_asked_for = p.all_asked_for ++ q.all_asked_for;
  turns = chain_more _ (service_of a) xs (service_of b) ys (service_of c) p.turns q.turns;
  sound = All-append IsSound xs ys p.sound q.sound;
  faults = q.faults ∙ p.faults;
  told = told_further (faults_of a) (faults_of b) (told_of a) (told_of b) (told_of c) xs ys p.faults p.told q.told;
  events = ap (λ (es : List Event). backlog_of a ++ es) (accepted_both xs ys)
      ∙ joined (backlog_of a) (backlog_of b) (backlog_of c) (accepted (all_puts xs)) (accepted (all_puts ys)) es fs p.events q.events;
  peers = q.peers ∙ (ap (λ (ps : List PeerRef). noted_all ps fs) p.peers ∙ sym (noted_more (peers_of a) es fs));
  for_each = on_for_each p.asked_for q.asked_for (peers_of a) (peers_of b) es fs p.peers p.for_each q.for_each;
  ends = ends-both os us p.ends q.ends;
  merged = merged-both p.asked_for os p.all_asked_for q.asked_for us q.all_asked_for p.merged q.merged;
  orders_done = joined (orders_of a) (orders_of b) (orders_of c) p.all_asked_for q.all_asked_for (orders (given (all_gave xs))) (orders (given (all_gave ys))) p.orders_done q.orders_done
      ∙ ap (λ (os : List Order). os ++ orders_of c) (sym (ap orders (given_both xs ys) ∙ map-append (λ (x : Submission). x.order) (given (all_gave xs)) (given (all_gave ys))));
}

pub each-served : EachServed
each-served kind old [] new h = none kind old new h
each-served kind old (Runs run_length report ∷ steps) new h =
    more kind old h.0 new h.1.3.rounds (turns_in kind h.0 steps new h.2) h.1.3.expanded (expanded_in kind h.0 steps new h.2) [] (ordered_in steps)
    (one h.1.0 kind h.1.1 h.1.2 old run_length h.0 report h.1.3) (each-served kind h.0 steps new h.2)
each-served kind old (Orders os ∷ steps) new h =
    more kind old h.0 new [] (turns_in kind h.0 steps new h.2) [] (expanded_in kind h.0 steps new h.2) os (ordered_in steps) (by-orders kind old os h.0 h.1.0 h.1.1) (each-served kind h.0 steps new h.2)

-- runs, of which the wire may have cut off the last
record Did (kind : Kind) (old : ChatServer) (rounds : List Round) (expanded : List Event) (ordered : List Order) (new : ChatServer) : Type 0 where
  asked_for : List Order
  all_asked_for : List Order
  turns : RoundsOf kind host_calls (service_of old) rounds (service_of new)
  told : told_of new ≡ told_of old ++ unless_spent (faults_of old) (all_told rounds)
  events : backlog_of old ++ accepted (all_puts rounds) ≡ expanded ++ backlog_of new
  peers : peers_of new ≡ noted_all (peers_of old) expanded
  for_each : SameForEach asked_for (relayed_all (peers_of old) expanded)
  ends : AreEnds ordered
  merged : AreMerged asked_for ordered all_asked_for
  orders_done : orders_of old ++ all_asked_for ≡ orders (given (all_gave rounds)) ++ orders_of new

did : (kind : Kind) (old : ChatServer) (rounds : List Round) (expanded : List Event) (ordered : List Order) (new : ChatServer) → Served kind old rounds expanded ordered new → Did kind old rounds expanded ordered new
did kind old rounds expanded ordered new s = record {
  asked_for = s.asked_for;
  all_asked_for = s.all_asked_for;
  turns = s.turns;
  told = s.told;
  events = s.events;
  peers = s.peers;
  for_each = s.for_each;
  ends = s.ends;
  merged = s.merged;
  orders_done = s.orders_done;
}

then-cut : (kind : Kind) (a b c : ChatServer) (xs : List Round) (es : List Event) (os : List Order) → Served kind a xs es os b → (its : Kind) → AreAmong its kind → (run_length : RunLength) (o : IsCutOff its run_length b c) (q : IsRelayed b o.rounds c)
    → Did kind a (xs ++ o.rounds) (es ++ q.expanded) os c
then-cut kind a b c xs es os p its among run_length o q = record {
  asked_for = p.asked_for ++ q.asked_for;
  all_asked_for = p.all_asked_for ++ q.asked_for;
  turns = chain_more _ (service_of a) xs (service_of b) o.rounds (service_of c) p.turns (rounds_among its kind among host_calls (service_of b) o.rounds (service_of c) o.turns);
  told = told_further (faults_of a) (faults_of b) (told_of a) (told_of b) (told_of c) xs o.rounds p.faults p.told o.told;
  events = ap (λ (es : List Event). backlog_of a ++ es) (accepted_both xs o.rounds)
      ∙ joined (backlog_of a) (backlog_of b) (backlog_of c) (accepted (all_puts xs)) (accepted (all_puts o.rounds)) es q.expanded p.events q.events;
  peers = q.peers ∙ (ap (λ (ps : List PeerRef). noted_all ps q.expanded) p.peers ∙ sym (noted_more (peers_of a) es q.expanded));
  for_each = on_for_each p.asked_for q.asked_for (peers_of a) (peers_of b) es q.expanded p.peers p.for_each q.for_each;
  ends = p.ends;
  merged = merged-more p.asked_for os p.all_asked_for q.asked_for p.merged;
  orders_done = joined (orders_of a) (orders_of b) (orders_of c) p.all_asked_for q.asked_for (orders (given (all_gave xs))) (orders (given (all_gave o.rounds))) p.orders_done q.orders_done
      ∙ ap (λ (os : List Order). os ++ orders_of c) (sym (ap orders (given_both xs o.rounds) ∙ map-append (λ (x : Submission). x.order) (given (all_gave xs)) (given (all_gave o.rounds))));
}

-- a fresh server's wire has told of these turns alone
told-fresh : (settings : Settings) (fresh : ChatServer) → IsOpened settings fresh → (told : List Told) (rounds : List Round) → told ≡ told_of fresh ++ unless_spent (faults_of fresh) (all_told rounds) → told ≡ all_told rounds
told-fresh settings fresh opened told rounds t = t ∙ (λ i. opened.told i ++ unless_spent (opened.faults i) (all_told rounds))

has-served : (kind : Kind) (settings : Settings) (fresh : ChatServer) (rounds : List Round) (expanded : List Event) (ordered : List Order) (served : ChatServer) (left : Service Host) → IsOpened settings fresh → Did kind fresh rounds expanded ordered served
    → (leaves : Leaves (service_of served) left) → HasServed settings rounds expanded ordered served (last_turns leaves) left
has-served kind settings fresh rounds expanded ordered served left opened s leaves = record {
  serving = record { running = r; relaying = relaying; config = refl; limit = refl };
  left_is = refl;
  rounds_are = refl;
  told = told-fresh settings fresh opened (told_of served) rounds s.told;
  expanded_are = refl;
  ordered_are = refl;
  untaken = untaken;
  backlog = refl;
  waits = refl;
  peers = s.peers ∙ ap (λ (ps : List PeerRef). noted_all ps expanded) opened.peers;
}
  where
    leave-spans : List Span
    leave-spans = leaves.spans ++ leaves.last ∷ []

    more-rounds : List Round
    more-rounds = rounds_in leave-spans

    untaken : List Event
    untaken = accepted (all_puts more-rounds)

    begins : service_of fresh ≡ limited settings.send_limit (beginning (config_of settings))
    begins = (λ i. record { host = opened.host i; waiting = opened.waiting i })

    turns : RoundsOf kind host_calls (limited settings.send_limit (beginning (config_of settings))) rounds (service_of served)
    turns = subst (λ (t : Service Host). RoundsOf kind host_calls t rounds (service_of served)) begins s.turns

    -- its runs, and what came after them
    spans : List Span
    spans = (record { kind = kind; rounds = rounds; how = Now; parted = [] }) ∷ leave-spans

    acts : Spans host_calls (limited settings.send_limit (beginning (config_of settings))) spans left
    acts = (service_of served, (service_of served, turns, refl), spans-of-leave (service_of served) left leaves)

    r : Running
    r = (let m = begun-life (config_of settings) settings.send_limit spans left acts in
        record { config = config_of settings; limit = settings.send_limit; spans = spans; left = left; calls = m.0; turns = m.2 })

    all-orders : s.all_asked_for ≡ orders (given (all_gave (rounds ++ more-rounds))) ++ orders_of served
    all-orders = ap (λ (os : List Order). os ++ s.all_asked_for) (sym opened.orders) ∙ s.orders_done
        ∙ ap (λ (xs : List Submission). orders xs ++ orders_of served) (sym (given_both rounds more-rounds ∙ ap (λ (xs : List Submission). given (all_gave rounds) ++ xs) leaves.no_orders ∙ append-nil (given (all_gave rounds))))

    relaying : Relaying r
    relaying = record {
      expanded = expanded;
      backlog = backlog_of served ++ untaken;
      asked_for = s.asked_for;
      ordered = ordered;
      waits = orders_of served;
      events = accepted_both rounds more-rounds ∙ ap (λ (es : List Event). es ++ untaken) (ap (λ (es : List Event). es ++ accepted (all_puts rounds)) (sym opened.backlog) ∙ s.events)
          ∙ append_assoc expanded (backlog_of served) untaken;
      for_each = subst (λ (ps : List PeerRef). SameForEach s.asked_for (relayed_all ps expanded)) opened.peers s.for_each;
      ends = s.ends;
      orders_done = subst (λ (os : List Order). AreMerged s.asked_for ordered os) all-orders s.merged;
    }

pub each-has-served : EachHasServed
each-has-served kind settings fresh served steps left opened h leaves =
    has-served kind settings fresh (turns_in kind fresh steps served h) (expanded_in kind fresh steps served h) (ordered_in steps) served left opened
    (did kind fresh (turns_in kind fresh steps served h) (expanded_in kind fresh steps served h) (ordered_in steps) served (each-served kind fresh steps served h)) leaves

pub each-cut-off : EachCutOff
each-cut-off kind settings fresh served steps cut left opened h its among run_length c relayed leaves =
    has-served kind settings fresh (turns_in kind fresh steps served h ++ c.rounds) (expanded_in kind fresh steps served h ++ relayed.expanded) (ordered_in steps) cut left opened
    (then-cut kind fresh served cut (turns_in kind fresh steps served h) (expanded_in kind fresh steps served h) (ordered_in steps) (each-served kind fresh steps served h) its among run_length c relayed) leaves

-- ---- a run that goes on
pub each-serves-on : EachServesOn
each-serves-on kind settings fresh served steps rounds left opened h turns g = (
  record { running = r; relaying = relaying; config = refl; limit = refl },
  refl,
  ap (λ (rs : List Round). before ++ rs) (append-nil rounds),
  told-fresh settings fresh opened (told_of served) before s.told,
  refl,
  refl,
)
  where
    before : List Round
    before = turns_in kind fresh steps served h

    expanded : List Event
    expanded = expanded_in kind fresh steps served h

    s : Served kind fresh before expanded (ordered_in steps) served
    s = each-served kind fresh steps served h

    shown : (q : AtQueues rounds) × (q.sent ≡ g.sent) × (q.taker.taken ≡ g.got)
    shown = each-moment rounds g.sent g.got g.moment

    q : AtQueues rounds
    q = shown.0

    untaken : List Event
    untaken = map (λ (x : Numbered). x.event) q.waits

    backlog : List Event
    backlog = g.backlog ++ untaken

    waits : List Order
    waits = orders q.held ++ g.waits

    begins : service_of fresh ≡ limited settings.send_limit (beginning (config_of settings))
    begins = (λ i. record { host = opened.host i; waiting = opened.waiting i })

    spans : List Span
    spans = record { kind = kind; rounds = before; how = Now; parted = [] } ∷ record { kind = beside; rounds = rounds; how = Now; parted = [] } ∷ []

    acts : Spans host_calls (limited settings.send_limit (beginning (config_of settings))) spans left
    acts = (service_of served, (service_of served, subst (λ (t : Service Host). RoundsOf kind host_calls t before (service_of served)) begins s.turns, refl), (left, (left, turns, refl), refl))

    r : Running
    r = (let m = begun-life (config_of settings) settings.send_limit spans left acts in
        record { config = config_of settings; limit = settings.send_limit; spans = spans; left = left; calls = m.0; turns = m.2 })

    all : rounds ++ [] ≡ rounds
    all = append-nil rounds

    first-events : accepted (all_puts before) ≡ expanded ++ backlog_of served
    first-events = ap (λ (es : List Event). es ++ accepted (all_puts before)) (sym opened.backlog) ∙ s.events

    more-events : backlog_of served ++ accepted (all_puts rounds) ≡ g.expanded ++ backlog
    more-events =
        ap (λ (es : List Event). backlog_of served ++ es) (put-is rounds q ∙ ap (λ (xs : List Numbered). map (λ (x : Numbered). x.event) xs ++ untaken) shown.2)
        ∙ sym (append_assoc (backlog_of served) (map (λ (x : Numbered). x.event) g.got) untaken) ∙ ap (λ (es : List Event). es ++ untaken) g.took ∙ append_assoc g.expanded g.backlog untaken

    first-orders : s.all_asked_for ≡ orders (given (all_gave before)) ++ orders_of served
    first-orders = ap (λ (os : List Order). os ++ s.all_asked_for) (sym opened.orders) ∙ s.orders_done

    more-orders : orders_of served ++ g.asked_for ≡ orders (given (all_gave rounds)) ++ waits
    more-orders =
        g.asked ∙ ap (λ (xs : List Submission). orders xs ++ g.waits) (sym shown.1 ∙ sent-is rounds q)
        ∙ ap (λ (os : List Order). os ++ g.waits) (map-append (λ (x : Submission). x.order) (given (all_gave rounds)) q.held) ∙ append_assoc (orders (given (all_gave rounds))) (orders q.held) g.waits

    all-orders : s.all_asked_for ++ g.asked_for ≡ orders (given (all_gave (before ++ (rounds ++ [])))) ++ waits
    all-orders = joined [] (orders_of served) waits s.all_asked_for g.asked_for (orders (given (all_gave before))) (orders (given (all_gave rounds))) first-orders more-orders
        ∙ ap (λ (os : List Order). os ++ waits) (sym (ap orders (given_both before (rounds ++ []) ∙ ap (λ (rs : List Round). given (all_gave before) ++ given (all_gave rs)) all)
        ∙ map-append (λ (x : Submission). x.order) (given (all_gave before)) (given (all_gave rounds))))

    relaying : Relaying r
    relaying = record {
      expanded = expanded ++ g.expanded;
      backlog = backlog;
      asked_for = s.asked_for ++ g.asked_for;
      ordered = ordered_in steps;
      waits = waits;
      events = accepted_both before (rounds ++ []) ∙ ap (λ (rs : List Round). accepted (all_puts before) ++ accepted (all_puts rs)) all
          ∙ joined [] (backlog_of served) backlog (accepted (all_puts before)) (accepted (all_puts rounds)) expanded g.expanded first-events more-events;
      for_each = subst (λ (ps : List PeerRef). SameForEach (s.asked_for ++ g.asked_for) (relayed_all ps (expanded ++ g.expanded))) opened.peers
          (on_for_each s.asked_for g.asked_for (peers_of fresh) (peers_of served) expanded g.expanded s.peers s.for_each g.for_each);
      ends = s.ends;
      orders_done = subst (λ (os : List Order). AreMerged (s.asked_for ++ g.asked_for) (ordered_in steps) os) all-orders (merged-more s.asked_for (ordered_in steps) s.all_asked_for g.asked_for s.merged);
    }

-- the pairs of a headline
chats : (hosts : Addr → Bool) (server : Running) (l : Relaying server) (users : ℕ → User) (asks : List (ℕ × PeerRef)) → (h : IsHeadline (user_of hosts server) users asks)
    → (c : ChatsInOrder hosts server l users asks) × ((x : ℕ) → c.headline.here x ≡ h.here x)
chats hosts server l users asks h = (
  record {
    headline = h;
    answers = has-answers server;
    pairs = λ x j there q is here. between-pairs-unless hosts server l (has-answers server) users asks h x j there q is here;
    on_one = λ x j there q is here. between-pairs-on-one hosts server l users asks h x j there q is here;
  },
  λ x. refl,
)

pub of-chat-server : OfChatServer
of-chat-server at apart settings low s clients fits play =
    let e = end-to-end at apart s.running clients (subst (λ (c : Config). config.is_in_range c ≡ true) (sym s.config) low) fits play.ms play.end
    (subst (λ (c : Config). AllMake at play.ms (open_net at c (configs clients)) play.end) (sym s.config) play.make) play.of_server play.of_clients in
    let c = chats (hosts_of at clients) s.running s.relaying (users_of at clients) (asked play.ms) e.0 in
    (c.0, (e.1.0, λ x. c.1 x ∙ e.1.1 x))

same-user : (u : User) → IsBehind u u
same-user u = record { more = λ p channel. ([], sym (append-nil (u.submitted p channel))); fewer = λ p. ([], sym (append-nil (u.taken p))); same = refl }

pub of-chat-threads : OfChatThreads
of-chat-threads at apart settings low s clients fits play threads =
    let e = of-chat-server at apart settings low s clients fits play in
    (chats (hosts_of at clients) s.running s.relaying (users_by at clients threads) (asked play.ms)
    (holds-behind (user_of (hosts_of at clients) s.running) (user_of (hosts_of at clients) s.running) (users_of at clients) (users_by at clients threads) (asked play.ms) (same-user (user_of (hosts_of at clients) s.running))
    (λ i. behind-at (hosts_of at clients) (slice_get clients i) (threads i)) e.0.headline)).0
