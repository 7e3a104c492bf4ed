-- What a command does, cut into what is foreseen of it, what it does, and its acknowledgement.
use Rattle.std.proofs.Common.{◌≡◌, ◌≢◌, ℕ, ◌⊎◌, inl, inr, Bool, true, false, cond, Option, Some, None, Result, Ok, Err, refl, sym, ap, subst, ◌∙◌}
use Rattle.std.specs.Prelude.{◌&&◌, not, is_some}
use Rattle.enet_codec.specs.declared.stop.Stop.{Stop}
use Rattle.enet_codec.specs.declared.stop.Stop.TheVariants as stop
use Rattle.enet_codec.specs.Message.{Message, Body, acknowledge, connect, verify_connect, disconnect, ping, send_reliable, send_unreliable, send_fragment, send_unsequenced, bandwidth_limit, throttle_configure, send_unreliable_fragment}
use Rattle.enet_inbox.specs.Inbox.{Inbox}
use Rattle.enet_inbox.specs.DataEffect.{arrival, passed_over}
use Rattle.enet_inbox.specs.DataEffect as kept_in
use Rattle.enet_inbox.proofs.Stops.{Tells, tells-if, tells-ok, tells-err, arrival_stays, arrival_tells, passed_tells, quiet_stays}
use Rattle.enet_peer.specs.Peering.{Peering}
use Rattle.enet_peer.specs.Endings.{is_later}
use Rattle.enet_peer.specs.CommandEffect.{Outcome, Stops, stopped, answered, answered_at, is_answered_in, is_connect, is_allowed, is_crowded_out, is_unasked, by_body, on_data, by_answer, by_arrival, obeyed, is_kept, wants_memory}
use Rattle.enet_peer.specs.Acting.{foreseen, foreseen_body, foreseen_data}
use Rattle.enet_peer.specs.Private.Acting.{taken_in, acted, acted_body, by_foresight}

foreseen-data : (p : Peering) (m : Message) → Tells (foreseen_data p m)
foreseen-data p m = tells-if (is_later p.state) (passed_over p.inbox m) (arrival p.inbox m).answer (passed_tells p.inbox m) (arrival_tells p.inbox m)

foreseen-body : (p : Peering) (m : Message) (body : Body) → Tells (foreseen_body p m body)
foreseen-body p m (acknowledge n t) = tells-ok true
foreseen-body p m (connect o) = tells-err stop.BadCommand (λ e. cc)
foreseen-body p m (verify_connect v) = tells-ok true
foreseen-body p m (disconnect i) = tells-ok true
foreseen-body p m ping = tells-ok true
foreseen-body p m (bandwidth_limit i o) = tells-ok true
foreseen-body p m (throttle_configure i a d) = tells-ok true
foreseen-body p m (send_reliable b) = foreseen-data p m
foreseen-body p m (send_unreliable n b) = foreseen-data p m
foreseen-body p m (send_fragment f b) = foreseen-data p m
foreseen-body p m (send_unsequenced g b) = foreseen-data p m
foreseen-body p m (send_unreliable_fragment f b) = foreseen-data p m

-- no want of memory is foreseen
foreseen-known : (p : Peering) (m : Message) → Tells (foreseen p m)
foreseen-known p m =
    tells-if (is_connect m.body) (Err stop.BadCommand) _ (tells-err stop.BadCommand (λ e. cc))
    (tells-if (is_allowed p.state m.body) _ (Err stop.NotConnected)
    (tells-if (is_unasked p m.body) (Err stop.NotConnected) _ (tells-err stop.NotConnected (λ e. cc))
    (tells-if (is_crowded_out p m) (Err stop.Waiting) (foreseen_body p m m.body) (tells-err stop.Waiting (λ e. cc)) (foreseen-body p m m.body)))
    (tells-err stop.NotConnected (λ e. cc)))

-- a data command, as foreseen and then done
passed-is : (p : Peering) (m : Message) (sent : Option ℕ) (r : Result Bool Stop) → by_answer p m sent r ≡ by_foresight p p m sent r
passed-is p m sent (Ok may) = refl
passed-is p m sent (Err why) = refl

arrived-is : (p : Peering) (m : Message) (sent : Option ℕ) (after : Inbox) (r : Result Bool Stop) → ((why : Stop) → r ≡ Err why → after ≡ p.inbox)
    → by_answer (record p { inbox = after }) m sent r ≡ by_foresight p (record p { inbox = after }) m sent r
arrived-is p m sent after (Ok may) stays = refl
arrived-is p m sent after (Err why) stays = ap (λ (b : Inbox). stopped (record p { inbox = b }) why) (stays why refl)

data-by : (p : Peering) (m : Message) (sent : Option ℕ) (l : Bool)
    → cond l (by_answer p m sent (passed_over p.inbox m)) (by_arrival p m sent (arrival p.inbox m))
    ≡ by_foresight p (record p { inbox = cond l p.inbox (arrival p.inbox m).after }) m sent (cond l (passed_over p.inbox m) (arrival p.inbox m).answer)
data-by p m sent true = passed-is p m sent (passed_over p.inbox m)
data-by p m sent false = arrived-is p m sent (arrival p.inbox m).after (arrival p.inbox m).answer (arrival_stays p.inbox m)

data-is : (p : Peering) (m : Message) (sent : Option ℕ) → on_data p m sent ≡ by_foresight p (taken_in p m) m sent (foreseen_data p m)
data-is p m sent = data-by p m sent (is_later p.state)

body-is : (p : Peering) (now : ℕ) (sent : Option ℕ) (m : Message) (body : Body)
    → by_body p now sent m body ≡ by_foresight p (acted_body p now (is_some sent) m body) m sent (foreseen_body p m body)
body-is p now sent m (acknowledge n t) = refl
body-is p now sent m (connect o) = refl
body-is p now sent m (verify_connect v) = refl
body-is p now sent m (disconnect i) = refl
body-is p now sent m ping = refl
body-is p now sent m (bandwidth_limit i o) = refl
body-is p now sent m (throttle_configure i a d) = refl
body-is p now sent m (send_reliable b) = data-is p m sent
body-is p now sent m (send_unreliable n b) = data-is p m sent
body-is p now sent m (send_fragment f b) = data-is p m sent
body-is p now sent m (send_unsequenced g b) = data-is p m sent
body-is p now sent m (send_unreliable_fragment f b) = data-is p m sent

tested-is : (p after : Peering) (m : Message) (sent : Option ℕ) (is_bad may_come unasked crowded : Bool) (o : Outcome) (r : Result Bool Stop) → o ≡ by_foresight p after m sent r
    → cond is_bad (stopped p stop.BadCommand) (cond may_come (cond unasked (stopped p stop.NotConnected) (cond crowded (stopped p stop.Waiting) o)) (stopped p stop.NotConnected))
    ≡ by_foresight p after m sent (cond is_bad (Err stop.BadCommand) (cond may_come (cond unasked (Err stop.NotConnected) (cond crowded (Err stop.Waiting) r)) (Err stop.NotConnected)))
tested-is p after m sent true may_come unasked crowded o r e = refl
tested-is p after m sent false true true crowded o r e = refl
tested-is p after m sent false true false true o r e = refl
tested-is p after m sent false true false false o r e = e
tested-is p after m sent false false unasked crowded o r e = refl

-- the outcome of a command, by its three steps
pub obeyed_is : (p : Peering) (now : ℕ) (sent : Option ℕ) (m : Message) → obeyed p now sent m ≡ by_foresight p (acted p now (is_some sent) m) m sent (foreseen p m)
obeyed_is p now sent m = tested-is p (acted p now (is_some sent) m) m sent (is_connect m.body) (is_allowed p.state m.body) (is_unasked p m.body) (is_crowded_out p m) _ (foreseen_body p m m.body) (body-is p now sent m m.body)

answer-given : (p : Peering) (m : Message) (sent : Option ℕ) (b : Bool)
    → ((cond b (answered_at p m.head sent) (record { stop = None; after = p })).stop ≡ None) ⊎ ((cond b (answered_at p m.head sent) (record { stop = None; after = p })).stop ≡ Some stop.NoSentTime)
answer-given p m sent false = inl refl
answer-given p m None true = inr refl
answer-given p m (Some time) true = inl refl

-- what an acknowledgement may stop
pub answer_stops : (p : Peering) (m : Message) (sent : Option ℕ) (may : Bool) → ((answered p m sent may).stop ≡ None) ⊎ ((answered p m sent may).stop ≡ Some stop.NoSentTime)
answer_stops p m sent may = answer-given p m sent (m.head.acknowledge && may && is_answered_in p.state m.body)

stops-with : (wants : Bool) (p new : Peering) (why : Stop) → why ≢ stop.Memory → new ≡ p → Stops why wants (stopped p why) p new
stops-with wants p new stop.Memory known same = absurd (known refl)
stops-with wants p new stop.Short known same = (refl, same)
stops-with wants p new stop.Compressed known same = (refl, same)
stops-with wants p new stop.UnknownPeer known same = (refl, same)
stops-with wants p new stop.WrongAddress known same = (refl, same)
stops-with wants p new stop.WrongSession known same = (refl, same)
stops-with wants p new stop.BadCommand known same = (refl, same)
stops-with wants p new stop.NotConnected known same = (refl, same)
stops-with wants p new stop.BadChannel known same = (refl, same)
stops-with wants p new stop.BadFragment known same = (refl, same)
stops-with wants p new stop.Waiting known same = (refl, same)
stops-with wants p new stop.NoSentTime known same = (refl, same)
stops-with wants p new stop.NoSlot known same = (refl, same)

-- a stop before the command has an effect
pub stopped_before : (p new : Peering) (now : ℕ) (sent : Option ℕ) (m : Message) (why : Stop) → foreseen p m ≡ Err why → new ≡ p → Stops why (wants_memory p now sent m) (obeyed p now sent m) p new
stopped_before p new now sent m why e same =
    let is : stopped p why ≡ obeyed p now sent m = sym (obeyed_is p now sent m ∙ ap (by_foresight p (acted p now (is_some sent) m) m sent) e) in
    subst (λ (o : Outcome). Stops why (wants_memory p now sent m) o p new) is (stops-with (wants_memory p now sent m) p new why (foreseen-known p m why e) same)

-- want of memory
pub no_memory : (p new : Peering) (now : ℕ) (sent : Option ℕ) (m : Message) (may : Bool) (why : Stop) → foreseen p m ≡ Ok may → why ≡ stop.Memory → wants_memory p now sent m ≡ true → new ≡ p
    → Stops why (wants_memory p now sent m) (obeyed p now sent m) p new
no_memory p new now sent m may why e memory wanted same =
    let is : answered (acted p now (is_some sent) m) m sent may ≡ obeyed p now sent m = sym (obeyed_is p now sent m ∙ ap (by_foresight p (acted p now (is_some sent) m) m sent) e) in
    subst (λ (w : Stop). Stops w (wants_memory p now sent m) (obeyed p now sent m) p new) (sym memory)
    (subst (λ (o : Outcome). Stops stop.Memory (wants_memory p now sent m) o p new) is (wanted, answer_stops (acted p now (is_some sent) m) m sent may, same))

stays-if-quiet : (later : Bool) (b after : Inbox) → (later ≡ false → after ≡ b) → cond later b after ≡ b
stays-if-quiet true b after e = refl
stays-if-quiet false b after e = e refl

-- a data command of which nothing is kept leaves the peer as it was
pub quiet_taken : (p : Peering) (m : Message) → is_kept p m ≡ false → taken_in p m ≡ p
quiet_taken p m n =
    ap (λ (b : Inbox). record p { inbox = b })
    (stays-if-quiet (is_later p.state) p.inbox (arrival p.inbox m).after (λ l. quiet_stays p.inbox m (ap (λ b. not b && kept_in.is_kept p.inbox m) (sym l) ∙ n)))

not-left : (b c : Bool) → (not b && c) ≡ true → b ≡ false
not-left true c e = absurd (cc)
not-left false c e = refl

-- one of which something is kept is taken in
pub kept_taken : (p : Peering) (m : Message) → is_kept p m ≡ true → taken_in p m ≡ record p { inbox = (arrival p.inbox m).after }
kept_taken p m k = ap (λ b. record p { inbox = cond b p.inbox (arrival p.inbox m).after }) (not-left (is_later p.state) (kept_in.is_kept p.inbox m) k)
