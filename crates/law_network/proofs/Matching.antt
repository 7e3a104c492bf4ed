-- Each deed that takes effect is the event that it is named after, and the others change nothing.
use Rattle.std.proofs.Common.{◌≡◌, ℕ, ◌⊎◌, inl, inr, Bool, true, false, cond, refl, sym, ap, ◌∙◌, Option, Some, None, Result, Ok, Err, ◌&&◌}
use Rattle.enet_codec.specs.declared.refusal.Refusal.{Refusal}
use Rattle.enet_codec.specs.declared.refusal.Refusal.TheVariants as refusal
use Rattle.enet_codec.specs.declared.stop.Stop.{Stop}
use Rattle.enet_codec.specs.declared.stop.Stop.TheVariants as stop
use Rattle.enet_codec.specs.Message.{Message}
use Rattle.enet_peer.specs.Peering.{Peering}
use Rattle.enet_peer.specs.CommandEffect.{Outcome, Obeys, obeyed, wants_memory}
use Rattle.enet_peer.specs.Calls.{is_connected, with_throttle}
use Rattle.law_connection.specs.Connection.{Put, End}
use Rattle.law_connection.specs.Steps.{Setting, MaySet, Happens, with_peer, with_setting}
use Rattle.law_connection.specs.Steps as setting
use Rattle.enet_peer.specs.Refusing.{confirms, heeded, turned_away}
use Rattle.law_network.specs.Deeds.{Deed, Alone, Sets}
use Rattle.law_network.specs.Deeds as deed
use Rattle.law_network.specs.Ends.{Brings, Matches, is_heeded, takes_effect, event_of, end_after}
use Rattle.law_network.proofs.Accepting.{accepted}
use Rattle.law_network.proofs.Stopping.{Keeps, keeps-obeyed}

some : (p q : Peering) → p ≡ q → ◌≡◌ {A = Option Peering} (Some q) (Some p)
some p q e = ap (λ (x : Peering). Some x) (sym e)

ok-same : (a b : Peering) → ◌≡◌ {A = Result Peering Refusal} (Ok a) (Ok b) → b ≡ a
ok-same a b e = cc

-- what was set
throttled : (interval acceleration deceleration : ℕ) (old new : Peering) (b : Bool) → is_connected old.state ≡ b
    → ◌≡◌ {A = Result Peering Refusal} (cond b (Ok (with_throttle old interval acceleration deceleration)) (Err refusal.NotConnected)) (Ok new) → (is_connected old.state ≡ true) × (new ≡ with_throttle old interval acceleration deceleration)
throttled interval acceleration deceleration old new true e h = (e, ok-same (with_throttle old interval acceleration deceleration) new h)
throttled interval acceleration deceleration old new false e h = absurd (cc)

pub was-set : (s : Setting) (done : Unit {0}) (old new : Peering) → Sets s (Ok done) old new → MaySet s old × (new ≡ with_setting s old)
was-set (setting.Bandwidth incoming outgoing) done old new h = (tt, ok-same (with_setting (setting.Bandwidth incoming outgoing) old) new h.0)
was-set (setting.Throttle interval acceleration deceleration) done old new h = throttled interval acceleration deceleration old new (is_connected old.state) refl h.0
was-set (setting.ThrottleLimit limit) done old new h = (tt, ok-same (with_setting (setting.ThrottleLimit limit) old) new h)
was-set (setting.PingInterval ms) done old new h = (tt, ok-same (with_setting (setting.PingInterval ms) old) new h)
was-set (setting.Timeout limit minimum maximum) done old new h = (tt, ok-same (with_setting (setting.Timeout limit minimum maximum) old) new h)

not-set : (s : Setting) (why : Refusal) (old new : Peering) → Sets s (Err why) old new → new ≡ old
not-set (setting.Bandwidth incoming outgoing) why old new h = h.0.1
not-set (setting.Throttle interval acceleration deceleration) why old new h = h.0.1
not-set (setting.ThrottleLimit limit) why old new h = h.1
not-set (setting.PingInterval ms) why old new h = h.1
not-set (setting.Timeout limit minimum maximum) why old new h = h.1

-- a command that took effect, and one that stopped its datagram
came : (answer : Result (Unit {0}) Stop) (wants : Bool) (o : Outcome) (old new : Peering) → is_heeded answer ≡ true → Obeys answer wants o old new → new ≡ o.after
came (Ok done) wants o old new e h = h.1
came (Err stop.NoSentTime) wants o old new e h = h.1
came (Err why) wants o old new e h = absurd (cc)

kept : (p q : Peering) (o : Outcome) (why : Stop) → Keeps p o → (why ≡ stop.NoSentTime → ⊥) → o.stop ≡ Some why → q ≡ o.after → q ≡ p
kept p q o why keeps n e after = by (keeps why e)
  where
    by : (why ≡ stop.NoSentTime) ⊎ (o.after ≡ p) → q ≡ p
    by (inl no') = absurd (n no')
    by (inr same) = after ∙ same

stopped : (answer : Result (Unit {0}) Stop) (wants : Bool) (o : Outcome) (old new : Peering) → Keeps old o → is_heeded answer ≡ false → Obeys answer wants o old new → new ≡ old
stopped (Ok done) wants o old new keeps e h = absurd (cc)
stopped (Err stop.NoSentTime) wants o old new keeps e h = absurd (cc)
stopped (Err stop.Memory) wants o old new keeps e h = h.2
stopped (Err why) wants o old new keeps e h = kept old new o why keeps (λ no'. absurd (cc)) h.0 h.1

-- what a full host refuses stops nothing
keeps-heeded : (full : Bool) (p : Peering) (now : ℕ) (sent : Option ℕ) (m : Message) → Keeps p (heeded full p now sent m)
keeps-heeded full p now sent m = by (full && confirms p m)
  where
    by : (b : Bool) → Keeps p (cond b (record { stop = None; after = turned_away p }) (obeyed p now sent m))
    by true = λ why e. absurd (let y : ◌≡◌ {A = Option Stop} None (Some why) = e in cc)
    by false = keeps-obeyed p now sent m

matches-done : (own other : End) (d : Deed) (old new : Peering) (put : Put) → own.peer ≡ Some old → Alone d old new → takes_effect d ≡ true → Brings own other d put
    → Happens own other (event_of d put) (end_after own other d old new) × ((end_after own other d old new).peer ≡ Some new)
matches-done own other (deed.Submit q limit (Ok done)) old new put e alone effect brings = ((old, e, accepted limit old q.channel (record { flags = q.flags; body = q.body }) alone.0, refl), some new _ alone.1)
matches-done own other (deed.Submit q limit (Err why)) old new put e alone effect brings = absurd (cc)
matches-done own other (deed.Emit now given) old new put e alone effect brings = ((old, e, refl), some new _ alone.1)
matches-done own other (deed.Come a m answer) old new put e alone effect brings = (
  (
    old,
    e,
    brings.1,
    a.full,
    ap (λ (x : Peering). with_peer own x)
        (came answer (wants_memory old a.now a.sent m) (heeded a.full old a.now a.sent m) old new effect alone ∙ ap (λ (x : Message). (heeded a.full old a.now a.sent x).after) (sym brings.0)),
  ),
  refl,
)
matches-done own other (deed.Tick now short) old new put e alone effect brings = ((old, e, short, ap (λ (x : Peering). with_peer own x) alone), refl)
matches-done own other (deed.Take None) old new put e alone effect brings = absurd (cc)
matches-done own other (deed.Take (Some t)) old new put e alone effect brings = ((old, new, t, e, alone, refl), refl)
matches-done own other (deed.Disconnect way info (Ok done)) old new put e alone effect brings = ((old, new, e, alone, refl), refl)
matches-done own other (deed.Disconnect way info (Err why)) old new put e alone effect brings = absurd (cc)
matches-done own other (deed.Set s (Ok done)) old new put e alone effect brings =
    let set = was-set s done old new alone in ((old, e, set.0, ap (λ (x : Peering). with_peer own x) set.1), refl)
matches-done own other (deed.Set s (Err why)) old new put e alone effect brings = absurd (cc)
matches-done own other deed.GiveWay old new put e alone effect brings = ((old, e, alone.0, ap (λ (x : Peering). with_peer own x) alone.1), refl)
matches-done own other deed.TellAgain old new put e alone effect brings = ((old, e, alone.0, ap (λ (x : Peering). with_peer own x) alone.1), refl)

matches-refused : (d : Deed) (old new : Peering) → Alone d old new → takes_effect d ≡ false → new ≡ old
matches-refused (deed.Submit q limit (Ok done)) old new alone none = absurd (cc)
matches-refused (deed.Submit q limit (Err e)) old new alone none = alone.1
matches-refused (deed.Emit now given) old new alone none = absurd (cc)
matches-refused (deed.Come a m answer) old new alone none = stopped answer (wants_memory old a.now a.sent m) (heeded a.full old a.now a.sent m) old new (keeps-heeded a.full old a.now a.sent m) none alone
matches-refused (deed.Tick now short) old new alone none = absurd (cc)
matches-refused (deed.Take None) old new alone none = alone.1
matches-refused (deed.Take (Some t)) old new alone none = absurd (cc)
matches-refused (deed.Disconnect way info (Ok done)) old new alone none = absurd (cc)
matches-refused (deed.Disconnect way info (Err why)) old new alone none = alone.2
matches-refused (deed.Set s (Ok done)) old new alone none = absurd (cc)
matches-refused (deed.Set s (Err why)) old new alone none = not-set s why old new alone
matches-refused deed.GiveWay old new alone none = absurd (cc)
matches-refused deed.TellAgain old new alone none = absurd (cc)

pub matches : Matches
matches = record { done = matches-done; refused = matches-refused }
