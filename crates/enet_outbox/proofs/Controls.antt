-- The commands of channel 0xFF, turn by turn.
use Rattle.std.proofs.Common.{◌≡◌, ℕ, ◌+◌, ◌-◌, ◌<◌, ◌≤◌, List, length, refl, sym, ap, ◌∙◌, subst, arith, Bool, true, false, cond, Option, Some, None}
use Rattle.enet_codec.specs.Message.{IsMessage, canonical}
use Rattle.enet_codec.specs.Writing.{Puts}
use Rattle.enet_senders.specs.declared.outgoing.Written.TheVariants as written
use Rattle.enet_senders.specs.Controlling.{Commands, Next, next, message_of, Did}
use Rattle.enet_outbox.specs.declared.parts.Pace.{Pace}
use Rattle.enet_outbox.specs.declared.packing.Progress.{Progress}
use Rattle.enet_outbox.specs.Outbox.{Outbox}
use Rattle.enet_outbox.specs.Emission.{Filling, fits, with_command, shut, repeated, control_step, with_one_control, with_controls, control_turns}
use Rattle.enet_outbox.specs.Private.Packing.{Holds, taken_in, place_in, Leads}
use Rattle.enet_outbox.proofs.Fillings.{fits-written, holds-written, unfit, holds-shut, leads-by, place-open, place-full}
use Rattle.enet_outbox.proofs.Repeats.{repeated-go, repeated-idle, repeated-shut}
use Rattle.enet_outbox.proofs.Turns.{control_left, control-most, control-falls}

-- what a call did
pub did-sent : (n : Option Next) (past : ℕ) (old new : Commands) (from : List ℕ) (at : ℕ) (to : List ℕ) → Did n (written.Sent past) old new (record { old = from; at = at; new = to }) →
    (k : Next) × (n ≡ Some k) × Puts from at (canonical (message_of k.command)) to past × (new ≡ k.commands) × IsMessage (message_of k.command)
did-sent None past old new from at to d = absurd d
did-sent (Some k) past old new from at to d = (k, refl, d.0, d.1, d.2)

did-full : (n : Option Next) (old new : Commands) (from : List ℕ) (at : ℕ) (to : List ℕ) → Did n written.NoRoom old new (record { old = from; at = at; new = to }) →
    (k : Next) × (n ≡ Some k) × (length from < at + length (canonical (message_of k.command))) × (new ≡ old) × (to ≡ from)
did-full None old new from at to d = absurd d
did-full (Some k) old new from at to d = (k, refl, d.0, d.1, d.2)

did-nothing : (n : Option Next) (old new : Commands) (from : List ℕ) (at : ℕ) (to : List ℕ) → Did n written.Nothing old new (record { old = from; at = at; new = to }) → (n ≡ None) × (new ≡ old) × (to ≡ from)
did-nothing None old new from at to d = (refl, d.0, d.1)
did-nothing (Some k) old new from at to d = absurd d

-- there was room for the command that was written
pub control-room : (p : Progress) (old new : Commands) (from to : List ℕ) (past : ℕ) (n : Option Next) → Did n (written.Sent past) old new (record { old = from; at = place_in p from; new = to }) → (0 < p.commands) × (p.at < length to)
control-room p old new from to past n d =
    let s = did-sent n past old new from (place_in p from) to d in
    let w = place-open p from (canonical (message_of s.0.command)) to past (omega arith) s.2 in
    (w.0, w.2)

-- so many turns more
abbrev more_controls : Pace → ℕ → Filling → Filling
more_controls pace turns f = repeated turns (with_one_control pace) f

controls-none : (pace : Pace) (turns : ℕ) (f : Filling) → f.closed ≡ false → next pace.now pace.timeout f.outbox.control ≡ None → more_controls pace turns f ≡ f
controls-none pace turns f opened e = repeated-idle turns (with_one_control pace) f opened (ap (control_step f) e)

controls-go : (pace : Pace) (turns : ℕ) (f : Filling) (k : Next) → 0 < turns → f.closed ≡ false → next pace.now pace.timeout f.outbox.control ≡ Some k → fits f (message_of k.command) ≡ true →
    more_controls pace turns f ≡ more_controls pace (turns - 1) (with_command f (message_of k.command) (record f.outbox { control = k.commands }))
controls-go pace turns f k some opened e fit =
    let go : Filling = with_command f (message_of k.command) (record f.outbox { control = k.commands }) in
    repeated-go turns (with_one_control pace) f go some opened (ap (control_step f) e ∙ ap (λ (b : Bool). cond b go (shut f)) fit)

controls-stop : (pace : Pace) (turns : ℕ) (f : Filling) (k : Next) → 0 < turns → f.closed ≡ false → next pace.now pace.timeout f.outbox.control ≡ Some k → fits f (message_of k.command) ≡ false →
    more_controls pace turns f ≡ shut f
controls-stop pace turns f k some opened e fit =
    let go : Filling = with_command f (message_of k.command) (record f.outbox { control = k.commands }) in
    repeated-shut turns (with_one_control pace) f some opened (ap (control_step f) e ∙ ap (λ (b : Bool). cond b go (shut f)) fit)

-- the stage has come so far
pub record ControlAt (pace : Pace) (f : Filling) (c : Commands) (p : Progress) (buf : List ℕ) : Type 0 where
  pub g : Filling
  pub turns : ℕ
  pub holds : Holds g p buf
  pub opened : g.closed ≡ false
  pub outbox : g.outbox ≡ record f.outbox { control = c }
  pub enough : control_left c ≤ turns
  pub stage : with_controls pace f ≡ more_controls pace turns g

pub control-begin : {pace : Pace} {f : Filling} {c : Commands} {p : Progress} {buf : List ℕ} → Holds f p buf → f.closed ≡ false → f.outbox.control ≡ c → ControlAt pace f c p buf
control-begin {pace} {f} {c} {p} {buf} h opened e = record {
  g = f;
  turns = control_turns f.outbox;
  holds = h;
  opened = opened;
  outbox = ap (λ (c : Commands). record f.outbox { control = c }) e;
  enough = let P : Commands → Type 0 = λ c. control_left c ≤ control_turns f.outbox in subst P e (control-most f.outbox.control);
  stage = refl;
}

here : {pace : Pace} {f : Filling} {c : Commands} {p : Progress} {buf : List ℕ} (a : ControlAt pace f c p buf) → next pace.now pace.timeout a.g.outbox.control ≡ next pace.now pace.timeout c
here {pace} a = ap (λ (o : Outbox). next pace.now pace.timeout o.control) a.outbox

pub control-put : {pace : Pace} {f : Filling} {c new : Commands} {p : Progress} {from to : List ℕ} {past : ℕ} → ControlAt pace f c p from →
    Did (next pace.now pace.timeout c) (written.Sent past) c new (record { old = from; at = place_in p from; new = to }) → ControlAt pace f new (taken_in p past to) to
control-put {pace} {f} {c} {new} {p} {from} {to} {past} a d =
    let s = did-sent (next pace.now pace.timeout c) past c new from (place_in p from) to d in
    let k = s.0 in
    let m = message_of k.command in
    let w = place-open p from (canonical m) to past (omega arith) s.2 in
    let o : Outbox = record a.g.outbox { control = k.commands } in
    let less = control-falls pace.now pace.timeout c k s.1 in
    let enough = a.enough in
    record {
      g = with_command a.g m o;
      turns = a.turns - 1;
      holds = holds-written m a.holds w.0 w.1 s.4 o;
      opened = refl;
      outbox = ap (λ (o : Outbox). record o { control = k.commands }) a.outbox ∙ ap (λ (c : Commands). record f.outbox { control = c }) (sym s.3);
      enough = let P : Commands → Type 0 = λ c. control_left c ≤ a.turns - 1 in subst P (sym s.3) (omega arith);
      stage = a.stage ∙ controls-go pace a.turns a.g k (omega arith) a.opened (here a ∙ s.1) (fits-written m a.holds w.0 w.1);
    }

pub control-full : {pace : Pace} {f : Filling} {c new : Commands} {p : Progress} {from to : List ℕ} → ControlAt pace f c p from →
    Did (next pace.now pace.timeout c) written.NoRoom c new (record { old = from; at = place_in p from; new = to }) →
    Leads (with_controls pace f) (record f.outbox { control = new }) (record p { closed = true }) to
control-full {pace} {f} {c} {new} {p} {from} {to} a d =
    let s = did-full (next pace.now pace.timeout c) c new from (place_in p from) to d in
    let k = s.0 in
    let less = control-falls pace.now pace.timeout c k s.1 in
    let enough = a.enough in
    rw (s.3, s.4) (leads-by (a.stage ∙ controls-stop pace a.turns a.g k (omega arith) a.opened (here a ∙ s.1) (unfit (message_of k.command) a.holds (place-full p from (length (canonical (message_of k.command))) s.2))) (holds-shut a.holds) a.outbox)

pub control-none : {pace : Pace} {f : Filling} {c new : Commands} {p : Progress} {from to : List ℕ} → ControlAt pace f c p from →
    Did (next pace.now pace.timeout c) written.Nothing c new (record { old = from; at = place_in p from; new = to }) → Leads (with_controls pace f) (record f.outbox { control = new }) p to
control-none {pace} {f} {c} {new} {p} {from} {to} a d =
    let s = did-nothing (next pace.now pace.timeout c) c new from (place_in p from) to d in
    rw (s.1, s.2) (leads-by (a.stage ∙ controls-none pace a.turns a.g a.opened (here a ∙ s.0)) a.holds a.outbox)
