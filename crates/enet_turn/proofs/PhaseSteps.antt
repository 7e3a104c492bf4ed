-- A phase goes on by a step.
use Rattle.std.proofs.Common.{◌≡◌, ◌⊎◌, inl, inr, ℕ, ◌+◌, ◌-◌, ◌<◌, Bool, true, false, List, [], ◌∷◌, ◌++◌, Option, Some, None, refl, subst, sym, append_assoc, arith}
use Rattle.std.specs.Prelude.{IsSome}
use Rattle.std.proofs.lemmas.List.{append-nil}
use Rattle.enet_codec.specs.declared.address.Addr.{Addr}
use Rattle.enet_codec.specs.declared.event.Event.{Event}
use Rattle.enet_submit.specs.declared.order.Submission.{Submission}
use Rattle.enet_wire.specs.declared.told.Told.{Told}
use Rattle.enet_wire.specs.declared.told.Told.TheVariants.{Came, Went, Lost}
use Rattle.enet_turn.specs.declared.service.Service.{Service}
use Rattle.enet_turn.specs.declared.waiting.Waiting.{Waiting}
use Rattle.enet_turn.specs.Calls.{Calls}
use Rattle.enet_turn.specs.Phases.{Chain, Ordered, Wired, ReceivesAll, EmitsAll, Orders, AppliesSubmission, TellsAll, left_over}
use Rattle.enet_turn.specs.Turn.{AfterReceiving, AfterEmitting}

one_less : (turn : ℕ) → 256 - (turn + 1) ≡ 256 - turn - 1
one_less turn = omega arith

one_fewer : (lost : ℕ) → 16 - (lost + 1) ≡ 16 - lost - 1
one_fewer lost = omega arith

-- what still comes makes the rest of the phase
abbrev pub HearsOn : {H : Type 0} → Calls H → ℕ → H → List Told → H → Type 0
HearsOn {H} calls turn initial told old = (more : List Told) (after : Wired H) → ReceivesAll calls (256 - turn) old more after → ReceivesAll calls 256 initial (told ++ more) after

pub hears_on : {H : Type 0} (calls : Calls H) (turn : ℕ) (initial old host : H) (told : List Told) (from : Addr) (bytes : List ℕ)
    → turn < 256 → HearsOn calls turn initial told old → calls.receives old (from, bytes) host → HearsOn calls (turn + 1) initial (told ++ Came from bytes ∷ []) host
hears_on calls turn initial old host told from bytes l k h more after rest =
    let step : ReceivesAll calls (256 - turn) old (Came from bytes ∷ more) after =
    (omega arith, host, h, subst (λ (n : ℕ). ReceivesAll calls n host more after) (one_less turn) rest) in
    subst (λ (xs : List Told). ReceivesAll calls 256 initial xs after) (sym (append_assoc told (Came from bytes ∷ []) more)) (k (Came from bytes ∷ more) after step)

abbrev pub SendsOn : {H : Type 0} → Calls H → ℕ → ℕ → H → List Told → H → Type 0
SendsOn {H} calls turn lost initial told old =
    (more : List Told) (after : Wired H) → EmitsAll calls (256 - turn) (16 - lost) old more after → EmitsAll calls 256 16 initial (told ++ more) after

pub sends_on : {H : Type 0} (calls : Calls H) (turn lost : ℕ) (initial old host : H) (told : List Told) (to : Addr) (bytes : List ℕ)
    → turn < 256 → lost < 16 → SendsOn calls turn lost initial told old → calls.emits old (Some (to, bytes)) host → SendsOn calls (turn + 1) lost initial (told ++ Went to bytes ∷ []) host
sends_on calls turn lost initial old host told to bytes l few k h more after rest =
    let step : EmitsAll calls (256 - turn) (16 - lost) old (Went to bytes ∷ more) after =
    (omega arith, omega arith, host, h, subst (λ (n : ℕ). EmitsAll calls n (16 - lost) host more after) (one_less turn) rest) in
    subst (λ (xs : List Told). EmitsAll calls 256 16 initial xs after) (sym (append_assoc told (Went to bytes ∷ []) more)) (k (Went to bytes ∷ more) after step)

pub loses_on : {H : Type 0} (calls : Calls H) (turn lost : ℕ) (initial old host : H) (told : List Told) (to : Addr) (bytes : List ℕ)
    → turn < 256 → lost < 16 → SendsOn calls turn lost initial told old → calls.emits old (Some (to, bytes)) host → SendsOn calls (turn + 1) (lost + 1) initial (told ++ Lost to bytes ∷ []) host
loses_on calls turn lost initial old host told to bytes l few k h more after rest =
    let fewer : EmitsAll calls (256 - (turn + 1)) (16 - lost - 1) host more after = subst (λ (n : ℕ). EmitsAll calls (256 - (turn + 1)) n host more after) (one_fewer lost) rest in
    let step : EmitsAll calls (256 - turn) (16 - lost) old (Lost to bytes ∷ more) after =
    (omega arith, omega arith, host, h, subst (λ (n : ℕ). EmitsAll calls n (16 - lost - 1) host more after) (one_less turn) fewer) in
    subst (λ (xs : List Told). EmitsAll calls 256 16 initial xs after) (sym (append_assoc told (Lost to bytes ∷ []) more)) (k (Lost to bytes ∷ more) after step)

abbrev pub OrdersOn : {H : Type 0} → Calls H → ℕ → Service H → List (Option Submission) → Ordered H → Type 0
OrdersOn {H} calls turn initial gave so_far =
    (more : List (Option Submission)) (others : List (Event × Bool)) (new : Service H)
    → Orders calls (256 - turn) so_far.service more (record { service = new; puts = others })
    → Orders calls 256 initial (gave ++ more) (record { service = new; puts = so_far.puts ++ others })

pub orders_on : {H : Type 0} (calls : Calls H) (turn : ℕ) (initial old between : Service H)
    (gave : List (Option Submission)) (puts mine : List (Event × Bool)) (x : Submission)
    → turn < 256 → old.waiting.refusal ≡ None → OrdersOn calls turn initial gave (record { service = old; puts = puts }) → AppliesSubmission calls old x mine between
    → OrdersOn calls (turn + 1) initial (gave ++ Some x ∷ []) (record { service = between; puts = puts ++ mine })
orders_on {H} calls turn initial old between gave puts mine x l none k carried more others new rest =
    let step : Orders calls (256 - turn) old (Some x ∷ more) (record { service = new; puts = mine ++ others }) =
    (none, omega arith, mine, others, refl, between, carried, subst (λ (n : ℕ). Orders calls n between more (record { service = new; puts = others })) (one_less turn) rest) in
    let whole : Orders calls 256 initial (gave ++ (Some x ∷ more)) (record { service = new; puts = puts ++ (mine ++ others) }) = k (Some x ∷ more) (mine ++ others) new step in
    let moved : Orders calls 256 initial ((gave ++ Some x ∷ []) ++ more) (record { service = new; puts = puts ++ (mine ++ others) }) =
    subst (λ (xs : List (Option Submission)). Orders calls 256 initial xs (record { service = new; puts = puts ++ (mine ++ others) })) (sym (append_assoc gave (Some x ∷ []) more)) whole in
    subst (λ (xs : List (Event × Bool)). Orders calls 256 initial ((gave ++ Some x ∷ []) ++ more) (record { service = new; puts = xs })) (sym (append_assoc puts mine others)) moved

abbrev pub TellsOn : {H : Type 0} → Calls H → Service H → List (Event × Bool) → Service H → Type 0
TellsOn {H} calls initial puts old = (more : List (Event × Bool)) (new : Service H) → TellsAll calls old more new → TellsAll calls initial (puts ++ more) new

pub tells_on : {H : Type 0} (calls : Calls H) (initial old : Service H) (host : H) (waits : Option Event) (puts : List (Event × Bool)) (event : Event) (taken : Bool)
    → old.waiting.event ≡ None → waits ≡ left_over event taken → TellsOn calls initial puts old → calls.gives_event old.host (Some event) host
    → TellsOn calls initial (puts ++ (event, taken) ∷ []) (record { host = host; waiting = record { event = waits; refusal = old.waiting.refusal } })
tells_on {H} calls initial old host waits puts event taken none left k told more new rest =
    let rest_2 : TellsAll calls (record { host = host; waiting = record { event = left_over event taken; refusal = old.waiting.refusal } }) more new =
    subst (λ (w : Option Event). TellsAll calls (record { host = host; waiting = record { event = w; refusal = old.waiting.refusal } }) more new) left rest in
    let step : TellsAll calls old ((event, taken) ∷ more) new = (none, host, told, rest_2) in
    subst (λ (xs : List (Event × Bool)). TellsAll calls initial xs new) (sym (append_assoc puts ((event, taken) ∷ []) more)) (k ((event, taken) ∷ more) new step)

-- a chain goes on by a step, or by a chain
pub chain_more : {S A : Type 0} (step : S → A → S → Type 0) (s : S) (xs : List A) (t : S) (ys : List A) (u : S) → Chain step s xs t → Chain step t ys u → Chain step s (xs ++ ys) u
chain_more step s [] t ys u e r = subst (λ z. Chain step z ys u) e r
chain_more step s (x ∷ xs) t ys u c r = (c.0, c.1, chain_more step c.0 xs t ys u c.2 r)

pub chain_step : {S A : Type 0} (step : S → A → S → Type 0) (s : S) (xs : List A) (t : S) (y : A) (u : S) → Chain step s xs t → step t y u → Chain step s (xs ++ y ∷ []) u
chain_step step s xs t y u c r = chain_more step s xs t (y ∷ []) u c (u, r, refl)

-- the orders end, for a refusal that waits or for the limit
pub orders_end : {H : Type 0} (calls : Calls H) (turn : ℕ) (initial old : Service H) (gave : List (Option Submission)) (puts : List (Event × Bool))
    → OrdersOn calls turn initial gave (record { service = old; puts = puts }) → IsSome old.waiting.refusal ⊎ (256 - turn ≡ 0)
    → Orders calls 256 initial gave (record { service = old; puts = puts })
orders_end calls turn initial old gave puts k why =
    let ended : Orders calls 256 initial (gave ++ []) (record { service = old; puts = puts ++ [] }) = k [] [] old (why, refl, refl) in
    let moved : Orders calls 256 initial gave (record { service = old; puts = puts ++ [] }) =
    subst (λ (xs : List (Option Submission)). Orders calls 256 initial xs (record { service = old; puts = puts ++ [] })) (append-nil gave) ended in
    subst (λ (xs : List (Event × Bool)). Orders calls 256 initial gave (record { service = old; puts = xs })) (append-nil puts) moved

-- the orders end where the source gives none
pub orders_none : {H : Type 0} (calls : Calls H) (turn : ℕ) (initial old : Service H) (gave : List (Option Submission)) (puts : List (Event × Bool))
    → turn < 256 → old.waiting.refusal ≡ None → OrdersOn calls turn initial gave (record { service = old; puts = puts })
    → Orders calls 256 initial (gave ++ None ∷ []) (record { service = old; puts = puts })
orders_none calls turn initial old gave puts l none k =
    let ended : Orders calls 256 initial (gave ++ None ∷ []) (record { service = old; puts = puts ++ [] }) = k (None ∷ []) [] old (none, omega arith, refl, refl, refl) in
    subst (λ (xs : List (Event × Bool)). Orders calls 256 initial (gave ++ None ∷ []) (record { service = old; puts = xs })) (append-nil puts) ended

-- the telling ends: an event waits, or the host has none
pub tells_end : {H : Type 0} (calls : Calls H) (initial old : Service H) (puts : List (Event × Bool))
    → TellsOn calls initial puts old → IsSome old.waiting.event → TellsAll calls initial puts old
tells_end calls initial old puts k waits =
    subst (λ (xs : List (Event × Bool)). TellsAll calls initial xs old) (append-nil puts) (k [] old (inl (waits, refl)))

pub tells_none : {H : Type 0} (calls : Calls H) (initial old new : Service H) (puts : List (Event × Bool))
    → old.waiting.event ≡ None → new.waiting ≡ old.waiting → TellsOn calls initial puts old → calls.gives_event old.host None new.host → TellsAll calls initial puts new
tells_none calls initial old new puts none same k told =
    subst (λ (xs : List (Event × Bool)). TellsAll calls initial xs new) (append-nil puts) (k [] new (inr (none, told, same)))

-- what comes after the hearing, and after the sending
pub sends_then : {H : Type 0} (calls : Calls H) (host : H) (told : List Told) (sent : Wired H)
    → EmitsAll calls 256 16 host told sent → AfterReceiving calls (record { host = host; failed = false }) told sent
sends_then calls host told sent h = record { sound = λ e. h; failed = λ e. absurd (cc) }

pub sends_nothing : {H : Type 0} (calls : Calls H) (host : H) → AfterReceiving calls (record { host = host; failed = true }) [] (record { host = host; failed = true })
sends_nothing calls host = record { sound = λ e. absurd (cc); failed = λ e. (refl, refl) }

pub tells_then : {H : Type 0} (calls : Calls H) (host : H) (waiting : Waiting) (puts : List (Event × Bool)) (new : Service H)
    → TellsAll calls (record { host = host; waiting = waiting }) puts new → AfterEmitting calls (record { host = host; failed = false }) waiting puts new
tells_then calls host waiting puts new h = record { sound = λ e. h; failed = λ e. absurd (cc) }

pub tells_nothing : {H : Type 0} (calls : Calls H) (host : H) (waiting : Waiting)
    → AfterEmitting calls (record { host = host; failed = true }) waiting [] (record { host = host; waiting = waiting })
tells_nothing calls host waiting = record { sound = λ e. absurd (cc); failed = λ e. (refl, refl) }
