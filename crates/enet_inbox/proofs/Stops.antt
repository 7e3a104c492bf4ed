-- A stop changes nothing, and none is for want of memory where there is enough.
use Rattle.std.proofs.Common.{◌≡◌, ◌≢◌, ℕ, Bool, true, false, cond, ltb, leb, Option, Some, None, Result, Ok, Err, is_ok, List, length, refl, ap}
use Rattle.std.specs.Prelude.{not, slice_get}
use Rattle.enet_codec.specs.declared.stop.Stop.{Stop}
use Rattle.enet_codec.specs.declared.stop.Stop.TheVariants as stop
use Rattle.enet_codec.specs.Message.{Message, Body, acknowledge, connect, verify_connect, disconnect, ping, send_reliable, send_unreliable, send_fragment, send_unsequenced, bandwidth_limit, throttle_configure, send_unreliable_fragment}
use Rattle.enet_unsequenced.specs.Groups.{dispatches}
use Rattle.enet_fragment.specs.declared.data.DataCommand.{DataCommand}
use Rattle.enet_fragment.specs.DataCommand.{data_of}
use Rattle.enet_receiver.specs.declared.took.Took.{Took}
use Rattle.enet_receiver.specs.declared.took.Took.TheVariants.{Held, Again, Outside, Bad, Waiting, Memory}
use Rattle.enet_receiver.specs.Foresight.{ReceivingEnd, outcome_for}
use Rattle.enet_inbox.specs.Inbox.{Inbox, is_full, is_full_for, given_way}
use Rattle.enet_inbox.specs.DataEffect.{DataEffect, arrival, plain_arrival, makes_room, arrival_of, sequenced, sequenced_on, by_took, unsequenced, unsequenced_taken, passed_over, passed_of, passed_sequenced, passed_over_on, passed_length, handled, stopped, is_kept, is_kept_as, is_kept_of, is_kept_on, is_kept_sequenced}
use Rattle.enet_inbox.specs.Private.InboxParts.{met_by}
use Rattle.enet_inbox.proofs.Outcomes.{outcome_known}
use Rattle.enet_inbox.proofs.Rooms.{room_made, room_kept}

-- an answer that isn't want of memory
abbrev pub Tells : Result Bool Stop → Type 0
Tells r = (why : Stop) → r ≡ Err why → why ≢ stop.Memory

pub tells-if : (t : Bool) (x y : Result Bool Stop) → Tells x → Tells y → Tells (cond t x y)
tells-if true x y p q = p
tells-if false x y p q = q

pub tells-ok : (may : Bool) → Tells (Ok may)
tells-ok may why e = absurd (cc)

pub tells-err : (why : Stop) → why ≢ stop.Memory → Tells (Err why)
tells-err why known other e m = known (cc)

-- an arrival that stops the datagram leaves the inbox as it was, and no want of memory stops it
abbrev Stays : Inbox → DataEffect → Type 0
Stays b a = ((why : Stop) → a.answer ≡ Err why → a.after ≡ b) × Tells a.answer

stays-if : (b : Inbox) (t : Bool) (x y : DataEffect) → Stays b x → Stays b y → Stays b (cond t x y)
stays-if b true x y p q = p
stays-if b false x y p q = q

stays-handled : (b after : Inbox) (may : Bool) → Stays b (handled after may)
stays-handled b after may = ((λ why e. absurd (cc)), tells-ok may)

stays-stopped : (b : Inbox) (why : Stop) → why ≢ stop.Memory → Stays b (stopped b why)
stays-stopped b why known = ((λ other e. refl), tells-err why known)

stays-took : (t : Took) (b : Inbox) (channel : ℕ) (r : ReceivingEnd) (c : DataCommand) → t ≢ Memory → Stays b (by_took t b channel r c)
stays-took Held b channel r c known = stays-handled b _ _
stays-took Again b channel r c known = stays-handled b _ _
stays-took Outside b channel r c known = stays-handled b _ _
stays-took Bad b channel r c known = stays-stopped b stop.BadFragment (λ e. cc)
stays-took Waiting b channel r c known = stays-stopped b stop.Waiting (λ e. cc)
stays-took Memory b channel r c known = absurd (known refl)

stays-on : (b : Inbox) (channel : ℕ) (c : DataCommand) (o : Option ReceivingEnd) → Stays b (sequenced_on b channel c o)
stays-on b channel c None = stays-stopped b stop.BadChannel (λ e. cc)
stays-on b channel c (Some r) = stays-took (outcome_for r (Some c) (is_full_for b r c)) b channel r c (outcome_known r.max_packet r.receiver c (is_full_for b r c))

stays-sequenced : (b : Inbox) (channel : ℕ) (o : Option DataCommand) → Stays b (sequenced b channel o)
stays-sequenced b channel None = stays-stopped b stop.BadCommand (λ e. cc)
stays-sequenced b channel (Some c) = stays-on b channel c (slice_get b.receivers channel)

stays-unsequenced : (b : Inbox) (channel group : ℕ) (payload : List ℕ) → Stays b (unsequenced b channel group payload)
stays-unsequenced b channel group payload =
    stays-if b (leb (length b.receivers) channel) (stopped b stop.BadChannel) _ (stays-stopped b stop.BadChannel (λ e. cc))
    (stays-if b (ltb b.max_packet (length payload)) (stopped b stop.BadFragment) _ (stays-stopped b stop.BadFragment (λ e. cc))
    (stays-if b (not (dispatches b.seen group)) (handled b true) _ (stays-handled b b true)
    (stays-if b (is_full b) (stopped b stop.Waiting) (handled (unsequenced_taken b channel group payload) true) (stays-stopped b stop.Waiting (λ e. cc)) (stays-handled b (unsequenced_taken b channel group payload) true))))

stays-of : (b : Inbox) (m : Message) (body : Body) → Stays b (arrival_of b m body)
stays-of b m (send_unsequenced group payload) = stays-unsequenced b m.head.channel group payload
stays-of b m (acknowledge n t) = stays-sequenced b m.head.channel (data_of m)
stays-of b m (connect o) = stays-sequenced b m.head.channel (data_of m)
stays-of b m (verify_connect v) = stays-sequenced b m.head.channel (data_of m)
stays-of b m (disconnect i) = stays-sequenced b m.head.channel (data_of m)
stays-of b m ping = stays-sequenced b m.head.channel (data_of m)
stays-of b m (send_reliable p) = stays-sequenced b m.head.channel (data_of m)
stays-of b m (send_unreliable n p) = stays-sequenced b m.head.channel (data_of m)
stays-of b m (send_fragment f p) = stays-sequenced b m.head.channel (data_of m)
stays-of b m (bandwidth_limit i o) = stays-sequenced b m.head.channel (data_of m)
stays-of b m (throttle_configure i a d) = stays-sequenced b m.head.channel (data_of m)
stays-of b m (send_unreliable_fragment f p) = stays-sequenced b m.head.channel (data_of m)

-- a command that stops its datagram leaves the inbox as it was
plain-stays : (b : Inbox) (m : Message) → Stays b (plain_arrival b m)
plain-stays b m = stays-of b m m.body

stays-met : (t : Bool) (b : Inbox) (m : Message) → makes_room b m ≡ t → Stays b (plain_arrival (met_by t b) m)
stays-met false b m made = plain-stays b m
stays-met true b m made = ((λ why e. absurd (let ok : is_ok (plain_arrival (given_way b) m).answer ≡ true = (room_made b m made).then_room in let not : is_ok (plain_arrival (given_way b) m).answer ≡ false = ap is_ok e in cc)), (plain-stays (given_way b) m).1)

pub arrival_stays : (b : Inbox) (m : Message) (why : Stop) → (arrival b m).answer ≡ Err why → (arrival b m).after ≡ b
arrival_stays b m why e = (stays-met (makes_room b m) b m refl).0 why e

passed-length : (b : Inbox) (payload : List ℕ) (may : Bool) → Tells (passed_length b payload may)
passed-length b payload may = tells-if (ltb b.max_packet (length payload)) (Err stop.BadFragment) (Ok may) (tells-err stop.BadFragment (λ e. cc)) (tells-ok may)

passed-over-on : (b : Inbox) (c : DataCommand) (o : Option ReceivingEnd) → Tells (passed_over_on b c o)
passed-over-on b c None = tells-err stop.BadChannel (λ e. cc)
passed-over-on b c (Some r) = passed-length b c.body _

passed-sequenced : (b : Inbox) (channel : ℕ) (o : Option DataCommand) → Tells (passed_sequenced b channel o)
passed-sequenced b channel None = tells-err stop.BadCommand (λ e. cc)
passed-sequenced b channel (Some c) = passed-over-on b c (slice_get b.receivers channel)

passed-of : (b : Inbox) (m : Message) (body : Body) → Tells (passed_of b m body)
passed-of b m (send_unsequenced group payload) =
    tells-if (leb (length b.receivers) m.head.channel) (Err stop.BadChannel) (passed_length b payload true) (tells-err stop.BadChannel (λ e. cc)) (passed-length b payload true)
passed-of b m (acknowledge n t) = passed-sequenced b m.head.channel (data_of m)
passed-of b m (connect o) = passed-sequenced b m.head.channel (data_of m)
passed-of b m (verify_connect v) = passed-sequenced b m.head.channel (data_of m)
passed-of b m (disconnect i) = passed-sequenced b m.head.channel (data_of m)
passed-of b m ping = passed-sequenced b m.head.channel (data_of m)
passed-of b m (send_reliable p) = passed-sequenced b m.head.channel (data_of m)
passed-of b m (send_unreliable n p) = passed-sequenced b m.head.channel (data_of m)
passed-of b m (send_fragment f p) = passed-sequenced b m.head.channel (data_of m)
passed-of b m (bandwidth_limit i o) = passed-sequenced b m.head.channel (data_of m)
passed-of b m (throttle_configure i a d) = passed-sequenced b m.head.channel (data_of m)
passed-of b m (send_unreliable_fragment f p) = passed-sequenced b m.head.channel (data_of m)

pub arrival_tells : (b : Inbox) (m : Message) → Tells (arrival b m).answer
arrival_tells b m = (stays-met (makes_room b m) b m refl).1

pub passed_tells : (b : Inbox) (m : Message) → Tells (passed_over b m)
passed_tells b m = passed-of b m m.body

-- a command of which nothing is kept leaves the inbox as it was
quiet-took : (t : Took) (b : Inbox) (channel : ℕ) (r : ReceivingEnd) (c : DataCommand) → is_kept_as t ≡ false → (by_took t b channel r c).after ≡ b
quiet-took Held b channel r c n = absurd (cc)
quiet-took Again b channel r c n = refl
quiet-took Outside b channel r c n = refl
quiet-took Bad b channel r c n = refl
quiet-took Waiting b channel r c n = refl
quiet-took Memory b channel r c n = refl

quiet-on : (b : Inbox) (channel : ℕ) (c : DataCommand) (o : Option ReceivingEnd) → is_kept_on b c o ≡ false → (sequenced_on b channel c o).after ≡ b
quiet-on b channel c None n = refl
quiet-on b channel c (Some r) n = quiet-took (outcome_for r (Some c) (is_full_for b r c)) b channel r c n

quiet-sequenced : (b : Inbox) (channel : ℕ) (o : Option DataCommand) → is_kept_sequenced b channel o ≡ false → (sequenced b channel o).after ≡ b
quiet-sequenced b channel None n = refl
quiet-sequenced b channel (Some c) n = quiet-on b channel c (slice_get b.receivers channel) n

quiet-new : (far long new full : Bool) (b taken : Inbox) → new ≡ false
    → (cond far (stopped b stop.BadChannel) (cond long (stopped b stop.BadFragment) (cond (not new) (handled b true) (cond full (stopped b stop.Waiting) (handled taken true))))).after ≡ b
quiet-new true long new full b taken n = refl
quiet-new false true new full b taken n = refl
quiet-new false false false full b taken n = refl
quiet-new false false true full b taken n = absurd (cc)

quiet-of : (b : Inbox) (m : Message) (body : Body) → is_kept_of b m body ≡ false → (arrival_of b m body).after ≡ b
quiet-of b m (send_unsequenced group payload) n =
    quiet-new (leb (length b.receivers) m.head.channel) (ltb b.max_packet (length payload)) (dispatches b.seen group) (is_full b) b (unsequenced_taken b m.head.channel group payload) n
quiet-of b m (acknowledge n t) e = quiet-sequenced b m.head.channel (data_of m) e
quiet-of b m (connect o) e = quiet-sequenced b m.head.channel (data_of m) e
quiet-of b m (verify_connect v) e = quiet-sequenced b m.head.channel (data_of m) e
quiet-of b m (disconnect i) e = quiet-sequenced b m.head.channel (data_of m) e
quiet-of b m ping e = quiet-sequenced b m.head.channel (data_of m) e
quiet-of b m (send_reliable p) e = quiet-sequenced b m.head.channel (data_of m) e
quiet-of b m (send_unreliable k p) e = quiet-sequenced b m.head.channel (data_of m) e
quiet-of b m (send_fragment f p) e = quiet-sequenced b m.head.channel (data_of m) e
quiet-of b m (bandwidth_limit i o) e = quiet-sequenced b m.head.channel (data_of m) e
quiet-of b m (throttle_configure i a d) e = quiet-sequenced b m.head.channel (data_of m) e
quiet-of b m (send_unreliable_fragment f p) e = quiet-sequenced b m.head.channel (data_of m) e

quiet-met : (t : Bool) (b : Inbox) (m : Message) → makes_room b m ≡ t → is_kept_of (met_by t b) m m.body ≡ false → (plain_arrival (met_by t b) m).after ≡ b
quiet-met false b m made n = quiet-of b m m.body n
quiet-met true b m made n = absurd (let kept = room_kept b m made in cc)

pub quiet_stays : (b : Inbox) (m : Message) → is_kept b m ≡ false → (arrival b m).after ≡ b
quiet_stays b m n = quiet-met (makes_room b m) b m refl n
