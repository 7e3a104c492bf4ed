-- A short packet is submitted.
use Rattle.std.proofs.Common.{◌≡◌, ℕ, ◌+◌, ◌≤◌, Bool, true, false, cond, List, [], ◌∷◌, ◌++◌, length, Option, None, refl, sym, ap, ◌∙◌, arith}
use Rattle.enet_seq.specs.Windows.{after}
use Rattle.enet_seq.specs.Numbering.{wire}
use Rattle.enet_fragment.specs.Cutting.{piece_length}
use Rattle.enet_fragment.specs.declared.data.DataCommand.{DataCommand}
use Rattle.enet_sender.specs.declared.sent.Sent.{Sent}
use Rattle.enet_sender.specs.declared.course.Course.{Course}
use Rattle.enet_sender.specs.Sender.{Sender, submitted}
use Rattle.enet_sender.specs.Course.{command_of, packet_course}
use Rattle.enet_sender.proofs.Courses.{piece_count-one, single}
use Rattle.enet_sender.specs.Pending.{vacant, times, held, Passes}
use Rattle.enet_sender.proofs.Named.{held-some}

-- a sender after its one command
abbrev pub with_command : Sender → Course → List ℕ → Sender
with_command s course body = record {
  number = cond course.reliable (command_of course 0 body).number s.number;
  unreliable = cond course.reliable 0 (course.unreliable + 1);
  queued = s.queued ++ command_of course 0 body ∷ [];
  sent = s.sent;
}

one-number : (b : Bool) (n pieces : ℕ) → pieces ≡ 1 → cond b (cond b (after n 1) n) n ≡ cond b (after n pieces) n
one-number true n pieces one = ap (after n) (sym one)
one-number false n pieces one = refl

pub submitted-short : (mtu flags : ℕ) (s : Sender) (body : List ℕ) (course : Course) → course ≡ packet_course mtu s.number s.unreliable flags body → 576 ≤ mtu → length body ≤ piece_length mtu
    → with_command s course body ≡ submitted wire mtu s (record { flags = flags; body = body })
submitted-short mtu flags s body course is low short =
    let chosen = packet_course mtu s.number s.unreliable flags body in
    let one : chosen.pieces ≡ 1 = piece_count-one (length body) mtu (omega arith) short in
    let number = one-number chosen.reliable s.number chosen.pieces one in
    let queued = ap (λ (cs : List DataCommand). s.queued ++ cs) (single chosen body one short) in
    ap (λ (k : Course). with_command s k body) is
    ∙ (λ i. record { number = number i; unreliable = cond chosen.reliable 0 (s.unreliable + 1); queued = queued i; sent = s.sent })

-- where nothing changes but how much room there is
pub passes-same : (at later : ℕ → Option Sent) (keys : List ℕ) → ((k : ℕ) → later k ≡ at k) → at vacant ≡ None → Passes at later keys keys
passes-same at later keys same none = record {
  others = λ k x low absent e. same k ∙ e;
  balanced = λ k low. ap (λ n. times k keys + n) (sym (ap (λ (o : Option Sent). held (λ j. o) k) (same k)));
  nothing = same vacant ∙ none;
}

-- one call after another
pub passes-then : (a b c : ℕ → Option Sent) (xs ys zs : List ℕ) → Passes a b xs ys → Passes b c ys zs → Passes a c xs zs
passes-then a b c xs ys zs h k = record {
  others = λ key p low none e.
      let there = h.others key p low none e in
      let balanced = h.balanced key low in
      let was = held-some a key p e in
      let now = held-some b key p there in
      k.others key p low (omega arith) there;
  balanced = λ key low. let one = h.balanced key low in let two = k.balanced key low in omega arith;
  nothing = k.nothing;
}
