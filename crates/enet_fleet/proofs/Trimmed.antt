-- An end, as it is seen from the other: of what it put out only sequenced data counts there, and what comes. So the rest can be left out.
use Rattle.std.proofs.Common.{◌≡◌, ℕ, ◌==◌, ◌&&◌, not, Bool, true, false, cond, List, [], ◌∷◌, ◌++◌, refl, sym, ap, subst, ◌∙◌, inl, inr}
use Rattle.std.specs.Prelude.{filter}
use Rattle.std.specs.Option.{is_some}
use Rattle.enet_codec.specs.declared.command.Head.{Head}
use Rattle.enet_codec.specs.Message.{Message, Body, send_unsequenced}
use Rattle.enet_fragment.specs.DataCommand.{data_of, read_of}
use Rattle.enet_outbox.specs.declared.parts.Unsequenced.{Unsequenced}
use Rattle.law_connection.specs.Greatest.{greatest_after}
use Rattle.law_connection.specs.LinkSteps.{Has}
use Rattle.law_connection.specs.Connection.{Put, End, messages_of, counted, reached, sent_on}
use Rattle.law_connection.proofs.CarriageLemmas.{Has-append_left, Has-append_right}
use Rattle.law_connection.proofs.Lists.{Has-append_cases, Has-filter, Has-from_filter}
use Rattle.law_unsequenced.specs.Unsequenced.{carried_in, carried}
use Rattle.law_network.specs.Log.{Logged}
use Rattle.law_network.specs.Shown.{IsLogged}
use Rattle.enet_fleet.proofs.Getting.{true-in}

-- whether a command is sequenced data
abbrev is_data : Put → Bool
is_data x = is_some (data_of x.message)

abbrev is_other : Put → Bool
is_other x = not (is_data x)

-- an end with its sequenced data, and of all else these commands alone
abbrev pub trimmed : List Put → End → End
trimmed keep far = record far { log = filter is_other keep ++ filter is_data far.log }

-- other commands don't count

counted-other : (channel n : ℕ) (m : Message) → is_some (data_of m) ≡ false → counted channel n m ≡ n
counted-other channel n m e = ap (λ (b : Bool). cond (b && m.head.channel == channel) (greatest_after n m.head.number) n) e

reached-more : (channel n : ℕ) (m : Message) (ms : List Message) → reached channel n (m ∷ ms) ≡ reached channel (counted channel n m) ms
unfolding reached
reached-more channel n m ms = refl

reached-data : (channel n : ℕ) (xs : List Put) → reached channel n (messages_of (filter is_data xs)) ≡ reached channel n (messages_of xs)
reached-data channel n [] = refl
reached-data channel n (x ∷ xs) = by (λ k. reached-data channel k xs) (is_data x) refl ∙ sym (reached-more channel n x.message (messages_of xs))
  where
    by : ((k : ℕ) → reached channel k (messages_of (filter is_data xs)) ≡ reached channel k (messages_of xs)) → (b : Bool) → is_data x ≡ b
        → reached channel n (messages_of (cond b (x ∷ filter is_data xs) (filter is_data xs))) ≡ reached channel (counted channel n x.message) (messages_of xs)
    by rest true e = reached-more channel n x.message (messages_of (filter is_data xs)) ∙ rest (counted channel n x.message)
    by rest false e = rest n ∙ ap (λ (k : ℕ). reached channel k (messages_of xs)) (sym (counted-other channel n x.message e))

reached-other : (channel n : ℕ) (xs ys : List Put) → reached channel n (messages_of (filter is_other xs ++ ys)) ≡ reached channel n (messages_of ys)
reached-other channel n [] ys = refl
reached-other channel n (x ∷ xs) ys = by (reached-other channel n xs ys) (is_data x) refl
  where
    by : reached channel n (messages_of (filter is_other xs ++ ys)) ≡ reached channel n (messages_of ys) → (b : Bool) → is_data x ≡ b
        → reached channel n (messages_of (cond (not b) (x ∷ filter is_other xs) (filter is_other xs) ++ ys)) ≡ reached channel n (messages_of ys)
    by rest true e = rest
    by rest false e =
        reached-more channel n x.message (messages_of (filter is_other xs ++ ys))
        ∙ ap (λ (k : ℕ). reached channel k (messages_of (filter is_other xs ++ ys))) (counted-other channel n x.message e) ∙ rest

pub sent-trimmed : (channel : ℕ) (keep : List Put) (far : End) → sent_on channel (trimmed keep far) ≡ sent_on channel far
sent-trimmed channel keep far = reached-other channel 0 keep (filter is_data far.log) ∙ reached-data channel 0 far.log

-- what is put out, and left in

has-trimmed : (keep : List Put) (far : End) (x : Put) → Has keep x → Has far.log x → Has (trimmed keep far).log x
has-trimmed keep far x kept logged = by (is_data x) refl
  where
    by : (b : Bool) → is_data x ≡ b → Has (trimmed keep far).log x
    by true e = Has-append_right (filter is_other keep) (filter is_data far.log) x (Has-filter is_data far.log x logged e)
    by false e = Has-append_left (filter is_other keep) (filter is_data far.log) x (Has-filter is_other keep x kept (ap not e))

pub logged-trimmed : (far : End) (d : Logged) (l : IsLogged far.log d) → IsLogged (trimmed l.puts far).log d
logged-trimmed far d l = record {
  header = l.header;
  peer = l.peer;
  puts = l.puts;
  spelled = l.spelled;
  logged = λ x h. has-trimmed l.puts far x h (l.logged x h);
  marked = l.marked;
  alike = l.alike;
}

-- whatever carries a packet unsequenced was left in

carried-data : (h : Head) (b : Body) → is_some (read_of h b) ≡ true → carried_in h.channel b ≡ []
carried-data h (send_unsequenced group payload) e = absurd (let z : false ≡ true = e in cc)
carried-data h b e = refl

pub kept-put : (keep : List Put) (far : End) (x : Put) (u : Unsequenced) → Has (trimmed keep far).log x → Has (carried x.message) u → Has keep x
kept-put keep far x u h c = elim (Has-append_cases (filter is_other keep) (filter is_data far.log) x h) [
  | inl there ↦ Has-from_filter is_other keep x there
  | inr data' ↦ absurd (subst (λ (l : List Unsequenced). Has l u) (carried-data x.message.head x.message.body (true-in is_data far.log x data')) c)
]
