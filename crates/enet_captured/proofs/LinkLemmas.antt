-- What leads from one command to another, by lists.
use Rattle.std.proofs.Common.{◌≡◌, ◌<◌, ◌+◌, ℕ, Bool, true, false, List, length, take, map, get_or, Option, refl, sym, ap, subst, ◌∙◌, arith, if◌then◌else◌, count_by}
use Rattle.std.proofs.lemmas.List.{length-map}
use Rattle.std.proofs.lemmas.Option.{slice_get-get_or}
use Rattle.std.proofs.lemmas.List.Sums.{count_by_more_yes, count_by_more_no}
use Rattle.enet_captured.specs.declared.timeline.Way.{Way}
use Rattle.enet_captured.specs.declared.timeline.Way.TheVariants.{Right, Left}
use Rattle.enet_captured.specs.declared.timeline.Mark.{Mark}
use Rattle.enet_captured.specs.Sends.{Key, at, new_at, acknowledged_key, send_key, command_key, last_of, near, first_to, unless_seen, turn, turn_among, asks_on, seen_before, went_before, belongs_to}
use Rattle.enet_captured.specs.Private.Tables.{IsTable, by_way, item, turn_at}
use Rattle.enet_captured.proofs.TableLemmas.{table_as, item_at, turn_in, item_mapped, near_last_same, last_of_same, first_to_same}

pub slice_table : {A : Type 0} (of : ℕ → A) (n : ℕ) (slice items : List A) → slice ≡ items → IsTable of n items → IsTable of n slice
slice_table of n slice items is t = subst (IsTable of n) (sym is) t

pub seen_is : (marks : List Mark) (keys : List (Option Key)) (turns : List ℕ) (found : List (Option ℕ)) → keys ≡ map send_key marks
    → IsTable (turn marks) (length marks) turns
    → IsTable (λ place. near (turn_at turns) place (last_of (item keys) (item keys place) place)) (length keys) found
    → IsTable (seen_before marks) (length marks) found
seen_is marks keys turns found is t found_is =
    let n = length marks in
    table_as _ (seen_before marks) _ n found found_is (ap length is ∙ length-map marks send_key)
    (λ place within. near_last_same (item keys) (at send_key marks) (turn_at turns) (turn marks) n place within (λ k below. item_mapped send_key marks keys is k)
    (turn_in (turn marks) n turns t))

pub new_is : (key : Mark → Option Key) (marks : List Mark) (seen : List (Option ℕ)) (keys new : List (Option Key))
    → IsTable (seen_before marks) (length marks) seen → keys ≡ map key marks
    → IsTable (λ place. unless_seen (item seen place) (item keys place)) (length keys) new → IsTable (new_at key marks) (length marks) new
new_is key marks seen keys new t is new_are =
    table_as _ (new_at key marks) _ (length marks) new new_are (ap length is ∙ length-map marks key)
    (λ place within. ap (λ (o : Option ℕ). unless_seen o (item keys place)) (item_at (seen_before marks) (length marks) seen t place within)
    ∙ ap (unless_seen (seen_before marks place)) (item_mapped key marks keys is place))

pub went_is : (marks : List Mark) (keys : List (Option Key)) (turns : List ℕ) (found : List (Option ℕ))
    → IsTable (new_at command_key marks) (length marks) keys → IsTable (turn marks) (length marks) turns
    → IsTable (λ place. near (turn_at turns) place (last_of (item keys) (item keys place) place)) (length keys) found
    → IsTable (went_before marks) (length marks) found
went_is marks keys turns found k t found_is =
    table_as _ (went_before marks) _ (length marks) found found_is k.len
    (λ place within. near_last_same (item keys) (new_at command_key marks) (turn_at turns) (turn marks) (length marks) place within
    (item_at (new_at command_key marks) (length marks) keys k) (turn_in (turn marks) (length marks) turns t))

pub belongs_is : (marks : List Mark) (keys asked : List (Option Key)) (found : List (Option ℕ)) → IsTable (new_at send_key marks) (length marks) keys
    → asked ≡ map acknowledged_key marks → IsTable (λ place. last_of (item keys) (item asked place) place) (length keys) found
    → IsTable (belongs_to marks) (length marks) found
belongs_is marks keys asked found k is found_is =
    table_as _ (belongs_to marks) _ (length marks) found found_is k.len
    (λ place within. ap (λ (o : Option Key). last_of (item keys) o place) (item_mapped acknowledged_key marks asked is place)
    ∙ last_of_same (item keys) (new_at send_key marks) (at acknowledged_key marks place) place
    (λ j below. item_at (new_at send_key marks) (length marks) keys k j (omega (arith, below, within))))

pub first_is : (links : ℕ → Option ℕ) (n : ℕ) (slice found : List (Option ℕ)) → IsTable links n slice
    → IsTable (λ place. first_to (item slice) place (length slice)) (length slice) found → IsTable (λ place. first_to links place n) n found
first_is links n slice found t found_is =
    table_as _ (λ place. first_to links place n) _ n found found_is t.len
    (λ place within. ap (first_to (item slice) place) t.len ∙ first_to_same (item slice) links place n (item_at links n slice t))

one_more : (p : Mark → Bool) (xs : List Mark) (i : ℕ) (d : Mark) (b : Bool) → i < length xs → p (get_or xs i d) ≡ b
    → count_by p (take i xs) + (if b then 1 else 0) ≡ count_by p (take (i + 1) xs)
one_more p xs i d true within e = omega (arith, count_by_more_yes p xs i d within e)
one_more p xs i d false within e = omega (arith, count_by_more_no p xs i d within e)

count_step : (p : Mark → Bool) (xs : List Mark) (i : ℕ) (d : Mark) → i < length xs
    → count_by p (take i xs) + (if p (get_or xs i d) then 1 else 0) ≡ count_by p (take (i + 1) xs)
count_step p xs i d within = one_more p xs i d (p (get_or xs i d)) within refl

way_count : (way : Way) (xs : List Mark) → by_way way (count_by (asks_on Right) xs) (count_by (asks_on Left) xs) ≡ count_by (asks_on way) xs
way_count Right xs = refl
way_count Left xs = refl

pub turn_is : (marks : List Mark) (i right left : ℕ) (d : Mark) → i < length marks → right ≡ count_by (asks_on Right) (take i marks)
    → left ≡ count_by (asks_on Left) (take i marks) → by_way (get_or marks i d).way right left ≡ turn marks i
turn_is marks i right left d within r l =
    ap (λ (k : ℕ). by_way (get_or marks i d).way k left) r ∙ ap (by_way (get_or marks i d).way (count_by (asks_on Right) (take i marks))) l
    ∙ way_count (get_or marks i d).way (take i marks) ∙ ap (turn_among (take i marks)) (sym (slice_get-get_or marks i d within))

pub more_is : (p : Mark → Bool) (marks : List Mark) (i count one : ℕ) (d : Mark) → i < length marks → count ≡ count_by p (take i marks)
    → one ≡ (if p (get_or marks i d) then 1 else 0) → count + one ≡ count_by p (take (i + 1) marks)
more_is p marks i count one d within c o =
    ap (λ (k : ℕ). k + one) c ∙ ap (λ (k : ℕ). count_by p (take i marks) + k) o ∙ count_step p marks i d within
