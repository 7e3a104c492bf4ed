-- The rule of the queue, and what a step of it does to what a pass knows.
use Rattle.std.specs.Prelude.{◌≡◌, ℕ, ◌+◌, ◌<◌, ◌≤◌, ◌⊎◌, List, [], ◌∷◌, ◌++◌, length}
use Rattle.std.specs.List.{All}
use mathlib.Core.Option.{some}
use lib.ListN.{get_elem?}
use Rattle.enet_events.specs.declared.numbered.Numbered.{Numbered}
use Rattle.enet_events.specs.declared.rule.Share.{Share}
use Rattle.enet_events.specs.declared.rule.View.{View}
use Rattle.enet_events.specs.declared.rule.View.TheVariants.{Posting, Taking, Spent}
use Rattle.enet_events.specs.History.{IsNumbered, part, AreWith, Moment}

abbrev pub share : ℕ → List Numbered → Share
share index taken = record { index = index; taken = taken }

abbrev pub posting : ℕ → ℕ → List Numbered → List Share → View
posting takers made posted known = Posting takers made posted known

abbrev pub taking : ℕ → ℕ → List Numbered → View
taking takers index taken = Taking takers index taken

abbrev pub spent : View
spent = Spent

abbrev pub Among : Share → List Share → Type 0
Among x xs = (k : ℕ) × (get_elem? xs k ≡ some x)

-- the pass knows that l is all that the taker has: it is that taker, it hasn't made the taker yet, or it took it in
abbrev pub Claims : View → ℕ → List Numbered → Type 0
Claims (Posting takers made posted known) index l = ((made ≤ index) × (l ≡ [])) ⊎ Among (share index l) known
Claims (Taking takers i taken) index l = (index ≡ i) × (l ≡ taken)
Claims Spent index l = ⊥

-- one pass posts, and knows all that was posted; each knows how many takers there are
abbrev pub Agrees : ℕ → ℕ → List Numbered → ℕ → View → Type 0
Agrees poster total history pass (Posting takers made posted known) = (pass ≡ poster) × (takers ≡ total) × (posted ≡ history)
Agrees poster total history pass (Taking takers index taken) = takers ≡ total
Agrees poster total history pass Spent = Unit {0}

-- What was posted is what was taken and then what is held, numbered without gaps. Each event that was taken is with one
-- taker, and each taker belongs to one pass (`owner`), which knows all that the taker has
pub record Invariant (items : List Numbered) (views : List View) : Type 0 where
  pub poster : ℕ
  pub total : ℕ
  pub taken : List Numbered
  pub who : ℕ → ℕ
  pub owner : ℕ → ℕ
  pub numbered : IsNumbered 0 (taken ++ items)
  pub short : length (taken ++ items) ≤ 4294967295
  pub shared : AreWith who total taken
  pub agrees : (pass : ℕ) (v : View) → get_elem? views pass ≡ some v → Agrees poster total (taken ++ items) pass v
  pub claims : (pass : ℕ) (v : View) → get_elem? views pass ≡ some v → (index : ℕ) (l : List Numbered) → Claims v index l
      → (owner index ≡ pass) × (part who index taken ≡ l)

-- one more taker is to come
abbrev pub widened : View → View
widened (Posting takers made posted known) = Posting (takers + 1) made posted known
widened (Taking takers index taken) = Taking takers index taken
widened Spent = Spent

-- a taker is made
abbrev pub made_one : View → View
made_one (Posting takers made posted known) = Posting takers (made + 1) posted known
made_one (Taking takers index taken) = Taking takers index taken
made_one Spent = Spent

-- the taker that is made
abbrev pub taker_of : View → View
taker_of (Posting takers made posted known) = Taking takers made []
taker_of (Taking takers index taken) = Spent
taker_of Spent = Spent

-- the poster is told what a taker has
abbrev pub informed : View → View → View
informed (Posting takers made posted known) (Taking n index taken) = Posting takers made posted (known ++ share index taken ∷ [])
informed (Posting takers made posted known) w = Posting takers made posted known
informed (Taking takers index taken) w = Taking takers index taken
informed Spent w = Spent

-- the view after an event is posted
abbrev pub with_posted : View → Numbered → View
with_posted (Posting takers made posted known) x = Posting takers made (posted ++ x ∷ []) known
with_posted (Taking takers index taken) x = Taking takers index taken
with_posted Spent x = Spent

-- the view after an event is taken
abbrev pub with_taken : View → Numbered → View
with_taken (Posting takers made posted known) x = Posting takers made posted known
with_taken (Taking takers index taken) x = Taking takers index (taken ++ x ∷ [])
with_taken Spent x = Spent

abbrev pub takers_of : View → ℕ
takers_of (Posting takers made posted known) = takers
takers_of (Taking takers index taken) = takers
takers_of Spent = 0

abbrev pub posted_of : View → List Numbered
posted_of (Posting takers made posted known) = posted
posted_of (Taking takers index taken) = []
posted_of Spent = []

abbrev pub known_of : View → List Share
known_of (Posting takers made posted known) = known
known_of (Taking takers index taken) = []
known_of Spent = []

abbrev pub index_of : View → ℕ
index_of (Posting takers made posted known) = 0
index_of (Taking takers index taken) = index
index_of Spent = 0

abbrev pub taken_of : View → List Numbered
taken_of (Posting takers made posted known) = []
taken_of (Taking takers index taken) = taken
taken_of Spent = []

-- the poster's posts are at a moment at which these are held
abbrev pub PosterSees : View → List Numbered → Type 0
PosterSees v held = Moment (takers_of v) (posted_of v) held

-- the same, and each taker that the poster knows has just its part
abbrev pub PosterKnows : View → List Numbered → Type 0
PosterKnows v held = (m : Moment (takers_of v) (posted_of v) held) × ((x : Share) → Among x (known_of v) → part m.who x.index m.taken ≡ x.taken)

-- the taker's list is its part at a moment at which these were posted, and these are held
abbrev pub TakerSees : View → List Numbered → List Numbered → Type 0
TakerSees v posted held = (m : Moment (takers_of v) posted held) × (part m.who (index_of v) m.taken ≡ taken_of v)

-- the event joined at the back
abbrev pub Pushed : View → Numbered → View → Type 0
Pushed v x w = (w ≡ with_posted v x) × (held : List Numbered) × PosterSees w (held ++ x ∷ [])

-- the event left at the front, and comes after all that this taker took before
abbrev pub Popped : View → Numbered → View → Type 0
Popped v x w =
    (w ≡ with_taken v x) × (length (taken_of v) ≤ x.number) × (x.number < 4294967295) × All (λ y. y.number < x.number) (taken_of v)
    × (posted : List Numbered) × (held : List Numbered) × TakerSees v posted (x ∷ held) × TakerSees w posted held

-- what the taker learns of an empty queue
abbrev pub TakerLearns : View → List Numbered → Type 0
TakerLearns v held = (posted : List Numbered) × TakerSees v posted held
