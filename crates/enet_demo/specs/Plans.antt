-- What a client asks for.
use Rattle.std.specs.Prelude.{ℕ, ◌+◌, ◌^◌, List, [], ◌∷◌, map, Option, Some, None}
use Rattle.rand_chacha.specs.ChaCha.{word_at, key_of}
use Rattle.rand_pcg.specs.Lcg.{started, increment_of}
use Rattle.rand_pcg.specs.Pcg.{pcg32, multiplier_64}
use Rattle.enet_codec.specs.declared.config.Secret.{Secret}
use Rattle.enet_codec.specs.declared.event.PeerRef.{PeerRef}
use Rattle.enet_submit.specs.declared.order.Order.{Order}
use Rattle.enet_submit.specs.declared.order.Order.TheVariants.{Connect, Submit}
use Rattle.enet_demo.specs.declared.orders.Plan.{Plan}
use Rattle.enet_demo.specs.declared.stage.Stage.{Stage}
use Rattle.enet_demo.specs.declared.stage.Stage.TheVariants.{Alone, Connected, Chatted}

-- a client's connect id: the first word of a key stream of its own, by which no peer draws; without a secret that of a generator with a
-- stream of its own
abbrev pub word_of : Option Secret → ℕ → ℕ
word_of None number = (pcg32 (started 64 multiplier_64 0x656e6574 (increment_of 64 number))).0
word_of (Some secret) number = word_at 10 (key_of secret.key) (2 ^ 63 + number) 0

abbrev pub connect : Plan → Order
connect plan = Connect plan.server 2 0 (word_of plan.secret plan.number)

-- the bytes of `c<number> <packet>`, both of one digit
abbrev pub text : ℕ → ℕ → List ℕ
text number packet = 99 ∷ (48 + number) ∷ 32 ∷ (48 + packet) ∷ []

-- reliable packets on channel 0
abbrev pub chat : ℕ → PeerRef → ℕ → Order
chat number peer packet = Submit peer 0 1 (text number packet)

abbrev pub chats : ℕ → PeerRef → List Order
chats number peer = map (chat number peer) (0 ∷ 1 ∷ 2 ∷ [])

-- all that a client asks for until it has come so far: its connection, and then its chat over that
abbrev pub asks : Plan → Stage → List Order
asks plan Alone = connect plan ∷ []
asks plan (Connected peer) = connect plan ∷ []
asks plan (Chatted peer) = connect plan ∷ chats plan.number peer
