-- What the address of a slot's peer sent for it, and what it got: before somebody is known to be there, an address gets at most three
-- times what it sent. Numbers are bytes.
use Rattle.std.specs.Prelude.{ℕ, ◌+◌, ◌*◌, min, Bool, nat_lt, List, get_or, slice_set}
use Rattle.enet_slot.specs.Slot.{greatest}
use Rattle.enet_host.specs.declared.credits.Credit.{Credit}

-- what a datagram of so many has with its headers of IP and UDP
abbrev pub size_of : ℕ → ℕ
size_of len = min (len + 28) greatest

abbrev pub no_credit : Credit
no_credit = record { came = 0; went = 0 }

-- a datagram came, or went; each count stops at its greatest value
abbrev pub came : ℕ → Credit → Credit
came len c = record c { came = min (c.came + size_of len) greatest }

abbrev pub went : ℕ → Credit → Credit
went len c = record c { went = min (c.went + size_of len) greatest }

-- the datagram that answers a CONNECT, with its headers
abbrev pub answer_size : ℕ
answer_size = 76

-- another answer would bring what went above three times what came
abbrev pub is_short : Credit → Bool
is_short c = nat_lt (3 * c.came) (c.went + answer_size)

-- of slot i, if there is one
abbrev pub credit_at : List Credit → ℕ → Credit
credit_at credits i = get_or credits i no_credit

abbrev pub is_short_at : List Credit → ℕ → Bool
is_short_at credits i = is_short (credit_at credits i)

abbrev pub with_came : List Credit → ℕ → ℕ → List Credit
with_came credits i len = slice_set credits i (came len (credit_at credits i))

abbrev pub with_went : List Credit → ℕ → ℕ → List Credit
with_went credits i len = slice_set credits i (went len (credit_at credits i))

-- the datagram by which a peer begins is the first that counts for it
abbrev pub with_first : List Credit → ℕ → ℕ → List Credit
with_first credits i len = slice_set credits i (came len no_credit)
