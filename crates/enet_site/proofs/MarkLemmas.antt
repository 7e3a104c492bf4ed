-- The marks of a datagram, command by command.
use Rattle.std.proofs.Common.{◌≡◌, ℕ, zero, suc, List, [], ◌++◌, take, drop, option_to_list, refl, subst, sym, inl, inr, append-nil}
use Rattle.std.proofs.lemmas.List.{take-append-drop}
use Rattle.enet_codec.specs.Message.{Message, Spells}
use Rattle.law_network.specs.declared.mark.Mark.{Mark}
use Rattle.enet_peer.specs.Handling.{SpellsNone}
use Rattle.law_network.specs.Marks.{mark_of, MarksOf}

-- none is left
pub marks-none : (most : ℕ) (bytes : List ℕ) → SpellsNone bytes → MarksOf most bytes []
unfolding MarksOf
marks-none zero bytes none = refl
marks-none (suc most) bytes none = inl (none, refl)

-- so many were read
pub marks-zero : (bytes : List ℕ) → MarksOf 0 bytes []
unfolding MarksOf
marks-zero bytes = refl

-- a command before others
pub marks-more : (most from : ℕ) (bytes text rest : List ℕ) (m : Message) (later : List Mark) → from ≡ suc most
    → bytes ≡ text ++ rest → Spells text m → MarksOf most rest later → MarksOf from bytes (option_to_list (mark_of m) ++ later)
unfolding MarksOf
marks-more most from bytes text rest m later e split spelled follow =
    subst (λ (n : ℕ). MarksOf n bytes (option_to_list (mark_of m) ++ later)) (sym e)
    (inr (record { message = m; text = text; rest = rest; later = later; split = split; spelled = spelled; follow = follow; joined = refl }))

-- nothing more follows
pub ended : (bytes : List ℕ) (marks : List Mark) → MarksOf 32 bytes (marks ++ []) → MarksOf 32 bytes marks
ended bytes marks h = rw append-nil at h

-- what stands before a place and what stands after it
pub split-at : (place : ℕ) (bytes : List ℕ) → bytes ≡ take place bytes ++ drop place bytes
split-at place bytes = sym (take-append-drop place bytes)
