use Rattle.std.proofs.Common.{◌≡◌, ◌==◌, ◌∙◌, ◌∷◌, [], List, ap, sym, append-nil, length}
use Rattle.enet_captured.specs.declared.timeline.Seen.{Seen}
use Rattle.enet_captured.specs.Parts.{left_out, shown}
use Rattle.enet_captured.proofs.PassLemmas.{none_passes, not_asked, some_pass}
use Rattle.enet_captured.proofs.part.push_part.Goals as goal

pub returns-then-not-takes : goal.returns-then-not-takes
returns-then-not-takes c = ([], sym (append-nil _), left_out (not_asked _ _ _ (sym c.takes.ensures) c.if-not-takes.true))

pub returns-then-is_empty : goal.returns-then-is_empty
returns-then-is_empty c =
    let part = c.in_ok-part.part in
    let empty : c.is_empty.result ≡ (length part.seen.items == 0) = c.is_empty.ensures ∙ ap (λ (l : List Seen). length l == 0) c.as_slice.ensures.value in
    ([], sym (append-nil _), left_out (none_passes _ _ _ _ c.in_ok-part.ensures.seen_are empty c.if-is_empty.true))

pub returns : goal.returns
returns c =
    let part = c.in_ok-part.part in
    let empty : c.is_empty.result ≡ (length part.seen.items == 0) = c.is_empty.ensures ∙ ap (λ (l : List Seen). length l == 0) c.as_slice.ensures.value in (
      part ∷ [],
      c.in_ok-push.ensures.items,
      shown part (some_pass _ _ _ _ (sym c.takes.ensures ∙ c.if-not-takes.false) c.in_ok-part.ensures.seen_are empty c.if-is_empty.false) c.in_ok-part.ensures,
    )
