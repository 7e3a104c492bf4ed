use Rattle.std.proofs.Common.{◌≡◌, List, ◌++◌, length, take, drop, take-append-drop, Result, Ok, Err, OnErr, sym, ◌∙◌, ap, append_assoc}
use Rattle.std.proofs.Math.Seq.{take-append_seam}
use Rattle.enet_codec.specs.declared.refusal.Refusal.{Refusal}
use Rattle.enet_submit.specs.declared.order.Order.{Order}
use Rattle.enet_chat.proofs.batch.put_grouped.Goals as goal

-- what begins with all that is there so far begins with what was there before
begins : (before more now after : List Order) → now ≡ before ++ more → take (length now) after ≡ now → take (length before) after ≡ before
begins before more now after is first =
    let rest = drop (length now) after in
    ap (take (length before))
    (sym (take-append-drop (length now) after) ∙ ap (λ (os : List Order). os ++ rest) (first ∙ is) ∙ append_assoc before more rest)
    ∙ take-append_seam before (more ++ rest)

on_err : {P : Type 0} (result : Result (Unit {0}) Refusal) → P → OnErr result P
on_err (Ok done) p = tt
on_err (Err why) p = p

pub returns-in_err-put_all_for-clause-kept : goal.returns-in_err-put_all_for-clause-kept
returns-in_err-put_all_for-clause-kept c =
    on_err _ (begins _ _ _ _ c.loop-peer.invariant c.in_err-put_all_for.ensures.kept)
