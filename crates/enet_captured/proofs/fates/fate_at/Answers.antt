use Rattle.std.proofs.Common.{◌≡◌, ◌<◌, ◌∙◌, length, sym, ap, arith}
use Rattle.enet_captured.specs.Sends.{at, acknowledged_key, command_key, new_at, send_key, seen_before, went_before, belongs_to, goes_again, is_acknowledged, turn}
use Rattle.enet_captured.specs.Fates.{leads_behind}
use Rattle.enet_captured.proofs.TableLemmas.{last_of_below, near_last_below}
use Rattle.enet_captured.proofs.FateLemmas.{link_is, behind_is, waiting_is, fate_same}
use Rattle.enet_captured.proofs.fates.fate_at.Goals as goal

pub returns : goal.returns
returns c =
    let marks = c.args.marks.now in
    let n = length marks in
    let place = c.args.place in
    let h = c.requires.linked in
    let w = c.requires.within in
    let seen : c.link_at-seen.result ≡ seen_before marks place = link_is (seen_before marks) n place _ _ _ h.seen_before_is c.as_slice.ensures.value w c.link_at-seen.ensures in
    let went : c.link_at-went.result ≡ went_before marks place = link_is (went_before marks) n place _ _ _ h.went_before_is c.as_slice-2.ensures.value w c.link_at-went.ensures in
    let belongs : c.link_at-belongs.result ≡ belongs_to marks place = link_is (belongs_to marks) n place _ _ _ h.belongs_to_is c.as_slice-3.ensures.value w c.link_at-belongs.ensures in
    let again : c.link_at-again.result ≡ goes_again marks place = link_is (goes_again marks) n place _ _ _ h.goes_again_is c.as_slice-4.ensures.value w c.link_at-again.ensures in
    let acknowledged : c.link_at-acknowledged.result ≡ is_acknowledged marks place = link_is (is_acknowledged marks) n place _ _ _ h.is_acknowledged_is c.as_slice-5.ensures.value w c.link_at-acknowledged.ensures in
    let early = behind_is (is_acknowledged marks) n place _ _ c.link_at-went.result _ h.is_acknowledged_is c.as_slice-6.ensures.value
    (λ k there. let below : k < place = near_last_below (new_at command_key marks) (turn marks) (new_at command_key marks place) place k (sym went ∙ there) in omega (arith, below, w)) c.leads_behind-early.ensures in
    let vain = behind_is (goes_again marks) n place _ _ c.link_at-belongs.result _ h.goes_again_is c.as_slice-7.ensures.value
    (λ k there. let below : k < place = last_of_below (new_at send_key marks) (at acknowledged_key marks place) place k (sym belongs ∙ there) in omega (arith, below, w)) c.leads_behind-vain.ensures in
    fate_same _ _ _ _ _ _ _ _ _ _ _ _ _ _ c.fate_by.result c.fate_by.ensures (waiting_is marks place _ _ _ w (c.waits-waits.ensures marks h) seen) seen went again acknowledged
    (early ∙ ap (leads_behind (is_acknowledged marks) place) went) (vain ∙ ap (leads_behind (goes_again marks) place) belongs)
