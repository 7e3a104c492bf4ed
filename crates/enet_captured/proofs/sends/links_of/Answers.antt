use Rattle.std.proofs.Common.{◌∙◌, length}
use Rattle.enet_captured.specs.Sends.{belongs_to, command_key, new_at, seen_before, send_key, turn, went_before}
use Rattle.enet_captured.proofs.LinkLemmas.{slice_table, seen_is, new_is, went_is, belongs_is, first_is}
use Rattle.enet_captured.proofs.sends.links_of.Goals as goal

pub returns : goal.returns
returns c =
    let marks = c.args.marks.now in
    let n = length marks in
    let seen = seen_is marks _ _ _ (c.as_slice.ensures.value ∙ c.in_ok-sends.ensures) (slice_table (turn marks) n _ _ c.as_slice-2.ensures.value c.in_ok-turns.ensures) c.in_ok-seen_before.ensures in
    let commands = new_is command_key marks _ _ _ (slice_table (seen_before marks) n _ _ c.as_slice-4.ensures.value seen) (c.as_slice-3.ensures.value ∙ c.in_ok-commands.ensures) c.in_ok-commands-2.ensures in
    let went = went_is marks _ _ _ (slice_table (new_at command_key marks) n _ _ c.as_slice-5.ensures.value commands) (slice_table (turn marks) n _ _ c.as_slice-6.ensures.value c.in_ok-turns.ensures) c.in_ok-went_before.ensures in
    let sends = new_is send_key marks _ _ _ (slice_table (seen_before marks) n _ _ c.as_slice-8.ensures.value seen) (c.as_slice-7.ensures.value ∙ c.in_ok-sends.ensures) c.in_ok-sends-2.ensures in
    let belongs = belongs_is marks _ _ _ (slice_table (new_at send_key marks) n _ _ c.as_slice-9.ensures.value sends) (c.as_slice-10.ensures.value ∙ c.in_ok-acknowledged.ensures) c.in_ok-belongs_to.ensures in
    record {
      seen_before_is = seen;
      went_before_is = went;
      belongs_to_is = belongs;
      goes_again_is = first_is (went_before marks) n _ _ (slice_table (went_before marks) n _ _ c.as_slice-11.ensures.value went) c.in_ok-goes_again.ensures;
      is_acknowledged_is = first_is (belongs_to marks) n _ _ (slice_table (belongs_to marks) n _ _ c.as_slice-12.ensures.value belongs) c.in_ok-is_acknowledged.ensures;
      right_is = c.is_verified.ensures;
      left_is = c.is_verified-2.ensures;
    }
