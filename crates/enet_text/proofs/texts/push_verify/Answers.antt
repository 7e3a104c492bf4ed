use Rattle.std.proofs.Common.{◌++◌, List, ℕ}
use Rattle.std.specs.String.{string_bytes}
use Rattle.enet_text.specs.InspectTexts.{id_text, limits_text, sessions_text, sizes_text, throttle_text}
use Rattle.enet_text.proofs.Joins.{behind}
use Rattle.enet_text.proofs.texts.push_verify.Goals as goal

pub returns : goal.returns
returns c =
    let o = c.args.verify in
    let start : List ℕ = string_bytes c.args.text.now in
    let one : List ℕ = sessions_text o.outgoing_peer o.incoming_session o.outgoing_session in
    let two : List ℕ = one ++ sizes_text o.mtu o.window o.channels in
    let three : List ℕ = two ++ limits_text o.incoming_bandwidth o.outgoing_bandwidth in
    let four : List ℕ = three ++ throttle_text o.throttle_interval o.acceleration o.deceleration in
    let e2 = behind start one (sizes_text o.mtu o.window o.channels) (string_bytes c.push_sessions.new.text)
    (string_bytes c.push_sizes.new.text) c.in_ok-push_sessions.ensures c.in_ok-push_sizes.ensures in
    let e3 = behind start two (limits_text o.incoming_bandwidth o.outgoing_bandwidth) (string_bytes c.push_sizes.new.text)
    (string_bytes c.push_limits.new.text) e2 c.in_ok-push_limits.ensures in
    let e4 = behind start three (throttle_text o.throttle_interval o.acceleration o.deceleration) (string_bytes c.push_limits.new.text)
    (string_bytes c.push_throttle.new.text) e3 c.in_ok-push_throttle.ensures in
    behind start four (id_text o.connect_id) (string_bytes c.push_throttle.new.text)
    (string_bytes c.push_id.new.text) e4 c.in_ok-push_id.ensures
