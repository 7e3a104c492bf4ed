use Rattle.std.proofs.Common.{◌≡◌, ◌-◌, ◌<◌, cond, length, ap, arith, rules, true, false, Some, None}
use Rattle.enet_sender.specs.Sender.{bytes_leaving, price_leaving}
use Rattle.enet_outbox.proofs.Senders.{accepts}
use Rattle.enet_outbox.proofs.lists.acknowledge_on.Goals as goal

pub returns-in_err-told-clause-kept : goal.returns-in_err-told-clause-kept
returns-in_err-told-clause-kept c =
    let inside : c.args.channel < length c.args.senders.now = omega (arith, c.from-place.ensures, c.len.ensures, c.if-place-len.false) in
    (accepts c.args.transit.now c.args.prices.now c.args.channel c.args.number c.args.time c.args.senders.now c.acknowledge.new.self None inside c.requires c.in_err-told.ensures.told c.in_err-told.ensures.ends).kept c.args.transit.now c.args.prices.now (omega arith) (omega arith)

pub overflow_sub-transit : goal.overflow_sub-transit
overflow_sub-transit c =
    let inside : c.args.channel < length c.args.senders.now = omega (arith, c.from-place.ensures, c.len.ensures, c.if-place-len.false) in
    let waits : c.in_ok-told.told.due ≡ false = search rules in
    let gone : bytes_leaving (Some c.in_ok-told.told) ≡ c.in_ok-told.told.bytes = ap (λ b. cond b 0 c.in_ok-told.told.bytes) waits in
    let most = (accepts c.args.transit.now c.args.prices.now c.args.channel c.args.number c.args.time c.args.senders.now c.acknowledge.new.self (Some c.in_ok-told.told) inside c.requires c.in_ok-told.ensures.told c.in_ok-told.ensures.ends).bytes in
    omega arith

pub overflow_sub-prices : goal.overflow_sub-prices
overflow_sub-prices c =
    let inside : c.args.channel < length c.args.senders.now = omega (arith, c.from-place.ensures, c.len.ensures, c.if-place-len.false) in
    let waits : c.in_ok-told.told.due ≡ false = search rules in
    let gone : price_leaving (Some c.in_ok-told.told) ≡ c.in_ok-told.told.price = ap (λ b. cond b 0 c.in_ok-told.told.price) waits in
    let most = (accepts c.args.transit.now c.args.prices.now c.args.channel c.args.number c.args.time c.args.senders.now c.acknowledge.new.self (Some c.in_ok-told.told) inside c.requires c.in_ok-told.ensures.told c.in_ok-told.ensures.ends).prices in
    omega arith

pub returns-then-not-told-clause-told : goal.returns-then-not-told-clause-told
returns-then-not-told-clause-told c =
    let inside : c.args.channel < length c.args.senders.now = omega (arith, c.from-place.ensures, c.len.ensures, c.if-place-len.false) in
    (accepts c.args.transit.now c.args.prices.now c.args.channel c.args.number c.args.time c.args.senders.now c.acknowledge.new.self (Some c.in_ok-told.told) inside c.requires c.in_ok-told.ensures.told c.in_ok-told.ensures.ends).found

pub returns-then-not-told-clause-accepted : goal.returns-then-not-told-clause-accepted
returns-then-not-told-clause-accepted c =
    let inside : c.args.channel < length c.args.senders.now = omega (arith, c.from-place.ensures, c.len.ensures, c.if-place-len.false) in
    (accepts c.args.transit.now c.args.prices.now c.args.channel c.args.number c.args.time c.args.senders.now c.acknowledge.new.self (Some c.in_ok-told.told) inside c.requires c.in_ok-told.ensures.told c.in_ok-told.ensures.ends).accepted

pub returns-then-not-told-clause-kept : goal.returns-then-not-told-clause-kept
returns-then-not-told-clause-kept c =
    let inside : c.args.channel < length c.args.senders.now = omega (arith, c.from-place.ensures, c.len.ensures, c.if-place-len.false) in
    let waits : c.in_ok-told.told.due ≡ false = search rules in
    let bytes : bytes_leaving (Some c.in_ok-told.told) ≡ c.in_ok-told.told.bytes = ap (λ b. cond b 0 c.in_ok-told.told.bytes) waits in
    let price : price_leaving (Some c.in_ok-told.told) ≡ c.in_ok-told.told.price = ap (λ b. cond b 0 c.in_ok-told.told.price) waits in
    let h = accepts c.args.transit.now c.args.prices.now c.args.channel c.args.number c.args.time c.args.senders.now c.acknowledge.new.self (Some c.in_ok-told.told) inside c.requires c.in_ok-told.ensures.told c.in_ok-told.ensures.ends in
    let most = h.bytes in
    let dear = h.prices in
    h.kept (c.args.transit.now - c.in_ok-told.told.bytes) (c.args.prices.now - c.in_ok-told.told.price) (omega arith) (omega arith)

pub returns-else-not-told-clause-told : goal.returns-else-not-told-clause-told
returns-else-not-told-clause-told c =
    let inside : c.args.channel < length c.args.senders.now = omega (arith, c.from-place.ensures, c.len.ensures, c.if-place-len.false) in
    (accepts c.args.transit.now c.args.prices.now c.args.channel c.args.number c.args.time c.args.senders.now c.acknowledge.new.self (Some c.in_ok-told.told) inside c.requires c.in_ok-told.ensures.told c.in_ok-told.ensures.ends).found

pub returns-else-not-told-clause-accepted : goal.returns-else-not-told-clause-accepted
returns-else-not-told-clause-accepted c =
    let inside : c.args.channel < length c.args.senders.now = omega (arith, c.from-place.ensures, c.len.ensures, c.if-place-len.false) in
    (accepts c.args.transit.now c.args.prices.now c.args.channel c.args.number c.args.time c.args.senders.now c.acknowledge.new.self (Some c.in_ok-told.told) inside c.requires c.in_ok-told.ensures.told c.in_ok-told.ensures.ends).accepted

pub returns-else-not-told-clause-kept : goal.returns-else-not-told-clause-kept
returns-else-not-told-clause-kept c =
    let inside : c.args.channel < length c.args.senders.now = omega (arith, c.from-place.ensures, c.len.ensures, c.if-place-len.false) in
    let due : c.in_ok-told.told.due ≡ true = search rules in
    let bytes : bytes_leaving (Some c.in_ok-told.told) ≡ 0 = ap (λ b. cond b 0 c.in_ok-told.told.bytes) due in
    let price : price_leaving (Some c.in_ok-told.told) ≡ 0 = ap (λ b. cond b 0 c.in_ok-told.told.price) due in
    (accepts c.args.transit.now c.args.prices.now c.args.channel c.args.number c.args.time c.args.senders.now c.acknowledge.new.self (Some c.in_ok-told.told) inside c.requires c.in_ok-told.ensures.told c.in_ok-told.ensures.ends).kept c.args.transit.now c.args.prices.now (omega arith) (omega arith)
