use Rattle.std.proofs.Common.{[], refl, subst}
use Rattle.std.proofs.lemmas.Result.{IfOk-weaker, IfErr-weaker}
use Rattle.enet_wire.specs.Socket.{failures_of}
use Rattle.enet_guard.specs.Journals.{told_of as told_at}
use Rattle.enet_serve.specs.Serving.{told_of, faults_of}
use Rattle.enet_serve.specs.declared.threads.Carryover.{Carryover}
use Rattle.enet_serve.specs.Private.Alone.{IsOf, pair}
use Rattle.enet_serve.proofs.TurnByTurn.{goes_nowhere, goes_on, goes_off, serves, cut_alone}
use Rattle.enet_serve.proofs.server.ChatServer.serve_alone.Goals as goal

pub returns-clause-serves : goal.returns-clause-serves
returns-clause-serves g c =
    let old = c.args.self.now in
    let began = c.begin_alone.result in
    let ended = c.run-served.new.self.relay in
    let kept : IsOf old.kept began = subst (λ (kept : Carryover). IsOf kept began) c.replace-kept.ensures.value c.begin_alone.ensures in
    IfOk-weaker c.run-served.result _ _
    (λ report ran. serves old _ began ended c.args.run_length ran.0 report kept c.end_alone.ensures.left c.end_alone.ensures.settled refl ran.1 ran.2
    (goes_on (pair old.bound.service began (told_of old) (faults_of old)) (pair old.bound.service c.expand.new.self (told_of old) (faults_of old)) (pair c.run-served.new.bound.service ended (told_at c.run-served.new.bound.wire) (failures_of c.run-served.new.bound.wire.wire)) [] ran.0
    (goes_nowhere (pair old.bound.service began (told_of old) (faults_of old)) (pair old.bound.service c.expand.new.self (told_of old) (faults_of old)) refl refl refl c.expand.ensures.expands c.in_ok-expand.ensures.behind c.in_ok-expand.ensures.far_behind) ran.3))
    c.run-served.ensures.goes

pub returns-clause-cut_off : goal.returns-clause-cut_off
returns-clause-cut_off g c =
    let old = c.args.self.now in
    let began = c.begin_alone.result in
    let ended = c.run-served.new.self.relay in
    let kept : IsOf old.kept began = subst (λ (kept : Carryover). IsOf kept began) c.replace-kept.ensures.value c.begin_alone.ensures in
    IfErr-weaker c.run-served.result _ _
    (λ why ran is. (let off = ran is in cut_alone old _ began ended c.args.run_length off.0 kept c.end_alone.ensures.left c.end_alone.ensures.settled refl off.1
    (goes_off (pair old.bound.service began (told_of old) (faults_of old)) (pair old.bound.service c.expand.new.self (told_of old) (faults_of old)) (pair c.run-served.new.bound.service ended (told_at c.run-served.new.bound.wire) (failures_of c.run-served.new.bound.wire.wire)) [] off.0
    (goes_nowhere (pair old.bound.service began (told_of old) (faults_of old)) (pair old.bound.service c.expand.new.self (told_of old) (faults_of old)) refl refl refl c.expand.ensures.expands c.in_ok-expand.ensures.behind c.in_ok-expand.ensures.far_behind) off.2)))
    c.run-served.ensures.goes_off
