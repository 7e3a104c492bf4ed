use Rattle.enet_console.proofs.Givings.{say-some, say-none}
use Rattle.enet_console.proofs.word.say.Goals as goal

pub returns-in_ok-copy_from_slice-in-Ok : goal.returns-in_ok-copy_from_slice-in-Ok
returns-in_ok-copy_from_slice-in-Ok c = say-some c.args.text.now c.in_ok-copy_from_slice-in-Ok.field-0 c.in-Ok.ensures.cases.1 c.in_ok-copy_from_slice-in-Ok.ensures

pub returns-in-Err : goal.returns-in-Err
returns-in-Err c = say-none c.args.text.now c.in-Err.ensures.cases.0
