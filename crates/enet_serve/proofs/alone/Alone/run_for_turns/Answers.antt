use Rattle.enet_serve.proofs.alone.Alone.run_for_turns.Goals as goal

pub returns-in-Err-clause-goes_off : goal.returns-in-Err-clause-goes_off
returns-in-Err-clause-goes_off g c = λ is. (let off = c.in-Err.ensures.goes_off is in (off.0, off.1, rw (c.show-in-Err.ensures.0, c.show-in-Err.ensures.1) off.2))
