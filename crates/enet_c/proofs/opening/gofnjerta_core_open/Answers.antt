use Rattle.std.proofs.Common.{rules, ◌≡◌, sym, refl, ap, ◌∙◌, subst, Option, Some, None, Ok, Err}
use Rattle.enet_codec.specs.declared.config.Config.{Config}
use Rattle.enet_host.specs.Opening.{Opens, opened}
use Rattle.enet_c.specs.declared.held.Held.{Held}
use Rattle.enet_c.specs.Border.{Begins}
use Rattle.enet_c.specs.Shapes.{config_meant}
use Rattle.enet_c.proofs.opening.gofnjerta_core_open.Goals as goal

pub returns-in-Ok : goal.returns-in-Ok
returns-in-Ok c =
    let was : c.args.handle.now.own.value ≡ None = search rules in
    subst (λ (o : Option Held). Begins (config_meant c.args.config.now) o 0 c.put-in-Ok.new.self.own.value) (sym was) (record {
      answer = Ok c.in-Ok.held.value.host;
      opens = subst (λ (x : Config). Opens x (Ok c.in-Ok.held.value.host) (opened x)) c.into_config.ensures c.in-Ok.ensures.opens;
      told = refl;
      left = c.put-in-Ok.ensures ∙ ap (λ (h : Held). Some h) c.in-Ok.ensures.alone;
    })

pub returns-in-Err : goal.returns-in-Err
returns-in-Err c =
    let was : c.args.handle.now.own.value ≡ None = search rules in
    subst (λ (o : Option Held). Begins (config_meant c.args.config.now) o c.number_of.result c.take.new.self.own.value) (sym was) (record {
      answer = Err c.in-Err.why;
      opens = subst (λ (x : Config). Opens x (Err c.in-Err.why) (opened x)) c.into_config.ensures c.in-Err.ensures.refused;
      told = c.number_of.ensures;
      left = c.take.ensures.closed;
    })
