use Rattle.enet_site.proofs.Admitted.{admit-refused, admit-sets, admit-unchanged, admit-whole}
use Rattle.enet_site.proofs.site.Site.admit.Goals as goal

pub invariant_of-self : goal.invariant_of-self
invariant_of-self c = admit-whole c.args.what c.admit.result c.self.inside.address c.self.inside.host c.admit.new.self c.self.inside.records c.admit.ensures c.self.invariant

pub returns-clause-refused : goal.returns-clause-refused
returns-clause-refused c = admit-refused c.args.what c.admit.result c.self.inside.address c.self.inside.host c.admit.new.self c.self.inside.records _ c.self.view_is c.admit.ensures

pub returns-clause-unchanged : goal.returns-clause-unchanged
returns-clause-unchanged c = admit-unchanged c.args.what c.admit.result c.self.inside.address c.self.inside.host c.admit.new.self c.self.inside.records _ c.self.view_is c.admit.ensures

pub returns-clause-admits : goal.returns-clause-admits
returns-clause-admits c = admit-sets c.args.what c.admit.result c.self.inside.address c.self.inside.host c.admit.new.self c.self.inside.records _ c.self.view_is c.admit.ensures
