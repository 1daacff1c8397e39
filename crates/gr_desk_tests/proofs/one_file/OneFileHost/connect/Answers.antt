use Rattle.std.proofs.Common.{refl}
use Rattle.std.specs.Str.{bytes_eq}
use Rattle.gr_desk_tests.proofs.HostLemmas.{lent}
use Rattle.gr_desk_tests.proofs.one_file.OneFileHost.connect.Goals as goal

pub returns-in-Ok-connected-clause-others : goal.returns-in-Ok-connected-clause-others
returns-in-Ok-connected-clause-others g c =
    ((λ name other. (refl, lent (bytes_eq name c.args.self.now.name.now) _ _ _ _ c.take.ensures.after), λ name. refl), λ port. refl)
