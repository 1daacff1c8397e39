use Rattle.std.proofs.Common.{rules}
use Rattle.gr_http.proofs.FormLemmas.{value_found}
use Rattle.gr_http.proofs.form.SentField.value_of.Goals as goal

pub returns : goal.returns
returns c = value_found tt c.args.self.now c.args.field c.eq.result c.then_some.result c.eq.ensures (search rules)
