use Rattle.gr_count.proofs.relation.Relation.filter.Goals as goal

pub returns-clause-within : goal.returns-clause-within
returns-clause-within g c = λ a b related. (c.of_rows.ensures.rows a (c.requires.below a b related).0).0 b related

pub returns-clause-among : goal.returns-clause-among
returns-clause-among g c = λ a b related. (c.of_rows.ensures.rows a (c.of_rows.ensures.below a b related)).1 b related
