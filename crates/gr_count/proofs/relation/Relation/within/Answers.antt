use Rattle.gr_count.proofs.relation.Relation.within.Goals as goal

pub returns-clause-inner : goal.returns-clause-inner
returns-clause-inner c = λ a b. (
  λ related. (c.of_rows.ensures.rows a (c.of_rows.ensures.below a b related) b).0 related,
  λ inner. (c.of_rows.ensures.rows a (c.requires.below a b inner.0).0 b).1 inner,
)

pub returns-clause-below : goal.returns-clause-below
returns-clause-below c = λ a b related.
    c.requires.below a b ((c.of_rows.ensures.rows a (c.of_rows.ensures.below a b related) b).0 related).0
