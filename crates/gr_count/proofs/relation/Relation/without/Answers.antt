use Rattle.gr_count.proofs.relation.Relation.without.Goals as goal

pub returns-clause-left : goal.returns-clause-left
returns-clause-left c = λ a b. (
  λ related. (c.of_rows.ensures.rows a (c.of_rows.ensures.below a b related) b).0 related,
  λ left. (c.of_rows.ensures.rows a (c.requires.below a b left.0).0 b).1 left,
)

pub returns-clause-below : goal.returns-clause-below
returns-clause-below c = λ a b related.
    c.requires.below a b ((c.of_rows.ensures.rows a (c.of_rows.ensures.below a b related) b).0 related).0
