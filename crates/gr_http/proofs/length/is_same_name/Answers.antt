-- The test of std is the definition's.
use Rattle.std.proofs.lemmas.Bool.Decides.{same_from_decides}
use Rattle.std.proofs.lemmas.Slice.Eq.{bytes_eq-Decides}
use Rattle.gr_http.specs.Length.{is_named}
use Rattle.gr_http.proofs.length.is_same_name.Goals as goal

pub returns : goal.returns
unfolding is_named
returns c = λ value. same_from_decides _ _ c.eq_ignore_ascii_case.ensures.test (bytes_eq-Decides _ _)
