use Rattle.std.proofs.Common.{refl, sym, subst}
use Rattle.std.specs.Cmp.{nat_cmp_total}
use Rattle.std.specs.FinMap.{nat_cmp-IsAntisymmetric}
use Rattle.gr_core.specs.Columns.Fields.{developer_fields, resolution_fields, choice_fields, sponsor_fields, ballot_fields, FitsResolution, FitsChoice}
use Rattle.gr_core.specs.Columns.Stored.{IsRollOf, AreResolutionsOf, AreChoicesOf, AreSponsorsOf, AreBallotsOf, FitsDeveloper, FitsSponsor, FitsVoter}
use Rattle.gr_core.proofs.Contents.BallotKeys.{ballot_total, ballot_only}
use Rattle.gr_core.proofs.Collections.PairKeys.{choice_total, choice_only}
use Rattle.gr_core.proofs.Contents.SponsorLemmas.{sponsor_total, sponsor_only}
use Rattle.gr_core.proofs.Columns.StoredLemmas.{no_rows}
use Rattle.gr_core.proofs.Collections.TextKeys.{text_total, text_only}
use Rattle.gr_core.proofs.intake.Intake.new.Goals as goal

pub returns-clause-taken : goal.returns-clause-taken
returns-clause-taken c = record {
  desk = refl;
  others = record {
    developers = subst (IsRollOf _) (sym c.new.ensures) (no_rows text_total text_only developer_fields FitsDeveloper);
    resolutions = subst (AreResolutionsOf _) (sym c.new-2.ensures) (no_rows nat_cmp_total nat_cmp-IsAntisymmetric resolution_fields FitsResolution);
    choices = subst (AreChoicesOf _) (sym c.new-3.ensures) (no_rows choice_total choice_only choice_fields FitsChoice);
    sponsors = subst (AreSponsorsOf _) (sym c.new-4.ensures) (no_rows sponsor_total sponsor_only sponsor_fields FitsSponsor);
    ballots = subst (AreBallotsOf _) (sym c.new-5.ensures) (no_rows ballot_total ballot_only ballot_fields FitsVoter);
  };
}
