-- Who proposes a choice sponsors it not.
use Rattle.std.proofs.Common.{refl}
use Rattle.std.specs.FinMap.{get}
use Rattle.gr_core.specs.declared.sponsor.Sponsorship.TheVariants.{Active}
use Rattle.gr_core.specs.Desks.Valid.{IsSponsorship}
use Rattle.gr_core.specs.Laws.ResolutionLaws.{ProposersSponsorNothing}
use Rattle.gr_core.proofs.Collections.PresenceLemmas.{of_value}

-- the present proposer of a choice is no active sponsor of it
pub proposer_sponsors_nothing : ProposersSponsorNothing
proposer_sponsors_nothing s key choice login valid there proposes active =
    (of_value (get s.choices key) (λ row. IsSponsorship s.developers row login Active) choice there
    (valid.tables.sponsors key login Active active)).other refl proposes
