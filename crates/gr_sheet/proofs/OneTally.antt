-- A state has one tally of a resolution.
use Rattle.std.proofs.Common.{◌≡◌, ℕ, List, map, refl, sym, ap, ◌∙◌}
use Rattle.std.specs.Cmp.{IsTotalOrder, on_total, then_total}
use Rattle.std.specs.Cmp.Lexicographic.{nat_list_cmp_total}
use Rattle.std.specs.FinMap.{IsAntisymmetric, nat_cmp-IsAntisymmetric, slice_cmp-IsAntisymmetric}
use Rattle.std.proofs.lemmas.Map.Lookups.{exact_pairs}
use Rattle.gr_core.specs.Parts.Ballot.{ballots_of}
use Rattle.gr_core.specs.Parts.Key.{text_cmp}
use Rattle.gr_core.specs.Desks.State.{State}
use Rattle.gr_sheet.specs.TallySheet.{IsTally, shown, shown_cmp, tally_sheet}
use Rattle.gr_sheet.proofs.CountedLists.{one_order, in_order, in_order_moves, in_order_is}

pub shown_total : IsTotalOrder shown_cmp
shown_total = then_total (on_total (λ ballot. ballot.receipt) nat_list_cmp_total) (on_total (λ ballot. ballot.ranks) nat_list_cmp_total)

pub text_only : IsAntisymmetric text_cmp
text_only = slice_cmp-IsAntisymmetric nat_cmp-IsAntisymmetric

pub shown_only : IsAntisymmetric shown_cmp
shown_only one other tie =
    let texts : ◌≡◌ {A = List ℕ × List ℕ} (one.receipt, one.ranks) (other.receipt, other.ranks)
    = exact_pairs text_cmp text_cmp text_only text_only (one.receipt, one.ranks) (other.receipt, other.ranks) tie in
    λ i. record { receipt = (texts i).0; ranks = (texts i).1 }

pub one_tally : (s : State) (number : ℕ) (one other : List ℕ) → IsTally s number one → IsTally s number other → one ≡ other
one_tally s number one other (here, h, is) (there, k, also) =
    is ∙ ap (tally_sheet s number)
    (one_order shown_total shown_only (map shown (ballots_of s.ballots number)) here there h.each k.each h.ordered k.ordered)
    ∙ sym also

-- and it has one
abbrev pub a_tally : State → ℕ → List ℕ
a_tally s number = tally_sheet s number (in_order shown_total shown_only (map shown (ballots_of s.ballots number)))

pub is_a_tally : (s : State) (number : ℕ) → IsTally s number (a_tally s number)
is_a_tally s number = (
  in_order shown_total shown_only (map shown (ballots_of s.ballots number)),
  record {
    each = in_order_moves shown_total shown_only (map shown (ballots_of s.ballots number));
    ordered = in_order_is shown_total shown_only (map shown (ballots_of s.ballots number));
  },
  refl,
)
