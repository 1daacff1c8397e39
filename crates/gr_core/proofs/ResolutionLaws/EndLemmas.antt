-- The end of a discussion lies between the earliest and the latest one, and grows with the last change.
use Rattle.std.proofs.Common.{ℕ, ◌≤◌, Option, Some, None, IfSome, subst, arith}
use Rattle.gr_core.specs.declared.discussion.Discussion.{Discussion}
use Rattle.gr_core.specs.Parts.Discussion.{earliest_end, latest_end, end_between, end_of}
use Rattle.gr_core.specs.Desks.Valid.{IsDiscussion}
use Rattle.gr_core.specs.Laws.ResolutionLaws.{EndsLieBetween}
use Rattle.gr_core.proofs.ResolutionLaws.CourseLemmas.{earliest_first}

-- the end is not before the earliest one
end-least : (earliest latest : ℕ) (last : Option ℕ) → earliest ≤ latest → earliest ≤ end_between earliest latest last
end-least earliest latest None ordered = omega arith
end-least earliest latest (Some at) ordered = omega arith

-- nor after the latest one
end-most : (earliest latest : ℕ) (last : Option ℕ) → earliest ≤ latest → end_between earliest latest last ≤ latest
end-most earliest latest None ordered = ordered
end-most earliest latest (Some at) ordered = omega arith

-- a discussion of a valid desk ends between the two
pub ends_between : EndsLieBetween
ends_between s number resolution discussion valid there is =
    let within = subst (λ o. IfSome o (IsDiscussion s.header.clock)) is
    (valid.tables.resolutions number resolution there).discussion in
    let ordered = earliest_first discussion.start discussion.shift within.shift in
    let earliest = earliest_end discussion.start discussion.shift in
    let latest = latest_end discussion.start discussion.shift in
    (end-least earliest latest discussion.changed ordered, end-most earliest latest discussion.changed ordered)

-- the end does not come earlier by a change that is not before the last one
pub end-grows : (discussion : Discussion) (clock at : ℕ) → IsDiscussion clock discussion → clock ≤ at
    → end_of discussion ≤ end_of (record discussion { changed = Some at })
end-grows discussion clock at was later =
    let ordered = earliest_first discussion.start discussion.shift was.shift in
    grows (earliest_end discussion.start discussion.shift) (latest_end discussion.start discussion.shift)
    discussion.changed ordered was.changed
  where
    grows : (earliest latest : ℕ) (last : Option ℕ) → earliest ≤ latest
        → IfSome last (λ first. (discussion.start ≤ first) × (first ≤ clock))
        → end_between earliest latest last ≤ end_between earliest latest (Some at)
    grows earliest latest None ordered known = end-least earliest latest (Some at) ordered
    grows earliest latest (Some first) ordered known = omega (arith, known.1, later)
