use Rattle.std.proofs.Common.{◌++◌, ap, ◌∙◌, codes, string_bytes}
use Rattle.std.proofs.lemmas.List.{append_assoc}
use Rattle.gr_sheet.specs.ResultSheet.{met_or_failed, kept_or_dropped}
use Rattle.gr_sheet.proofs.AppendLemmas.{on_ok_then}
use Rattle.gr_sheet.proofs.ballot_test.BallotTest.add_to.Goals as goal

pub returns : goal.returns
returns c =
    let test = c.args.self in
    let marks = codes ", quorum " ++ (met_or_failed test.quorum ++ (codes ", majority " ++ (met_or_failed test.majority
    ++ (codes ", " ++ (kept_or_dropped test.kept ++ codes "\n"))))) in
    on_ok_then c.write-2.result
    (λ is. is
    ∙ (λ i. string_bytes c.write.new.self ++ (codes ", quorum " ++ (c.met_or_failed-quorum.ensures i ++ (codes ", majority "
    ++ (c.met_or_failed-majority.ensures i ++ (codes ", " ++ (c.kept_or_dropped-kept.ensures i ++ codes "\n")))))))
    ∙ ap (λ text. text ++ marks) c.in_ok-write.ensures.bytes ∙ simp append_assoc)
    c.write-2.ensures.bytes
