-- How far a line reads its input.
use Rattle.std.proofs.Common.{◌≡◌, ℕ, List, [], Option, subst, sym}
use Rattle.gr_http.specs.Reads.{Reads, AreNeeded}
use Rattle.gr_http.specs.Request.{HasRequest}
use Rattle.gr_desk.specs.declared.ending.Ending.{Ending}
use Rattle.gr_desk.specs.declared.ending.Ending.TheVariants as ending
use Rattle.gr_desk.specs.declared.line.Line.{Line}
use Rattle.gr_desk.specs.declared.line.Line.TheVariants.{Import, Init, Migrate, Once, Serve, Show}
use Rattle.gr_desk.specs.Lines.{ReadsRequest}
use Rattle.gr_desk.specs.Program.{LineReads}
use Rattle.gr_desk.proofs.AnswerLemmas.{reads_none}

-- an input that is as it was was read no further than a request has
same_needed : (old new : Option (List (List ℕ))) → new ≡ old → Reads old new (AreNeeded HasRequest [])
same_needed old new same = subst (λ taken. Reads old taken (AreNeeded HasRequest [])) (sym same) (reads_none old)

request_needed : {S : Type 0} (left : Ending S) (old new : Option (List (List ℕ))) → ReadsRequest left old new
    → Reads old new (AreNeeded HasRequest [])
request_needed ending.Nothing old new same = same_needed old new same
request_needed (ending.LetGo conn) old new same = same_needed old new same
request_needed (ending.Close conn) old new reads = reads

-- no line reads further
pub line_needed : {S : Type 0} (line : Line) (left : Ending S) (old new : Option (List (List ℕ)))
    → LineReads line left old new → Reads old new (AreNeeded HasRequest [])
line_needed (Init file has_sums) left old new same = same_needed old new same
line_needed (Once file at) left old new reads = request_needed left old new reads
line_needed (Serve file port count at) left old new same = same_needed old new same
line_needed (Import file roll at) left old new same = same_needed old new same
line_needed (Show file kind number) left old new same = same_needed old new same
line_needed (Migrate file) left old new same = same_needed old new same
