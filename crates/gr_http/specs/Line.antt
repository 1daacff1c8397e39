-- Lines: what a command is answered by, and what is wrong with a request (this project's profile).
use Rattle.std.specs.Prelude.{ℕ, List, [], ◌∷◌, codes, decimal}
use Rattle.std.specs.List.{concat}
use Rattle.hex.specs.Hex.{encode_lower}
use Rattle.gr_core.specs.declared.reply.Reply.{Reply}
use Rattle.gr_core.specs.declared.reply.Note.{Note}
use Rattle.gr_core.specs.declared.reply.Note.TheVariants.{Done, Roll, Resolution, Choice, Called, Cancelled, Receipt}
use Rattle.gr_core.specs.declared.refusal.Refusal.{Refusal}
use Rattle.gr_core.specs.declared.refusal.Refusal.TheVariants.{BadRoll}
use Rattle.gr_core.specs.Machine.Refusal.{number, name}
use Rattle.gr_http.specs.declared.problem.Problem.{Problem}
use Rattle.gr_http.specs.Problem.{words_of, detail_of}

-- the line of what is wrong with a request
abbrev pub problem_line : Problem → List ℕ
problem_line problem = concat (words_of problem ∷ detail_of problem ∷ codes "\n" ∷ [])

-- what the line of a reply says after the count
abbrev pub note_words : Note → List ℕ
note_words Done = []
note_words (Roll rows) = concat (
    codes " added "
    ∷ decimal rows.added
    ∷ codes " changed "
    ∷ decimal rows.changed
    ∷ codes " same "
    ∷ decimal rows.same
    ∷ []
    )
note_words (Resolution number) = concat (codes " resolution " ∷ decimal number ∷ [])
note_words (Choice number) = concat (codes " choice " ∷ decimal number ∷ [])
note_words (Called places until) =
    concat (codes " places " ∷ decimal places ∷ codes " until " ∷ decimal until ∷ [])
note_words Cancelled = codes " cancelled"
note_words (Receipt receipt) = concat (codes " receipt " ∷ encode_lower receipt.digest ∷ [])

abbrev pub reply_line : Reply → List ℕ
reply_line reply = concat (codes "ok " ∷ decimal reply.accepted ∷ note_words reply.note ∷ codes "\n" ∷ [])

-- what the line of a refusal says after its name
abbrev pub detail_words : Refusal → List ℕ
detail_words (BadRoll line) = concat (codes " " ∷ decimal line ∷ [])
detail_words other = []

abbrev pub refusal_line : Refusal → List ℕ
refusal_line refusal = concat (
    codes "refused "
    ∷ decimal (number refusal)
    ∷ codes " "
    ∷ name refusal
    ∷ detail_words refusal
    ∷ codes "\n"
    ∷ []
    )
