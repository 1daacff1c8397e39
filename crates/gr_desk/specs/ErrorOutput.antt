-- What is said on error output.
use Rattle.std.specs.Prelude.{◌≡◌, ◌⊎◌, ◌+◌, ℕ, List, Option, None, Some}
use Rattle.std.specs.Io.KnownBytes.{Appends}
use Rattle.gr_http.specs.Streams.{AppendsBeginning}

-- How a text was said, by what was written before and after, and by how many writes had failed before and after. All of
-- it was written, and no write failed; or one failed, and a beginning of it was written. Where there is none, nothing
-- was written.
abbrev pub Says : Option (List ℕ) → Option (List ℕ) → ℕ → ℕ → Option (List ℕ) → Type 0
Says old new failed_before failed_after None = (new ≡ old) × (failed_after ≡ failed_before)
Says old new failed_before failed_after (Some text) =
    (Appends old new text × (failed_after ≡ failed_before))
    ⊎ (AppendsBeginning old new text × (failed_after ≡ failed_before + 1))
