-- A file that says that its pages end in sums, where one page has another one.
use Rattle.std.specs.Prelude.{◌≡◌, ℕ, ◌-◌, ◌*◌, ◌≤◌, ◌++◌, List, length, slice_index, take}
use Rattle.sqlite_pool.specs.Stored.{sum_bytes}
use Rattle.sqlite_wal.specs.PageSize.{size_in_file}
use Rattle.sqlite_wal.specs.Recovery.{Image, IsIgnored, file_page}

-- the last eight bytes of a page are the sum of those before them
abbrev pub EndsInSum : List ℕ → Type 0
EndsInSum page = page ≡ take (length page - 8) page ++ sum_bytes (take (length page - 8) page)

-- The log has nothing. The file begins as a database, and says by its byte 20 that eight bytes of each page are left
-- for its sum. The page with this number is there, and does not end in its sum.
pub record HasWrongSum (image : Image) : Type 0 where
  pub page : ℕ
  pub unlogged : IsIgnored image.log
  pub begins : slice_index image.db 0 ≡ 83
  pub summed : slice_index image.db 20 ≡ 8
  pub first : 1 ≤ page
  pub within : page * size_in_file image.db ≤ length image.db
  pub wrong : ¬ (EndsInSum (file_page (size_in_file image.db) image.db page))
