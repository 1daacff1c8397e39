-- A machine with one file in memory.
use Rattle.std.specs.Prelude.{◌&&◌, ℕ, Bool, List, [], Option, Some, option_map, string_bytes, if◌then◌else◌}
use Rattle.std.specs.Str.{bytes_eq}
use Rattle.sqlite_disk.specs.declared.Disk as disk
use Rattle.sqlite_disk.specs.declared.Files.{Files}
use Rattle.sqlite.specs.Files.{image_of}
use Rattle.gr_desk.specs.Host as host
use Rattle.gr_desk.specs.Host.{Access, Bytes, Known}
use Rattle.gr_desk_tests.specs.declared.asked.Asked.{Asked}
use Rattle.gr_desk_tests.specs.declared.asked.Asked.TheVariants.{Opens, Makes, Reads, Listens}

-- what was asked, in the words of a host
abbrev pub access_of : Asked → Access
access_of (Opens name) = host.ToOpen (string_bytes name)
access_of (Makes name has_sums) = host.ToMake (string_bytes name) has_sums
access_of (Reads name) = host.ToRead (string_bytes name)
access_of (Listens port) = host.ToListen port

-- What is known of it: under the one name it has these files, once they are made. Under others is nothing, which is two
-- files with no bytes to whoever asks. Each roll file has these bytes, and these connections wait at each port. While a
-- connection to the files is lent, it is not known what they have.
abbrev pub one_file : {D : Type 0} → disk.Ghosts D → List ℕ → Bool → Option (Files D) → List ℕ → List (List ℕ) → Known
one_file g file is_made files roll awaited = record {
  there = λ name. Some (is_made && bytes_eq name file);
  content = λ name. if bytes_eq name file then option_map (λ it. Bytes (image_of g it)) files
      else Some (Bytes (record { log = []; db = [] }));
  roll = λ _. Some roll;
  awaited = λ _. Some awaited;
}
