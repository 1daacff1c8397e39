-- How connections in memory ended.
use Rattle.std.specs.Prelude.{List, [], ◌++◌, map, replicate}
use Rattle.gr_http.specs.declared.memory_door.EndedConnection.{EndedConnection}
use Rattle.gr_http.specs.Door.{Ended}

-- what is kept of them
abbrev pub kept_by : List EndedConnection → List Ended
kept_by connections =
    map (λ (connection : EndedConnection). record {
      calls = map (λ piece. piece.now) connection.brought.items ++ replicate connection.failed_reads [];
      told = connection.told.items;
      failed_reads = connection.failed_reads;
      failed_writes = connection.failed_writes;
    }) connections
