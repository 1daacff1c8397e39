use Rattle.gr_http.proofs.RecordLemmas.{reads, same-value}
use Rattle.gr_http.proofs.records.read_next.Goals as goal

pub returns : goal.returns
returns c =
    let came = c.read_byte_record in
    same-value _ came.result c.map_err.result c.map_err.ensures.variant
    (λ found is. rw is at c.map_err.ensures.cases)
    (λ found is. let read = rw is at came.ensures.reads in
    let on = rw is at came.ensures.reads_on in
    reads c.args.reader.now came.new.self found _ c.requires (read c.requires.trim c.requires.ready) on)
