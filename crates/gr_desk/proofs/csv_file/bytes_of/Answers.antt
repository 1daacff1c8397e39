use Rattle.std.proofs.Common.{◌∙◌, ◌≡◌, ◌≤◌, ◌++◌, arith, length, subst, take}
use Rattle.std.specs.Option.{IfSome, option_map}
use Rattle.gr_desk.proofs.LineLemmas.{read_so_far}
use Rattle.gr_desk.proofs.csv_file.bytes_of.Goals as goal

pub returns : goal.returns
returns g c =
    let bytes = c.read_to_end.new.buf in
    let within : length bytes.items ≤ bytes.cap = omega (arith, bytes.ok.0, bytes.ok.1) in
    read_so_far (g.R.Read.remaining c.args.reader) bytes.items c.new-bytes.result.items c.take.result.limit c.args.most
    bytes.cap c.new-bytes.ensures.items (c.take.ensures.limit ∙ c.saturating_add-limit.ensures) within bytes.small
    (subst
    (λ reader. IfSome (option_map (take c.take.result.limit) (g.R.Read.remaining reader))
    (λ read. bytes.items ≡ c.new-bytes.result.items ++ read))
    c.take.ensures.inner c.in_ok-read_to_end.ensures.bytes)
