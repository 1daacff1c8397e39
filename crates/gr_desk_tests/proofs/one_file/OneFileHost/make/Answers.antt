use Rattle.std.proofs.Common.{◌≡◌, Some, refl, rules, true}
use Rattle.sqlite.specs.Files.{image_of, over_files}
use Rattle.std.specs.Str.{bytes_eq}
use Rattle.gr_desk.specs.Host.{Bytes, HasSumsAsAsked}
use Rattle.gr_desk_tests.proofs.HostLemmas.{lent, none_there, of_its_content}
use Rattle.gr_desk_tests.proofs.one_file.OneFileHost.make.Goals as goal

pub returns-in-Ok-connected-clause-others : goal.returns-in-Ok-connected-clause-others
returns-in-Ok-connected-clause-others g c =
    let its = c.args.self.now.name.now in
    let same : bytes_eq c.args.file.now its ≡ true = search rules in (
      (
        λ name other. (none_there c.args.self.now.is_made true name c.args.file.now its same other, lent (bytes_eq name its) _ _ _ _ c.take.ensures.after),
        λ name. refl,
      ),
      λ port. refl,
    )

pub returns-in-Ok-connected-clause-sums : goal.returns-in-Ok-connected-clause-sums
returns-in-Ok-connected-clause-sums g c =
    let same : bytes_eq c.args.file.now c.args.self.now.name.now ≡ true = search rules in
    let has : c.args.self.now.files ≡ Some c.in-Some.files = search rules in
    of_its_content (λ content. HasSumsAsAsked over_files c.args.has_sums content c.in-Ok-connected.conn) _
    (λ files. Bytes (image_of g.D.Disk files)) _ _ _ same has c.in-Ok-connected.ensures.sums
