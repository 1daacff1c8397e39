use Rattle.std.proofs.lemmas.Str.{IsUtf8-from_ascii}
use Rattle.gr_core.proofs.receipt.ReceiptDigits.as_str.Goals as goal

pub unreachable-requires : goal.unreachable-requires
unreachable-requires c = c.in_default.ensures.cases.0 (IsUtf8-from_ascii c.self.inside.digits c.self.invariant)
