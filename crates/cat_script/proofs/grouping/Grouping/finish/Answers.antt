use Rattle.std.proofs.Common.{◌≡◌, ◌<◌, [], length, sym, subst, arith}
use Rattle.std.proofs.lemmas.Bool.Decides.{nat_tests}
use Rattle.std.proofs.lemmas.List.{nil_from_length}
use Rattle.cat_script.specs.Rounds.{AreRounds}
use Rattle.cat_script.proofs.RoundLemmas.{finish_there}
use Rattle.cat_script.proofs.grouping.Grouping.finish.Goals as goal

pub returns-then-not-is_empty : goal.returns-then-not-is_empty
returns-then-not-is_empty c = λ said is.
    let none : c.args.self.ops.items ≡ [] = nil_from_length c.args.self.ops.items (grind (arith, nat_tests, c.if-is_empty.ensures, c.args.self.ops.ok)) in
    let some : 0 < length c.args.self.ended.items = grind (arith, nat_tests, c.if-not-is_empty.ensures, c.args.self.ended.ok) in
    subst (AreRounds said) (sym c.of.ensures) (finish_there said c.args.self none some is)
