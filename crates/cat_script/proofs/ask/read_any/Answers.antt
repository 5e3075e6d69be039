use Rattle.std.proofs.Common.{ℕ, List, sym, subst}
use Rattle.cat_script.specs.Asks.{Says}
use Rattle.cat_script.proofs.PlainLemmas.{said_is_line}
use Rattle.cat_script.proofs.ask.read_any.Goals as goal

pub returns-in-Ok : goal.returns-in-Ok
returns-in-Ok c =
    said_is_line c.args.line.now c.in-Ok.asked
    (subst (λ (words : List (List ℕ)). Says words c.in-Ok.asked) (sym c.in-Some.ensures.words) c.in-Ok.ensures)
