use Rattle.std.proofs.Common.{◌≡◌, ℕ, List, ◌++◌, length}
use Rattle.std.specs.List.{AllZip}
use Rattle.cat_script.specs.Lines.{words_of}
use Rattle.cat_script.specs.Numbers.{IsUpTo}
use Rattle.cat_script.proofs.ask.read_budgets.Given as goal

abbrev pub invariant-loop-word : goal.invariant-loop-word
invariant-loop-word l =
    (done : List (List ℕ)) × (words_of l.text ≡ done ++ words_of l.left) × AllZip (IsUpTo 1000000) done l.budgets.items

abbrev pub decreases-loop-word : goal.decreases-loop-word
decreases-loop-word l = length l.left
