use Rattle.std.proofs.Common.{◌≡◌, ◌-◌, ◌++◌, drop, take}
use Rattle.catalog_cli.specs.Files.{lines_told, word_lines}
use Rattle.catalog_cli.proofs.files.print_words.Given as goal

-- the lines so far, and behind them those to come, are all lines
abbrev pub invariant-loop-at : goal.invariant-loop-at
invariant-loop-at l = l.text.items ++ word_lines l.at (take (l.end - l.at) (drop l.at l.image.words)) ≡ lines_told l.fn.from l.fn.count l.fn.image.words
