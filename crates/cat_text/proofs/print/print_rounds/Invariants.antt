use Rattle.std.proofs.Common.{◌≡◌, take}
use Rattle.std.specs.List.{flat_map}
use Rattle.cat_text.specs.Reports.{round_text}
use Rattle.cat_text.proofs.print.print_rounds.Given as goal

abbrev pub invariant-loop-round : goal.invariant-loop-round
invariant-loop-round l = l.text.items ≡ flat_map round_text (take l.round-index l.rounds)
