use Rattle.std.proofs.Common.{◌≡◌, ◌++◌, take}
use Rattle.std.specs.List.{flat_map}
use Rattle.cat_text.proofs.print.add_each.Given as goal

abbrev pub invariant-loop-item : goal.invariant-loop-item
invariant-loop-item g l = l.text.items ≡ l.initial.text.items ++ flat_map g.T.Printed.printed (take l.item-index l.items)
