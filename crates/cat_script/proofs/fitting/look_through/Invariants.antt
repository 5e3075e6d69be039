use Rattle.std.proofs.Common.{take}
use Rattle.std.specs.Prelude.{All}
use Rattle.cat_script.specs.Fits.{FitsCallers}
use Rattle.cat_script.proofs.fitting.look_through.Given as goal

abbrev pub invariant-loop-line : goal.invariant-loop-line
invariant-loop-line l = All (FitsCallers l.callers) (take l.line-index l.lines)
