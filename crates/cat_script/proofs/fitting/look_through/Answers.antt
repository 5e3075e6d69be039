use Rattle.std.proofs.Common.{suc, drop, take, refl, subst, arith}
use Rattle.std.proofs.Math.Seq.{split_at}
use Rattle.std.proofs.lemmas.List.{take_all}
use Rattle.std.specs.Prelude.{All}
use Rattle.cat_script.specs.Fits.{FitsCallers}
use Rattle.cat_script.proofs.fitting.look_through.Goals as goal

pub returns-in-Some-clause-unfit : goal.returns-in-Some-clause-unfit
returns-in-Some-clause-unfit c = record {
  before = take c.loop-line.line-index c.args.lines.now;
  line = _;
  after = drop (suc c.loop-line.line-index) c.args.lines.now;
  cut = split_at c.args.lines.now c.loop-line.line-index _ c.loop-line-test.true;
  fitting = c.loop-line.invariant;
  number_is = refl;
  unfit = c.in-Some.ensures.some;
}

pub returns-clause-fits : goal.returns-clause-fits
returns-clause-fits c =
    (λ _. subst (All (FitsCallers c.args.callers)) (take_all c.loop-line.line-index c.args.lines.now (omega arith)) c.loop-line.invariant, λ _. refl)
