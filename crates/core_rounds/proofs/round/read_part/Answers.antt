use Rattle.std.proofs.Common.{rules, sym, subst}
use Rattle.cat_history.specs.Scans.{Rise}
use Rattle.cat_history.proofs.ScanLemmas.{range_rises}
use Rattle.stopped_rounds.proofs.ScanStops.{part-is}
use Rattle.core_rounds.proofs.round.read_part.Goals as goal

pub returns-clause-part : goal.returns-clause-part
returns-clause-part g c =
    let was = g.M.UpdatedMap.state c.args.map.now in
    let told = c.in_ok-high.ensures in
    part-is was.contents was.anchors c.args.low c.args.left c.args.place _ _ told.high told.pairs

pub returns-clause-report : goal.returns-clause-report
returns-clause-report g c =
    let told = c.in_ok-high.ensures in
    record {
      low = search rules;
      high = search rules;
      place = c.ranges.place.fits;
      pairs = told.named;
      rise = subst Rise (sym told.pairs) (range_rises (g.M.UpdatedMap.state c.args.map.now).contents c.args.low _ c.args.left);
    }
