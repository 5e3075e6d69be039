use Rattle.std.proofs.Common.{refl, rules, subst, sym}
use Rattle.cat_history.specs.Scans.{Rise}
use Rattle.cat_history.proofs.ScanLemmas.{range_rises}
use Rattle.stopped_rounds.proofs.Came.{came}
use Rattle.stopped_rounds.proofs.ScanStops.{part-is}
use Rattle.stopped_rounds.proofs.crash_round.read_part.Goals as goal

pub returns-in-Answered-clause-part : goal.returns-in-Answered-clause-part
returns-in-Answered-clause-part g c =
    let M = g.M.BoundedMap in
    let told = came _ _ _ _ c.in-Answered.is c.in_ok-high.ensures.ends in
    (part-is (M.state c.args.map.now).contents (M.state c.args.map.now).anchors c.args.low c.args.left c.args.place _ _ told.0 told.1, refl, told.0)

pub returns-in-Answered-clause-told : goal.returns-in-Answered-clause-told
returns-in-Answered-clause-told g c =
    let M = g.M.BoundedMap in
    let told = came _ _ _ _ c.in-Answered.is c.in_ok-high.ensures.ends in
    record {
      low = search rules;
      high = search rules;
      place = c.ranges.place.fits;
      pairs = came _ _ _ _ c.in-Answered.is c.in_ok-high.ensures.named;
      rise = subst Rise (sym told.1) (range_rises (M.state c.args.map.now).contents c.args.low _ c.args.left);
    }
