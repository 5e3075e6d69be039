use Rattle.shapes.proofs.ScansByShape.{scans_are_one, scans_are_short}
use Rattle.shapes.proofs.laws.scan_law.Goals as goal

pub returns-clause-one : goal.returns-clause-one
returns-clause-one c = scans_are_one

pub returns-clause-few : goal.returns-clause-few
returns-clause-few c = scans_are_short
