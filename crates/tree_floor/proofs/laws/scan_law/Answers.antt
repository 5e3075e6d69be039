use Rattle.tree_floor.proofs.ScanLaw.{scans_end, scans_start}
use Rattle.tree_floor.proofs.ScanExact.{scans_are_exact}
use Rattle.tree_floor.proofs.laws.scan_law.Goals as goal

pub returns : goal.returns
returns c = record { ends = scans_end; starts = scans_start; exact = scans_are_exact }
