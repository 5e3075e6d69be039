use Rattle.cat_history.proofs.ScanLemmas.{scan_is_whole, range_rises, scan_rises, part_follows, parts_later}
use Rattle.cat_history.proofs.laws.scan_law.Goals as goal

pub returns-clause-whole : goal.returns-clause-whole
returns-clause-whole c = scan_is_whole

pub returns-clause-ranges : goal.returns-clause-ranges
returns-clause-ranges c = range_rises

pub returns-clause-rise : goal.returns-clause-rise
returns-clause-rise c = scan_rises

pub returns-clause-follow : goal.returns-clause-follow
returns-clause-follow c = part_follows

pub returns-clause-later : goal.returns-clause-later
returns-clause-later c = parts_later
