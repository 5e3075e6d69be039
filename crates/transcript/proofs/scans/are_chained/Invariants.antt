use Rattle.std.proofs.Common.{◌↔◌, drop, true}
use Rattle.transcript.specs.Chains.{AreChained}
use Rattle.transcript.proofs.scans.are_chained.Given as goal

-- all follow one another exactly where those that are left do
abbrev pub invariant-loop-part : goal.invariant-loop-part
invariant-loop-part l = AreChained l.cut l.goes l.low l.left l.place (drop l.part-index l.parts) ↔ AreChained l.cut true l.from l.count 0 l.parts
