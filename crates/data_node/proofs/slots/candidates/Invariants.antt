use Rattle.std.proofs.Common.{◌*◌, min}
use Rattle.data_node.proofs.Bitmaps.{Marks}
use Rattle.data_node.proofs.slots.candidates.Given as goal

-- the bits set so far are the candidates among the slots of the words that the loop has passed
abbrev pub invariant-loop-place : goal.invariant-loop-place
invariant-loop-place l = Marks l.bitmap l.prints l.print (min l.slots (l.place * 8)) l.found
