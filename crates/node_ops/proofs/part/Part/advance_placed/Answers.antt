use Rattle.node_ops.proofs.PartLemmas.{bitmap_turns, word_turns}
use Rattle.node_ops.proofs.part.Part.advance_placed.Goals as goal

pub returns-in-Bitmap-clause-fewer : goal.returns-in-Bitmap-clause-fewer
returns-in-Bitmap-clause-fewer c = bitmap_turns _ c.in-Reading.reading c.args.got c.in-Reading.is c.in-Bitmap.is

pub returns-in-Load-clause-fewer : goal.returns-in-Load-clause-fewer
returns-in-Load-clause-fewer c =
    word_turns _ c.in-Reading.reading c.in-Load.slot c.in-Load.word c.args.got c.in-Reading.is c.in-Load.is c.requires.0
