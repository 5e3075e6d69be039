use Rattle.std.proofs.Common.{◌∙◌, sym}
use Rattle.pm_words.specs.Locations.{word_at}
use Rattle.image_recovery_law.specs.updater_row_law.specs.Columns.{line_word}
use Rattle.image_recovery_law.proofs.RowColumns.{word_if-here, has_line_word, line_here}
use Rattle.image_recovery.proofs.lines.column.Goals as goal

pub returns : goal.returns
returns c =
    let image = c.args.image.now in
    c.line_word.ensures
    ∙ sym (word_if-here (has_line_word image.layout c.args.line c.args.offset) (word_at image.layout image.words (line_word c.args.offset c.args.line)) (line_here image.layout c.args.line c.args.offset c.requires.line c.requires.offset))
