use Rattle.pm_words.specs.Locations.{Line, word_number}
use Rattle.pm_words.specs.Offsets.{state_offset}
use Rattle.std.proofs.Common.{◌/◌, ◌%◌}
use Rattle.image_rules.specs.Lowest.{IsNumberOf}
use Rattle.image_rules.specs.Rules.{IsUnfit, BreaksLines}
use Rattle.image_rules.proofs.LowestLemmas.{lowest-none, lowest-some}
use Rattle.image_rules.proofs.HeaderLemmas.{lines_move}
use Rattle.image_rules.proofs.log_line.wrong_line.Goals as goal

pub returns-in_err-line : goal.returns-in_err-line
returns-in_err-line c =
    let l = c.args.image.now.layout in
    let image = c.args.image.now.words in
    lowest-none (IsUnfit l image) (IsNumberOf l (BreaksLines l image)) (λ line. word_number l (Line (line / 8) (line % 8) state_offset)) c.from_residual.result (lines_move l image) c.from_residual.ensures
    c.in_err-line.ensures

pub returns : goal.returns
returns c =
    let l = c.args.image.now.layout in
    let image = c.args.image.now.words in
    lowest-some (IsUnfit l image) (IsNumberOf l (BreaksLines l image)) (λ line. word_number l (Line (line / 8) (line % 8) state_offset)) c.in_ok-line.line c.number_of.result (lines_move l image)
    c.number_of.ensures c.in_ok-line.ensures
