-- A move of a recovery that is made, step by step.
use Rattle.std.specs.Prelude.{ℕ, ◌+◌, ◌<◌, ◌^◌, List}
use Rattle.pm_words.specs.Codes.{empty_state}
use Rattle.pm_words.specs.declared.action.Action.{Action}
use Rattle.pm_words.specs.declared.machine.Turn.{Turn}
use Rattle.pm_words.specs.declared.machine.Turn.TheVariants.{Go, Done}
use Rattle.pm_words.specs.Images.{Row}
use Rattle.pm_words.specs.Locations.{Header, Node, Cached, word_number, at}
use Rattle.pm_words.specs.Offsets.{bitmap_offset, state_offset, generation_offset}
use Rattle.data_node.specs.Lists.{anchor_words}
use Rattle.tree_update.specs.declared.change.Change.{Change}
use Rattle.tree_update.specs.declared.change.Ended.{Ended}
use Rattle.tree_update.specs.Changes.{IsChange, change_starts, change_asks, change_turned, change_left}
use Rattle.image_recovery_law.specs.updater_row_law.specs.Columns.{line_count, line_word}
use Rattle.image_recovery.specs.declared.making.Making.{Making}
use Rattle.image_recovery.specs.declared.making.Making.TheVariants.{Stores, Changes}
use Rattle.image_recovery.specs.declared.moves.Move.{Move}
use Rattle.image_recovery.specs.declared.moves.Move.TheVariants.{Raise, Trim, Unset, Set, Empty}
use Rattle.image_recovery.specs.declared.storing.Storing.{Storing}
use Rattle.image_recovery.specs.Storings.{IsStoring, stores, storing_asks, storing_turned, storing_left}

-- the cached words of a line's anchor
abbrev pub anchor_at : Row → ℕ → List ℕ
anchor_at row line = anchor_words (λ offset. at row.layout row.words (Cached (line_word offset line)))

-- the cached generation
abbrev pub generation_at : Row → ℕ
generation_at row = at row.layout row.words (Cached (Header generation_offset))

-- A move names a node and a line that there are, and there is a next generation.
abbrev pub MayMake : Row → Move → Type 0
MayMake row Raise = generation_at row + 1 < 2 ^ 64
MayMake row (Trim node bitmap) = node < row.layout.nodes
MayMake row (Unset line) = line < line_count row.layout
MayMake row (Set line node) = (line < line_count row.layout) × (node < row.layout.nodes)
MayMake row (Empty line) = line < line_count row.layout

-- The move as it begins on these rows.
abbrev pub making_of : Row → Move → Making
making_of row Raise =
    Stores (stores row.layout (word_number row.layout (Header generation_offset)) (generation_at row + 1))
making_of row (Trim node bitmap) = Stores (stores row.layout (word_number row.layout (Node node bitmap_offset)) bitmap)
making_of row (Unset line) = Changes (change_starts row.layout (anchor_at row line) 0)
making_of row (Set line node) = Changes (change_starts row.layout (anchor_at row line) (node + 1))
making_of row (Empty line) =
    Stores (stores row.layout (word_number row.layout (line_word state_offset line)) empty_state)

abbrev pub making_asks : Making → Action
making_asks (Stores storing) = storing_asks storing
making_asks (Changes change) = change_asks change

abbrev pub of_storing : Turn Storing (Unit {0}) → Turn Making (Unit {0})
of_storing (Go storing) = Go (Stores storing)
of_storing (Done answer) = Done answer

abbrev pub of_change : Turn Change Ended → Turn Making (Unit {0})
of_change (Go change) = Go (Changes change)
of_change (Done ended) = Done tt

abbrev pub making_turned : Making → ℕ → Turn Making (Unit {0})
making_turned (Stores storing) got = of_storing (storing_turned storing got)
making_turned (Changes change) got = of_change (change_turned change got)

abbrev pub IsMaking : Making → Type 0
IsMaking (Stores storing) = IsStoring storing
IsMaking (Changes change) = IsChange change

abbrev pub making_takes : Making → ℕ → Type 0
making_takes making got = IsMaking making × (got < 2 ^ 64)

abbrev pub making_left : Making → ℕ
making_left (Stores storing) = storing_left storing
making_left (Changes change) = change_left change
