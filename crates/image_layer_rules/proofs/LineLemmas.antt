-- The words of lines, where the image has them and where it hasn't; and what a crash and a start make of an image's words.
use Rattle.std.proofs.Common.{◌≡◌, ℕ, ◌+◌, ◌*◌, ◌/◌, ◌%◌, ◌<◌, ◌≤◌, List, sym, ◌∙◌, arith, refl}
use Rattle.std.proofs.lemmas.Bool.{lt-ltb, le-ltb}
use Rattle.pm_words.specs.declared.layout.Layout.{Layout}
use Rattle.pm_words.specs.Locations.{Line, word_at}
use Rattle.pm_words.specs.Rows.{durable_row}
use Rattle.pm_words.specs.Offsets.{anchor_offset}
use Rattle.pm_words.proofs.Made.{durable_row-at, row_of-at}
use Rattle.layer_map.specs.Keys.{key_of}
use Rattle.image_rules.specs.Rules.{line_spot}
use Rattle.image_layer_rules.specs.Anchors.{image_lines, line_word}
use Rattle.image_layer_rules.specs.Laws.{CrashKeepsLines, StartCachesLines}

pub line_word-here : (l : Layout) (image : List ℕ) (line offset : ℕ) → line < 8 * l.callers → offset < 8 → line_word l image line offset ≡ word_at l image (Line (line / 8) (line % 8) offset)
unfolding line_word
line_word-here l image line offset here small = rw (lt-ltb line (8 * l.callers) here, lt-ltb offset 8 small) refl

pub line_word-outside : (l : Layout) (image : List ℕ) (line offset : ℕ) → 8 * l.callers ≤ line → line_word l image line offset ≡ 0
unfolding line_word
line_word-outside l image line offset out = rw (le-ltb line (8 * l.callers) out) refl

-- the key of a line is that of the words that stand there
pub line_key-here : (l : Layout) (image : List ℕ) (line : ℕ) → line < 8 * l.callers → (image_lines l image).anchor line ≡ key_of (line_spot l image line anchor_offset) (line_spot l image line (anchor_offset + 1)) (line_spot l image line (anchor_offset + 2))
line_key-here l image line here = λ k. key_of (line_word-here l image line anchor_offset here (omega arith) k) (line_word-here l image line (anchor_offset + 1) here (omega arith) k) (line_word-here l image line (anchor_offset + 2) here (omega arith) k)

pub crash_keeps_lines : CrashKeepsLines
crash_keeps_lines l words line offset here small = line_word-here l (durable_row l words) line offset here small ∙ durable_row-at l words (Line (line / 8) (line % 8) offset)

pub start_caches_lines : StartCachesLines
start_caches_lines l image line offset is here small =
    (row_of-at l image (Line (line / 8) (line % 8) offset) is (omega arith, omega arith, small)).0 ∙ sym (line_word-here l image line offset here small)
