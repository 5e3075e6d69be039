use Rattle.std.proofs.Common.{◌≡◌, ℕ, ◌+◌, ◌*◌, ◌/◌, ◌%◌, ◌<◌, ◌==◌, inl, inr, ⊎_elim, refl}
use Rattle.std.proofs.Common.{sym, ap, ◌∙◌, subst, arith}
use Rattle.std.proofs.lemmas.Result.{IfOk-weaker}
use Rattle.pm_words.specs.Codes.{empty_state, ready_state}
use Rattle.pm_words.specs.Images.{Row}
use Rattle.pm_words.specs.Locations.{Line, Cached, at, word_at}
use Rattle.pm_words.specs.Rows.{cached_row}
use Rattle.pm_words.specs.Offsets.{state_offset}
use Rattle.pm_words.proofs.Made.{cached_row-at}
use Rattle.recovery.specs.updater_row_law.specs.Columns.{line_count, line_word}
use Rattle.recovery.specs.updater_row_law.proofs.RowColumns.{column-here}
use Rattle.recovery.specs.lone_updater_law.specs.LoneTurns.{is_ready, line_state}
use Rattle.recovery.specs.lone_updater_law.proofs.ReadyCounts.{count_same}
use Rattle.recovery.specs.index_image_law.specs.Rest.{IsRestImage, cached_image}
use Rattle.recovery.specs.index_core.specs.Indexes.{Index, IsIndex, world}
use Rattle.recovery.specs.index_core.specs.Lone.{IsQuiet}
use Rattle.recovery.specs.index_core.proofs.Logs.{quiet_has_none_open}
use Rattle.core_rounds.specs.CoreMaps.{IsImageOf}
use Rattle.core_rounds.proofs.core_map.image_of.Goals as goal

-- the state of a caller's log line, by its number among those of all callers
line_is : (s : Index) (c j : ℕ) → c < s.layout.callers → j < 8 → at s.layout s.words (Cached (Line c j state_offset)) ≡ line_state (world s) (8 * c + j)
line_is s c j here low =
    let k = 8 * c + j in
    let caller : k / 8 ≡ c = omega arith in
    let line : k % 8 ≡ j = omega arith in
    (λ i. at s.layout s.words (Cached (Line (sym caller i) (sym line i) state_offset)))
    ∙ sym (column-here s.layout s.words (line_count s.layout) (λ n. Cached (line_word state_offset n)) k (omega arith))

-- and in the image
image_line_is : (s : Index) (k : ℕ) → k < 8 * s.layout.callers → word_at s.layout (cached_row s.layout s.words) (Line (k / 8) (k % 8) state_offset) ≡ line_state (world s) k
image_line_is s k small =
    let same : 8 * (k / 8) + k % 8 ≡ k = omega arith in
    cached_row-at s.layout s.words (Line (k / 8) (k % 8) state_offset) (omega arith, omega arith, omega arith) ∙ line_is s (k / 8) (k % 8) (omega arith) (omega arith)
    ∙ ap (line_state (world s)) same

-- the image of an index with nothing in flight keeps it
keeps : (s : Index) (image : Row) → image ≡ record { layout = s.layout; words = cached_image (world s) } → IsIndex s → IsQuiet s → IsRestImage (world s) → IsImageOf s image
keeps s image is index quiet rest = subst (IsImageOf s) (sym is) (record {
  layout = refl;
  words = refl;
  sound = rest.sound;
  generation = rest.generation;
  keeps = rest.keeps;
  anchors = rest.anchors;
  lines = λ none c j here low. cached_row-at s.layout s.words (Line c j state_offset) (here, low, omega arith) ∙ line_is s c j here low ∙ none (8 * c + j);
  waits = record {
    ready = count_same (is_ready (world s)) (λ k. word_at s.layout (cached_row s.layout s.words) (Line (k / 8) (k % 8) state_offset) == ready_state) (8 * s.layout.callers)
        (λ k small. ap (λ (state : ℕ). state == ready_state) (image_line_is s k small));
    others = λ k small. ⊎_elim
        (λ (empty : line_state (world s) k ≡ empty_state). inl (image_line_is s k small ∙ empty))
        (λ (ready : line_state (world s) k ≡ ready_state). inr (image_line_is s k small ∙ ready))
        (quiet_has_none_open s index quiet k small);
  };
})

pub returns : goal.returns
returns c = IfOk-weaker c.image.result _ _ (λ image is. keeps c.args.core.now image is c.requires.index c.requires.quiet c.image.ensures.rest) c.image.ensures.words
