-- A step of a turn leaves the volatile words of nodes but their statuses and their stamps.
use Rattle.std.proofs.Common.{◌≡◌, ◌≢◌, ℕ, ◌<◌, ⊎_elim, List, ap, ◌∙◌, subst, arith}
use Rattle.pm_words.specs.declared.layout.Layout.{Layout}
use Rattle.pm_words.specs.Locations.{Location, Cached, Volatile, at}
use Rattle.pm_words.specs.Rows.{acted}
use Rattle.pm_words.proofs.Apart.{at-set_other}
use Rattle.pm_words.specs.Offsets.{state_offset, status_offset}
use Rattle.updater_row_law.specs.Columns.{Ghosts, RowTerms, line_word}
use Rattle.updater_row_law.specs.RowStages.{Resting}
use Rattle.updater_row_law.specs.RowSteps.{RowStep}
use Rattle.index_layer_law.specs.Turnings.{terms_of, AreRestingBut, ghosts_of}
use Rattle.index_layer_law.specs.Laws.{TurnStepLeavesVolatile}
use Rattle.index_layer_law.proofs.TurnAside.{kept_volatile}
use Rattle.index_layer_law.proofs.TurnSteps.{others_rest, resting_step, rests_or_not}
use Rattle.index_layer_law.proofs.TurnTouches.{Touches, is_aside, is_emptied, is_freed, touched}

abbrev offset_in : Location → ℕ
offset_in (Volatile n o) = o
offset_in _ = 0

touches_leave : (r : RowTerms) (ghosts : Ghosts) (words after : List ℕ) (n offset : ℕ) → n < r.layout.nodes → offset < 16 → offset ≢ 0 → offset ≢ 2 → Touches r ghosts words after
    → at r.layout after (Volatile n offset) ≡ at r.layout words (Volatile n offset)
touches_leave r ghosts words after n offset here most first second (is_aside same) = same.rest (Volatile n offset) (here, most) (kept_volatile n offset second)
touches_leave r ghosts words after n offset here most first second (is_emptied j low carried is) =
    ap (λ (v : List ℕ). at r.layout v (Volatile n offset)) is
    ∙ at-set_other r.layout words (Cached (line_word state_offset j)) (Volatile n offset) 0 (omega arith, omega arith, omega arith) (here, most) (λ e. cc)
touches_leave r ghosts words after n offset here most first second (is_freed m low freeing is) =
    ap (λ (v : List ℕ). at r.layout v (Volatile n offset)) is
    ∙ at-set_other r.layout words (Volatile m status_offset) (Volatile n offset) 0 (low, omega arith) (here, most) (λ e. first (ap offset_in e))

pub turn_step_leaves_volatile : TurnStepLeavesVolatile
turn_step_leaves_volatile z i t next a x n offset is there foot told here most first second =
    let w = z.whole.world in
    let l : Layout = w.layout in
    let r : RowTerms = terms_of w t in
    let ghosts : Ghosts = ghosts_of w is.holder in
    let beside : AreRestingBut z.turns i → at l (acted l w.words a) (Volatile n offset) ≡ at l w.words (Volatile n offset) =
    λ rest. touches_leave r ghosts w.words (acted l w.words a) n offset here most first second
    (touched r ghosts w.words is.whole.joint.lawful.row foot.row told (is.rows i t there rest) (λ free. is.lock free i t there)).touches in
    ⊎_elim
    (λ (was : t.stage ≡ Resting). ⊎_elim
    (λ free. beside (λ j u at_u other. is.lock free j u at_u))
    (λ misses. ap (λ (v : List ℕ). at l v (Volatile n offset)) misses.same)
    (resting_step r w.words a x next.stage (subst (λ s. RowStep r s a x next.stage) was foot.row) told))
    (λ busy. beside (others_rest z i t is there busy))
    (rests_or_not t.stage)
