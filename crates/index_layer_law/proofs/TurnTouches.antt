-- Which words a step of a turn touches.
use Rattle.std.proofs.Common.{◌≡◌, ◌≢◌, ℕ, ◌==◌, ◌<◌, inl, cond, List, slice_set, refl, sym, ap, ◌∙◌, subst, arith}
use Rattle.std.proofs.lemmas.Bool.{eq-eqb}
use Rattle.std.proofs.lemmas.List.{set-get_or}
use Rattle.pm_words.specs.declared.layout.Layout.{Layout}
use Rattle.pm_words.specs.declared.action.Action.{Action}
use Rattle.pm_words.specs.declared.action.Action.TheVariants.{Load}
use Rattle.pm_words.specs.Locations.{Location, Root, Updater, Cached, Durable, Volatile, HasLocation, address_of, at}
use Rattle.pm_words.specs.Rows.{IsRow, acted, got}
use Rattle.pm_words.proofs.Apart.{at-set_same, at-set_other}
use Rattle.pm_words.specs.Offsets.{state_offset, left_offset, status_offset, stamp_offset}
use Rattle.pm_words.specs.Codes.{untaken_lock, taken_lock}
use Rattle.updater_row_law.specs.search_layer.specs.ChangeStages.{Changing, Changed, ChangeStep}
use Rattle.updater_row_law.specs.search_layer.specs.RootLine.{RootLineStays}
use Rattle.updater_row_law.specs.search_layer.proofs.RootLemmas.{root_step_keeps}
use Rattle.updater_law.specs.Lawful.{IsCarried, IsFreeing}
use Rattle.updater_row_law.specs.Columns.{RowTerms, Ghosts, line_count, line_word, terms_of, facts_in}
use Rattle.updater_row_law.specs.RowStages.{RowLine, aim_of, RowStage, Resting, Changes}
use Rattle.updater_row_law.specs.RowSteps.{lock_at, line_at, volatile_at, version_at, RowStep, takes_lock, finds_held}
use Rattle.updater_row_law.specs.RowSteps.{passes, sees, reads, has_read, walks, is_turned_back, finds, loses}
use Rattle.updater_row_law.specs.RowSteps.{decides, changes, has_changed, stamps, empties, passes_node, sees_gone}
use Rattle.updater_row_law.specs.RowSteps.{passes_stamp, sees_stamp, passes_worn, sees_unworn, unstamps, frees}
use Rattle.updater_row_law.specs.RowSteps.{counts, leaves_lock}
use Rattle.updater_row_law.specs.RowLaw.{RowLawful}
use Rattle.updater_row_law.proofs.RowChanges.{change_kept}
use Rattle.index_layer_law.proofs.TurnAside.{KeepsRest}

-- It touches words aside from nodes and lines alone, or empties a line, or makes a node FREE.
pub data Touches (r : RowTerms) (ghosts : Ghosts) (words after : List ℕ) : Type 0 where
  is_aside : KeepsRest r.layout words after → Touches r ghosts words after
  is_emptied : (j : ℕ) → j < line_count r.layout → IsCarried (terms_of r) (facts_in r ghosts words) j → after ≡ slice_set words (line_at r.layout j state_offset) 0 → Touches r ghosts words after
  is_freed : (n : ℕ) → n < r.layout.nodes → IsFreeing (facts_in r ghosts words) n → after ≡ slice_set words (volatile_at r.layout n status_offset) 0 → Touches r ghosts words after

-- And whoever finds the updater lock free then has given it back.
pub record Touched (r : RowTerms) (ghosts : Ghosts) (words after : List ℕ) (next : RowStage) : Type 0 where
  pub touches : Touches r ghosts words after
  pub lock : at r.layout after Updater ≡ untaken_lock → next ≡ Resting

module _ (r : RowTerms) (ghosts : Ghosts) (words : List ℕ) (row : IsRow r.layout words) where
  abbrev l : Layout
  l = r.layout

  abbrev Locked : RowStage → Type 0
  Locked s = at l words Updater ≡ untaken_lock → s ≡ Resting

  -- who has the lock finds it taken
  still_locked : (after : List ℕ) (s t : RowStage) → at l after Updater ≡ at l words Updater → s ≢ Resting → Locked s → at l after Updater ≡ untaken_lock → t ≡ Resting
  still_locked after s t same busy locked zero = absurd (busy (locked (sym same ∙ zero)))

  -- a store elsewhere leaves the root's line
  root_stays : (p : Location) (y : ℕ) → HasLocation l p → ((o : ℕ) → Cached (Root o) ≢ p) → ((o : ℕ) → Durable (Root o) ≢ p) → RootLineStays l words (slice_set words (address_of l p) y)
  root_stays p y has cached durable = record {
    cached = λ o some small. at-set_other l words p (Cached (Root o)) y has small (cached o);
    durable = λ o some small. inl (at-set_other l words p (Durable (Root o)) y has small (durable o));
  }

  loads : (address : ℕ) (s t : RowStage) → s ≢ Resting → Locked s → Touched r ghosts words (acted l words (Load address)) t
  loads address s t busy locked =
      let same : acted l words (Load address) ≡ words = set-get_or words address 0 in
      record {
        touches = is_aside (record {
          rest = λ p has kept. ap (λ v. at l v p) same;
          root = record { cached = λ o some small. ap (λ v. at l v (Cached (Root o))) same; durable = λ o some small. inl (ap (λ v. at l v (Durable (Root o))) same) };
        });
        lock = still_locked (acted l words (Load address)) s t (ap (λ v. at l v Updater) same) busy locked;
      }

  stores_lock : (y : ℕ) (t : RowStage) → (y ≡ 0 → t ≡ Resting) → Touched r ghosts words (slice_set words (lock_at l) y) t
  stores_lock y t rests = record {
    touches = is_aside (record { rest = λ p has kept. at-set_other l words Updater p y tt has kept.lock; root = root_stays Updater y tt (λ o e. cc) (λ o e. cc) });
    lock = λ zero. rests (sym (at-set_same l words Updater y row.whole tt) ∙ zero);
  }

  stores_stamp : (n y : ℕ) (s t : RowStage) → n < l.nodes → s ≢ Resting → Locked s → Touched r ghosts words (slice_set words (volatile_at l n stamp_offset) y) t
  stores_stamp n y s t here busy locked =
      let has : HasLocation l (Volatile n stamp_offset) = (here, omega arith) in
      record {
        touches = is_aside (record {
          rest = λ p there kept. at-set_other l words (Volatile n stamp_offset) p y has there (kept.stamp n);
          root = root_stays (Volatile n stamp_offset) y has (λ o e. cc) (λ o e. cc);
        });
        lock = still_locked (slice_set words (volatile_at l n stamp_offset) y) s t (at-set_other l words (Volatile n stamp_offset) Updater y has tt (λ e. cc)) busy locked;
      }

  changes_leaves : (e : RowLine) (word : ℕ) (s t : Changing) (a : Action) (next : RowStage) → RowLawful r ghosts words (Changes e word s) → ChangeStep l (aim_of e word) s a (got l words a) t
      → Locked (Changes e word s) → Touched r ghosts words (acted l words a) next
  changes_leaves e word s t a next is step locked =
      let keeps = change_kept r words e word s t a row is.sure step in
      record {
        touches = is_aside (record { rest = λ p has kept. keeps.others p has kept.layer; root = (root_step_keeps l (aim_of e word) words s a t row.whole step is.sure.holds).1 });
        lock = still_locked (acted l words a) (Changes e word s) next (keeps.others Updater tt refl) (λ e. cc) locked;
      }

pub touched : (r : RowTerms) (ghosts : Ghosts) (words : List ℕ) (row : IsRow r.layout words) {s : RowStage} {a : Action} {x : ℕ} {t : RowStage} → RowStep r s a x t → x ≡ got r.layout words a
    → RowLawful r ghosts words s → (at r.layout words Updater ≡ untaken_lock → s ≡ Resting) → Touched r ghosts words (acted r.layout words a) t
touched r ghosts words row {t = t} (takes_lock {x = x} free) told is locked =
    let word : ℕ = at r.layout words Updater in
    stores_lock r ghosts words row (cond (word == untaken_lock) taken_lock word) t
    (λ none. absurd (let one : cond (word == 0) 1 word ≡ 1 = ap (λ b. cond b 1 word) (eq-eqb word 0 (sym told ∙ free)) in omega (arith, one, none)))
touched r ghosts words row (finds_held {x = x} taken) told is locked =
    let word : ℕ = at r.layout words Updater in stores_lock r ghosts words row (cond (word == untaken_lock) taken_lock word) Resting (λ _. refl)
touched r ghosts words row {s = s} {t = t} (passes {j = j} here other_state) told is locked = loads r ghosts words row (line_at r.layout j state_offset) s t (λ e. cc) locked
touched r ghosts words row {s = s} {t = t} (sees {j = j} seen here ready size) told is locked = loads r ghosts words row (line_at r.layout j state_offset) s t (λ e. cc) locked
touched r ghosts words row {s = s} {t = t} (reads {j = j} {offset = offset} here some_offset small named) told is locked = loads r ghosts words row (line_at r.layout j offset) s t (λ e. cc) locked
touched r ghosts words row {s = s} {t = t} (has_read {j = j} here) told is locked = loads r ghosts words row (line_at r.layout j left_offset) s t (λ e. cc) locked
touched r ghosts words row {s = s} {t = t} (walks {address = address} here) told is locked = loads r ghosts words row address s t (λ e. cc) locked
touched r ghosts words row {s = s} {t = t} (is_turned_back {address = address} here) told is locked = loads r ghosts words row address s t (λ e. cc) locked
touched r ghosts words row {s = s} {t = t} (finds {address = address} here within free) told is locked = loads r ghosts words row address s t (λ e. cc) locked
touched r ghosts words row {s = s} {t = t} (loses {target = target} moved) told is locked = loads r ghosts words row (version_at r.layout target.node) s t (λ e. cc) locked
touched r ghosts words row {s = s} {t = t} (decides {target = target} same) told is locked = loads r ghosts words row (version_at r.layout target.node) s t (λ e. cc) locked
touched r ghosts words row (changes {e = e} {word = word} {x = x} {s = s} {t = t} {a = a} step) told is locked =
    changes_leaves r ghosts words row e word s t a (Changes e word t) is (subst (λ y. ChangeStep r.layout (aim_of e word) s a y t) told step) locked
touched r ghosts words row {t = t} (has_changed {e = e} {word = word} {x = x} {s = s} {a = a} step) told is locked =
    changes_leaves r ghosts words row e word s Changed a t is (subst (λ y. ChangeStep r.layout (aim_of e word) s a y Changed) told step) locked
touched r ghosts words row {s = s} {t = t} (stamps {e = e} here) told is locked = stores_stamp r ghosts words row e.node r.stamp s t here (λ e. cc) locked
touched r ghosts words row {s = s} {t = t} (empties {j = j} here) told is locked = record {
  touches = is_emptied j here is.law.sure refl;
  lock = still_locked r ghosts words row (slice_set words (line_at r.layout j state_offset) 0) s t
      (at-set_other r.layout words (Cached (line_word state_offset j)) Updater 0 (omega arith, omega arith, omega arith) tt (λ e. cc)) (λ e. cc) locked;
}
touched r ghosts words row {s = s} {t = t} (passes_node {n = n} here other_status) told is locked = loads r ghosts words row (volatile_at r.layout n status_offset) s t (λ e. cc) locked
touched r ghosts words row {s = s} {t = t} (sees_gone {n = n} here gone) told is locked = loads r ghosts words row (volatile_at r.layout n status_offset) s t (λ e. cc) locked
touched r ghosts words row {s = s} {t = t} (passes_stamp {n = n} here why) told is locked = loads r ghosts words row (volatile_at r.layout n stamp_offset) s t (λ e. cc) locked
touched r ghosts words row {s = s} {t = t} (sees_stamp {n = n} here some_stamp at_most) told is locked = loads r ghosts words row (volatile_at r.layout n stamp_offset) s t (λ e. cc) locked
touched r ghosts words row {s = s} {t = t} (passes_worn {n = n} here worn) told is locked = loads r ghosts words row (version_at r.layout n) s t (λ e. cc) locked
touched r ghosts words row {s = s} {t = t} (sees_unworn {n = n} here unworn) told is locked = loads r ghosts words row (version_at r.layout n) s t (λ e. cc) locked
touched r ghosts words row {s = s} {t = t} (unstamps {n = n} here) told is locked = stores_stamp r ghosts words row n 0 s t here (λ e. cc) locked
touched r ghosts words row {s = s} {t = t} (frees {n = n} here) told is locked = record {
  touches = is_freed n here is.law.sure refl;
  lock = still_locked r ghosts words row (slice_set words (volatile_at r.layout n status_offset) 0) s t
      (at-set_other r.layout words (Volatile n status_offset) Updater 0 (here, omega arith) tt (λ e. cc)) (λ e. cc) locked;
}
touched r ghosts words row {s = s} {t = t} (counts {n = n} here) told is locked = loads r ghosts words row (volatile_at r.layout n status_offset) s t (λ e. cc) locked
touched r ghosts words row (leaves_lock done) told is locked = stores_lock r ghosts words row 0 Resting (λ _. refl)
