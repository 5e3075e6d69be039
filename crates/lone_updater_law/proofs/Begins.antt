-- With nothing in flight a party takes the updater lock, and is in its turn then.
use Rattle.std.proofs.Common.{◌≡◌, ℕ, ◌==◌, ◌^◌, ◌<◌, ◌≤◌, false, cond, List, [], slice_set, inl, refl, sym, subst}
use Rattle.std.proofs.Common.{ap, ◌∙◌, arith}
use Rattle.std.specs.Prelude.{None}
use Rattle.std.proofs.lemmas.List.{set-set}
use mathlib.Core.Option.{some}
use lib.ListN.{get_elem?}
use Rattle.pm_words.specs.declared.action.Action.{Action}
use Rattle.pm_words.specs.Locations.{Updater, at}
use Rattle.pm_words.specs.Rows.{CanAct, acted, got}
use Rattle.pm_words.specs.Codes.{untaken_lock, taken_lock}
use Rattle.call_stages.specs.Watches.{Nothing}
use Rattle.index_law.specs.Worlds.{World}
use Rattle.index_law.proofs.Parties.{set_here, set_else}
use Rattle.updater_law.specs.Facts.{TurnFacts}
use Rattle.index_layer_law.specs.updater_row_law.specs.Columns.{RowTerms, Ghosts}
use Rattle.index_layer_law.specs.updater_row_law.specs.RowStages.{Resting, Between}
use Rattle.index_layer_law.specs.updater_row_law.specs.Turnings.{Turning, TurnFoot}
use Rattle.index_layer_law.specs.updater_row_law.proofs.RowStores.{lock_stored}
use Rattle.updater.specs.Takings.{taking_asks, took_of}
use Rattle.updater.specs.Works.{IsWork, work_from}
use Rattle.updater.specs.Steps.{row_terms}
use Rattle.updater.specs.Watches.{turning_at}
use Rattle.updater.proofs.FootLaw.{takings_are_feet}
use Rattle.index_layer_law.specs.Turnings.{AreRestingBut}
use Rattle.index_layer_law.specs.Layers.{Layered, IsLayered}
use Rattle.index_layer_law.specs.Laws.{turned}
use Rattle.index_layer_law.proofs.TurnRests.{turn_start_keeps}
use Rattle.lone_updater_law.specs.LoneTurns.{IsIdle}
use Rattle.lone_updater_law.specs.Marks.{Marks, marks_in, HasEmptied}
use Rattle.lone_updater_law.specs.Laws.{terms_in, LoneTurning, TurnsBegin}
use Rattle.lone_updater_law.proofs.MarkSteps.{row_marks}
use Rattle.lone_updater_law.proofs.TurnSteps.{marks_tie, can_act, layered_after, nodes_kept}

module _ (z : Layered) (i : ℕ) (t : Turning) (stamp release : ℕ) (is : IsIdle z) (there : get_elem? z.turns i ≡ some t) (positive : 1 ≤ stamp) (small : stamp < 2 ^ 64) where
  abbrev w : World
  w = z.whole.world

  abbrev asks : Action
  asks = taking_asks z.whole.world.layout

  abbrev after : List ℕ
  after = acted z.whole.world.layout z.whole.world.words (taking_asks z.whole.world.layout)

  abbrev terms : RowTerms
  terms = row_terms (terms_in z.whole.world stamp release)

  -- its turn as it is to begin, and once it has the lock
  abbrev first : Turning
  first = turning_at (row_terms (terms_in z.whole.world stamp release)) Resting Nothing

  abbrev next : Turning
  next = turning_at (row_terms (terms_in z.whole.world stamp release)) (Between 0) Nothing

  abbrev about : Layered
  about = record { whole = z.whole; turns = slice_set z.turns i (turning_at (row_terms (terms_in z.whole.world stamp release)) Resting Nothing) }

  about_layered : IsLayered about
  about_layered = turn_start_keeps z i t stamp release is.layered there (is.turns i t there).stage (λ none. omega arith)

  about_there : get_elem? about.turns i ≡ some first
  about_there = set_here z.turns i first t there

  about_rests : AreRestingBut about.turns i
  about_rests j u at_u other = (is.turns j u (sym (set_else z.turns i j first other) ∙ at_u)).stage

  unlocked : at w.layout w.words Updater ≡ untaken_lock
  unlocked = is.layered.unlocked (λ j u at_u. (is.turns j u at_u).stage)

  told : 0 ≡ got w.layout w.words asks
  told = sym unlocked

  foot : TurnFoot terms first asks 0 next
  foot = takings_are_feet terms 0

  -- the lock is no mark
  marks_same : marks_in (record (z.whole.world) { words = acted z.whole.world.layout z.whole.world.words (taking_asks z.whole.world.layout) }) ≡ marks_in w
  marks_same =
      let ghosts : Ghosts = record { listed = λ n. false; holder = λ n. 0 } in
      let word : ℕ = at w.layout w.words Updater in
      let stored : row_marks w.layout after ≡ row_marks w.layout w.words =
      ap (λ (f : TurnFacts). record { state = f.line.state; status = f.status; stamp = f.stamp }) (lock_stored terms ghosts w.words (cond (word == untaken_lock) taken_lock word)).facts in
      marks_tie (record w { words = after }) ∙ stored ∙ sym (marks_tie w)

  begun : HasEmptied w stamp (marks_in w) 0
  begun = record { empty = λ k lt. absurd (omega arith); rest = λ k le. refl; statuses = λ n. refl; stamps = λ n. inl refl }

  work_sound : IsWork (work_from w.layout w.generation stamp release)
  work_sound =
      let layout = is.layered.whole.joint.lawful.row.layout in
      record {
        terms = record { layout = layout; stamp = positive };
        here = record { within = (let some : 1 ≤ w.layout.callers = layout.callers.0 in omega arith); counted = omega arith; unfreed = refl };
      }

  turning : LoneTurning z stamp release i (work_from w.layout w.generation stamp release) (turned about i asks next)
  turning = record {
    began = is;
    layered = layered_after z about i first next asks 0 about_layered about_there about_rests small foot told;
    kept = nodes_kept z about i first next asks 0 about_layered about_there about_rests small foot told (record { whole = refl; facts = refl });
    there = set_here about.turns i next first about_there;
    others = λ j u at_u other. is.turns j u (sym (set_else z.turns i j first other) ∙ sym (set_else about.turns i j next other) ∙ at_u);
    terms = refl;
    small = small;
    sound = work_sound;
    done = subst (λ (m : Marks). HasEmptied w stamp m 0) (sym marks_same) begun;
    walk = tt;
    hears = record {
      entry = record { kind = 0; node = 0; anchor = []; left = 0 };
      target = record { node = 0; version = 0; low = []; high = None; hops = 0; next = None };
      heard = record { applied = refl; left = refl };
    };
  }

  can_take : CanAct w.layout w.words asks
  can_take = can_act z about i first next asks 0 about_layered about_there about_rests small foot told

pub turns_begin : TurnsBegin
turns_begin z i t stamp release is there positive small = record {
  can = can_take z i t stamp release is there positive small;
  takes = is.layered.whole.joint.lawful.row.fits _;
  taken = ap took_of (unlocked z i t stamp release is there positive small);
  turning = subst (λ (turns : List Turning). LoneTurning z stamp release i (work_from z.whole.world.layout z.whole.world.generation stamp release)
      (record { whole = (turned (about z i t stamp release is there positive small) i (asks z i t stamp release is there positive small) (next z i t stamp release is there positive small)).whole; turns = turns }))
      (set-set z.turns i (first z i t stamp release is there positive small) (next z i t stamp release is there positive small))
      (turning z i t stamp release is there positive small);
}
