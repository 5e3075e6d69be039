-- What holds of an index whose turns rest: it holds for any that rests, another turn may begin, and with no call in flight
-- it is what the row says.
use Rattle.std.proofs.Common.{◌≡◌, ◌≢◌, ℕ, ⊎_elim, List, slice_set, refl, sym, ap, ◌∙◌, subst}
use Rattle.std.proofs.lemmas.Bool.{cases_eq}
use mathlib.Core.Option.{some, some-injective}
use lib.ListN.{get_elem?}
use Rattle.call_stages.specs.Stages.{Stage, Gone, Idle, Joins, HoldsNode, IsSwitched}
use Rattle.call_stages.specs.Watches.{Nothing}
use Rattle.updater_row_law.specs.Columns as columns
use Rattle.updater_row_law.specs.Columns.{Ghosts}
use Rattle.updater_row_law.specs.RowStages.{RowLine, RowTarget, RowStage, Resting, HasTarget, turn_stage}
use Rattle.updater_law.specs.Lawful.{SureTurn}
use Rattle.updater_row_law.specs.RowLaw.{SureRow, RowLawful}
use Rattle.index_law.specs.Worlds.{World, facts}
use Rattle.index_law.proofs.Parties.{at_set, set_here, set_else}
use Rattle.updater_row_law.specs.Turnings.{Turning}
use Rattle.index_layer_law.specs.Turnings.{terms_of, AreRestingBut, ghosts_of, SureWatch, IsShown}
use Rattle.index_layer_law.specs.Layers.{Layered, IsLayered}
use Rattle.index_layer_law.specs.Laws.{TurnStartKeeps, RestIsLayered}

-- what holds of a turn at a stage holds of any other there, of which the same is sure
pub other_for : (w : World) (ghosts : Ghosts) (words : List ℕ) (t u : Turning) (s : RowStage) → u.stamp ≢ 0 → SureRow (terms_of w u) ghosts words s
    → SureTurn (columns.terms_of (terms_of w u)) (columns.facts_in (terms_of w u) ghosts words) (turn_stage s) → RowLawful (terms_of w t) ghosts words s → RowLawful (terms_of w u) ghosts words s
other_for w ghosts words t u s stamp sure own is = record {
  order = is.order;
  rooted = is.rooted;
  sure = sure;
  law = assumption (is.law, stamp, own);
}

-- what holds where a turn rests holds for any other that rests
pub rests_for : (w : World) (ghosts : Ghosts) (words : List ℕ) (t u : Turning) → u.stamp ≢ 0 → RowLawful (terms_of w t) ghosts words Resting → RowLawful (terms_of w u) ghosts words Resting
rests_for w ghosts words t u stamp is = other_for w ghosts words t u Resting stamp is.sure tt is

-- what holds of the turn that a party makes then, and of each other one, holds of each
pub each : (turns : List Turning) (i : ℕ) (next : Turning) (P : ℕ → Turning → Type 0) → P i next → ((j : ℕ) (u : Turning) → j ≢ i → get_elem? turns j ≡ some u → P j u)
    → (j : ℕ) (u : Turning) → get_elem? (slice_set turns i next) j ≡ some u → P j u
each turns i next P own others j u at_u = ⊎_elim
    (λ (mine : (j ≡ i) × (next ≡ u)). subst (λ k. P k u) (sym mine.0) (subst (P i) mine.1 own))
    (λ (other : (j ≢ i) × (get_elem? turns j ≡ some u)). others j u other.0 other.1)
    (at_set turns i j next u at_u)

-- A party whose turn rests makes another one that rests.
module _ (z : Layered) (i : ℕ) (t next : Turning) (is : IsLayered z) (there : get_elem? z.turns i ≡ some t) (was : t.stage ≡ Resting) (now : next.stage ≡ Resting) where
  abbrev w : World
  w = z.whole.world

  abbrev turns : List Turning
  turns = slice_set z.turns i next

  -- who rests beside the others' turns rested beside them before
  rested : (j : ℕ) → AreRestingBut turns j → AreRestingBut z.turns j
  rested j rests k u at_u other = ⊎_elim
      (λ (same : k ≡ i). ap (λ (v : Turning). v.stage) (some-injective _ _ (sym at_u ∙ ap (get_elem? z.turns) same ∙ there)) ∙ was)
      (λ (apart : k ≢ i). rests k u (set_else z.turns i k next apart ∙ at_u) other)
      (cases_eq k i)

  not_target : {A : Type 0} (e : RowLine) (target : RowTarget) → next.stage ≡ HasTarget e target → A
  not_target e target has = absurd (let no : Resting ≡ HasTarget e target = sym now ∙ has in cc)

  pub rests_keep : next.stamp ≢ 0 → SureWatch w.layout w.generation (facts w) next.watch → IsLayered (record { whole = z.whole; turns = slice_set z.turns i next })
  rests_keep stamp watch = record {
    whole = is.whole;
    tended = is.tended;
    holder = is.holder;
    holders = is.holders;
    one = λ j k u v at_u at_v busy_u busy_v. ⊎_elim
        (λ (mine : (j ≡ i) × (next ≡ u)). absurd (busy_u (ap (λ (q : Turning). q.stage) (sym mine.1) ∙ now)))
        (λ (other : (j ≢ i) × (get_elem? z.turns j ≡ some u)). ⊎_elim
        (λ (mine : (k ≡ i) × (next ≡ v)). absurd (busy_v (ap (λ (q : Turning). q.stage) (sym mine.1) ∙ now)))
        (λ (apart : (k ≢ i) × (get_elem? z.turns k ≡ some v)). is.one j k u v other.1 apart.1 busy_u busy_v)
        (at_set z.turns i k next v at_v))
        (at_set z.turns i j next u at_u);
    active = ⊎_elim
        (λ (same : is.active.0 ≡ i). (i, next, set_here z.turns i next t there, λ k u at_u other. is.active.3 k u (sym (set_else z.turns i k next other) ∙ at_u) (λ e. other (e ∙ same))))
        (λ (apart : is.active.0 ≢ i). (
          is.active.0,
          is.active.1,
          set_else z.turns i is.active.0 next apart ∙ is.active.2,
          each z.turns i next (λ k u. k ≢ is.active.0 → u.stage ≡ Resting) (λ other. now) (λ k u different at_u other. is.active.3 k u at_u other),
        ))
        (cases_eq is.active.0 i);
    lock = λ free. each z.turns i next (λ j u. u.stage ≡ Resting) now (λ j u other at_u. is.lock free j u at_u);
    unlocked = λ rest. is.unlocked (λ k u at_u. ⊎_elim
        (λ (same : k ≡ i). ap (λ (v : Turning). v.stage) (some-injective _ _ (sym at_u ∙ ap (get_elem? z.turns) same ∙ there)) ∙ was)
        (λ (apart : k ≢ i). rest k u (set_else z.turns i k next apart ∙ at_u))
        (cases_eq k i));
    rows = λ j u at_u rests. each z.turns i next (λ k v. AreRestingBut turns k → RowLawful (terms_of w v) (ghosts_of w is.holder) w.words v.stage)
        (λ still. subst (RowLawful (terms_of w next) (ghosts_of w is.holder) w.words) (sym now)
        (rests_for w (ghosts_of w is.holder) w.words t next stamp
        (subst (RowLawful (terms_of w t) (ghosts_of w is.holder) w.words) was (is.rows i t there (rested i still)))))
        (λ k v other at_v still. is.rows k v at_v (rested k still))
        j u at_u rests;
    stamps = each z.turns i next (λ j u. u.stamp ≢ 0) stamp (λ j u other at_u. is.stamps j u at_u);
    watches = each z.turns i next (λ j u. SureWatch w.layout w.generation (facts w) u.watch) watch (λ j u other at_u. is.watches j u at_u);
    shown = λ j u e target at_u has. each z.turns i next (λ k v. v.stage ≡ HasTarget e target → IsShown w.layout w.generation (facts w) e.anchor target)
        (not_target e target) (λ k v other at_v has_v. is.shown k v e target at_v has_v) j u at_u has;
    retiring = is.retiring;
    switched = is.switched;
  }

pub turn_start_keeps : TurnStartKeeps
turn_start_keeps z i t stamp release is there was some_stamp =
    rests_keep z i t (record { stamp = stamp; release = release; stage = Resting; watch = Nothing }) is there was refl some_stamp tt

pub rest_is_layered : RestIsLayered
rest_is_layered z i t whole tended idle rest there unlocked row = record {
  whole = whole;
  tended = tended;
  holder = λ n. 0;
  holders = λ j p n at_p holds. absurd (subst (λ (s : Stage). HoldsNode s n) (idle j p at_p) holds);
  one = λ j k u v at_u at_v busy_u busy_v. absurd (busy_u (rest j u at_u).stage);
  active = (i, t, there, λ j u at_u other. (rest j u at_u).stage);
  lock = λ free j u at_u. (rest j u at_u).stage;
  unlocked = λ all_rest. unlocked;
  rows = λ j u at_u others. subst (RowLawful (terms_of z.whole.world u) (ghosts_of z.whole.world (λ n. 0)) z.whole.world.words) (sym (rest j u at_u).stage)
      (rests_for z.whole.world (ghosts_of z.whole.world (λ n. 0)) z.whole.world.words t u (rest j u at_u).stamp row);
  stamps = λ j u at_u. (rest j u at_u).stamp;
  watches = λ j u at_u. subst (SureWatch z.whole.world.layout z.whole.world.generation (facts z.whole.world)) (sym (rest j u at_u).watch) tt;
  shown = λ j u e target at_u stage. absurd (let no : Resting ≡ HasTarget e target = sym (rest j u at_u).stage ∙ stage in cc);
  retiring = λ j p line u h left right at_p at_line stage. absurd (let no : Idle ≡ Joins h left right Gone = sym (idle j p at_p) ∙ stage in cc);
  switched = λ j p n at_p is_switched. absurd (subst (λ (s : Stage). IsSwitched s n) (idle j p at_p) is_switched);
}
