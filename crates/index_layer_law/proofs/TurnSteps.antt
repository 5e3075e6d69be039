-- A step of a turn can be done, and keeps the index with its search layer.
use Rattle.std.proofs.Common.{◌≡◌, ◌≢◌, ℕ, ◌^◌, ◌<◌, ◌⊎◌, ⊎_elim, inl, inr, cond, List, slice_set, refl, sym, ap, ◌∙◌, subst, arith}
use Rattle.std.specs.Prelude.{◌==◌, ◌||◌}
use Rattle.std.proofs.lemmas.Bool.{cases_eq, ne_eqb}
use Rattle.std.proofs.lemmas.List.{set-get_or}
use mathlib.Core.Option.{some, some-injective}
use lib.ListN.{get_elem?}
use Rattle.pm_words.specs.declared.layout.Layout.{Layout}
use Rattle.pm_words.specs.declared.action.Action.{Action}
use Rattle.pm_words.specs.Locations.{Updater, at}
use Rattle.pm_words.specs.Rows.{IsRow, CanAct, acted, got}
use Rattle.pm_words.specs.Codes.{untaken_lock, taken_lock}
use Rattle.pm_words.proofs.Apart.{addresses_within}
use Rattle.pm_words.proofs.Kept.{acted_row, outside_header}
use Rattle.call_stages.specs.Watches.{Watching, Watches, Watch}
use Rattle.updater_row_law.specs.Columns.{Ghosts, RowTerms}
use Rattle.updater_row_law.specs.RowStages.{RowLine, RowTarget, RowStage, Resting, Between, Reads, Lands, HasTarget, Changes, Stamps, Clears, Sweeps, Gone, HasStamp, IsUnworn, Frees, Counts}
use Rattle.updater_row_law.specs.RowSteps.{lock_at, RowStep, takes_lock, finds_held}
use Rattle.updater_row_law.specs.RowLaw.{RowLawful}
use Rattle.updater_row_law.proofs.RowActions.{row_step_can_act}
use Rattle.updater_row_law.proofs.RowTurns.{row_step_keeps}
use Rattle.index_law.specs.Facts.{status_in}
use Rattle.index_law.specs.Worlds.{World, facts}
use Rattle.index_law.proofs.Parties.{at_set, set_here, set_else}
use Rattle.updater_row_law.specs.Turnings.{Turning, TurnFoot}
use Rattle.index_layer_law.specs.Turnings.{terms_of, AreRestingBut, is_member, ghosts_of, SureWatch, IsShown}
use Rattle.index_layer_law.specs.Layers.{Layered, IsLayered}
use Rattle.index_layer_law.specs.Laws.{turned, TurnStepKeeps, LeavesNodes, TurnStepLeavesNodes}
use Rattle.index_layer_law.proofs.TurnKept.{Keeps, touches_keep}
use Rattle.index_layer_law.proofs.TurnLocks.{gives_back}
use Rattle.index_layer_law.proofs.TurnRests.{rests_for, each, rests_keep}
use Rattle.index_layer_law.proofs.TurnTouches.{Touched, touched}
use Rattle.index_layer_law.proofs.TurnWalks.{watch_keeps, watch_same, shown_same, found_target}

pub rests_or_not : (s : RowStage) → (s ≡ Resting) ⊎ (s ≢ Resting)
rests_or_not Resting = inl refl
rests_or_not (Between j) = inr (λ e. cc)
rests_or_not (Reads j offset seen) = inr (λ e. cc)
rests_or_not (Lands e) = inr (λ same. cc)
rests_or_not (HasTarget e target) = inr (λ same. cc)
rests_or_not (Changes e word s) = inr (λ same. cc)
rests_or_not (Stamps e) = inr (λ same. cc)
rests_or_not (Clears j) = inr (λ e. cc)
rests_or_not (Sweeps n) = inr (λ e. cc)
rests_or_not (Gone n) = inr (λ e. cc)
rests_or_not (HasStamp n) = inr (λ e. cc)
rests_or_not (IsUnworn n) = inr (λ e. cc)
rests_or_not (Frees n) = inr (λ e. cc)
rests_or_not (Counts n none) = inr (λ e. cc)

-- beside a turn that works all others rest
pub others_rest : (z : Layered) (i : ℕ) (t : Turning) → IsLayered z → get_elem? z.turns i ≡ some t → t.stage ≢ Resting → AreRestingBut z.turns i
others_rest z i t is there busy j u at_u other = ⊎_elim (λ rests. rests) (λ busy_u. absurd (other (is.one j i u t at_u there busy_u busy))) (rests_or_not u.stage)

-- a turn that finds the updater lock taken changes nothing
pub record Misses (l : Layout) (words : List ℕ) (a : Action) (next : RowStage) : Type 0 where
  pub rests : next ≡ Resting
  pub same : acted l words a ≡ words
  pub can : CanAct l words a

pub resting_step : (r : RowTerms) (words : List ℕ) (a : Action) (x : ℕ) (next : RowStage) → RowStep r Resting a x next → x ≡ got r.layout words a
    → (at r.layout words Updater ≡ untaken_lock) ⊎ Misses r.layout words a next
resting_step r words a x next (takes_lock free) told = inl (sym told ∙ free)
resting_step r words a x next (finds_held taken) told =
    let l : Layout = r.layout in
    let word : ℕ = at l words Updater in
    inr (record {
      rests = refl;
      same = ap (λ b. slice_set words (lock_at l) (cond b taken_lock word)) (ne_eqb word untaken_lock (λ zero. taken (told ∙ zero))) ∙ set-get_or words (lock_at l) 0;
      can = ((addresses_within l Updater tt, outside_header l Updater tt (λ k lt. (λ e. cc, λ e. cc))), omega arith);
    })

-- a turn that rests still has found the lock taken
found_lock : (r : RowTerms) (words : List ℕ) {a : Action} {x : ℕ} {next : RowStage} → RowStep r Resting a x next → x ≡ got r.layout words a → next ≡ Resting → at r.layout words Updater ≡ untaken_lock → ⊥
found_lock r words (takes_lock free) told is zero = cc
found_lock r words (finds_held taken) told is zero = taken (told ∙ zero)

module _ (z : Layered) (i : ℕ) (t next : Turning) (a : Action) (x : ℕ) (is : IsLayered z) (there : get_elem? z.turns i ≡ some t) (small : t.stamp < 2 ^ 64)
    (foot : TurnFoot (terms_of z.whole.world t) t a x next) (told : x ≡ got z.whole.world.layout z.whole.world.words a) where
  abbrev w : World
  w = z.whole.world

  abbrev after : List ℕ
  after = acted w.layout w.words a

  abbrev turns : List Turning
  turns = slice_set z.turns i next

  watch_after : (watch : Watching) → Watch w.layout w.generation t.watch a x watch → SureWatch w.layout w.generation (facts w) watch
  watch_after watch step =
      let lawful = is.whole.joint.lawful in
      watch_keeps w.layout w.generation w.words w.base w.history t.watch watch a x lawful.versions lawful.live step told (is.watches i t there)

  shown_after : (e : RowLine) (target : RowTarget) → next.stage ≡ HasTarget e target → IsShown w.layout w.generation (facts w) e.anchor target
  shown_after e target has =
      let found = foot.found e target has in
      record { sight = found.sight; sure = watch_after (Watches target.node target.version found.sight) found.watch; seen = found.seen }

  stamp_after : next.stamp ≢ 0
  stamp_after none = is.stamps i t there (sym foot.stamp ∙ none)

  -- where the others rest
  module _ (rest : AreRestingBut z.turns i) where
    row : IsRow w.layout w.words
    row = is.whole.joint.lawful.row

    lawful_row : RowLawful (terms_of w t) (ghosts_of w is.holder) w.words t.stage
    lawful_row = is.rows i t there rest

    can_act : CanAct w.layout w.words a
    can_act = row_step_can_act (terms_of w t) (ghosts_of w is.holder) w.words t.stage next.stage a x row small lawful_row foot.row

    touch : Touched (terms_of w t) (ghosts_of w is.holder) w.words after next.stage
    touch = touched (terms_of w t) (ghosts_of w is.holder) w.words row foot.row told lawful_row (λ free. is.lock free i t there)

    keeps : Keeps z.whole is.holder after
    keeps = touches_keep z.whole is.holder t is.whole is.tended after (acted_row w.layout w.words a row can_act) touch.touches

    abbrev later : World
    later = record (z.whole.world) { words = acted z.whole.world.layout z.whole.world.words a }

    row_after : RowLawful (terms_of later next) (ghosts_of later is.holder) after next.stage
    row_after =
        let lawful = is.whole.joint.lawful in
        let terms : Path RowTerms (terms_of w t) (terms_of later next) =
        λ k. record { layout = w.layout; generation = w.generation; stamp = sym foot.stamp k; release = sym foot.release k } in
        let ghosts : Path Ghosts (ghosts_of w is.holder) (ghosts_of later is.holder) =
        λ k. record { listed = λ n. n == 0 || is_member (sym keeps.list k) n; holder = is.holder } in
        subst (λ (r : RowTerms). RowLawful r (ghosts_of later is.holder) after next.stage) terms
        (subst (λ (q : Ghosts). RowLawful (terms_of w t) q after next.stage) ghosts
        (row_step_keeps (terms_of w t) (ghosts_of w is.holder) w.words t.stage next.stage a row lawful_row (subst (λ y. RowStep (terms_of w t) t.stage a y next.stage) told foot.row)
        (λ e target has. found_target (terms_of w t) w.words w.base w.history is.holder lawful.list e.anchor target (shown_after e target has))))

    -- where it rests afterwards it has given the lock back
    given_back : next.stage ≡ Resting → at w.layout after Updater ≡ untaken_lock
    given_back now_rests = ⊎_elim
        (λ (was : t.stage ≡ Resting). absurd (found_lock (terms_of w t) w.words (subst (λ s. RowStep (terms_of w t) s a x next.stage) was foot.row) told now_rests (is.unlocked (λ j u at_u. ⊎_elim
        (λ (same : j ≡ i). ap (λ (v : Turning). v.stage) (some-injective _ _ (sym at_u ∙ ap (get_elem? z.turns) same ∙ there)) ∙ was)
        (λ (other : j ≢ i). rest j u at_u other)
        (cases_eq j i)))))
        (λ busy. gives_back (terms_of w t) w.words row foot.row busy now_rests)
        (rests_or_not t.stage)

    goes_keep : IsLayered (turned z i a next)
    goes_keep = record {
      whole = keeps.whole;
      tended = keeps.tended;
      holder = is.holder;
      holders = is.holders;
      one = λ j k u v at_u at_v busy_u busy_v. ⊎_elim
          (λ (mine : (j ≡ i) × (next ≡ u)). ⊎_elim
          (λ (own : (k ≡ i) × (next ≡ v)). mine.0 ∙ sym own.0)
          (λ (other : (k ≢ i) × (get_elem? z.turns k ≡ some v)). absurd (busy_v (rest k v other.1 other.0)))
          (at_set z.turns i k next v at_v))
          (λ (other : (j ≢ i) × (get_elem? z.turns j ≡ some u)). absurd (busy_u (rest j u other.1 other.0)))
          (at_set z.turns i j next u at_u);
      active = (i, next, set_here z.turns i next t there, λ k u at_u other. rest k u (sym (set_else z.turns i k next other) ∙ at_u) other);
      lock = λ free. each z.turns i next (λ j u. u.stage ≡ Resting) (touch.lock free) (λ j u other at_u. rest j u at_u other);
      unlocked = λ all_rest. given_back (all_rest i next (set_here z.turns i next t there));
      rows = λ j u at_u rests. each z.turns i next (λ k v. AreRestingBut turns k → RowLawful (terms_of later v) (ghosts_of later is.holder) after v.stage)
          (λ still. row_after)
          (λ k v other at_v still. subst (RowLawful (terms_of later v) (ghosts_of later is.holder) after) (sym (rest k v at_v other))
          (rests_for later (ghosts_of later is.holder) after next v (is.stamps k v at_v)
          (subst (RowLawful (terms_of later next) (ghosts_of later is.holder) after) (still i next (set_here z.turns i next t there) (λ e. other (sym e))) row_after)))
          j u at_u rests;
      stamps = each z.turns i next (λ j u. u.stamp ≢ 0) stamp_after (λ j u other at_u. is.stamps j u at_u);
      watches = each z.turns i next (λ j u. SureWatch w.layout w.generation (facts later) u.watch)
          (watch_same w.layout w.generation (facts w) (facts later) next.watch keeps.version keeps.now keeps.list (watch_after next.watch foot.watch))
          (λ j u other at_u. watch_same w.layout w.generation (facts w) (facts later) u.watch keeps.version keeps.now keeps.list (is.watches j u at_u));
      shown = λ j u e target at_u has. shown_same w.layout w.generation (facts w) (facts later) e.anchor target keeps.version keeps.now keeps.list
          (each z.turns i next (λ k v. v.stage ≡ HasTarget e target → IsShown w.layout w.generation (facts w) e.anchor target)
          (shown_after e target) (λ k v other at_v has_v. is.shown k v e target at_v has_v) j u at_u has);
      retiring = λ j p line u h left right at_p at_line stage. keeps.retiring j p line u h left right at_p at_line stage (is.retiring j p line u h left right at_p at_line stage);
      switched = λ j p n at_p is_switched. let covering = is.switched j p n at_p is_switched in (covering.0, covering.1, keeps.switched j p covering.0 n at_p covering.1 is_switched covering.2);
    }

  step_keeps : CanAct w.layout w.words a × IsLayered (turned z i a next)
  step_keeps = ⊎_elim
      (λ (was : t.stage ≡ Resting). ⊎_elim
      (λ free. let rest : AreRestingBut z.turns i = (λ j u at_u other. is.lock free j u at_u) in (can_act rest, goes_keep rest))
      (λ misses. (
        misses.can,
        subst (λ (v : List ℕ). IsLayered (record { whole = record (z.whole) { world = record (z.whole.world) { words = v } }; turns = slice_set z.turns i next }))
            (sym misses.same) (rests_keep z i t next is there was misses.rests stamp_after (watch_after next.watch foot.watch)),
      ))
      (resting_step (terms_of w t) w.words a x next.stage (subst (λ s. RowStep (terms_of w t) s a x next.stage) was foot.row) told))
      (λ busy. let rest : AreRestingBut z.turns i = others_rest z i t is there busy in (can_act rest, goes_keep rest))
      (rests_or_not t.stage)

  step_leaves : LeavesNodes (facts w) (facts (turned z i a next).whole.world)
  step_leaves = ⊎_elim
      (λ (was : t.stage ≡ Resting). ⊎_elim
      (λ free. left (keeps (λ j u at_u other. is.lock free j u at_u)))
      (λ misses. record {
        nodes = (λ k. facts (record w { words = misses.same k })) ∙ (λ k. record (facts w) { status = status_in w.layout (sym misses.same k) });
        frees = λ n. inl (λ k. status_in w.layout (misses.same k) n);
      })
      (resting_step (terms_of w t) w.words a x next.stage (subst (λ s. RowStep (terms_of w t) s a x next.stage) was foot.row) told))
      (λ busy. left (keeps (others_rest z i t is there busy)))
      (rests_or_not t.stage)
    where
      left : Keeps z.whole is.holder after → LeavesNodes (facts w) (facts (record w { words = after }))
      left kept = record {
        nodes = λ k. record { version = kept.version k; status = status_in w.layout after; now = kept.now k; list = kept.list k; base = w.base; history = w.history };
        frees = kept.statuses;
      }

pub turn_step_keeps : TurnStepKeeps
turn_step_keeps z i t next a x is there small foot told = step_keeps z i t next a x is there small foot told

-- And it leaves the words of the nodes, and with them the list.
pub turn_step_leaves : TurnStepLeavesNodes
turn_step_leaves z i t next a x is there small foot told = step_leaves z i t next a x is there small foot told
