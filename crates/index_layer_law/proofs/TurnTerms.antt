-- What holds of an index with its search layer holds too where a turn that comes to a line has other terms.
use Rattle.std.proofs.Common.{◌≡◌, ◌≢◌, ℕ, ⊎_elim, List, slice_set, refl, sym, ap, ◌∙◌, subst}
use Rattle.std.proofs.lemmas.Bool.{cases_eq}
use mathlib.Core.Option.{some, some-injective}
use lib.ListN.{get_elem?}
use Rattle.call_stages.specs.Watches.{Nothing}
use Rattle.updater_row_law.specs.Columns.{Ghosts}
use Rattle.updater_row_law.specs.RowStages.{RowLine, RowTarget, Between, HasTarget}
use Rattle.updater_row_law.specs.RowLaw.{RowLawful}
use Rattle.index_law.specs.Facts.{Facts}
use Rattle.index_law.specs.Worlds.{World, facts}
use Rattle.index_law.proofs.Parties.{at_set, set_here, set_else}
use Rattle.updater_row_law.specs.Turnings.{Turning}
use Rattle.index_layer_law.specs.Turnings.{terms_of, AreRestingBut, ghosts_of, SureWatch, IsShown}
use Rattle.index_layer_law.specs.Layers.{Layered, IsLayered}
use Rattle.index_layer_law.specs.Laws.{TermsMayBegin}
use Rattle.index_layer_law.proofs.TurnRests.{each, other_for}

-- what holds where a turn comes to a line holds for any other that comes to it
between_for : (w : World) (ghosts : Ghosts) (words : List ℕ) (t u : Turning) (j : ℕ) → u.stamp ≢ 0 → RowLawful (terms_of w t) ghosts words (Between j) → RowLawful (terms_of w u) ghosts words (Between j)
between_for w ghosts words t u j stamp is = other_for w ghosts words t u (Between j) stamp is.sure tt is

module _ (z : Layered) (i line : ℕ) (t next : Turning) (is : IsLayered z) (there : get_elem? z.turns i ≡ some t) (was : t.stage ≡ Between line) (now : next.stage ≡ Between line) where
  abbrev w : World
  w = z.whole.world

  abbrev words : List ℕ
  words = z.whole.world.words

  abbrev f : Facts
  f = facts z.whole.world

  abbrev turns : List Turning
  turns = slice_set z.turns i next

  -- the turn that stood where the new ones stand, and was at the same stage
  stood : (j : ℕ) (u : Turning) → get_elem? turns j ≡ some u → (v : Turning) × (get_elem? z.turns j ≡ some v) × (v.stage ≡ u.stage)
  stood j u at_u = ⊎_elim
      (λ (mine : (j ≡ i) × (next ≡ u)). (t, ap (get_elem? z.turns) mine.0 ∙ there, was ∙ sym now ∙ ap (λ (q : Turning). q.stage) mine.1))
      (λ (other : (j ≢ i) × (get_elem? z.turns j ≡ some u)). (u, other.1, refl))
      (at_set z.turns i j next u at_u)

  -- and the one that stands where that stood
  stands : (j : ℕ) (u : Turning) → get_elem? z.turns j ≡ some u → (v : Turning) × (get_elem? turns j ≡ some v) × (v.stage ≡ u.stage)
  stands j u at_u = ⊎_elim
      (λ (same : j ≡ i). (next, ap (get_elem? turns) same ∙ set_here z.turns i next t there, now ∙ sym was ∙ ap (λ (q : Turning). q.stage) (some-injective _ _ (sym there ∙ ap (get_elem? z.turns) (sym same) ∙ at_u))))
      (λ (apart : j ≢ i). (u, set_else z.turns i j next apart ∙ at_u, refl))
      (cases_eq j i)

  rested : (j : ℕ) → AreRestingBut turns j → AreRestingBut z.turns j
  rested j rests k u at_u other = let n = stands k u at_u in sym n.2 ∙ rests k n.0 n.1 other

  not_target : {A : Type 0} (e : RowLine) (target : RowTarget) → next.stage ≡ HasTarget e target → A
  not_target e target has = absurd (let no : Between line ≡ HasTarget e target = sym now ∙ has in cc)

  pub between_keeps : next.stamp ≢ 0 → SureWatch w.layout w.generation f next.watch → IsLayered (record { whole = z.whole; turns = slice_set z.turns i next })
  between_keeps stamp watch = record {
    whole = is.whole;
    tended = is.tended;
    holder = is.holder;
    holders = is.holders;
    one = λ j k u v at_u at_v busy_u busy_v.
        let a = stood j u at_u in
        let b = stood k v at_v in
        is.one j k a.0 b.0 a.1 b.1 (λ e. busy_u (sym a.2 ∙ e)) (λ e. busy_v (sym b.2 ∙ e));
    active =
        let n = stands is.active.0 is.active.1 is.active.2 in
        (is.active.0, n.0, n.1, λ k u at_u other. let a = stood k u at_u in sym a.2 ∙ is.active.3 k a.0 a.1 other);
    lock = λ free j u at_u. let a = stood j u at_u in sym a.2 ∙ is.lock free j a.0 a.1;
    unlocked = λ rest. is.unlocked (λ k u at_u. let n = stands k u at_u in sym n.2 ∙ rest k n.0 n.1);
    rows = λ j u at_u rests. each z.turns i next (λ k v. AreRestingBut turns k → RowLawful (terms_of w v) (ghosts_of w is.holder) words v.stage)
        (λ still. subst (RowLawful (terms_of w next) (ghosts_of w is.holder) words) (sym now)
        (between_for w (ghosts_of w is.holder) words t next line stamp
        (subst (RowLawful (terms_of w t) (ghosts_of w is.holder) words) was (is.rows i t there (rested i still)))))
        (λ k v other at_v still. is.rows k v at_v (rested k still))
        j u at_u rests;
    stamps = each z.turns i next (λ j u. u.stamp ≢ 0) stamp (λ j u other at_u. is.stamps j u at_u);
    watches = each z.turns i next (λ j u. SureWatch w.layout w.generation f u.watch) watch (λ j u other at_u. is.watches j u at_u);
    shown = λ j u e target at_u has. each z.turns i next (λ k v. v.stage ≡ HasTarget e target → IsShown w.layout w.generation f e.anchor target)
        (not_target e target) (λ k v other at_v has_v. is.shown k v e target at_v has_v) j u at_u has;
    retiring = is.retiring;
    switched = is.switched;
  }

pub terms_may_begin : TermsMayBegin
terms_may_begin z i line t stamp release is there was some_stamp =
    between_keeps z i line t (record { stamp = stamp; release = release; stage = Between line; watch = Nothing }) is there was refl some_stamp tt
