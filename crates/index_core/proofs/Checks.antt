-- What a turn and a recheck of a party leave of its calls, and what rechecks in flight rely on.
use Rattle.std.proofs.Common.{◌≡◌, ◌≢◌, ℕ, ◌<◌, ◌≤◌, inl, inr, ⊎_elim, List, length, set, sym, ap, ◌∙◌, subst, arith}
use Rattle.std.specs.Prelude.{Option, Some, None, IfSome}
use mathlib.Core.Option.{some}
use lib.ListN.{get_elem?}
use Rattle.pm_words.specs.declared.layout.Layout.{Layout}
use Rattle.cat_history.specs.declared.op.Write.{Write}
use Rattle.index_law.proofs.Parties.{at_set}
use Rattle.node_ops.proofs.Rechecks.{rechecks_outlast}
use Rattle.index_core.specs.declared.party.PartyState.{PartyState}
use Rattle.index_core.specs.declared.party.Rechecking.{Rechecking}
use Rattle.updater.specs.declared.making.MakeTurn.{MakeTurn}
use Rattle.index_core.specs.PartyStates.{AreRechecksOf, IsRecheckingOf, owed}
use Rattle.index_core.specs.Indexes.{AreOrdered, Index, IsBounded, parties_of}
use Rattle.index_core.proofs.Lists.{owed-set}

module _ (l : Layout) (g : ℕ) (h longer : List Write) (more : length h ≤ length longer) where
  outlasts : (r : Option Rechecking) → IfSome r (IsRecheckingOf l g h) → IfSome r (IsRecheckingOf l g longer)
  outlasts None is = tt
  outlasts (Some r) is = record { sound = is.sound; layout = is.layout; generation = is.generation; sure = rechecks_outlast r.since h longer r.machine more is.sure }

  -- one party is another, whose recheck relies on what it may
  pub checks_with : (states : List PartyState) (i : ℕ) (now : PartyState) → IfSome now.recheck (IsRecheckingOf l g longer) → AreRechecksOf l g h states → AreRechecksOf l g longer (set states i now)
  checks_with states i now own each j e at = ⊎_elim
      (λ (mine : (j ≡ i) × (now ≡ e)). subst (λ (d : PartyState). IfSome d.recheck (IsRecheckingOf l g longer)) mine.1 own)
      (λ (other : (j ≢ i) × (get_elem? states j ≡ some e)). outlasts e.recheck (each j e other.1))
      (at_set states i j now e at)

  -- or which has the same recheck
  pub checks_set : (states : List PartyState) (i : ℕ) (state now : PartyState) → get_elem? states i ≡ some state → now.recheck ≡ state.recheck → AreRechecksOf l g h states → AreRechecksOf l g longer (set states i now)
  checks_set states i state now there same each =
      checks_with states i now (subst (λ (r : Option Rechecking). IfSome r (IsRecheckingOf l g longer)) (sym same) (outlasts state.recheck (each i state there))) each

-- where none is in flight there is nothing to rely on
pub checks_none : (l : Layout) (g : ℕ) (h : List Write) (states : List PartyState) → ((i : ℕ) (e : PartyState) → get_elem? states i ≡ some e → e.recheck ≡ None) → AreRechecksOf l g h states
checks_none l g h states none i e at = subst (λ (r : Option Rechecking). IfSome r (IsRecheckingOf l g h)) (sym (none i e at)) tt

-- rechecks owe no write
pub recheck_owes : (states : List PartyState) (i : ℕ) (e : PartyState) (r : Option Rechecking) → get_elem? states i ≡ some e → owed (set states i (record e { recheck = r })) ≡ owed states
recheck_owes states i e r there = let moved = owed-set states i e (record e { recheck = r }) there in omega arith

-- A party may have another turn and another recheck: to calls on names it is the same.
module _ (s : Index) (i : ℕ) (state : PartyState) (turn : Option MakeTurn) (recheck : Option Rechecking) (there : get_elem? s.states i ≡ some state) where
  abbrev now : PartyState
  now = record state { turn = turn; recheck = recheck }

  pub beside_ordered : AreOrdered s.states s.history → AreOrdered (set s.states i now) s.history
  beside_ordered ordered j place e m write at flies stands caller = ⊎_elim
      (λ (mine : (j ≡ i) × (now ≡ e)).
      let flies' : state.machine ≡ Some m = ap (λ (d : PartyState). d.machine) mine.1 ∙ flies in
      let caller' : write.caller ≡ state.caller = caller ∙ ap (λ (d : PartyState). d.caller) (sym mine.1) in
      elim (ordered i place state m write there flies' stands caller') [
        | inl early ↦ inl (subst (λ (d : PartyState). place < d.since) mine.1 early)
        | inr own_write ↦ inr (record { placed = own_write.placed; index = own_write.index ∙ ap (λ (d : PartyState). d.index) mine.1; change = own_write.change })
      ])
      (λ (other : (j ≢ i) × (get_elem? s.states j ≡ some e)). ordered j place e m write other.1 flies stands caller)
      (at_set s.states i j now e at)

  pub beside_bounded : IsBounded (parties_of s.layout) s.states s.history → IsBounded (parties_of s.layout) (set s.states i now) s.history
  beside_bounded bounded = record {
    limits = λ j e m at flies. ⊎_elim
        (λ (mine : (j ≡ i) × (now ≡ e)). bounded.limits i state m there (ap (λ (d : PartyState). d.machine) mine.1 ∙ flies))
        (λ (other : (j ≢ i) × (get_elem? s.states j ≡ some e)). bounded.limits j e m other.1 flies)
        (at_set s.states i j now e at);
    writers = bounded.writers;
    late = bounded.late;
  }
