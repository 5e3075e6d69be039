-- With each turn of its floor or of its change, and with each node, a turn of the updater has less left.
use Rattle.std.proofs.Common.{◌≡◌, ℕ, ◌+◌, ◌^◌, ◌<◌, ◌≤◌, ◌==◌, ◌-◌, ◌&&◌, not, Bool, true, false, cond, ltb, refl}
use Rattle.std.proofs.Common.{subst, sym, arith}
use Rattle.std.proofs.lemmas.Bool.{ltb-true}
use Rattle.pm_words.specs.Codes.{free_status, gone_status, merge_kind}
use Rattle.pm_words.specs.declared.machine.Turn.{Turn}
use Rattle.pm_words.specs.declared.machine.Turn.TheVariants.{Go, Done}
use Rattle.pm_words.specs.Turns.{GoesBelow}
use Rattle.tree_floor.specs.declared.floor.Floor.{Floor}
use Rattle.tree_floor.specs.Floors.{floor_turned, floor_left}
use Rattle.tree_floor.proofs.FloorStays.{floor_fewer}
use Rattle.updater_row_law.specs.tree_update.specs.declared.change.Change.{Change}
use Rattle.updater_row_law.specs.tree_update.specs.declared.change.Ended.{Ended}
use Rattle.updater_row_law.specs.tree_update.specs.declared.set.Set.{Set}
use Rattle.updater_row_law.specs.tree_update.specs.declared.set.Unset.{Unset}
use Rattle.updater_row_law.specs.tree_update.specs.Changes.{IsChange, change_left, change_turned}
use Rattle.updater_row_law.specs.tree_update.specs.Sets.{set_of, unset_of}
use Rattle.updater_row_law.specs.tree_update.proofs.ChangeStays.{change_fewer}
use Rattle.smo_log.specs.declared.line.Entry.{Entry}
use Rattle.updater.specs.declared.work.Work.{Work}
use Rattle.updater.specs.declared.work.WorkAt.{WorkAt}
use Rattle.updater.specs.declared.work.WorkAt.TheVariants as at
use Rattle.updater.specs.Works.{IsWork, IsWorkAt, changed, clears, has_landed, has_set, has_unset, lines_left}
use Rattle.updater.specs.Works.{nodes_left, on, work_at_left, work_at_turned, work_left, work_turned}

-- what it keeps at its state
pub here_at : (work : Work) (a : WorkAt) → IsWork work → work.at ≡ a → IsWorkAt work.terms work.tally a
here_at work a is place = subst (λ (b : WorkAt). IsWorkAt work.terms work.tally b) place is.here

-- what is shown at its state is so of the whole turn
whole : (work : Work) (a : WorkAt) (x : ℕ) → work.at ≡ a
    → GoesBelow work_left (work_at_left work.terms.layout a) (work_at_turned work a x) → GoesBelow work_left (work_left work) (work_turned work x)
whole work a x place at =
    subst (λ (b : WorkAt). GoesBelow work_left (work_at_left work.terms.layout b) (work_at_turned work b x)) (sym place) at

pub landing_fewer : (work : Work) (line : ℕ) (entry : Entry) (floor : Floor) (x : ℕ) → IsWork work → work.at ≡ at.Landing line entry floor → x < 2 ^ 64
    → GoesBelow work_left (work_left work) (work_turned work x)
landing_fewer work line entry floor x is place fits =
    let here = here_at work (at.Landing line entry floor) is place in
    whole work (at.Landing line entry floor) x place (below (floor_turned floor x) (floor_fewer floor x (here.2, fits)))
  where
    below : (t : Turn Floor ℕ) → GoesBelow floor_left (floor_left floor) t → work_left (has_landed work line entry t) < work_at_left work.terms.layout (at.Landing line entry floor)
    below (Go next) fewer = omega (arith, fewer)
    below (Done hint) fewer = let few : work.terms.layout.nodes ≤ 4096 = is.terms.layout.nodes.1 in omega (arith, few)

-- the layer is changed
changed_below : (work : Work) (line : ℕ) (entry : Entry) → work_left (on work (changed work.terms line entry)) < lines_left work.terms.layout line + 10
changed_below work line entry =
    elim (entry.kind == merge_kind) as (λ (b : Bool). work_at_left work.terms.layout (cond b (at.Stamping line entry) (clears work.terms line)) < lines_left work.terms.layout line + 10) [
      | true ↦ omega arith
      | false ↦ omega arith
    ]

-- with a turn of its change of the layer it has less left, in whichever state it makes that
changing_fewer : (work : Work) (line : ℕ) (entry : Entry) (change : Change) (x : ℕ) (after : Turn Change Ended → Work)
    → ((next : Change) → work_left (after (Go next)) ≡ lines_left work.terms.layout line + 10 + change_left next)
    → ((ended : Ended) → after (Done ended) ≡ on work (changed work.terms line entry)) → IsChange change → x < 2 ^ 64
    → work_left (after (change_turned change x)) < lines_left work.terms.layout line + 10 + change_left change
changing_fewer work line entry change x after goes ends sound fits = below (change_turned change x) (change_fewer change x (sound, fits))
  where
    below : (t : Turn Change Ended) → GoesBelow change_left (change_left change) t → work_left (after t) < lines_left work.terms.layout line + 10 + change_left change
    below (Go next) fewer = subst (λ n. n < lines_left work.terms.layout line + 10 + change_left change) (sym (goes next)) (omega (arith, fewer))
    below (Done ended) fewer =
        let less = changed_below work line entry in
        subst (λ (w : Work). work_left w < lines_left work.terms.layout line + 10 + change_left change) (sym (ends ended)) (omega (arith, less))

pub setting_fewer : (work : Work) (line : ℕ) (entry : Entry) (set : Set) (x : ℕ) → IsWork work → work.at ≡ at.Setting line entry set → x < 2 ^ 64
    → GoesBelow work_left (work_left work) (work_turned work x)
setting_fewer work line entry set x is place fits =
    whole work (at.Setting line entry set) x place
    (changing_fewer work line entry set.change x (λ t. has_set work line entry (set_of t)) (λ next. refl) (λ ended. refl) (here_at work (at.Setting line entry set) is place).2.change fits)

pub unsetting_fewer : (work : Work) (line : ℕ) (entry : Entry) (unset : Unset) (x : ℕ) → IsWork work → work.at ≡ at.Unsetting line entry unset → x < 2 ^ 64
    → GoesBelow work_left (work_left work) (work_turned work x)
unsetting_fewer work line entry unset x is place fits =
    whole work (at.Unsetting line entry unset) x place
    (changing_fewer work line entry unset.change x (λ t. has_unset work line entry (unset_of t)) (λ next. refl) (λ ended. refl) (here_at work (at.Unsetting line entry unset) is place).2.change fits)

pub status_fewer : (work : Work) (node x : ℕ) → work.at ≡ at.Status node
    → GoesBelow work_left (work_left work) (work_turned work x)
status_fewer work node x place = whole work (at.Status node) x place (below (x == gone_status) (ltb (node + 1) nodes) refl)
  where
    nodes : ℕ
    nodes = work.terms.layout.nodes

    below : (gone more : Bool) → ltb (node + 1) nodes ≡ more
        → work_at_left work.terms.layout (cond gone (at.Stamp node) (cond more (at.Status (node + 1)) (at.Counting 0 true)))
        < nodes_left work.terms.layout node + 5
    below true more is = omega arith
    below false true is = omega (arith, ltb-true _ _ is)
    below false false is = omega arith

pub count_fewer : (work : Work) (node x : ℕ) (none : Bool) → IsWork work → work.at ≡ at.Counting node none
    → GoesBelow work_left (work_left work) (work_turned work x)
count_fewer work node x none is place =
    let within = (here_at work (at.Counting node none) is place).0 in
    whole work (at.Counting node none) x place (below within (none && not (x == free_status)) (ltb (node + 1) nodes) refl)
  where
    nodes : ℕ
    nodes = work.terms.layout.nodes

    below : node < nodes → (so_far more : Bool) → ltb (node + 1) nodes ≡ more
        → work_at_left work.terms.layout (cond more (at.Counting (node + 1) so_far) (at.Leaving so_far)) < (nodes - node) + 1
    below within so_far true is = omega (arith, ltb-true _ _ is)
    below within so_far false is = omega arith
